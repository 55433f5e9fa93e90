-- The numbers of the ways.
use Rattle.std.specs.Prelude.{ℕ}
use Rattle.answer.specs.declared.way.ReadWay.{ReadWay}
use Rattle.answer.specs.declared.way.ReadWay.TheVariants as reads
use Rattle.answer.specs.declared.way.WriteWay.{WriteWay}
use Rattle.answer.specs.declared.way.WriteWay.TheVariants as writes

abbrev pub read_way : ReadWay → ℕ
read_way reads.Slot = 1
read_way reads.Frame = 2
read_way reads.Flash = 3

abbrev pub write_way : WriteWay → ℕ
write_way writes.Nothing = 0
write_way writes.SlotHit = 1
write_way writes.FrameHit = 2
write_way writes.FreeSlot = 3
write_way writes.Join = 4
write_way writes.Fill = 5
write_way writes.Exchange = 6
