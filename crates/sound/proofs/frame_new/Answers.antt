use native.Mathlib.Omega.{arith}
use Rattle.sound.proofs.Entries.{frame_new_read}
use Rattle.sound.proofs.frame_new.Goals as goal

pub returns : goal.returns
returns c = rw c.contains.ensures.value (frame_new_read c.args.directory.now c.args.f (omega arith))
