use Rattle.writes.proofs.Listed.{placed}
use Rattle.writes.proofs.Entering.{first-slot, some-slot, enter-is}
use Rattle.writes.proofs.put.enter.Goals as goal

pub unwrap-i-requires : goal.unwrap-i-requires
unwrap-i-requires c = some-slot _ c.requires c.used.ensures _ c.free_slot.ensures.found

pub returns : goal.returns
returns c =
    let i = first-slot _ c.requires c.used.ensures c.unwrap-i.ensures c.free_slot.ensures.found in
    rw (placed c.used.new.directory c.unwrap-i.result c.args.n) (enter-is _ c.requires c.used.ensures i c.over_slot.ensures)
