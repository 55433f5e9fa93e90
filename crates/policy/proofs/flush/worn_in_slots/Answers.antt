use Rattle.std.proofs.Common.{arith}
use Rattle.cache.specs.View.{sizes_of, directory_of}
use Rattle.policy.proofs.Held.{slot_read}
use Rattle.policy.proofs.Lowest.{slot_more, slot_skip}
use Rattle.policy.proofs.flush.worn_in_slots.Goals as goal
use Rattle.policy.proofs.flush.worn_in_slots.Goals.{then-n-lt-VACANT, else-n-lt-VACANT}

pub loop-n-preserved : goal.loop-n-preserved
loop-n-preserved c =
    let l = c.loop-n in
    let e = slot_read c.args.directory.now c.args.z.slots l.n-index (omega arith) in
    let more = slot_more (sizes_of c.args.z) (directory_of c.args.directory.now) c.args.wear.now l.n-index in
    let skip = slot_skip (sizes_of c.args.z) (directory_of c.args.directory.now) c.args.wear.now l.n-index in
    elim c.if-n-lt-VACANT.branch [ then-n-lt-VACANT w ↦ grind (arith, e, more) | else-n-lt-VACANT w ↦ grind (arith, e, skip) ]
