use Rattle.std.proofs.Common.{arith}
use Rattle.cache.specs.View.{sizes_of, directory_of}
use Rattle.policy.proofs.Held.{frame_read}
use Rattle.policy.proofs.Lowest.{frame_more, frame_skip}
use Rattle.policy.proofs.flush.worn_in_frames.Goals as goal
use Rattle.policy.proofs.flush.worn_in_frames.Goals.{then-b-lt-VACANT, else-b-lt-VACANT}

pub loop-b-preserved : goal.loop-b-preserved
loop-b-preserved c =
    let l = c.loop-b in
    let e = frame_read c.args.directory.now c.args.z.frames l.b-index (omega arith) in
    let more = frame_more (sizes_of c.args.z) (directory_of c.args.directory.now) c.args.wear.now l.b-index in
    let skip = frame_skip (sizes_of c.args.z) (directory_of c.args.directory.now) c.args.wear.now l.b-index in
    elim c.if-b-lt-VACANT.branch [ then-b-lt-VACANT w ↦ grind (arith, e, more) | else-b-lt-VACANT w ↦ grind (arith, e, skip) ]
