use Rattle.std.proofs.Common.{arith}
use Rattle.policy.proofs.Uses.{listed_due, open_of}
use Rattle.policy.proofs.flush.step_frame.Goals as goal

pub chosen-requires : goal.chosen-requires
chosen-requires c =
    let e = c.held-among.ensures in
    rw e (open_of _ _ _ c.requires.sound.limits (listed_due _ _ c.requires) (omega arith))
