use native.Mathlib.Omega.{arith}
use mathlib.Core.Path.{◌∙◌}
use Rattle.reads.proofs.Places.{used-frame, unused}
use Rattle.reads.proofs.read.Goals as goal
use Rattle.reads.proofs.read.Goals.{in-Some, in_default}

pub used-requires : goal.used-requires
used-requires c = let l = c.args.view.lent.codes-lent.limits in
    let low = (used-frame _ _ _ _ c.peek-given.ensures.frame_is c.in-Some.f c.in-Some.is).0 in (l, omega (arith, l.B_high))

pub returns : goal.returns
returns c = let k = c.peek-given.ensures in
    record {
      gave = k.gave;
      directory-is = elim c.match-given.branch [
        | in-Some w ↦ rw w.directory-is (w.used.ensures ∙ (used-frame _ _ _ _ k.frame_is w.in-Some.f w.in-Some.is).1)
        | in_default w ↦ rw w.directory-is (unused _ _ _ _ k.frame_is w.in_default.is)
      ];
    }
