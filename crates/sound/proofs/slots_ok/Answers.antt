use native.Mathlib.Omega.{arith}
use mathlib.Core.Path.{sym, ◌∙◌}
use Rattle.prelude.proofs.Scan.{all_none, all-fails}
use Rattle.sound.proofs.Parts.{tested-more, tested-passed}
use Rattle.sound.proofs.slots_ok.Goals as goal

pub loop-j-init : goal.loop-j-init
loop-j-init c = record {
  within = omega arith;
  tested = record { good = all_none _; long = omega arith; laid = c.requires.laid; marked = λ e l. absurd (omega arith) };
}

pub returns-then-not-slot_ok : goal.returns-then-not-slot_ok
returns-then-not-slot_ok c =
    sym (all-fails _ _ c.in-Some.j c.in-Some.ensures.below (sym c.slot_ok.ensures ∙ c.if-not-slot_ok.true))

pub loop-j-preserved : goal.loop-j-preserved
loop-j-preserved c =
    let at = c.loop-j in
    let met = c.in-Some.ensures.met in
    let low = c.in-Some.ensures.below in
    let t = tested-passed _ _ c.requires.limits at.i c.in-Some.j at.seen _ at.invariant.tested met.passed in
    record { within = omega arith; tested = tested-more _ _ c.in-Some.j _ t (sym c.slot_ok.ensures ∙ c.if-not-slot_ok.false) (met.met low) }

pub returns : goal.returns
returns c =
    let at = c.loop-j in
    let met = c.in_default.ensures.met in
    let t = tested-passed _ _ c.requires.limits at.i _ at.seen _ at.invariant.tested met.passed in sym t.good
