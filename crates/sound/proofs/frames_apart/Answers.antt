use native.Mathlib.Omega.{arith}
use mathlib.Core.Path.{sym, ◌∙◌}
use Rattle.prelude.specs.Scan.{all_pairs}
use Rattle.prelude.proofs.Scan.{all_end}
use Rattle.model.specs.Soundness.{frames_differ}
use Rattle.cache.proofs.View.{frame-of}
use Rattle.sound.proofs.Parts.{compared_none, compared_vacant, compared_with, compared_new}
use Rattle.sound.proofs.frames_apart.Goals as goal
use Rattle.sound.proofs.frames_apart.Goals.{then-x, then-has, else-has, else-x}

pub loop-f-init : goal.loop-f-init
loop-f-init c = compared_none _

pub loop-f-preserved : goal.loop-f-preserved
loop-f-preserved c =
    let l = c.loop-f in
    let k = frame-of c.args.directory.now l.f in
    elim c.if-x.branch [
      | then-x w ↦ elim w.if-has.branch [
        | then-has v ↦ rw (w.met-is ∙ w.with-met.ensures, w.ok-is ∙ v.ok-is, ← k)
            (compared_with _ l.f l.met l.ok l.invariant (λ q. w.if-x.true (sym k ∙ q)) _ v.frame_new-ok.ensures)
        | else-has v ↦ rw (w.met-is ∙ w.with-met.ensures, w.ok-is ∙ v.ok-is, ← k)
            (compared_new _ l.f l.met l.ok l.invariant (λ q. w.if-x.true (sym k ∙ q)) (rw k (sym w.has.ensures ∙ v.if-has.false)))
      ]
      | else-x w ↦ rw (w.met-is, w.ok-is) (compared_vacant _ l.f l.met l.ok l.invariant (sym (k ∙ w.if-x.false)))
    ]

pub returns : goal.returns
unfolding frames_differ all_pairs
returns c =
    let l = c.loop-f in
    all_end _ l.f _ l.invariant.answer (omega arith)
