use mathlib.Core.Path.{sym, ◌∙◌}
use Rattle.chip.proofs.Looking.{looked-none, looked-valid, looked-mend, looked-clean, few-seen, looked-all, looked-plain}
use Rattle.chip.proofs.lent.View.look_block.Goals as goal
use Rattle.chip.proofs.lent.View.look_block.Goals.{then-not-has+then-page-ne0, then-not-has+else-page-ne0, else-not-has}
use native.Mathlib.Omega.{arith}

pub returns-then-not-has_marks : goal.returns-then-not-has_marks
returns-then-not-has_marks c = looked-plain _ _ _ _ _ _ c.args.self.lent c.requires
    (sym c.has_codes.ensures ∙ c.if-not-has_codes.true) (sym c.has_marks.ensures ∙ c.if-not-has_marks.true)

pub loop-o-init : goal.loop-o-init
loop-o-init c = looked-none _ _ _ _ _ _ c.args.self.lent c.requires

pub overflow_add-seen : goal.overflow_add-seen
overflow_add-seen c = record {
  fits = few-seen _ _ _ _ _ _ c.args.self.lent c.requires _ c.loop-o-test.true _ c.loop-o.invariant _
      (rw c.page_of.ensures at c.look_page-page.ensures);
}

pub loop-o-preserved : goal.loop-o-preserved
loop-o-preserved c = let inv = c.loop-o.invariant in let t = c.loop-o-test.true in let h = c.args.self.lent in
    elim c.if-not-has.branch [
      | then-not-has+then-page-ne0 w ↦ rw (w.seen-is, w.with.ensures) (looked-mend _ _ _ _ _ _ h c.requires _ t _ inv _
          (rw w.page_of.ensures at w.look_page-page.ensures) (sym c.has.ensures ∙ w.if-not-has.true) _ w.worse-seen.ensures
          w.if-page-ne0.true)
      | then-not-has+else-page-ne0 w ↦ rw w.seen-is (looked-clean _ _ _ _ _ _ h c.requires _ t _ inv _
          (rw w.page_of.ensures at w.look_page-page.ensures) (sym c.has.ensures ∙ w.if-not-has.true) _ w.worse-seen.ensures
          w.if-page-ne0.false)
      | else-not-has w ↦ rw w.seen-is (looked-valid _ _ _ _ _ _ h c.requires _ t _ inv (sym c.has.ensures ∙ w.if-not-has.false))
    ]

pub returns : goal.returns
returns c = looked-all _ _ _ _ _ _ c.args.self.lent c.requires c.loop-o.o (omega arith) _ c.loop-o.invariant
