use native.Mathlib.Omega.{arith}
use mathlib.Core.Path.{sym, ◌∙◌}
use Rattle.prelude.proofs.Bits.{with-met, with-unmet}
use Rattle.cache.proofs.View.{slot-of}
use Rattle.filter.proofs.Marks.{passed-vacant, passed-new}
use Rattle.filter.proofs.first_met.Goals as goal
use Rattle.filter.proofs.first_met.Goals.{then-y-end+else-next-seen, else-y-end+else-y}

pub returns-then-next-seen-clause-met : goal.returns-then-next-seen-clause-met
returns-then-next-seen-clause-met c = record {
  high = omega arith;
  passed = c.loop-j.invariant;
  met = λ l q. rw (slot-of c.args.directory.now c.loop-j.j) (with-met _ _ (sym c.with-next.ensures ∙ c.if-next-seen.true));
}

pub returns-then-y-clause-met : goal.returns-then-y-clause-met
returns-then-y-clause-met c = record {
  high = omega arith;
  passed = c.loop-j.invariant;
  met = λ l q. absurd (let e = slot-of c.args.directory.now c.loop-j.j in omega arith);
}

pub loop-j-preserved : goal.loop-j-preserved
loop-j-preserved c =
    let at = c.loop-j in
    let s = slot-of c.args.directory.now at.j in
    elim c.if-y-end.branch [
      | then-y-end+else-next-seen w ↦
          rw (w.seen-is, w.with-next.ensures, sym s)
          (passed-new _ _ _ _ at.j at.seen at.invariant (rw s w.if-y-end.true)
          (rw s (with-unmet _ _ (λ h. w.if-next-seen.false (w.with-next.ensures ∙ h)))))
      | else-y-end+else-y w ↦ rw w.seen-is (passed-vacant _ _ _ _ at.j at.seen at.invariant (rw s w.if-y-end.false) (s ∙ w.if-y.false))
    ]
