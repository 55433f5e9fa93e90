-- Reports before and after a call of the code: from the contracts of both and the rules of the model.
use mathlib.Core.Path.{◌≡◌, refl, sym, ap, subst, ◌∙◌}
use mathlib.Core.Logic.{inl, inr}
use Rattle.model.specs.Policy.{policy_choice}
use Rattle.model.specs.Calls.{Answer}
use Rattle.model.specs.Shelf.{ShelfResult, store_call}
use Rattle.model.proofs.Plan.{policy_choice-picks}
use Rattle.wear.specs.Figures.{wear_at}
use Rattle.wear.specs.Report.{reported}
use Rattle.wear.specs.Wearing.{ErasedOnceMore}
use Rattle.wear.proofs.Wearing.{figures_of, stays-accepted_rule, report_changes_rule, report_stays_rule}
use Rattle.store.specs.declared.Cache.{Cache}
use Rattle.store.specs.View.{Lent, store_of}
use Rattle.store.specs.Histories.{Made, read, write, part, step, flush, back, call_of, cache_after, lent_after, result_of, Contract}
use Rattle.report.specs.Contract.{ReportOut, reported_of, ReportContract, StaysAccepted, ReportChanges, ReportStays}

-- the store that a call leaves
after_is : (u : Lent) (m : Made) → store_of (cache_after m) (lent_after u m) ≡ (result_of u m).store
after_is u (read n page out page') = refl
after_is u (write n page out u') = refl
after_is u (part n first x page out u' page') = refl
after_is u (step out flash' codes' marks' wear' bspace') = refl
after_is u (flush out flash' codes' marks' wear' bspace') = refl
after_is u (back out below') = refl

module _ (c : Cache) (u : Lent) (m : Made) (k : Contract c u m) where
  -- the store after the call, and its answer, as the model has them
  pub then : store_of (cache_after m) (lent_after u m) ≡ (store_call policy_choice (store_of c u) (call_of m)).store
  then = after_is u m ∙ ap (λ (x : ShelfResult). x.store) k

  said : (a : Answer) → (result_of u m).answer ≡ a → (store_call policy_choice (store_of c u) (call_of m)).answer ≡ a
  said a e = ap (λ (x : ShelfResult). x.answer) (sym k) ∙ e

  module _ (x y : ReportOut) (rx : ReportContract c u x) (ry : ReportContract (cache_after m) (lent_after u m) y) where
    -- what the report after the call says
    after : reported (store_call policy_choice (store_of c u) (call_of m)).store ≡ reported_of y.answer
    after = ap reported (sym then) ∙ sym ry.0

pub stays-accepted : StaysAccepted
stays-accepted c u m k x y rx ry t l v e = sym (after c u m k x y rx ry)
    ∙ stays-accepted_rule policy_choice policy_choice-picks (store_of c u) (call_of m) t l v (sym rx.0 ∙ e)
    ∙ ap figures_of (sym (then c u m k))

pub report_changes : ReportChanges
report_changes c u m k b g named x y rx ry t l v e =
    subst (ErasedOnceMore c.sizes.blocks (wear_at u.below.wear b) t l v) (after c u m k x y rx ry)
    (report_changes_rule policy_choice policy_choice-picks (store_of c u) (call_of m) b g
    (elim named [ inl a ↦ inl (said c u m k _ a) | inr a ↦ inr (said c u m k _ a) ]) t l v (sym rx.0 ∙ e))

pub report_stays : ReportStays
report_stays c u m k way b g named x y rx ry t l v e = sym (after c u m k x y rx ry)
    ∙ report_stays_rule policy_choice policy_choice-picks (store_of c u) (call_of m) way b g
    (elim named [ inl a ↦ inl (said c u m k _ a) | inr a ↦ inr (said c u m k _ a.0, a.1) ]) t l v (sym rx.0 ∙ e)
