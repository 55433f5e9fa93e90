-- A call whose outcome is refused already, is refused for what its reads of flash meet, or stands.
use mathlib.Core.Path.{◌≡◌, refl, sym, ap, ◌∙◌}
use mathlib.Core.Bool.{true, false}
use Prim.Native.Nat.{ℕ}
use lib.Dec.{eqb}
use borrow.Author.Tests.{eqb-true, eqb-false}
use Rattle.prelude.proofs.Tests.{by-test, clash}
use Rattle.model.specs.Sizes.{vacant}
use Rattle.model.specs.Directory.{Directory}
use Rattle.model.specs.Moves.{Memory}
use Rattle.model.specs.Calls.{Answer, refused, is_refused, State, Outcome, turned_down, heeding, Page, Cell}
use Rattle.model.specs.Cut.{Left}
use Rattle.model.proofs.RulesCalls.{heeds-rule}
use Rattle.answer.specs.Carried.{CarriedTo}

module _ {enough : Type 0} {k : State} {mends : ℕ} {l l₁ : Left Cell} {m m₁ : Memory Cell Page} (same : l.wear ≡ k.wear) where
  -- nothing is changed
  pub stays-down : (n b : ℕ) → CarriedTo enough (turned_down k n b) mends l l₁ m m₁ (refused n b) 0 k.directory l m
  stays-down n b = record {
    refused-is = refl;
    left_is = refl;
    whole = λ e. record { answer-is = refl; mends-are = refl; directory-is = refl; wear-is = same; pages-are = refl };
    down = λ e. record { answer-is = refl; mends-are = refl; directory-is = refl; wear-is = same; pages-are = refl };
  }

  -- for another cause
  pub down-before : (late : ℕ) (o : Outcome) (n b : ℕ) → o ≡ turned_down k n b
      → CarriedTo enough (heeding k late o) mends l l₁ m m₁ (refused n b) 0 k.directory l m
  down-before late o n b e = let r : is_refused o.answer ≡ true = ap (λ (x : Outcome). is_refused x.answer) e in
      rw ((heeds-rule k late o).0 r ∙ e) (stays-down n b)

  -- for what is met
  pub down-late : (late : ℕ) (o : Outcome) → is_refused o.answer ≡ false → (late ≡ 0 → ⊥)
      → CarriedTo enough (heeding k late o) mends l l₁ m m₁ (refused late vacant) 0 k.directory l m
  down-late late o r ne = let h = (heeds-rule k late o).1 r ne in
      let e : heeding k late o ≡ turned_down k late vacant = (λ i. record { answer = h.0 i; state = h.1 i }) in
      rw e (stays-down late vacant)

-- nothing is met
pub goes_on : {enough : Type 0} {mends mended : ℕ} {l l₁ l' : Left Cell} {m m₁ m' : Memory Cell Page} {a : Answer} {d' : Directory}
    (k : State) (late : ℕ) (o : Outcome) → late ≡ 0 → is_refused o.answer ≡ false
    → CarriedTo enough o mends l l₁ m m₁ a mended d' l' m' → CarriedTo enough (heeding k late o) mends l l₁ m m₁ a mended d' l' m'
goes_on k late o z r h = rw ((heeds-rule k late o).2 r z) h

-- an accepted call met nothing
pub met-nothing : (k : State) (late : ℕ) (o : Outcome) → is_refused (heeding k late o).answer ≡ false → late ≡ 0
met-nothing k late o h = by-test (eqb late 0) (λ e. eqb-true late 0 e) (λ e. by-test (is_refused o.answer)
    (λ r. clash r (ap (λ (x : Outcome). is_refused x.answer) (sym ((heeds-rule k late o).0 r)) ∙ h))
    (λ r. clash (ap is_refused ((heeds-rule k late o).1 r (eqb-false late 0 e)).0) h))
