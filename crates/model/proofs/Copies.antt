-- The hypotheses of demand 3 with flips can be met: the rows' code bears any change of a page's byte.
use mathlib.Core.Path.{◌≡◌, refl, sym, ◌∙◌}
use mathlib.Core.Bool.{Bool, ◌&&◌}
use mathlib.Core.List.{List, [], ◌∷◌}
use Prim.Native.Nat.{ℕ}
use native.Mathlib.Omega.{arith}
use lib.Dec.{eqb}
use lib.ListN.{length, get_or}
use borrow.Author.Tests.{eqb-true, eq-eqb}
use Rattle.prelude.proofs.Tests.{by-test}
use Rattle.model.specs.Sizes.{Sizes}
use Rattle.model.specs.Calls.{Page}
use Rattle.model.specs.Lists.{Demand3}
use Rattle.model.specs.Formats.{format_of, Matches, NearBy, Corrects}
use Rattle.model.proofs.AuditCells.{copies}
use Rattle.model.proofs.Formats.{demand_3_coded}

-- the code is as it was, the page may hold anything
abbrev pub ByteFlips : Sizes → Page → List ℕ → Page → List ℕ → Type 0
ByteFlips sz x k x' k' = k' ≡ k

one : (x : Page) → length x ≡ 1 → (a : ℕ) × (x ≡ a ∷ [])
one [] h = absurd (omega arith)
one (a ∷ []) h = (a, refl)
one (a ∷ b ∷ l) h = absurd (omega arith)

module _ (sz : Sizes) (small : sz.S ≡ 1) where
  pub copies-correct : Corrects copies ByteFlips sz
  copies-correct = record {
    code-long = λ x l. let w = one x (l ∙ small) in rw w.1;
    read-long = λ x k l m. by-test (eqb (length x) 1 && eqb (get_or k 0 0) (get_or k 1 0)) (λ t. rw t (sym small)) (λ t. rw t l);
    flips-none = λ x k. refl;
    read-own = λ x l. by-test (eqb (length x) 1) (λ t. let w = one x (eqb-true _ 1 t) in rw w.1 (rw (eq-eqb w.0 w.0 refl)))
        (λ t. rw t);
    read-flipped = λ x x' k' l l' m f. let w = one x (l ∙ small) in rw (f, w.1, l' ∙ small) (rw (eq-eqb w.0 w.0 refl));
  }

  pub demand_3_copies : (marked : Bool) → Demand3 (format_of copies marked) (Matches copies) (NearBy ByteFlips) sz
  demand_3_copies marked = demand_3_coded copies ByteFlips marked sz copies-correct
