-- A store without codes and marks: no read meets a fault, and nothing is mended.
use mathlib.Core.Path.{◌≡◌, refl}
use mathlib.Core.Bool.{Bool, true, false, ◌&&◌}
use mathlib.Core.List.{List}
use Prim.Native.Nat.{ℕ, zero, suc, ◌*◌, ◌<◌}
use native.Mathlib.Omega.{arith}
use lib.Dec.{ltb, eqb}
use borrow.Author.Tests.{ltb-true}
use Rattle.prelude.specs.Scan.{first}
use Rattle.prelude.proofs.Tests.{by-test, clash}
use Rattle.prelude.proofs.Scan.{first-hit}
use Rattle.model.specs.Sizes.{Sizes, is_coded, is_marked}
use Rattle.model.specs.Policy.{Choice}
use Rattle.model.specs.Calls.{Cell, some_page, fault_met, sum, mends_met, mends_of}
use Rattle.model.specs.Formats.{torn, format_of, chip_for, store_format}
use Rattle.model.proofs.Soundness.{coded-off, marked-off}

-- without the options
pub uncoded : (sz : Sizes) → sz.coded ≡ 0 → is_coded sz ≡ false
uncoded sz c = coded-off sz (λ e. omega arith)

pub unmarked : (sz : Sizes) → sz.marked ≡ 0 → is_marked sz ≡ false
unmarked sz m = marked-off sz (λ e. omega arith)

and-f : (b : Bool) → (b && false) ≡ false
and-f true = refl
and-f false = refl

module _ (sz : Sizes) where
  -- no page passes a test that fails everywhere
  none_passes : (p : ℕ → Bool) → ((i : ℕ) → p i ≡ false) → some_page sz p ≡ false
  unfolding some_page
  none_passes p h = by-test (ltb (first (sz.N * sz.K) p) (sz.N * sz.K))
      (λ e. clash (first-hit (sz.N * sz.K) p (ltb-true _ _ e)) (h _)) (λ e. e)

  pub no-faults : (fault : ℕ → ℕ) (reads : ℕ → Bool) → ((i : ℕ) → fault i ≡ 0) → fault_met sz fault reads ≡ 0
  unfolding fault_met
  no-faults fault reads h = rw (
    none_passes (λ i. reads i && eqb (fault i) 7) (λ i. rw (h i) (and-f (reads i))),
    none_passes (λ i. reads i && eqb (fault i) 14) (λ i. rw (h i) (and-f (reads i))),
  )

  pub nothing : (n : ℕ) (g : ℕ → ℕ) → ((i : ℕ) → i < n → g i ≡ 0) → sum n g ≡ 0
  unfolding sum
  nothing zero g h = refl
  nothing (suc n) g h = let a = h n (omega arith) in let b = nothing n g (λ i l. h i (omega arith)) in omega arith

  pub no-mends : (mends : ℕ → ℕ) (reads : ℕ → Bool) → ((i : ℕ) → mends i ≡ 0) → mends_met sz mends reads ≡ 0
  unfolding mends_met
  no-mends mends reads h = nothing (sz.N * sz.K) _ (λ i l. by-test (reads i) (λ e. rw e (h i)) (λ e. rw e))

  module _ (c : is_coded sz ≡ false) (m : is_marked sz ≡ false) where
    pub plain-fault : (x : Cell) → (chip_for sz).fault x ≡ 0
    unfolding format_of torn
    plain-fault x = rw (c, m)

    pub plain-mends : (x : Cell) → (chip_for sz).mends x ≡ 0
    unfolding format_of
    plain-mends x = rw c

    module _ (pick : Choice) (fl : List Cell) (reads : ℕ → Bool) where
      pub mendless : mends_of store_format pick sz fl reads ≡ 0
      unfolding mends_of
      mendless = no-mends _ reads (λ i. plain-mends _)
