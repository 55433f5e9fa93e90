-- For code, which has a slice of bytes, one of codes and one of marks: each part of a programmed flash is programmed as it is.
use mathlib.Core.Path.{◌≡◌, sym, ap, ◌∙◌}
use mathlib.Core.Bool.{◌&&◌}
use mathlib.Core.List.{List, map}
use Prim.Native.Nat.{ℕ, suc, ◌*◌, ◌/◌, ◌%◌, ◌≤◌}
use native.Mathlib.Omega.{arith}
use lib.Dec.{ltb, eqb}
use lib.ListN.{length, get_or, get_or-map}
use lib.Seq.{ext_get_or}
use borrow.Author.Tests.{lt-ltb}
use Rattle.prelude.proofs.Tests.{by-test}
use Rattle.prelude.proofs.Tab.{tab-ext}
use Rattle.model.specs.Sizes.{Sizes, InLimits}
use Rattle.model.specs.Moves.{Chip, cell_at, programmed, programmed_to}
use Rattle.model.specs.Calls.{Cell, raw_of, codes_of, marks_of}
use Rattle.model.specs.Lists.{no_cell}
use Rattle.model.proofs.Lookup.{offset_lt}
use Rattle.model.proofs.Buffers.{map-tab}

-- a chip whose cells are its pages
abbrev pub as_is : {A : Type 0} → A → Chip A A
as_is erased = record { page = λ c. c; fault = λ c. 0; mends = λ c. 0; erased = erased; cell = λ x. x }

module _ {C A X : Type 0} (chip : Chip C A) (filler : A) (part : C → X) (sz : Sizes) (fl : List C) (b : ℕ) (pg : ℕ → A) where
  pub programmed-part : map part (programmed chip filler sz fl b pg)
      ≡ programmed (as_is (part chip.erased)) (part (chip.cell filler)) sz (map part fl) b (λ o. part (chip.cell (pg o)))
  unfolding programmed cell_at
  programmed-part = map-tab part _ _ ∙ tab-ext (part (chip.cell filler)) (sz.N * sz.K) _ _
      (λ n l. by-test (eqb (n / sz.K) b) (λ e. rw e) (λ e. rw e (sym (get_or-map part fl n (chip.cell filler)))))

  pub programmed_to-part : (ops : ℕ) → map part (programmed_to chip filler ops sz fl b pg)
      ≡ programmed_to (as_is (part chip.erased)) (part (chip.cell filler)) ops sz (map part fl) b (λ o. part (chip.cell (pg o)))
  unfolding programmed_to cell_at
  programmed_to-part ops = map-tab part _ _ ∙ tab-ext (part (chip.cell filler)) (sz.N * sz.K) _ _
      (λ n l. by-test (ltb 0 ops && eqb (n / sz.K) b)
      (λ e. rw e (by-test (ltb (suc (n % sz.K)) ops) (λ q. rw q) (λ q. rw q)))
      (λ e. rw e (sym (get_or-map part fl n (chip.cell filler)))))

-- all K+1 operations make the rewrite
pub programmed_to-all : {C A : Type 0} (chip : Chip C A) (filler : A) (sz : Sizes) → InLimits sz
    → (fl : List C) (b : ℕ) (pg : ℕ → A) (ops : ℕ) → suc sz.K ≤ ops
    → programmed_to chip filler ops sz fl b pg ≡ programmed chip filler sz fl b pg
unfolding programmed_to programmed
programmed_to-all chip filler sz limits fl b pg ops h = tab-ext (chip.cell filler) (sz.N * sz.K) _ _
    (λ n l. let q = offset_lt sz limits n in
    rw (lt-ltb 0 ops (omega arith), lt-ltb (suc (n % sz.K)) ops (omega arith)))

-- cells are equal where their parts are
pub cells_ext : (a b : List Cell) → length a ≡ length b → raw_of a ≡ raw_of b → codes_of a ≡ codes_of b → marks_of a ≡ marks_of b → a ≡ b
cells_ext a b l p q t = ext_get_or no_cell a b l (λ i il j. record {
  bytes = same (λ (c : Cell). c.bytes) p i j;
  code = same (λ (c : Cell). c.code) q i j;
  mark = same (λ (c : Cell). c.mark) t i j;
})
  where
    same : (part : Cell → List ℕ) → map part a ≡ map part b → (i : ℕ) → part (get_or a i no_cell) ≡ part (get_or b i no_cell)
    same part e i = sym (get_or-map part a i no_cell) ∙ ap (λ (l : List (List ℕ)). get_or l i (part no_cell)) e
        ∙ get_or-map part b i no_cell
