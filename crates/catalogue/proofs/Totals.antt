-- The mends of a whole call: sums over the flash pages that it reads.
use mathlib.Core.Path.{◌≡◌, refl, ap, ◌∙◌}
use mathlib.Core.Bool.{Bool, true, cond, ◌&&◌, ◌||◌}
use mathlib.Core.List.{List}
use Prim.Native.Nat.{ℕ, zero, suc, ◌+◌, ◌*◌, ◌/◌, ◌≤◌, ◌<◌}
use native.Mathlib.Nat.{suc-mul}
use native.Mathlib.Omega.{arith}
use lib.Dec.{ltb, eqb}
use borrow.Author.Tests.{ltb-true, ltb-false, eqb-true, eqb-false, lt-ltb, ne_eqb}
use Rattle.prelude.proofs.Tests.{by-test}
use Rattle.model.specs.Calls.{sum, is_refused}
use Rattle.answer.specs.declared.Refusal.{Refusal}
use Rattle.answer.specs.declared.Read.{Read}
use Rattle.answer.specs.declared.Write.{Write}
use Rattle.std.specs.Prelude.{Result}
use Rattle.answer.specs.Numbers.{read_of, write_of, mends_of_read, mends_of_write}
use Rattle.chip.specs.Chip.{most_mends}
use Rattle.catalogue.specs.Kinds.{Few, kept_mends, left_mends, erased_in}

-- ---- sums

sum-suc : (i : ℕ) (g : ℕ → ℕ) → sum (suc i) g ≡ g i + sum i g
unfolding sum
sum-suc i g = refl

pub sum-next : (i : ℕ) (g : ℕ → ℕ) → sum (i + 1) g ≡ g i + sum i g
sum-next i g = ap (λ (n : ℕ). sum n g) (let e : i + 1 ≡ suc i = omega arith in e) ∙ sum-suc i g

pub sum_same : (n : ℕ) (g g' : ℕ → ℕ) → ((i : ℕ) → i < n → g i ≡ g' i) → sum n g ≡ sum n g'
unfolding sum
sum_same zero g g' h = refl
sum_same (suc n) g g' h = let a = sum_same n g g' (λ i l. h i (omega arith)) in let b = h n (omega arith) in omega arith

sum-plus : (n : ℕ) (a b c : ℕ → ℕ) → ((i : ℕ) → i < n → a i ≡ b i + c i) → sum n a ≡ sum n b + sum n c
unfolding sum
sum-plus zero a b c h = refl
sum-plus (suc n) a b c h = let e = sum-plus n a b c (λ i l. h i (omega arith)) in let f = h n (omega arith) in omega arith

-- the first c of n
sum_first : (n c : ℕ) (g : ℕ → ℕ) → c ≤ n → sum n (λ i. cond (ltb i c) (g i) 0) ≡ sum c g
unfolding sum
sum_first zero c g l = ap (λ (k : ℕ). sum k g) (let e : 0 ≡ c = omega arith in e)
sum_first (suc n) c g l = by-test (ltb n c)
    (λ t. let k = ltb-true n c t in let e : suc n ≡ c = omega arith in
    sum_same (suc n) (λ i. cond (ltb i c) (g i) 0) g (λ i q. rw (lt-ltb i c (omega arith))) ∙ ap (λ (k : ℕ). sum k g) e)
    (λ t. let k = ltb-false n c t in let e = sum_first n c g k in rw t (omega arith))

-- Of n pages those in `whole` are read: those in `last`, and the first c that pass `way`. m has the mends of the first c, `skip` says
-- which of
-- them are in `last`.
module _ (n c : ℕ) (le : c ≤ n) (g m : ℕ → ℕ) (last way whole skip : ℕ → Bool)
    (whole_is : (i : ℕ) → i < n → whole i ≡ (last i || (ltb i c && way i))) (m_is : (j : ℕ) → j < c → m j ≡ cond (way j) (g j) 0)
    (met : (j : ℕ) → j < c → way j ≡ true → last j ≡ skip j) where
  each-page : (i : ℕ) → i < n → cond (whole i) (g i) 0 ≡ cond (last i) (g i) 0 + cond (ltb i c) (cond (skip i) 0 (m i)) 0
  each-page i l = rw (whole_is i l) (by-test (ltb i c)
      (λ t. let k = ltb-true i c t in rw (t, m_is i k) (by-test (way i)
      (λ w. rw (w, ← met i k w) (by-test (last i) (λ e. rw e (omega arith)) (λ e. rw e (omega arith))))
      (λ w. rw w (by-test (last i) (λ e. rw e (by-test (skip i) (λ z. rw z (omega arith)) (λ z. rw z (omega arith))))
      (λ e. rw e (by-test (skip i) (λ z. rw z) (λ z. rw z)))))))
      (λ t. rw t (by-test (last i) (λ e. rw e (omega arith)) (λ e. rw e))))

  -- so that each page counts once
  pub total : sum n (λ i. cond (whole i) (g i) 0) ≡ sum n (λ i. cond (last i) (g i) 0) + sum c (λ j. cond (skip j) 0 (m j))
  total = sum-plus n _ _ _ each-page ∙ ap (λ (x : ℕ). sum n (λ i. cond (last i) (g i) 0) + x) (sum_first n c (λ j. cond (skip j) 0
      (m j)) le)

-- ---- the loop over the sheets

module _ (c k b at : ℕ) (m : List ℕ) (f : Few c m) where
  pub kept_low : (i : ℕ) → i < c → kept_mends k b at m i ≤ most_mends
  unfolding kept_mends
  kept_low i l = by-test (eqb (i / k) b || eqb i at) (λ e. rw e (omega arith)) (λ e. rw e (f.each i l))

  pub left-none : 0 ≡ left_mends 0 k b at m
  unfolding left_mends sum
  left-none = refl

  pub left-next : (i : ℕ) → left_mends i k b at m + kept_mends k b at m i ≡ left_mends (i + 1) k b at m
  unfolding left_mends
  left-next i = let e = sum-next i (kept_mends k b at m) in omega arith

  -- few in all
  pub left-low : (i : ℕ) → i ≤ c → left_mends i k b at m ≤ i * 2097152
  unfolding left_mends sum
  left-low zero l = omega arith
  left-low (suc i) l = let a = left-low i (omega arith) in let d = kept_low i (omega arith) in let e = suc-mul i 2097152 in omega arith

-- ---- an answer with other mends

module _ (answer : Result Read Refusal) (more : ℕ) where
  abbrev pub ReadWith : Result Read Refusal → Type 0
  ReadWith r = (read_of r ≡ read_of answer) × (mends_of_read r ≡ cond (is_refused (read_of answer)) 0 (mends_of_read answer + more))

module _ (answer : Result Write Refusal) (left : ℕ → ℕ) where
  abbrev pub WriteWith : Result Write Refusal → Type 0
  WriteWith r = (write_of r ≡ write_of answer)
      × (mends_of_write r ≡ cond (is_refused (write_of answer)) 0 (mends_of_write answer + left (erased_in (write_of answer))))

-- ---- sums of one page, and of none

pub sum-zero : (n : ℕ) (g : ℕ → ℕ) → ((i : ℕ) → i < n → g i ≡ 0) → sum n g ≡ 0
unfolding sum
sum-zero zero g h = refl
sum-zero (suc n) g h = let a = sum-zero n g (λ i l. h i (omega arith)) in let b = h n (omega arith) in omega arith

pub sum_one : (n : ℕ) (g : ℕ → ℕ) (j : ℕ) (b : Bool) → j < n → sum n (λ i. cond (eqb i j && b) (g i) 0) ≡ cond b (g j) 0
unfolding sum
sum_one zero g j b l = absurd (omega arith)
sum_one (suc n) g j b l = by-test (eqb n j)
    (λ e. let z = sum-zero n (λ i. cond (eqb i j && b) (g i) 0) (λ i q. let w = eqb-true n j e in rw (ne_eqb i j (λ (t : i
    ≡ j). omega arith))) in
    rw (e, z, eqb-true n j e) (by-test b (λ t. rw t (omega arith)) (λ t. rw t (omega arith))))
    (λ e. let w = eqb-false n j e in let z = sum_one n g j b (by-test (ltb j n) (λ t. ltb-true j n t)
    (λ t. let u = ltb-false j n t in absurd (w (omega arith)))) in
    rw e (omega arith))
