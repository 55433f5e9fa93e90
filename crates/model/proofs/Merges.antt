-- What a flush merges, in closed form: the pages that are not cached, of the blocks that are.
use mathlib.Core.Path.{◌≡◌, refl, sym, ap, ◌∙◌}
use mathlib.Core.Logic.{inl, inr}
use mathlib.Core.Bool.{Bool, true, false, cond, ◌||◌}
use Prim.Native.Nat.{ℕ, zero, suc, ◌+◌, ◌-◌, ◌*◌, ◌/◌, ◌%◌, ◌≤◌, ◌<◌}
use native.Mathlib.Omega.{arith}
use lib.Dec.{ltb, eqb}
use borrow.Author.Tests.{ltb-false, eqb-true, eqb-false, eq-eqb}
use Rattle.prelude.specs.Scan.{count}
use Rattle.prelude.specs.Bits.{bit}
use Rattle.prelude.proofs.Tests.{by-test, clash, and_l, and_r, and_i, or_l, or_r, or_cases, not_t, not-i}
use Rattle.prelude.proofs.Scan.{count_past}
use Rattle.model.specs.Sizes.{Sizes}
use Rattle.model.specs.Directory.{Directory, valid_at}
use Rattle.model.specs.Soundness.{Sound}
use Rattle.model.specs.Policy.{Choice, in_block, in_slots, frame_with, read_way, clean, due, due_of, cached}
use Rattle.model.specs.Moves.{joined, stepped}
use Rattle.model.specs.Calls.{merges_page, steps_merge, sum, mends_met}
use Rattle.model.specs.Lists.{Picks}
use Rattle.model.proofs.Lookup.{NoSlot, NoFrame, block-lt, offset_lt, page-split, found-slot, not-in_slots, frame_has, has-frame}
use Rattle.model.proofs.Lookup.{block_of, own_block, no-frame_with}
use Rattle.model.proofs.Reflects.{joined-bits, joined-bits', vacated-bits'}
use Rattle.model.proofs.Steps.{Ready, due-elim, stepped-sound, stepped-frame', cached-now, cached-back, cached-on}
use Rattle.model.proofs.Steps.{cached-less, empty-count, stepped-absent, after-slot, joined-ready}

-- page n is cached nowhere, and its block is
pub record Uncached (sz : Sizes) (d : Directory) (n : ℕ) : Type 0 where
  pub block : cached sz d (n / sz.K) ≡ true
  pub slot : NoSlot sz d n
  pub frame : NoFrame sz d n

module _ (sz : Sizes) (d : Directory) (s : Sound sz d) (b f : ℕ) (y : Ready sz d b f) (n : ℕ) (l : n < sz.N * sz.K) where
  abbrev after : Directory
  after = stepped sz d (due b f)

  bits_are : n / sz.K ≡ b → bit (valid_at (joined sz d b f) f) (n % sz.K) ≡ (bit (valid_at d f) (n % sz.K) || in_slots sz d n)
  bits_are e = joined-bits sz s.limits d s.shape b f y.f_lt (n % sz.K) (offset_lt sz s.limits n)
      ∙ ap (λ (x : ℕ). bit (valid_at d f) (n % sz.K) || in_slots sz d x) (page-split sz s.limits n b e)

  -- the pages that the step merges
  step_in : merges_page sz d b f n ≡ true → Uncached sz d n
  unfolding merges_page
  step_in h =
      let e = eqb-true (n / sz.K) b (and_l (eqb (n / sz.K) b) _ h) in
      let z : (bit (valid_at d f) (n % sz.K) || in_slots sz d n) ≡ false = sym (bits_are e) ∙ not_t (and_r (eqb (n / sz.K) b) _ h) in
      record {
        block = rw e (cached-now sz d s b f y);
        slot = not-in_slots sz d n (by-test (in_slots sz d n) (λ t. absurd (clash (or_r (bit (valid_at d f) (n % sz.K)) t) z)) (λ t. t));
        frame = λ g gl q. let k = frame_has sz d n g q in by-test (eqb g f)
            (λ t. clash (or_l _ (rw (eqb-true g f t) at k.1)) z)
            (λ t. y.sole g gl (eqb-false g f t) (k.0 ∙ e));
      }

  step-out : Uncached sz d n → n / sz.K ≡ b → merges_page sz d b f n ≡ true
  unfolding merges_page
  step-out u e = and_i (eq-eqb _ b e) (not-i (bits_are e ∙ by-test (bit (valid_at d f) (n % sz.K))
      (λ t. absurd (u.frame f y.f_lt (has-frame sz d n f (own_block sz d b f y.own _ t ∙ sym e) t)))
      (λ t. rw t (by-test (in_slots sz d n) (λ w. let k = found-slot sz d n w in absurd (u.slot _ k.0 k.1)) (λ w. w)))))

  -- a page of the block that a read would find in flash is among them
  pub reads_merged : read_way sz d n ≡ 3 → n / sz.K ≡ b → merges_page sz d b f n ≡ true
  unfolding read_way
  reads_merged h e = step-out (record {
    block = rw e (cached-now sz d s b f y);
    slot = not-in_slots sz d n (by-test (in_slots sz d n)
        (λ t. let w : read_way sz d n ≡ 1 = rw (t, read_way) in absurd (omega arith))
        (λ t. t));
    frame = by-test (in_slots sz d n)
        (λ t. let w : read_way sz d n ≡ 1 = rw (t, read_way) in absurd (omega arith))
        (λ t. by-test (ltb (frame_with sz d n) sz.B)
        (λ u. let w : read_way sz d n ≡ 2 = rw (t, read_way) (rw u) in absurd (omega arith))
        (λ u. no-frame_with sz d n (ltb-false _ sz.B u)));
  }) e

  -- and those left to later steps
  later-in : Uncached sz after n → Uncached sz d n
  unfolding stepped
  later-in u = let c = cached-back sz d s b f y (n / sz.K) (block-lt sz s.limits n l) u.block in record {
    block = c.0;
    slot = λ i il e. by-test (in_block sz d b i)
        (λ t. c.1 (ap (λ (x : ℕ). x / sz.K) (sym e) ∙ (block_of sz d b i t).1))
        (λ t. u.slot i il (after-slot sz d s b f y i il ∙ rw t e));
    frame = λ g gl e. let k = frame_has sz d n g e in by-test (eqb g f)
        (λ t. c.1 (sym (rw (eqb-true g f t) at k.0) ∙ own_block sz d b f y.own (n % sz.K) (rw (eqb-true g f t) at k.1)))
        (λ t. let ne = eqb-false g f t in u.frame g gl (has-frame sz after n g (stepped-frame' sz d s b f y g ne ∙ k.0)
        (ap (λ (x : ℕ). bit x (n % sz.K)) (vacated-bits' sz s.limits (joined sz d b f) (joined-ready sz d s b f y).shape f y.f_lt g
        ne ∙ joined-bits' sz s.limits d s.shape b f y.f_lt g ne) ∙ k.1)));
  }

  later-out : Uncached sz d n → (n / sz.K ≡ b → ⊥) → Uncached sz after n
  later-out u ne = let a = stepped-absent sz d s b f y n l u.slot u.frame in
      record { block = cached-on sz d s b f y (n / sz.K) (block-lt sz s.limits n l) u.block ne; slot = a.0; frame = a.1 }

-- what a rewrite merges is of its block
pub merges-block : (sz : Sizes) (d : Directory) (b f n : ℕ) → merges_page sz d b f n ≡ true → n / sz.K ≡ b
unfolding merges_page
merges-block sz d b f n h = eqb-true (n / sz.K) b (and_l (eqb (n / sz.K) b) _ h)

module _ (pick : Choice) (picks : Picks pick) (sz : Sizes) (n : ℕ) (l : n < sz.N * sz.K) where
  pub flush-in : (c : ℕ) (d : Directory) → Sound sz d → steps_merge pick sz c d n ≡ true → Uncached sz d n
  unfolding steps_merge
  flush-in zero d s = λ h. clash h refl
  flush-in (suc c) d s = due-elim sz d s pick picks (λ q. due_of pick sz d ≡ q → steps_merge pick sz (suc c) d n ≡ true → Uncached sz d n)
      (λ b f y e. rw (e, steps_merge) (λ h. elim (or_cases (merges_page sz d b f n) (steps_merge pick sz c (stepped sz d (due b f)) n) h) [
        | inl t ↦ step_in sz d s b f y n l t
        | inr t ↦ later-in sz d s b f y n l (flush-in c (stepped sz d (due b f)) (stepped-sound sz d s b f y) t)
      ]))
      (λ q e. rw (e, steps_merge) (λ h. clash h refl))
      refl

  pub flush-out : (c : ℕ) (d : Directory) → Sound sz d → count sz.N (cached sz d) ≤ c → Uncached sz d n → steps_merge pick sz c d n ≡ true
  unfolding steps_merge
  flush-out zero d s h u = absurd (let k = count_past (n / sz.K) sz.N (cached sz d) (block-lt sz s.limits n l) u.block in
      omega arith)
  flush-out (suc c) d s h u = due-elim sz d s pick picks (λ q. due_of pick sz d ≡ q → steps_merge pick sz (suc c) d n ≡ true)
      (λ b f y e. rw (e, steps_merge) (by-test (eqb (n / sz.K) b)
      (λ t. or_l _ (step-out sz d s b f y n l u (eqb-true _ b t)))
      (λ t. or_r (merges_page sz d b f n) (flush-out c (stepped sz d (due b f)) (stepped-sound sz d s b f y)
      (let k = cached-less sz d s b f y in omega arith) (later-out sz d s b f y n l u (eqb-false _ b t))))))
      (λ q e. absurd (let k = count_past (n / sz.K) sz.N (cached sz d) (block-lt sz s.limits n l) u.block in
      let z = empty-count sz d s q in omega arith))
      refl

-- ---- request A7: the mends of a flush are the sum of its steps' mends

-- step by step, as code counts them; mends of a page do not change before it is merged, since its block is rewritten by that step alone
unfoldable pub steps_mend : Choice → Sizes → (ℕ → ℕ) → ℕ → Directory → ℕ
steps_mend pick sz mends zero d = 0
steps_mend pick sz mends (suc c) d = elim (due_of pick sz d) [
  | clean ↦ 0
  | due b f ↦
      mends_met sz mends (merges_page sz d b f) + steps_mend pick sz mends c (stepped sz d (due b f))
]

-- over two sets that have no page in common
pub sum-or : (n : ℕ) (g : ℕ → ℕ) (p q : ℕ → Bool) → ((i : ℕ) → i < n → p i ≡ true → q i ≡ true → ⊥)
    → sum n (λ i. cond (p i || q i) (g i) 0) ≡ sum n (λ i. cond (p i) (g i) 0) + sum n (λ i. cond (q i) (g i) 0)
unfolding sum
sum-or zero g p q h = refl
sum-or (suc n) g p q h = let ih = sum-or n g p q (λ i l. h i (omega arith)) in by-test (p n)
    (λ e. by-test (q n) (λ e'. absurd (h n (omega arith) e e')) (λ e'. rw (e, e') (omega arith)))
    (λ e. rw e (by-test (q n) (λ e'. rw e' (omega arith)) (λ e'. rw e' (omega arith))))

sum-none : (n : ℕ) (g : ℕ → ℕ) → sum n (λ i. cond false (g i) 0) ≡ 0
unfolding sum
sum-none zero g = refl
sum-none (suc n) g = let ih = sum-none n g in omega arith

pub flush-mends : (pick : Choice) → Picks pick → (sz : Sizes) (mends : ℕ → ℕ) (c : ℕ) (d : Directory) → Sound sz d
    → mends_met sz mends (steps_merge pick sz c d) ≡ steps_mend pick sz mends c d
unfolding mends_met steps_merge steps_mend
flush-mends pick picks sz mends zero d s = sum-none (sz.N * sz.K) mends
flush-mends pick picks sz mends (suc c) d s = due-elim sz d s pick picks
    (λ q. due_of pick sz d ≡ q → mends_met sz mends (steps_merge pick sz (suc c) d) ≡ steps_mend pick sz mends (suc c) d)
    (λ b f y e. let d1 = stepped sz d (due b f) in
    let ih = flush-mends pick picks sz mends c d1 (stepped-sound sz d s b f y) in
    rw (e, steps_merge, steps_mend) (sum-or (sz.N * sz.K) mends (merges_page sz d b f) (steps_merge pick sz c d1)
    (λ i l p q. (cached-back sz d s b f y (i / sz.K) (block-lt sz s.limits i l)
    (flush-in pick picks sz i l c d1 (stepped-sound sz d s b f y) q).block).1 (merges-block sz d b f i p))
    ∙ ap (λ (x : ℕ). sum (sz.N * sz.K) (λ i. cond (merges_page sz d b f i) (mends i) 0) + x) ih))
    (λ q e. rw (e, steps_merge, steps_mend) (sum-none (sz.N * sz.K) mends))
    refl
