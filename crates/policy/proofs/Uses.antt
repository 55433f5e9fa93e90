-- A set of frames that a loop gathers, and the frame that the policy takes of them.
use mathlib.Core.Path.{◌≡◌, refl, sym, ap, ◌∙◌}
use mathlib.Core.Bool.{Bool, true, false, not, ◌||◌}
use mathlib.Core.List.{List}
use Prim.Native.Nat.{ℕ, ◌+◌, ◌≤◌, ◌<◌}
use native.Mathlib.Numerals.{add-one}
use native.Mathlib.Omega.{arith}
use lib.Dec.{leb, ltb, eqb}
use borrow.Author.Tests.{eqb-true, eqb-false, ltb-true, lt-ltb}
use Rattle.std.proofs.lemmas.Bool.Decides.{nat_tests}
use Rattle.prelude.specs.Scan.{first}
use Rattle.prelude.specs.Bits.{bit, mask, with_bit, first_bits}
use Rattle.prelude.proofs.Tests.{by-test, clash, and_l, and_r, and_i, same_test}
use Rattle.prelude.proofs.Scan.{Missed, all-at, all_of, from-same, first-hit, first-at}
use Rattle.prelude.proofs.Bits.{mask_lt, bit-none, bit_mask, bit-pos, bits-some, with-new, first-is_mask}
use Rattle.model.specs.Sizes.{Sizes, InLimits}
use Rattle.model.specs.Directory.{Directory, recency_at, uses_at}
use Rattle.model.specs.Soundness.{Listed}
use Rattle.model.specs.Policy.{least_recent, fewest_uses, policy_choice}
use Rattle.model.proofs.Plan.{Fewest, policy-oldest, policy-fewest}
use Rattle.cache.proofs.Entries.{blocks_get}
use Rattle.policy.proofs.Held.{valid_ones}
use Rattle.policy.specs.Views.{DueOf, UsesValid, UsesOccupied, OpenOf}

-- ---- the order of use that a search is lent

-- it lists the frames of any record that it stands in
of_order : (sz : Sizes) (d d' : Directory) → d'.recency ≡ d.recency → Listed sz d' → Listed sz d
of_order sz d d' e o = record {
  recency-lt = λ i l. rw (← e) (o.recency-lt i l);
  recency-has = λ f l. let k = o.recency-has f l in (k.0, k.1, rw (← e) k.2);
}

module _ (sz : Sizes) (d : Directory) where
  pub listed_due : DueOf sz d.slots d.frames d.recency d.uses → Listed sz d
  listed_due s = of_order sz d _ refl s.sound.listed

  pub listed_valid : (n : ℕ) → UsesValid sz d.valid d.recency d.uses n → Listed sz d
  listed_valid n s = of_order sz d _ refl s.sound.listed

  pub listed_occupied : (w : List ℕ) → UsesOccupied sz d.frames d.recency d.uses w → Listed sz d
  listed_occupied w s = of_order sz d _ refl s.sound.listed

-- ---- the set of the frames below n that pass: one frame more

pub mask_none : (p : ℕ → Bool) → mask 0 p ≡ 0
unfolding mask
mask_none p = refl

pub mask_with : (p : ℕ → Bool) (n : ℕ) → p n ≡ true → mask (n + 1) p ≡ with_bit (mask n p) n
unfolding mask
mask_with p n h = sym (with-new (mask n p) n (bit-none n (mask n p) (mask_lt n p)) ∙ rw add-one (rw h (omega arith)))

pub mask_without : (p : ℕ → Bool) (n : ℕ) → p n ≡ false → mask (n + 1) p ≡ mask n p
unfolding mask
mask_without p n h = rw add-one (rw h (omega arith))

-- ---- the loop up the order begins at the first place that passes

pub fewest-first : (d : Directory) (p : ℕ → Bool) (i : ℕ) → Missed (λ j. p (recency_at d j)) i → p (recency_at d i) ≡ true
    → Fewest d p (i + 1) i
fewest-first d p i missed e = record {
  best_lt = omega arith;
  passes = e;
  fewest = λ j l h. by-test (eqb j i) (λ t. rw (eqb-true j i t) (omega arith))
      (λ t. let ne = eqb-false j i t in clash h (missed j (omega arith)));
  earlier = λ j l h. clash h (missed j l);
}

-- ---- two tests that agree on the frames

to-other : (sz : Sizes) (d : Directory) (p q : ℕ → Bool) → ((f : ℕ) → f < sz.B → p f ≡ q f) → (f : ℕ) → f < sz.B
    → fewest_uses sz d p f ≡ true → fewest_uses sz d q f ≡ true
unfolding fewest_uses
to-other sz d p q same f l h = and_i (sym (same f l) ∙ and_l (p f) _ h) (all_of sz.B _ (λ g gl.
    rw (same g gl) at (all-at sz.B (λ k. not (p k) || leb (uses_at d f) (uses_at d k)) (and_r (p f) _ h) g gl)))

recent-agree : (sz : Sizes) (d : Directory) → Listed sz d → (p q : ℕ → Bool) → ((f : ℕ) → f < sz.B → p f ≡ q f)
    → least_recent sz d p ≡ least_recent sz d q
unfolding least_recent first
recent-agree sz d o p q same = ap (recency_at d) (from-same 0 sz.B _ _ (λ j a l. same (recency_at d j) (o.recency-lt j (omega arith))))

-- the policy takes of a set what it takes of the frames in it
pub choice_of : (sz : Sizes) (d : Directory) (p : ℕ → Bool) → Listed sz d
    → policy_choice sz d (bit (mask sz.B p)) ≡ policy_choice sz d p
choice_of sz d p o = by-test (eqb sz.policy 2)
    (λ t. policy-fewest sz d _ t ∙ recent-agree sz d o _ _ (λ f l. same_test
    (to-other sz d _ p same f l) (to-other sz d p _ (λ g k. sym (same g k)) f l)) ∙ sym (policy-fewest sz d p t))
    (λ t. policy-oldest sz d _ t ∙ recent-agree sz d o _ p same ∙ sym (policy-oldest sz d p t))
  where
    same : (f : ℕ) → f < sz.B → bit (mask sz.B p) f ≡ p f
    same f l = bit_mask sz.B p f l

-- a set with a frame in it, and one without
module _ (n : ℕ) (p : ℕ → Bool) where
  pub some_in : 0 < mask n p → (f : ℕ) × (f < n) × (bit (mask n p) f ≡ true)
  some_in h = bits-some n (mask n p) h (mask_lt n p)

  pub any_in : 0 < mask n p → ltb (first n p) n ≡ true
  any_in h = let k = some_in h in let l = k.1 in let at = first-at n p k.0 l (sym (bit_mask n p k.0 l) ∙ k.2) in
      lt-ltb (first n p) n (omega arith)

  pub none_in : mask n p ≤ 0 → ltb (first n p) n ≡ false
  none_in h = by-test (ltb (first n p) n)
      (λ t. let l = ltb-true (first n p) n t in
      absurd (let k = bit-pos (mask n p) (first n p) (bit_mask n p (first n p) l ∙ first-hit n p l) in omega arith))
      (λ t. t)

pub open_of : (sz : Sizes) (d : Directory) (p : ℕ → Bool) → InLimits sz → Listed sz d → 0 < mask sz.B p → OpenOf sz d (mask sz.B p)
open_of sz d p s o h = let k = some_in sz.B p h in record { limits = s; listed = o; frame = k.0; frame-lt = k.1; frame-open = k.2 }

pub first_mask : (k : ℕ) → first_bits k ≡ mask k (λ i. true)
first_mask k = first-is_mask k

-- for the loops that gather a set
pub ruleset sets = (mask_none, mask_with, mask_without, valid_ones, blocks_get, nat_tests)

-- for those that take a frame of it
pub ruleset choices = (choice_of, any_in, none_in, first_mask, nat_tests)
