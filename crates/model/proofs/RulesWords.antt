-- What the definitions' lookups find, in the words of the laws, in a sound record.
use mathlib.Core.Path.{◌≡◌, sym, ap, ◌∙◌}
use mathlib.Core.Logic.{inl, inr}
use mathlib.Core.Bool.{true}
use Prim.Native.Nat.{ℕ, suc, ◌+◌, ◌-◌, ◌*◌, ◌/◌, ◌%◌, ◌≤◌, ◌<◌}
use native.Mathlib.Omega.{arith}
use lib.Dec.{leb, ltb, eqb}
use borrow.Author.Tests.{leb-true, le-leb, ltb-true, ltb-false, lt-ltb, eq-eqb, ne_eqb}
use Rattle.prelude.specs.Bits.{bit}
use Rattle.prelude.proofs.Tests.{by-test, fails, and_l, and_r, and_i, same_test}
use Rattle.prelude.proofs.Scan.{first-hit, first-is, count_same, count-le, least-le, least-is}
use Rattle.model.specs.Sizes.{Sizes}
use Rattle.model.specs.Directory.{Directory, slot_at, frame_at, valid_at, inFrame}
use Rattle.model.specs.Soundness.{sound, Sound}
use Rattle.model.specs.Policy.{in_block, slot_of, in_slots, frame_with, frame_of, valid_count, slot_count, fewest_valid, cached}
use Rattle.model.proofs.Soundness.{sound-facts, pages-small, K_pos}
use Rattle.model.proofs.Lookup.{in_range, range_of, page-div, page-mod, page-split, block-end, block-vacant, block-lt, offset_lt}
use Rattle.model.proofs.Lookup.{found-slot, block_of, in_block_lem, frame_has, has-frame, frame_is, own-slot}
use Rattle.model.proofs.Steps.{cached-slot, cached-frame, cached-why}
use Rattle.model.specs.RulesWords.{InSlot, ValidIn, OfBlock, pages_in_slots, Cached}

module _ (sz : Sizes) (d : Directory) (ok : sound sz d ≡ true) where
  abbrev s : Sound sz d
  s = sound-facts sz d ok

  pub absent : (n : ℕ) → (InSlot sz d n → ⊥) → sz.P ≤ slot_of sz d n
  unfolding in_slots
  absent n h = ltb-false (slot_of sz d n) sz.P (fails (in_slots sz d n) (λ e. let k = found-slot sz d n e in
      h (slot_of sz d n, k.0, k.1)))

  pub slot-found : (n i : ℕ) → i < sz.P → n < sz.N * sz.K → slot_at d i ≡ n → slot_of sz d n ≡ i
  slot-found n i l nl e = let p = pages-small sz s.limits in ap (slot_of sz d) (sym e) ∙ own-slot sz d s i l (omega arith)

  pub valid-found : (n f : ℕ) → ValidIn sz d f n → inFrame sz d n f ≡ true
  valid-found n f (o, ol, e, h) = has-frame sz d n f (sym (ap (λ (x : ℕ). x / sz.K) (sym e) ∙ page-div sz s.limits (frame_at d f) o ol))
      (ap (λ (x : ℕ). bit (valid_at d f) x) (ap (λ (x : ℕ). x % sz.K) (sym e) ∙ page-mod sz s.limits (frame_at d f) o ol) ∙ h)

  pub frame_found : (n f : ℕ) → f < sz.B → n < sz.N * sz.K → ValidIn sz d f n → frame_with sz d n ≡ f
  unfolding frame_with
  frame_found n f fl nl v = let h = valid-found n f v in let e = (frame_has sz d n f h).0 in
      sym (first-is sz.B (inFrame sz d n) f (omega arith)
      (λ j jl. fails (inFrame sz d n j) (λ t. let k = (frame_has sz d n j t).0 in
      let b = block-vacant sz s.limits (n / sz.K) (block-lt sz s.limits n nl) in
      let q = s.entries.frames-apart j f (omega arith) fl (omega arith) (k ∙ sym e) in omega arith)) (λ k. h))

  pub unfound : (n : ℕ) → ((f : ℕ) → f < sz.B → ValidIn sz d f n → ⊥) → sz.B ≤ frame_with sz d n
  unfolding frame_with
  unfound n h = by-test (ltb (frame_with sz d n) sz.B)
      (λ t. let l = ltb-true _ sz.B t in let k = frame_has sz d n _ (first-hit sz.B (inFrame sz d n) l) in
      absurd (h (frame_with sz d n) l (n % sz.K, offset_lt sz s.limits n, page-split sz s.limits n _ (sym k.0), k.1)))
      (λ t. ltb-false _ sz.B t)

  pub own-frame : (b f : ℕ) → b < sz.N → f < sz.B → frame_at d f ≡ b → frame_of sz d b ≡ f
  unfolding frame_of
  own-frame b f bl fl e = let v = block-vacant sz s.limits b bl in sym (first-is sz.B (λ g. eqb (frame_at d g) b) f (omega arith)
      (λ j jl. ne_eqb _ b (λ q. let k = s.entries.frames-apart j f (omega arith) fl (omega arith) (q ∙ sym e) in omega arith))
      (λ k. eq-eqb _ b e))

  pub no_own : (b : ℕ) → ((f : ℕ) → f < sz.B → frame_at d f ≡ b → ⊥) → sz.B ≤ frame_of sz d b
  no_own b h = by-test (ltb (frame_of sz d b) sz.B) (λ t. let l = ltb-true _ sz.B t in
      absurd (h _ l (frame_is sz d b l))) (λ t. ltb-false _ sz.B t)

  pub of_block : (b i : ℕ) → b < sz.N → OfBlock sz d b i → in_block sz d b i ≡ true
  of_block b i bl (lo, hi) = in_block_lem sz d b i (let e = block-end sz s.limits b bl in
      omega arith) (in_range sz.K b (slot_at d i) lo hi).0

  pub block-range : (b i : ℕ) → in_block sz d b i ≡ true → OfBlock sz d b i
  block-range b i h = range_of sz.K b (slot_at d i) (K_pos sz s.limits) (block_of sz d b i h).1

  pub counted : (b : ℕ) → b < sz.N → slot_count sz d b ≡ pages_in_slots sz d b
  unfolding slot_count
  counted b bl = count_same sz.P (in_block sz d b) _ (λ i l. same_test
      (λ h. let r = block-range b i h in and_i (le-leb _ _ r.0) (lt-ltb _ _ r.1))
      (λ h. of_block b i bl (
        leb-true (b * sz.K) (slot_at d i) (and_l (leb (b * sz.K) (slot_at d i)) _ h),
        ltb-true (slot_at d i)
            (b * sz.K + sz.K) (and_r (leb (b * sz.K) (slot_at d i)) _ h),
      )))

  pub found-cached : (b : ℕ) → b < sz.N → (cached sz d b ≡ true → Cached sz d b) × (Cached sz d b → cached sz d b ≡ true)
  found-cached b bl = (
    (λ h. elim (cached-why sz d b h) [ inl k ↦ inl (k.0, k.1, block-range b k.0 k.2) | inr k ↦ inr k ]),
    (λ h. elim h [
      | inl k ↦ cached-slot sz d b k.0 k.1 (of_block b k.0 bl k.2)
      | inr k ↦ cached-frame sz d b k.0 k.1
          k.2
    ]),
  )

  pub fewest-le : (f : ℕ) → f < sz.B → fewest_valid sz d ≤ valid_count sz d f
  unfolding fewest_valid
  fewest-le f l = least-le sz.B (valid_count sz d) (suc sz.K) f l

  pub fewest-at : (f : ℕ) × (f < sz.B) × (valid_count sz d f ≡ fewest_valid sz d)
  unfolding fewest_valid valid_count
  fewest-at = let l = fewest-le 0 s.limits.B_low in let c = count-le sz.K (bit (valid_at d 0)) in
      least-is sz.B (valid_count sz d) (suc sz.K) (omega arith)
