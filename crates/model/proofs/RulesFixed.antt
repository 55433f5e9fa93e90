-- The law of way 6 leaves nothing open: by induction on the slot, two records that it allows hold the same there.
use mathlib.Core.Path.{◌≡◌, sym, ◌∙◌}
use mathlib.Core.Logic.{inl, inr}
use mathlib.Core.Bool.{true}
use Prim.Native.Nat.{ℕ, zero, suc, ◌+◌, ◌*◌, ◌%◌, ◌<◌}
use native.Mathlib.Omega.{arith}
use lib.Dec.{ltb, eqb}
use borrow.Author.Tests.{ltb-true, ltb-false, eqb-true, eqb-false}
use Rattle.prelude.specs.Bits.{bit}
use Rattle.prelude.proofs.Tests.{by-test, clash}
use Rattle.model.specs.Sizes.{Sizes}
use Rattle.model.specs.Directory.{Directory, slot_at, frame_at, valid_at}
use Rattle.model.specs.Soundness.{sound, Sound}
use Rattle.model.specs.Policy.{in_block}
use Rattle.model.proofs.Soundness.{sound-facts}
use Rattle.model.proofs.Lookup.{page-vacant, page-split, offset_lt, block_of}
use Rattle.model.specs.RulesWords.{OfBlock}
use Rattle.model.specs.RulesMoves.{Freed, Other, ExchangedSlots, ExchangedOneRule}
use Rattle.model.proofs.RulesWords.{of_block}

module _ (sz : Sizes) (d : Directory) (ok : sound sz d ≡ true) (b f : ℕ) (b_lt : b < sz.N) (a_lt : frame_at d f < sz.N) where
  abbrev s : Sound sz d
  s = sound-facts sz d ok

  -- a slot that takes a page in e takes it in e', where the slots before it hold the same in both
  takes-too : (e e' : Directory) → ExchangedSlots sz d e b f → ExchangedSlots sz d e' b f → (i : ℕ) → Freed sz d b f i
      → ((j : ℕ) → j < i → Freed sz d b f j → slot_at e j ≡ slot_at e' j) → (o : ℕ) → Other sz d b f o
      → slot_at e i ≡ frame_at d f * sz.K + o
      → ((p : ℕ) → p < o → Other sz d b f p → slot_at e' i ≡ frame_at d f * sz.K + p → ⊥) → slot_at e' i ≡ frame_at d f * sz.K + o
  takes-too e e' x y i fi before o ot q lower = let ol = ot.0 in let g = y.all_go o ot in let j = g.0 in
      let fj = g.1 in by-test (ltb j i)
      (λ t. let l = ltb-true j i t in absurd (let z = x.upward j i o o fj fi l ol ol (before j l fj ∙ g.2) q in omega arith))
      (λ t. let h = ltb-false j i t in by-test (eqb j i)
      (λ u. rw (← eqb-true j i u) g.2)
      (λ u. let ne = eqb-false j i u in let il : i < j = omega arith in absurd (elim (y.takes i fi) [
        | inl v ↦ let z = y.no_gap i j fi fj il v in let w = g.2 in
            let k = page-vacant sz s.limits (frame_at d f) o a_lt ol in omega arith
        | inr v ↦ let p = v.0 in lower p (y.upward i j p o fi fj il v.1.0 ol v.2 g.2) v.1 v.2
      ])))

  freed_same : (k : ℕ) (e e' : Directory) → ExchangedSlots sz d e b f → ExchangedSlots sz d e' b f → (i : ℕ) → i < k → Freed sz d b f i
      → slot_at e i ≡ slot_at e' i
  freed_same zero e e' x y i l fi = absurd (omega arith)
  freed_same (suc k) e e' x y i l fi =
      let before : (j : ℕ) → j < i → Freed sz d b f j → slot_at e j ≡ slot_at e' j = λ j jl fj. freed_same k e e' x y j (omega arith) fj in
      elim (x.takes i fi) [
        | inl v ↦ elim (y.takes i fi) [
          | inl w ↦ v ∙ sym w
          | inr w ↦ let ol = w.1.0 in absurd (let q = takes-too e' e y x i fi (λ j jl fj. sym (before j jl fj)) w.0 w.1 w.2
              (λ p pl po e2. let pk = page-vacant sz s.limits (frame_at d f) p a_lt po.0 in omega arith) in
              let k2 = page-vacant sz s.limits (frame_at d f) w.0 a_lt ol in omega arith)
        ]
        | inr v ↦ let o = v.0 in let vo = v.1.0 in let v2 = v.2 in elim (y.takes i fi) [
          | inl w ↦ absurd (let q = takes-too e e' x y i fi before o v.1 v2
              (λ p pl po e2. let pk = page-vacant sz s.limits (frame_at d f) p a_lt po.0 in omega arith) in
              let k2 = page-vacant sz s.limits (frame_at d f) o a_lt vo in omega arith)
          | inr w ↦ let p = w.0 in let w2 = w.2 in by-test (ltb p o)
              (λ t. let pl = ltb-true p o t in takes-too e' e y x i fi (λ j jl fj. sym (before j jl fj)) p w.1 w2
              (λ r rl ro e2. omega arith) ∙ sym w2)
              (λ t. let pl = ltb-false p o t in v2 ∙ sym (takes-too e e' x y i fi before o v.1 v2 (λ r rl ro e2. omega arith)))
        ]
      ]

  same-slot : (e e' : Directory) → ExchangedSlots sz d e b f → ExchangedSlots sz d e' b f → (i : ℕ) → i < sz.P → slot_at e i ≡ slot_at e' i
  same-slot e e' x y i l = let p = s.limits.P_high in by-test (in_block sz d b i)
      (λ t. let o = slot_at d i % sz.K in let ol = offset_lt sz s.limits (slot_at d i) in
      let q = sym (page-split sz s.limits (slot_at d i) b (block_of sz d b i t).1) in
      by-test (bit (valid_at d f) (slot_at d i % sz.K))
      (λ h. x.met i (slot_at d i % sz.K) l ol q h ∙ sym (y.met i (slot_at d i % sz.K) l ol q h))
      (λ h. freed_same (suc i) e e' x y i (omega arith) (l, (slot_at d i % sz.K, ol, q, h))))
      (λ t. let out : OfBlock sz d b i → ⊥ = λ k. clash (of_block sz d ok b i b_lt k) t in
      x.stays i (omega arith) out ∙ sym (y.stays i (omega arith) out))

pub exchanged-one_rule : ExchangedOneRule
exchanged-one_rule sz d ok b f bl al e e' x y i l = same-slot sz d ok b f bl al e e' x y i l
