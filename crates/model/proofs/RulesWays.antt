-- The seven ways leave no case out: the conditions of the laws, tried in the paper's order, cover every sound record and page, and each
-- gives its way.
use mathlib.Core.Path.{◌≡◌, refl, sym, ap, ◌∙◌}
use mathlib.Core.Bool.{true}
use mathlib.Core.List.{List}
use Prim.Native.Nat.{ℕ, zero, suc, ◌*◌, ◌%◌, ◌≤◌, ◌<◌}
use native.Mathlib.Omega.{arith}
use lib.Dec.{ltb, eqb}
use borrow.Author.Tests.{ltb-true, ltb-false, eqb-false}
use Rattle.prelude.proofs.Tests.{by-test, clash}
use Rattle.prelude.proofs.Scan.{first-hit, first-miss}
use Rattle.model.specs.Sizes.{Sizes, vacant}
use Rattle.model.specs.Directory.{Directory, slot_at, frame_at, inFrame}
use Rattle.model.specs.Soundness.{sound, Sound}
use Rattle.model.specs.Policy.{Choice, slot_of, in_slots, frame_with, frame_of, slot_count, fewest_valid, plan, way_of}
use Rattle.model.specs.RulesWords.{InSlot, ValidIn, Uncached, FirstVacant, FirstVacantFrame, pages_in_slots, valid_pages, Evicts}
use Rattle.model.specs.RulesWords.{Crowded}
use Rattle.model.specs.RulesPolicy.{WaysRule}
use Rattle.model.proofs.Soundness.{sound-facts}
use Rattle.model.proofs.Lookup.{page-split, offset_lt, found-slot, in_slots_lem, frame_has, frame_is, no-frame}
use Rattle.model.proofs.Plan.{valid-ones}
use Rattle.model.proofs.RulesWords.{frame_found, counted, fewest-le, fewest-at}
use Rattle.model.proofs.RulesPolicy.{way-1_rule, way-2_rule, way-3_rule, victim-rule, way-4_rule, way-5_rule, sixth, seventh}

-- the condition of way j
Condition : Sizes → Directory → ℕ → ℕ → Type 0
Condition sz d n zero = ⊥
Condition sz d n (suc zero) = InSlot sz d n
Condition sz d n (suc (suc zero)) = (InSlot sz d n → ⊥) × ((f : ℕ) × (f < sz.B) × ValidIn sz d f n)
Condition sz d n (suc (suc (suc zero))) = Uncached sz d n × ((i : ℕ) × FirstVacant sz d i)
Condition sz d n (suc (suc (suc (suc zero)))) = (v : ℕ) × Evicts sz d n v × ((f : ℕ) × (f < sz.B) × (frame_at d f ≡ v))
Condition sz d n (suc (suc (suc (suc (suc zero))))) =
    (v : ℕ) × Evicts sz d n v × ((f : ℕ) → f < sz.B → frame_at d f ≡ v → ⊥) × ((f : ℕ) × FirstVacantFrame sz d f)
Condition sz d n (suc (suc (suc (suc (suc (suc zero)))))) =
    (v : ℕ) × Crowded sz d n v × ((f : ℕ) × (f < sz.B) × (valid_pages d f < pages_in_slots sz d v))
Condition sz d n (suc (suc (suc (suc (suc (suc (suc zero))))))) =
    (v : ℕ) × Crowded sz d n v × ((f : ℕ) → f < sz.B → pages_in_slots sz d v ≤ valid_pages d f)
Condition sz d n (suc (suc (suc (suc (suc (suc (suc (suc j)))))))) = ⊥

module _ (pick : Choice) (sz : Sizes) (d : Directory) (w : List ℕ) (n : ℕ) (ok : sound sz d ≡ true) (n-lt : n < sz.N * sz.K) where
  abbrev s : Sound sz d
  s = sound-facts sz d ok

  -- each condition gives its way
  goes : (j : ℕ) → Condition sz d n j → way_of (plan pick sz d w n) ≡ j
  unfolding Condition
  goes zero c = absurd c
  goes (suc zero) (i, l, e) = ap way_of (way-1_rule pick sz d w n ok n-lt i l e)
  goes (suc (suc zero)) (np, (f, l, v)) = ap way_of (way-2_rule pick sz d w n ok n-lt np f l v)
  goes (suc (suc (suc zero))) (u, (i, h)) = ap way_of (way-3_rule pick sz d w n ok u i h)
  goes (suc (suc (suc (suc zero)))) (v, h, (f, l, e)) = ap way_of (way-4_rule pick sz d w n v ok h f l e)
  goes (suc (suc (suc (suc (suc zero))))) (v, h, none, (f, e)) = ap way_of (way-5_rule pick sz d w n v ok h none f e)
  goes (suc (suc (suc (suc (suc (suc zero)))))) (v, h, (f, l, fewer)) = ap way_of (sixth pick sz d w n v ok h f l fewer)
  goes (suc (suc (suc (suc (suc (suc (suc zero))))))) (v, h, many) = ap way_of (seventh pick sz d w n v ok h many)
  goes (suc (suc (suc (suc (suc (suc (suc (suc j)))))))) c = absurd c

  -- a page that is in no slot, with no vacant slot and valid in no frame: one of the ways 4 to 7
  evicting : (v : ℕ) → Evicts sz d n v → (j : ℕ) × Condition sz d n j
  unfolding Condition frame_of
  evicting v h = by-test (ltb (frame_of sz d v) sz.B)
      (λ t. let l = ltb-true (frame_of sz d v) sz.B t in (4, (v, h, (frame_of sz d v, l, frame_is sz d v l))))
      (λ t. let none = no-frame sz d v (ltb-false _ sz.B t) in by-test (ltb (frame_of sz d vacant) sz.B)
      (λ u. let l = ltb-true (frame_of sz d vacant) sz.B u in (
        5,
        (
          v,
          h,
          none,
          (
            frame_of sz d vacant,
            (
              l,
              frame_is sz d vacant l,
              λ g gl. eqb-false _ _ (first-miss sz.B (λ f. eqb (frame_at d f) vacant) g gl),
            ),
          ),
        ),
      ))
      (λ u. let held = no-frame sz d vacant (ltb-false _ sz.B u) in crowded v (record { evicts = h; no-frame = none; all_held = held })))
    where
      crowded : (v : ℕ) → Crowded sz d n v → (j : ℕ) × Condition sz d n j
      crowded v h = let cv = counted sz d ok v h.evicts.victim-in in by-test (ltb (fewest_valid sz d) (slot_count sz d v))
          (λ t. let k = ltb-true (fewest_valid sz d) (slot_count sz d v) t in let at = fewest-at sz d ok in let f = at.0 in let fl = at.1 in
          let fe = at.2 in let vf = valid-ones sz d s f fl in (6, (v, h, (f, fl, omega arith))))
          (λ t. let k = ltb-false (fewest_valid sz d) (slot_count sz d v) t in
          (7, (v, h, λ f fl. let vf = valid-ones sz d s f fl in let low = fewest-le sz d ok f fl in omega arith)))

  -- one of the conditions holds
  some-condition : (j : ℕ) × Condition sz d n j
  unfolding Condition frame_with in_slots slot_of
  some-condition = by-test (in_slots sz d n)
      (λ t. let k = found-slot sz d n t in (1, (slot_of sz d n, k.0, k.1)))
      (λ t. let np : InSlot sz d n → ⊥ = λ h. clash (in_slots_lem sz d n h.0 h.1 h.2) t in by-test (ltb (frame_with sz d n) sz.B)
      (λ u. let f = frame_with sz d n in let l = ltb-true f sz.B u in let k = frame_has sz d n f (first-hit sz.B (inFrame sz d n) l) in
      (2, (np, (f, l, (n % sz.K, offset_lt sz s.limits n, page-split sz s.limits n (frame_at d f) (sym k.0), k.1)))))
      (λ u. let no = ltb-false (frame_with sz d n) sz.B u in
      let nf : (f : ℕ) → f < sz.B → ValidIn sz d f n → ⊥ = λ f fl v. absurd (let e = frame_found sz d ok n f fl n-lt v in omega arith) in
      by-test (in_slots sz d vacant)
      (λ a. let k = found-slot sz d vacant a in (
        3,
        (
          (np, nf),
          (
            slot_of sz d vacant,
            (
              k.0,
              k.1,
              λ j jl. eqb-false _ _ (first-miss sz.P (λ i. eqb (slot_at d i) vacant) j jl),
            ),
          ),
        ),
      ))
      (λ a. let v = victim-rule sz d n ok (np, nf) (λ i il e. clash (in_slots_lem sz d vacant i il e) a) in evicting v.0 v.1)))

  holds : (j : ℕ) → way_of (plan pick sz d w n) ≡ j → Condition sz d n j
  holds j e = let c = some-condition in rw (sym (goes c.0 c.1) ∙ e) at c.1

  in_range : (j : ℕ) → Condition sz d n j → (1 ≤ j) × (j ≤ 7)
  unfolding Condition
  in_range zero c = absurd c
  in_range (suc zero) c = (omega arith, omega arith)
  in_range (suc (suc zero)) c = (omega arith, omega arith)
  in_range (suc (suc (suc zero))) c = (omega arith, omega arith)
  in_range (suc (suc (suc (suc zero)))) c = (omega arith, omega arith)
  in_range (suc (suc (suc (suc (suc zero))))) c = (omega arith, omega arith)
  in_range (suc (suc (suc (suc (suc (suc zero)))))) c = (omega arith, omega arith)
  in_range (suc (suc (suc (suc (suc (suc (suc zero))))))) c = (omega arith, omega arith)
  in_range (suc (suc (suc (suc (suc (suc (suc (suc j)))))))) c = absurd c

pub ways-rule : WaysRule
unfolding Condition
ways-rule pick sz d w n ok l = let h = holds pick sz d w n ok l in let g = goes pick sz d w n ok l in record {
  some-way = in_range pick sz d w n ok l (way_of (plan pick sz d w n)) (h (way_of (plan pick sz d w n)) refl);
  in_slot = (h 1, g 1);
  in_frame = (h 2, g 2);
  vacant-slot = (h 3, g 3);
  own-frame = (h 4, g 4);
  vacant-frame = (h 5, g 5);
  fewer = (h 6, g 6);
  no-fewer = (h 7, g 7);
}
