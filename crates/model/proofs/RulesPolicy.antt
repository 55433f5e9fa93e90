-- The laws of the policy hold: the slot, block or frame of which the paper's condition holds is the one that the definition's scan finds,
-- and the plan follows from the tests of the ways in their order.
use mathlib.Core.Path.{◌≡◌, refl, sym, ap, ◌∙◌}
use mathlib.Core.Logic.{inl, inr}
use mathlib.Core.Bool.{Bool, true, false, ◌&&◌}
use mathlib.Core.List.{List}
use Prim.Native.Nat.{ℕ, ◌-◌, ◌≤◌, ◌<◌}
use native.Mathlib.Omega.{arith}
use lib.Dec.{leb, ltb, eqb}
use lib.ListN.{get_or}
use borrow.Author.Tests.{leb-true, le-leb, ltb-true, ltb-false, eqb-true, eqb-false, lt-ltb, eq-eqb, ne_eqb}
use Rattle.prelude.specs.Scan.{first}
use Rattle.prelude.proofs.Tests.{by-test, clash, fails, and_l, and_r, and_i}
use Rattle.prelude.proofs.Scan.{first-hit, first-at, first-is, first-miss, argmax-ge, argmax-first, leads-is}
use Rattle.model.specs.Sizes.{Sizes, vacant}
use Rattle.model.specs.Directory.{Directory, slot_at, frame_at, recency_at}
use Rattle.model.specs.Soundness.{sound, Sound}
use Rattle.model.specs.Policy.{Choice, slot_of, frame_of, valid_count, slot_count, least_recent, policy_choice, victim, fewest_valid}
use Rattle.model.specs.Policy.{evictable}
use Rattle.model.specs.Policy.{any_evictable, evict_frame, eviction_plan, plan, slot_hit, frame_hit, free_slot, join, fill, exchange, evict}
use Rattle.model.specs.Policy.{due, due_of, occupied, lowest_in_slots, cached, lowest_worn}
use Rattle.model.specs.RulesWords.{pages_in_slots, valid_pages, Evicts, Crowded, Unworn}
use Rattle.model.specs.RulesPolicy.{Way1Rule, Way2Rule, Way3Rule, VictimRule, Way4Rule, Way5Rule, Takes, ChoiceRule, ChoiceSomeRule}
use Rattle.model.specs.RulesPolicy.{FewestPages, Way6Rule, Way7Rule, Way7WornRule}
use Rattle.model.specs.RulesPolicy.{Way6AnyRule, Way7AnyRule, Way7AnyWornRule, StepFrameRule, StepAnyRule, StepSlotsRule}
use Rattle.model.specs.RulesPolicy.{StepCleanRule, CachedRule, FlushNamesRule, FlushFreeRule}
use Rattle.model.proofs.Soundness.{sound-facts, pages-small}
use Rattle.model.proofs.Lookup.{block-vacant, page-of, some-pages, block_of, own-slot}
use Rattle.model.proofs.Plan.{victim-lt, valid-ones, fewest-pick, evict-pick, evict-below, plan-1, plan-2, plan-3}
use Rattle.model.proofs.Plan.{plan-full, plan-4, plan-5, plan-6, plan-7, policy-oldest, policy-fewest, some-fewest_place}
use Rattle.model.proofs.Plan.{least-used}
use Rattle.model.proofs.RulesWords.{absent, frame_found, unfound, own-frame, no_own, of_block, block-range, counted, found-cached}
use Rattle.model.proofs.RulesWords.{fewest-le, fewest-at}

-- ---- write n: ways 1 to 5

pub way-1_rule : Way1Rule
way-1_rule pick sz d w n ok n-lt i l e = let s = sound-facts sz d ok in let p = pages-small sz s.limits in
    let q : slot_of sz d n ≡ i = ap (slot_of sz d) (sym e) ∙ own-slot sz d s i l (omega arith) in
    plan-1 pick sz d w n (omega arith) ∙ ap slot_hit q

pub way-2_rule : Way2Rule
way-2_rule pick sz d w n ok n-lt np f l v = let e = frame_found sz d ok n f l n-lt v in
    plan-2 pick sz d w n (absent sz d ok n np) (omega arith) ∙ ap frame_hit e

pub way-3_rule : Way3Rule
unfolding slot_of
way-3_rule pick sz d w n ok (np, nf) i (l, e, h) =
    let q = first-is sz.P (λ j. eqb (slot_at d j) vacant) i (omega arith) (λ j k. ne_eqb _ vacant (h j k)) (λ k. eq-eqb _ vacant e) in
    plan-3 pick sz d w n (absent sz d ok n np) (unfound sz d ok n nf) (omega arith) ∙ ap free_slot (sym q)

pub victim-rule : VictimRule
unfolding victim
victim-rule sz d n ok nowhere full = let s = sound-facts sz d ok in let l = victim-lt sz d s in
    let cv = counted sz d ok (victim sz d) l in (
      victim sz d,
      record {
        nowhere = nowhere;
        full = full;
        victim-in = l;
        most = λ b bl. let c = counted sz d ok b bl in let m = argmax-ge sz.N (slot_count sz d) b bl in omega arith;
        lowest = λ b bl. let c = counted sz d ok b (omega arith) in let m = argmax-first sz.N (slot_count sz d) b bl in omega arith;
      },
    )

module _ (pick : Choice) (sz : Sizes) (d : Directory) (w : List ℕ) (n v : ℕ) (ok : sound sz d ≡ true) (h : Evicts sz d n v) where
  victim-is : victim sz d ≡ v
  unfolding victim
  victim-is = let cv = counted sz d ok v h.victim-in in sym (leads-is sz.N (slot_count sz d) v (record {
    low = h.victim-in;
    le = λ b bl. let c = counted sz d ok b bl in let m = h.most b bl in omega arith;
    lt = λ b bl. let vl = h.victim-in in let c = counted sz d ok b (omega arith) in let m = h.lowest b bl in omega arith;
  }))

  evicts-it : plan pick sz d w n ≡ eviction_plan pick sz d w v
  evicts-it = plan-full pick sz d w n (absent sz d ok n h.nowhere.0) (unfound sz d ok n h.nowhere.1)
      (absent sz d ok vacant (λ k. h.full k.0 k.1 k.2)) ∙ ap (eviction_plan pick sz d w) victim-is

pub way-4_rule : Way4Rule
way-4_rule pick sz d w n v ok h f l e = let q = own-frame sz d ok v f h.victim-in l e in
    evicts-it pick sz d w n v ok h ∙ plan-4 pick sz d w v (omega arith) ∙ ap (join v) q

pub way-5_rule : Way5Rule
unfolding frame_of
way-5_rule pick sz d w n v ok h none f (l, e, before) =
    let q = first-is sz.B (λ g. eqb (frame_at d g) vacant) f (omega arith) (λ j k. ne_eqb _ vacant (before j k))
    (λ k. eq-eqb _ vacant e) in
    evicts-it pick sz d w n v ok h ∙ plan-5 pick sz d w v (no_own sz d ok v none) (omega arith) ∙ ap (fill v) (sym q)

-- ---- ways 6 and 7

-- where a frame has fewer pages than v, the plan exchanges with the frame chosen among those with the fewest; where none has, it evicts one
module _ (pick : Choice) (sz : Sizes) (d : Directory) (w : List ℕ) (n v : ℕ) (ok : sound sz d ≡ true) (h : Crowded sz d n v) where
  abbrev s : Sound sz d
  s = sound-facts sz d ok

  pub sixth : (g : ℕ) → g < sz.B → valid_pages d g < pages_in_slots sz d v
      → plan pick sz d w n ≡ exchange v (pick sz d (λ f. eqb (valid_count sz d f) (fewest_valid sz d)))
  sixth g gl fewer = let cv = counted sz d ok v h.evicts.victim-in in let vg = valid-ones sz d s g gl in
      let low = fewest-le sz d ok g gl in
      evicts-it pick sz d w n v ok h.evicts ∙ plan-6 pick sz d w v (no_own sz d ok v h.no-frame) (no_own sz d ok vacant h.all_held)
      (omega arith)

  pub seventh : ((f : ℕ) → f < sz.B → pages_in_slots sz d v ≤ valid_pages d f) → plan pick sz d w n ≡ evict v (evict_frame pick sz d w)
  seventh many = let at = fewest-at sz d ok in let g = at.0 in let gl = at.1 in let ge = at.2 in let vg = valid-ones sz d s g gl in
      let m = many g gl in let cv = counted sz d ok v h.evicts.victim-in in
      evicts-it pick sz d w n v ok h.evicts ∙ plan-7 pick sz d w v (no_own sz d ok v h.no-frame) (no_own sz d ok vacant h.all_held)
      (omega arith)

-- the store's choice
pub choice-rule : ChoiceRule
unfolding least_recent
choice-rule sz d ok test i t = let s = sound-facts sz d ok in let l = t.place_in in by-test (eqb sz.policy 2)
    (λ e. let two = eqb-true sz.policy 2 e in policy-fewest sz d test e ∙ sym (least-used sz d test i s.listed (record {
      best_lt = l;
      passes = t.is_open;
      fewest = λ j jl h. t.fewest two (recency_at d j) (s.listed.recency-lt j jl) h;
      earlier = t.fewer two;
    })))
    (λ e. let other = eqb-false sz.policy 2 e in policy-oldest sz d test e ∙ ap (recency_at d) (sym (first-is sz.B
    (λ k. test (recency_at d k)) i (omega arith) (λ j jl. fails (test (recency_at d j)) (t.first other j jl)) (λ k. t.is_open))))

-- a test that holds of just the open frames takes the same
module _ (sz : Sizes) (d : Directory) (ok : sound sz d ≡ true) (Open : ℕ → Type 0) (test : ℕ → Bool)
    (passes : (f : ℕ) → f < sz.B → Open f → test f ≡ true) (opens : (f : ℕ) → f < sz.B → test f ≡ true → Open f) where
  chosen : (i : ℕ) → Takes sz d Open i → policy_choice sz d test ≡ recency_at d i
  chosen i t = let lt = (sound-facts sz d ok).listed.recency-lt in let l = t.place_in in choice-rule sz d ok test i (record {
    place_in = l;
    is_open = passes _ (lt i l) t.is_open;
    first = λ e j jl h. t.first e j jl (opens _ (lt j (omega arith)) h);
    fewest = λ e g gl h. t.fewest e g gl (opens g gl h);
    fewer = λ e j jl h. t.fewer e j jl (opens _ (lt j (omega arith)) h);
  })

-- the place where the definition's scan stops
pub choice-some_rule : ChoiceSomeRule
choice-some_rule sz d ok test f l e = by-test (eqb sz.policy 2)
    (λ t. let two = eqb-true sz.policy 2 t in let h = some-fewest_place sz d test f (sound-facts sz d ok).listed l e in (
      h.0,
      record {
        place_in = h.1.best_lt;
        is_open = h.1.passes;
        first = λ n. absurd (n two);
        fewest = λ q g gl o. let k = (sound-facts sz d ok).listed.recency-has g gl in
            rw k.2 at (h.1.fewest k.0 k.1 (rw k.2 o));
        fewer = λ q. h.1.earlier;
      },
    ))
    (λ t. let other = eqb-false sz.policy 2 t in let has = (sound-facts sz d ok).listed.recency-has f l in
    let at = first-at sz.B (λ k. test (recency_at d k)) has.0 has.1 (rw has.2 e) in
    let il = has.1 in let i = first sz.B (λ k. test (recency_at d k)) in (
      i,
      record {
        place_in = omega arith;
        is_open = first-hit sz.B (λ k. test (recency_at d k)) (omega arith);
        first = λ n j jl h. clash h (first-miss sz.B (λ k. test (recency_at d k)) j jl);
        fewest = λ q. absurd (other q);
        fewer = λ q. absurd (other q);
      },
    ))

pub way-6_rule : Way6Rule
way-6_rule sz d w n v ok h i t fewer =
    let s = sound-facts sz d ok in let r = recency_at d i in let rl = s.listed.recency-lt i t.place_in in let F = fewest_valid sz d in
    let at = fewest-at sz d ok in let g = at.0 in let gl = at.1 in let ge = at.2 in let vg = valid-ones sz d s g gl in
    let q = chosen sz d ok (FewestPages sz d) (λ f. eqb (valid_count sz d f) F)
    (λ f fl o. let m = o g gl in let vf = valid-ones sz d s f fl in let low = fewest-le sz d ok f fl in eq-eqb _ F (omega arith))
    (λ f fl e k kl. let x = eqb-true (valid_count sz d f) F e in let vf = valid-ones sz d s f fl in let vk = valid-ones sz d s k kl in
    let low = fewest-le sz d ok k kl in omega arith) i t in
    sixth policy_choice sz d w n v ok h r rl fewer ∙ ap (exchange v) q

pub way-6_any_rule : Way6AnyRule
way-6_any_rule pick picks sz d w n v ok h g gl fewer = let s = sound-facts sz d ok in let F = fewest_valid sz d in
    let f = pick sz d (λ k. eqb (valid_count sz d k) F) in let p = fewest-pick sz d s pick picks f refl in let fl = p.0 in let fe = p.1 in
    let vf = valid-ones sz d s f fl in (
      f,
      fl,
      (λ k kl. let vk = valid-ones sz d s k kl in let low = fewest-le sz d ok k kl in omega arith),
      sixth pick sz d w n v ok h g gl fewer,
    )

pub way-7_rule : Way7Rule
unfolding evict_frame any_evictable evictable
way-7_rule sz d w n v ok h many i t = let s = sound-facts sz d ok in let r = recency_at d i in
    let rl = s.listed.recency-lt i t.place_in in
    let any = first-at sz.B (evictable sz d w) r rl (lt-ltb _ sz.W t.is_open) in
    let q = chosen sz d ok (Unworn sz d w) (evictable sz d w) (λ f fl o. lt-ltb _ sz.W o) (λ f fl e. ltb-true _ sz.W e) i t in
    seventh policy_choice sz d w n v ok h many
    ∙ rw (lt-ltb (first sz.B (evictable sz d w)) sz.B (omega arith)) (ap (evict v) q)

pub way-7_worn_rule : Way7WornRule
unfolding evict_frame any_evictable evictable
way-7_worn_rule sz d w n v ok h many worn i t =
    let any = fails (ltb (first sz.B (evictable sz d w)) sz.B)
    (λ a. let l = ltb-true _ sz.B a in worn _ l (ltb-true _ sz.W (first-hit sz.B (evictable sz d w) l))) in
    let q = chosen sz d ok (λ f. f < sz.B) (λ f. true) (λ f fl o. refl) (λ f fl e. fl) i t in
    seventh policy_choice sz d w n v ok h many ∙ rw any (ap (evict v) q)

pub way-7_any_rule : Way7AnyRule
way-7_any_rule pick picks sz d w n v ok h many g gl below = let s = sound-facts sz d ok in
    (evict_frame pick sz d w, evict-pick sz d s pick picks w, evict-below sz d s pick picks w g gl below, seventh pick sz d w n v ok h many)

pub way-7_any_worn_rule : Way7AnyWornRule
way-7_any_worn_rule pick picks sz d w n v ok h many worn =
    (evict_frame pick sz d w, evict-pick sz d (sound-facts sz d ok) pick picks w, seventh pick sz d w n v ok h many)

-- ---- a flush step

module _ (sz : Sizes) (d : Directory) (ok : sound sz d ≡ true) where
  abbrev s8 : Sound sz d
  s8 = sound-facts sz d ok

  is-occupied : (f : ℕ) → f < sz.B → (frame_at d f ≡ vacant → ⊥) → frame_at d f < vacant
  is-occupied f fl h = elim (s8.entries.frame-in f fl) [
    | inl e ↦ absurd (h e.0)
    | inr e ↦ block-vacant sz s8.limits (frame_at d f)
        e.0
  ]

  none-occupied : ((f : ℕ) → f < sz.B → frame_at d f ≡ vacant) → ltb (first sz.B (occupied d)) sz.B ≡ false
  unfolding occupied
  none-occupied h = fails _ (λ t. let f = first sz.B (occupied d) in let l = ltb-true f sz.B t in
      let k = ltb-true (frame_at d f) vacant (first-hit sz.B (occupied d) l) in let e = h f l in omega arith)

pub step_frame-rule : StepFrameRule
unfolding due_of occupied
step_frame-rule sz d ok i t = let s = sound-facts sz d ok in let r = recency_at d i in let rl = s.listed.recency-lt i t.place_in in
    let any = first-at sz.B (occupied d) r rl (lt-ltb _ vacant (is-occupied sz d ok r rl t.is_open)) in
    let q = chosen sz d ok (λ f. frame_at d f ≡ vacant → ⊥) (occupied d) (λ f fl o. lt-ltb _ vacant (is-occupied sz d ok f fl o))
    (λ f fl e x. let v = ltb-true (frame_at d f) vacant e in absurd (omega arith)) i t in
    rw (lt-ltb (first sz.B (occupied d)) sz.B (omega arith), due_of) (ap (λ (f : ℕ). due (frame_at d f) f) q)

pub step-any_rule : StepAnyRule
unfolding due_of occupied
step-any_rule pick picks sz d ok g gl h = let s = sound-facts sz d ok in let v = lt-ltb _ vacant (is-occupied sz d ok g gl h) in
    let p = picks sz d (occupied d) g s.listed gl v in let f = pick sz d (occupied d) in let o = ltb-true (frame_at d f) vacant p.1 in
    let any = first-at sz.B (occupied d) g gl v in
    (f, p.0, (λ e. absurd (omega arith)), rw (lt-ltb (first sz.B (occupied d)) sz.B (omega arith), due_of))

pub step-slots_rule : StepSlotsRule
unfolding due_of lowest_in_slots
step-slots_rule pick sz d ok h b bl i il e before =
    let q = first-is sz.N (λ c. ltb 0 (slot_count sz d c)) b (omega arith)
    (λ c cl. fails _ (λ t. let k = page-of sz d c (ltb-true 0 _ t) in before c k.0 cl k.1 (block-range sz d ok c k.0 k.2)))
    (λ k. lt-ltb 0 _ (some-pages sz d b i il (of_block sz d ok b i bl e))) in
    rw (none-occupied sz d ok h, due_of) (rw (lt-ltb (lowest_in_slots sz d) sz.N (omega arith)) (ap (λ (c : ℕ). due c 0) (sym q)))

pub step_clean-rule : StepCleanRule
unfolding due_of lowest_in_slots
step_clean-rule pick sz d ok h k = let none = fails (ltb (lowest_in_slots sz d) sz.N) (λ t. let l = ltb-true _ sz.N t in
    let p = page-of sz d _ (ltb-true 0 _ (first-hit sz.N (λ b. ltb 0 (slot_count sz d b)) l)) in
    let e = k p.0 p.1 in let v = (block_of sz d _ p.0 p.2).0 in omega arith) in
    rw (none-occupied sz d ok h, due_of) (rw none)

-- ---- what is cached, and which block a flush names

pub cached-rule : CachedRule
cached-rule sz d ok b bl = found-cached sz d ok b bl

pub flush-names_rule : FlushNamesRule
unfolding lowest_worn
flush-names_rule sz d ok w b bl c h low = sym (first-is sz.N (λ i. cached sz d i && leb sz.W (get_or w i 0)) b (omega arith)
    (λ j jl. fails _ (λ t. let a = low j jl ((found-cached sz d ok j (omega arith)).0 (and_l (cached sz d j) _ t)) in
    let k = leb-true sz.W (get_or w j 0) (and_r (cached sz d j) _ t) in omega arith))
    (λ k. and_i ((found-cached sz d ok b bl).1 c) (le-leb _ _ h)))

pub flush-free_rule : FlushFreeRule
unfolding lowest_worn
flush-free_rule sz d ok w low = by-test (ltb (lowest_worn sz d w) sz.N)
    (λ t. let l = ltb-true _ sz.N t in let j = lowest_worn sz d w in
    let hit = first-hit sz.N (λ i. cached sz d i && leb sz.W (get_or w i 0)) l in
    absurd (let a = low j l ((found-cached sz d ok j l).0 (and_l (cached sz d j) _ hit)) in
    let k = leb-true sz.W (get_or w j 0) (and_r (cached sz d j) _ hit) in omega arith))
    (λ t. ltb-false _ sz.N t)
