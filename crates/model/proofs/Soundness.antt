-- The soundness test and the facts of a sound record say the same.
-- the histories are checked before the proofs, so that a definition that breaks one is refused there
use Rattle.model.proofs.AuditClauses
use Rattle.model.proofs.AuditTable
use Rattle.model.proofs.AuditCells
use mathlib.Core.Path.{◌≡◌, sym}
use mathlib.Core.Logic.{◌⊎◌, inl, inr, ◌≢◌}
use mathlib.Core.Bool.{Bool, true, false, not, ◌&&◌, ◌||◌}
use Prim.Native.Nat.{ℕ, ◌*◌, ◌/◌, ◌%◌, ◌^◌, ◌≤◌, ◌<◌}
use native.Mathlib.Nat.{mul-le-mul}
use native.Mathlib.Omega.{arith}
use lib.Dec.{ltb, eqb}
use borrow.Author.Tests.{leb-true, ltb-true, ltb-false, eqb-true, eqb-false, le-leb, lt-ltb, eq-eqb, ne_eqb}
use Rattle.prelude.specs.Scan.{all, all_pairs}
use Rattle.prelude.proofs.Tests.{each, every_of, by-test, clash, and_l, and_r, or_l, or_r, or_cases, not_t, not-i}
use Rattle.prelude.proofs.Scan.{all-at, all_of, pairs-at, pairs_of, listed_at, once-has, has-once}
use Rattle.model.specs.Sizes.{Sizes, vacant, sizes_ok, is_coded, is_marked, InLimits}
use Rattle.model.specs.Directory.{Directory, slot_at, frame_at, valid_at, recency_at, inFrame}
use Rattle.model.specs.Soundness.{shape_ok, slot_ok, frame_ok, slots_differ, frames_differ, cached_once, listed_once, slot_past, framePast}
use Rattle.model.specs.Soundness.{uses_ok, sound, Shape, Entries, Listed, Counted, Sound}

-- ---- sizes

-- the test that a page with a code is whole chunks, as a fact and back
whole_of : (sz : Sizes) → (eqb sz.coded 0 || eqb (sz.S % 256) 0) ≡ true → is_coded sz ≡ true → sz.S / 256 * 256 ≡ sz.S
unfolding is_coded
whole_of sz h e = let c = eqb-true sz.coded 1 e in let m = eqb-true (sz.S % 256) 0 (rw c at h) in omega arith

whole-test : (sz : Sizes) → sz.coded ≤ 1 → (is_coded sz ≡ true → sz.S / 256 * 256 ≡ sz.S)
    → (eqb sz.coded 0 || eqb (sz.S % 256) 0) ≡ true
unfolding is_coded
whole-test sz l h = by-test (eqb sz.coded 0) (λ e. or_l _ e) (λ e. or_r (eqb sz.coded 0)
    (let c = eqb-false sz.coded 0 e in let w = h (eq-eqb sz.coded 1 (omega arith)) in eq-eqb (sz.S % 256) 0 (omega arith)))

pub limits_of : (sz : Sizes) → sizes_ok sz ≡ true → InLimits sz
unfolding sizes_ok
limits_of sz h = let e = each _ h in let e2 = e.1.1.1.1 in let e3 = e2.1.1.1.1 in let e4 = e3.1.1.1.1 in record {
  S_low = leb-true _ _ e.0;
  S_high = leb-true _ _ e.1.0;
  K_low = leb-true _ _ e.1.1.0;
  K_high = leb-true _ _ e.1.1.1.0;
  N_low = leb-true _ _ e2.0;
  N_high = leb-true _ _ e2.1.0;
  P_low = leb-true _ _ e2.1.1.0;
  P_high = leb-true _ _ e2.1.1.1.0;
  B_low = leb-true _ _ e3.0;
  B_high = leb-true _ _ e3.1.0;
  W_low = leb-true _ _ e3.1.1.0;
  W_high = leb-true _ _ e3.1.1.1.0;
  policy-high = leb-true _ _ e4.0;
  coded-high = leb-true _ _ e4.1.0;
  shelf-high = leb-true _ _ e4.1.1.0;
  marked-high = leb-true _ _ e4.1.1.1.0;
  whole = whole_of sz e4.1.1.1.1.0;
}

-- the options' tests
module _ (sz : Sizes) where
  pub coded-on : sz.coded ≡ 1 → is_coded sz ≡ true
  unfolding is_coded
  coded-on e = eq-eqb sz.coded 1 e

  pub coded-off : sz.coded ≢ 1 → is_coded sz ≡ false
  unfolding is_coded
  coded-off e = ne_eqb sz.coded 1 e

  pub marked-on : sz.marked ≡ 1 → is_marked sz ≡ true
  unfolding is_marked
  marked-on e = eq-eqb sz.marked 1 e

  pub marked-off : sz.marked ≢ 1 → is_marked sz ≡ false
  unfolding is_marked
  marked-off e = ne_eqb sz.marked 1 e

pub limits-test : (sz : Sizes) → InLimits sz → sizes_ok sz ≡ true
unfolding sizes_ok
limits-test sz h = every_of _ (
  le-leb _ _ h.S_low,
  (
    le-leb _ _ h.S_high,
    (
      le-leb _ _ h.K_low,
      (
        le-leb _ _ h.K_high,
        (
          le-leb _ _ h.N_low,
          (
            le-leb _ _ h.N_high,
            (
              le-leb _ _ h.P_low,
              (
                le-leb _ _ h.P_high,
                (
                  le-leb _ _ h.B_low,
                  (
                    le-leb _ _ h.B_high,
                    (
                      le-leb _ _ h.W_low,
                      (
                        le-leb _ _ h.W_high,
                        (
                          le-leb _ _ h.policy-high,
                          (
                            le-leb _ _ h.coded-high,
                            (le-leb _ _ h.shelf-high, (le-leb _ _ h.marked-high, (whole-test sz h.coded-high h.whole, tt))),
                          ),
                        ),
                      ),
                    ),
                  ),
                ),
              ),
            ),
          ),
        ),
      ),
    ),
  ),
)

-- every page number is below vacant
pub pages-small : (sz : Sizes) → InLimits sz → sz.N * sz.K < vacant
pages-small sz h = let a : sz.N * sz.K ≤ 4096 * 64 = mul-le-mul h.N_high h.K_high in omega arith

pub K_pos : (sz : Sizes) → InLimits sz → 0 < sz.K
K_pos sz h = let k = h.K_low in omega arith

-- the buffers' lengths are small
module _ (sz : Sizes) (h : InLimits sz) where
  pub flash-small : sz.N * sz.K * sz.S ≤ 536870912
  flash-small = let a : sz.N * sz.K ≤ 4096 * 64 = mul-le-mul h.N_high h.K_high in
      let b : sz.N * sz.K * sz.S ≤ 4096 * 64 * 2048 = mul-le-mul a h.S_high in omega arith

  pub pspace-small : sz.P * sz.S ≤ 262144
  pspace-small = let a : sz.P * sz.S ≤ 128 * 2048 = mul-le-mul h.P_high h.S_high in omega arith

  pub frames_small : sz.B * sz.K ≤ 512
  frames_small = let a : sz.B * sz.K ≤ 8 * 64 = mul-le-mul h.B_high h.K_high in omega arith

  pub bspace-small : sz.B * sz.K * sz.S ≤ 1048576
  bspace-small = let a : sz.B * sz.K * sz.S ≤ 512 * 2048 = mul-le-mul frames_small h.S_high in omega arith

-- ---- two of a list of distinct entries

apart : (n : ℕ) (g : ℕ → ℕ) → ((i j : ℕ) → i < j → j < n → (g j ≡ vacant) ⊎ (g i ≡ g j → ⊥)) → (i j : ℕ) → i < n → j < n → g i < vacant
    → g i ≡ g j → i ≡ j
apart n g f i j il jl v e = by-test (ltb i j)
    (λ a. absurd (elim (f i j (ltb-true i j a) jl) [ inl h ↦ omega arith | inr h ↦ h e ]))
    (λ a. by-test (ltb j i)
    (λ b. absurd (elim (f j i (ltb-true j i b) il) [ inl h ↦ omega arith | inr h ↦ h (sym e) ]))
    (λ b. let x = ltb-false i j a in let y = ltb-false j i b in omega arith))

-- vacant, or the test
vacant-or : (x : ℕ) (t : Bool) → (eqb x vacant || t) ≡ true → (x ≡ vacant) ⊎ (t ≡ true)
vacant-or x t h = elim (or_cases (eqb x vacant) t h) [ inl e ↦ inl (eqb-true x vacant e) | inr e ↦ inr e ]

differ : (x y : ℕ) → (eqb y vacant || not (eqb x y)) ≡ true → (y ≡ vacant) ⊎ (x ≡ y → ⊥)
differ x y h = elim (vacant-or y (not (eqb x y)) h) [ inl e ↦ inl e | inr e ↦ inr (eqb-false x y (not_t e)) ]

differ-test : (x y : ℕ) → ((y ≡ vacant) ⊎ (x ≡ y → ⊥)) → (eqb y vacant || not (eqb x y)) ≡ true
differ-test x y h = elim h [ inl e ↦ or_l _ (eq-eqb y vacant e) | inr e ↦ or_r (eqb y vacant) (not-i (ne_eqb x y e)) ]

module _ (sz : Sizes) (d : Directory) where
  -- ---- from the test to the facts

  shape-facts : shape_ok d ≡ true → Shape d
  unfolding shape_ok
  shape-facts h = let e = each _ h in record {
    slots_length = eqb-true _ _ e.0;
    frames-length = eqb-true _ _ e.1.0;
    valid-length = eqb-true _ _ e.1.1.0;
    recency-length = eqb-true _ _ e.1.1.1.0;
    uses-length = eqb-true _ _ e.1.1.1.1.0;
  }

  frame-facts : (f : ℕ) → frame_ok sz d f ≡ true
      → ((frame_at d f ≡ vacant) × (valid_at d f ≡ 0)) ⊎ ((frame_at d f < sz.N) × (0 < valid_at d f) × (valid_at d f < 2 ^ sz.K))
  unfolding frame_ok
  frame-facts f h =
      let p = eqb (frame_at d f) vacant in let q = eqb (valid_at d f) 0 in
      let a = ltb (frame_at d f) sz.N in let b = ltb 0 (valid_at d f) in let c = ltb (valid_at d f) (2 ^ sz.K) in
      elim (or_cases (p && q) ((a && b) && c) h) [
        | inl e ↦ inl (eqb-true _ _ (and_l p q e), eqb-true _ _ (and_r p q e))
        | inr e ↦ let ab = and_l (a && b) c e in inr (
          ltb-true _ _ (and_l a b ab),
          ltb-true _ _ (and_r a b ab),
          ltb-true _ _ (and_r (a && b) c e),
        )
      ]

  past-facts : (f : ℕ) → sz.B ≤ f → framePast sz d f ≡ true → (frame_at d f ≡ vacant) × (valid_at d f ≡ 0) × (recency_at d f ≡ f)
  unfolding framePast
  past-facts f l h =
      let a = eqb (frame_at d f) vacant in let b = eqb (valid_at d f) 0 in let c = eqb (recency_at d f) f in
      elim (or_cases (ltb f sz.B) ((a && b) && c) h) [
        | inl e ↦ absurd (let w = ltb-true f sz.B e in omega arith)
        | inr e ↦ let ab = and_l (a && b) c e in (
          eqb-true _ _ (and_l a b ab),
          eqb-true _ _ (and_r a b ab),
          eqb-true _ _ (and_r (a && b) c e),
        )
      ]

  entries-facts : all sz.P (slot_ok sz d) ≡ true → all sz.B (frame_ok sz d) ≡ true → all_pairs sz.P (slots_differ sz d) ≡ true
      → all_pairs sz.B (frames_differ sz d) ≡ true → all sz.P (λ i. all sz.B (cached_once sz d i)) ≡ true → Entries sz d
  unfolding slot_ok slots_differ frames_differ cached_once
  entries-facts so fo sd fd co = record {
    slot-in = λ i l. elim (vacant-or (slot_at d i) (ltb (slot_at d i) (sz.N * sz.K)) (all-at sz.P (slot_ok sz d) so i l))
        [ inl e ↦ inl e | inr e ↦ inr (ltb-true _ _ e) ];
    slots_apart = apart sz.P (slot_at d) (λ i j il jl. differ (slot_at d i) (slot_at d j)
        (pairs-at sz.P (slots_differ sz d) sd i j il jl));
    frame-in = λ f l. frame-facts f (all-at sz.B (frame_ok sz d) fo f l);
    frames-apart = apart sz.B (frame_at d) (λ f g fl gl. differ (frame_at d f) (frame_at d g)
        (pairs-at sz.B (frames_differ sz d) fd f g fl gl));
    once = λ i f il fl v q. elim (vacant-or (slot_at d i) (not (inFrame sz d (slot_at d i) f))
        (all-at sz.B (cached_once sz d i) (all-at sz.P (λ k. all sz.B (cached_once sz d k)) co i il) f fl)) [
          | inl e ↦ omega arith
          | inr e ↦ clash q (not_t e)
        ];
  }

  listed-facts : all sz.B (listed_once sz d) ≡ true → Listed sz d
  unfolding listed_once
  listed-facts h = let has = once-has sz.B (recency_at d) h in
      record { recency-lt = λ i l. (listed_at sz.B (recency_at d) has i l).0; recency-has = has }

  counted-facts : all 8 (uses_ok sz d) ≡ true → Counted d
  unfolding uses_ok
  counted-facts h = record {
    none = λ f l e. eqb-true _ _ (rw (eq-eqb (frame_at d f) vacant e) at (all-at 8 (uses_ok sz d) h f l));
    some = λ f l e. ltb-true 0 _ (rw (ne_eqb (frame_at d f) vacant e) at (all-at 8 (uses_ok sz d) h f l));
  }

  pub sound-facts : sound sz d ≡ true → Sound sz d
  unfolding sound slot_past
  sound-facts h =
      let e0 = each _ h in let e1 = e0.1 in let e2 = e1.1 in let e3 = e2.1 in let e4 = e3.1 in
      let e5 = e4.1 in let e6 = e5.1 in let e7 = e6.1 in let e8 = e7.1 in let e9 = e8.1 in let e10 = e9.1 in
      record {
        limits = limits_of sz e0.0;
        shape = shape-facts e1.0;
        entries = entries-facts e2.0 e3.0 e4.0 e5.0 e6.0;
        listed = listed-facts e7.0;
        past = record {
          slot-past = λ i l k. eqb-true _ _ (elim (or_cases (ltb i sz.P) (eqb (slot_at d i) vacant)
              (all-at 128 (slot_past sz d) e8.0 i k)) [ inl e ↦ absurd (let w = ltb-true i sz.P e in omega arith) | inr e ↦ e ]);
          frame_past = λ f l k. past-facts f l (all-at 8 (framePast sz d) e9.0 f k);
        };
        counted = counted-facts e10.0;
      }

  -- ---- and back

  module _ (s : Sound sz d) where
    slot-test : (i : ℕ) → i < sz.P → slot_ok sz d i ≡ true
    unfolding slot_ok
    slot-test i l = elim (s.entries.slot-in i l) [ inl e ↦ or_l _ (eq-eqb _ _ e) | inr e ↦ or_r (eqb (slot_at d i) vacant) (lt-ltb _ _ e) ]

    frame-test : (f : ℕ) → f < sz.B → frame_ok sz d f ≡ true
    unfolding frame_ok
    frame-test f l = elim (s.entries.frame-in f l) [
      | inl e ↦ rw (eq-eqb _ _ e.0, eq-eqb _ _ e.1)
      | inr e ↦ or_r (eqb (frame_at d f) vacant && eqb (valid_at d f) 0) (rw (lt-ltb _ _ e.0, lt-ltb _ _ e.1, lt-ltb _ _ e.2))
    ]

    slot-below : (i : ℕ) → i < sz.P → (slot_at d i ≡ vacant) ⊎ (slot_at d i < vacant)
    slot-below i l = elim (s.entries.slot-in i l) [ inl e ↦ inl e | inr e ↦ inr (let p = pages-small sz s.limits in omega arith) ]

    frame_below : (f : ℕ) → f < sz.B → (frame_at d f ≡ vacant) ⊎ (frame_at d f < vacant)
    frame_below f l = elim (s.entries.frame-in f l) [
      | inl e ↦ inl e.0
      | inr e ↦
          inr (let n = s.limits.N_high in let q = e.0 in omega arith)
    ]

    slots-test : (i j : ℕ) → i < j → j < sz.P → slots_differ sz d i j ≡ true
    unfolding slots_differ
    slots-test i j il jl = differ-test (slot_at d i) (slot_at d j) (elim (slot-below j jl) [
      | inl e ↦ inl e
      | inr e ↦ inr (λ q. let w = s.entries.slots_apart j i jl (omega arith) e (sym q) in omega arith)
    ])

    frames-test : (f g : ℕ) → f < g → g < sz.B → frames_differ sz d f g ≡ true
    unfolding frames_differ
    frames-test f g fl gl = differ-test (frame_at d f) (frame_at d g) (elim (frame_below g gl) [
      | inl e ↦ inl e
      | inr e ↦ inr (λ q. let w = s.entries.frames-apart g f gl (omega arith) e (sym q) in omega arith)
    ])

    once-test : (i f : ℕ) → i < sz.P → f < sz.B → cached_once sz d i f ≡ true
    unfolding cached_once
    once-test i f il fl = elim (slot-below i il) [
      | inl e ↦ or_l _ (eq-eqb _ _ e)
      | inr e ↦ or_r (eqb (slot_at d i) vacant) (not-i (by-test (inFrame sz d (slot_at d i) f) (λ q. absurd (s.entries.once i f il fl e q))
          (λ q. q)))
    ]

    listed-test : all sz.B (listed_once sz d) ≡ true
    unfolding listed_once
    listed-test = has-once sz.B (recency_at d) s.listed.recency-has

    slot_past-test : (i : ℕ) → i < 128 → slot_past sz d i ≡ true
    unfolding slot_past
    slot_past-test i l = by-test (ltb i sz.P) (λ e. or_l _ e) (λ e. or_r (ltb i sz.P)
        (eq-eqb _ _ (s.past.slot-past i (ltb-false i sz.P e) l)))

    frame_past-test : (f : ℕ) → f < 8 → framePast sz d f ≡ true
    unfolding framePast
    frame_past-test f l = by-test (ltb f sz.B) (λ e. or_l _ e) (λ e. let q = s.past.frame_past f (ltb-false f sz.B e) l in
        or_r (ltb f sz.B) (rw (eq-eqb _ _ q.0, eq-eqb _ _ q.1, eq-eqb _ _ q.2)))

    shape-test : shape_ok d ≡ true
    unfolding shape_ok
    shape-test = let h = s.shape in every_of _ (
      eq-eqb _ _ h.slots_length,
      (
        eq-eqb _ _ h.frames-length,
        (
          eq-eqb _ _ h.valid-length,
          (eq-eqb _ _ h.recency-length, (eq-eqb _ _ h.uses-length, tt)),
        ),
      ),
    )

    uses-test : (f : ℕ) → f < 8 → uses_ok sz d f ≡ true
    unfolding uses_ok
    uses-test f l = by-test (eqb (frame_at d f) vacant)
        (λ e. rw e (eq-eqb _ 0 (s.counted.none f l (eqb-true _ vacant e))))
        (λ e. rw e (lt-ltb 0 _ (s.counted.some f l (eqb-false _ vacant e))))

    pub facts-sound : sound sz d ≡ true
    unfolding sound
    facts-sound = every_of _ (
      limits-test sz s.limits,
      (
        shape-test,
        (
          all_of sz.P (slot_ok sz d) slot-test,
          (
            all_of sz.B (frame_ok sz d) frame-test,
            (
              pairs_of sz.P (slots_differ sz d) slots-test,
              (
                pairs_of sz.B (frames_differ sz d) frames-test,
                (
                  all_of sz.P (λ i. all sz.B (cached_once sz d i)) (λ i il. all_of sz.B (cached_once sz d i)
                      (λ f fl. once-test i f il fl)),
                  (
                    listed-test,
                    (
                      all_of 128 (slot_past sz d) slot_past-test,
                      (
                        all_of 8 (framePast sz d) frame_past-test,
                        (all_of 8 (uses_ok sz d) uses-test, tt),
                      ),
                    ),
                  ),
                ),
              ),
            ),
          ),
        ),
      ),
    )
