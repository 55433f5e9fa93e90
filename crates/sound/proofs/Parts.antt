-- What a turn of the soundness test's loops adds.
use mathlib.Core.Path.{◌≡◌, refl, sym, ap, ◌∙◌}
use mathlib.Core.Logic.{◌≢◌, inl, inr}
use mathlib.Core.Bool.{Bool, true, false, not, ◌&&◌, ◌||◌, and_assoc, and-true}
use mathlib.Core.List.{List}
use Prim.Native.Nat.{ℕ, ◌+◌, ◌*◌, ◌/◌, ◌%◌, ◌<◌}
use native.Mathlib.Nat.{div-add-mod', mod-lt, div-lt_iff_lt-mul}
use native.Mathlib.Omega.{arith}
use lib.Dec.{ltb, leb, eqb}
use lib.ListN.{length, get_or}
use borrow.Author.Tests.{ltb-true, ltb-false, leb-true, leb-false, eqb-true, eqb-false, lt-ltb, le-ltb, le-leb, lt-leb, eq-eqb, ne_eqb}
use Rattle.prelude.specs.Bits.{bit, with_bit, first_bits}
use Rattle.prelude.specs.Scan.{all}
use Rattle.prelude.proofs.Tests.{by-test, clash, and_l, and_r, and_i, or_l, or_r, not-i}
use Rattle.prelude.proofs.Scan.{all-at, all_of, all_none, all_more, all-or}
use Rattle.prelude.proofs.Bits.{bit-with_same, bit-with_other, first-test}
use Rattle.model.specs.Sizes.{Sizes, InLimits, vacant}
use Rattle.model.specs.Directory.{Directory, slot_at, frame_at, valid_at, inFrame}
use Rattle.model.specs.Soundness.{slot_ok, frame_ok, slots_differ, cached_once}
use Rattle.model.proofs.Soundness.{K_pos}
use Rattle.filter.specs.Filter.{in_filter, laid_at}
use Rattle.filter.specs.Passed.{Unmet, Passed}
use Rattle.sound.specs.Soundness.{slot_good, Laid}
use Rattle.filter.proofs.Marks.{laid-keeps, laid-has}

spread : (a t u v : Bool) → (a || ((t && u) && v)) ≡ ((a || t) && ((a || u) && (a || v)))
spread true t u v = refl
spread false t u v = and_assoc t u v

-- ---- blocks that differ

module _ (l : List ℕ) where
  -- frame g differs from each before it
  abbrev pub apart : ℕ → Bool
  apart g = all g (λ e. eqb (get_or l g 0) vacant || not (eqb (get_or l e 0) (get_or l g 0)))

  -- the frames below f are compared, with ok as the answer, and met has the remainders of their blocks
  pub record Compared (f met : ℕ) (ok : Bool) : Type 0 where
    pub marked : (e : ℕ) → e < f → get_or l e 0 ≢ vacant → bit met (get_or l e 0 % 64) ≡ true
    pub answer : ok ≡ all f apart

  pub compared_none : Compared 0 0 true
  compared_none = record { marked = λ e k q. absurd (omega arith); answer = sym (all_none apart) }

  module _ (f met : ℕ) (ok : Bool) (h : Compared f met ok) where
    pub compared_vacant : vacant ≡ get_or l f 0 → Compared (f + 1) met ok
    compared_vacant v = record {
      marked = λ e k q. h.marked e (by-test (eqb e f) (λ t. let n = eqb-true e f t in absurd (q (ap (λ (x : ℕ). get_or l x 0) n ∙ sym v)))
          (λ t. let n = eqb-false e f t in omega arith)) q;
      answer = let alone : apart f ≡ true = all_of f _ (λ e k. or_l _ (eq-eqb (get_or l f 0) vacant (sym v))) in
          all_more apart f h.answer (sym (ap (λ (x : Bool). ok && x) alone ∙ and-true ok));
    }

    marked_more : (e : ℕ) → e < f + 1 → get_or l e 0 ≢ vacant → bit (with_bit met (get_or l f 0 % 64)) (get_or l e 0 % 64) ≡ true
    marked_more e k q = by-test (eqb (get_or l f 0 % 64) (get_or l e 0 % 64))
        (λ t. rw (← (eqb-true (get_or l f 0 % 64) (get_or l e 0 % 64) t)) (bit-with_same met (get_or l f 0 % 64)))
        (λ t. let ne = eqb-false (get_or l f 0 % 64) (get_or l e 0 % 64) t in bit-with_other met (get_or l f 0 % 64) (get_or l e 0 % 64) ne
        ∙ h.marked e (by-test (eqb e f) (λ u. absurd (ne (ap (λ (x : ℕ). get_or l x 0 % 64) (sym (eqb-true e f u)))))
        (λ u. let n = eqb-false e f u in omega arith)) q)

    module _ (page : get_or l f 0 ≢ vacant) where
      differs : (t : Bool) → t ≡ all f (λ e. not (eqb (get_or l e 0) (get_or l f 0))) → t ≡ apart f
      differs t e = e ∙ all-or f false _ ∙ ap (λ (a : Bool). all f (λ e. a || not (eqb (get_or l e 0) (get_or l f 0))))
          (sym (ne_eqb (get_or l f 0) vacant page))

      pub compared_with : (t : Bool) → t ≡ all f (λ e. not (eqb (get_or l e 0) (get_or l f 0)))
          → Compared (f + 1) (with_bit met (get_or l f 0 % 64)) (ok && t)
      compared_with t e = record { marked = marked_more; answer = all_more apart f h.answer (ap (λ (x : Bool). ok && x) (differs t e)) }

      -- its remainder is met for the first time
      pub compared_new : bit met (get_or l f 0 % 64) ≡ false → Compared (f + 1) (with_bit met (get_or l f 0 % 64)) ok
      compared_new clear = rw (← (and-true ok)) (compared_with true (sym (all_of f _ (λ e k. not-i (ne_eqb (get_or l e 0) (get_or l f 0)
          (λ q. clash (sym (ap (λ (x : ℕ). bit met (x % 64)) q) ∙ h.marked e k (λ v. page (sym q ∙ v))) clear))))))

module _ (sz : Sizes) (d : Directory) where
  -- ---- frames

  module _ (f : ℕ) where
    pub vacant-ok : frame_at d f ≡ vacant → valid_at d f ≡ 0 → frame_ok sz d f ≡ true
    unfolding frame_ok
    vacant-ok e q = rw (eq-eqb (frame_at d f) vacant e, eq-eqb (valid_at d f) 0 q)

    pub vacant-with : InLimits sz → frame_at d f ≡ vacant → valid_at d f ≢ 0 → frame_ok sz d f ≡ false
    unfolding frame_ok
    vacant-with h e q = let n = h.N_high in rw (
      eq-eqb (frame_at d f) vacant e,
      ne_eqb (valid_at d f) 0 q,
      le-ltb (frame_at d f) sz.N (omega arith),
    )

    -- a frame that holds a number: what is wrong with it
    pub held_test : frame_at d f ≢ vacant → ((leb sz.N (frame_at d f) || eqb (valid_at d f) 0) || ltb (first_bits sz.K) (valid_at d f))
        ≡ not (frame_ok sz d f)
    unfolding frame_ok
    held_test ne = rw (ne_eqb (frame_at d f) vacant ne) (let x = frame_at d f in let v = valid_at d f in by-test (ltb x sz.N)
        (λ a. let i = ltb-true x sz.N a in by-test (ltb 0 v)
        (λ b. let j = ltb-true 0 v b in let q : v ≢ 0 = λ z. absurd (omega arith) in by-test (leb v (first_bits sz.K))
        (λ c. let k = leb-true v (first_bits sz.K) c in rw (
          a,
          b,
          ← first-test v sz.K,
          c,
          lt-leb sz.N x i,
          ne_eqb v 0 q,
          le-ltb (first_bits sz.K) v k,
        ))
        (λ c. let k = leb-false v (first_bits sz.K) c in rw (
          a,
          b,
          ← first-test v sz.K,
          c,
          lt-leb sz.N x i,
          ne_eqb v 0 q,
          lt-ltb (first_bits sz.K) v k,
        )))
        (λ b. let j = ltb-false 0 v b in let q : v ≡ 0 = omega arith in rw (a, b, lt-leb sz.N x i, eq-eqb v 0 q)))
        (λ a. rw (a, le-leb sz.N x (ltb-false x sz.N a))))

  -- a vacant frame's valid pages need not go into the filter: a sound record has none
  pub laid-skip : (f : ℕ) (seen : List ℕ) → frame_at d f ≡ vacant → Laid sz d f seen → Laid sz d (f + 1) seen
  laid-skip f seen e h g o l ol small q = by-test (eqb g f)
      (λ t. let r : frame_at d f < 4096 = (rw (eqb-true g f t) at small) in absurd (omega arith))
      (λ t. h g o (let ne = eqb-false g f t in omega arith) ol small q)

  pub laid_more : (f : ℕ) (seen : List ℕ) (first : ℕ) → first ≡ frame_at d f * sz.K → length seen ≡ 64 → Laid sz d f seen
      → Laid sz d (f + 1) (laid_at seen first (valid_at d f))
  laid_more f seen first is long h g o l ol small q = by-test (eqb g f)
      (λ t. let e = eqb-true g f t in
      ap (λ (x : ℕ). in_filter (laid_at seen first (valid_at d f)) (x + o)) (ap (λ (x : ℕ). frame_at d x * sz.K) e ∙ sym is)
      ∙ laid-has seen first (valid_at d f) long o ol (rw e at q))
      (λ t. laid-keeps seen first (valid_at d f) long (frame_at d g * sz.K + o)
      (h g o (let ne = eqb-false g f t in omega arith) ol small q))

  -- ---- slots

  -- a slot compared with each slot before it and each frame
  pub slot-compared : (j : ℕ)
      → (eqb (slot_at d j) vacant || ((ltb (slot_at d j) (sz.N * sz.K) && all j (λ i. not (eqb (slot_at d i) (slot_at d j))))
      && all sz.B (λ f. not (inFrame sz d (slot_at d j) f))))
      ≡ slot_good sz d j
  unfolding slot_good slot_ok slots_differ cached_once
  slot-compared j = let a = eqb (slot_at d j) vacant in
      spread a (ltb (slot_at d j) (sz.N * sz.K)) (all j (λ i. not (eqb (slot_at d i) (slot_at d j))))
      (all sz.B (λ f. not (inFrame sz d (slot_at d j) f)))
      ∙ rw (all-or j a (λ i. not (eqb (slot_at d i) (slot_at d j))), all-or sz.B a (λ f. not (inFrame sz d (slot_at d j) f)))

  -- the slots below j are as they should be, and the filter has their page numbers beside the frames' valid pages
  pub record Tested (j : ℕ) (seen : List ℕ) : Type 0 where
    pub good : all j (slot_good sz d) ≡ true
    pub long : length seen ≡ 64
    pub laid : Laid sz d sz.B seen
    pub marked : (e : ℕ) → e < j → slot_at d e < sz.N * sz.K → in_filter seen (slot_at d e) ≡ true

  pub tested-more : (j : ℕ) (seen : List ℕ) → Tested j seen → slot_good sz d j ≡ true
      → (slot_at d j < sz.N * sz.K → in_filter seen (slot_at d j) ≡ true) → Tested (j + 1) seen
  tested-more j seen h g m = record {
    good = sym (all_more (slot_good sz d) j (sym h.good) (sym g));
    long = h.long;
    laid = h.laid;
    marked = λ e l q. by-test (eqb e j)
        (λ t. let k = eqb-true e j t in rw k (m (rw k at q)))
        (λ t. h.marked e (let k = eqb-false e j t in omega arith) q);
  }

  module _ (limits : InLimits sz) where
    -- a page that the filter has not is valid in no frame
    outside-frames : (seen : List ℕ) → Laid sz d sz.B seen → (y : ℕ) → y < sz.N * sz.K → in_filter seen y ≡ false → (f : ℕ) → f < sz.B
        → not (inFrame sz d y f) ≡ true
    unfolding inFrame
    outside-frames seen h y small clear f l = not-i (by-test (inFrame sz d y f)
        (λ t.
        let at : frame_at d f ≡ y / sz.K = eqb-true _ _ (and_l (eqb (frame_at d f) (y / sz.K)) (bit (valid_at d f) (y % sz.K)) t) in
        let low = mod-lt y (K_pos sz limits) in
        let kh = limits.K_high in
        let nh = limits.N_high in
        let block : y / sz.K < sz.N = (div-lt_iff_lt-mul (K_pos sz limits)).1 small in
        let same : frame_at d f * sz.K + y % sz.K ≡ y = rw at (div-add-mod' y sz.K) in
        clash (sym (ap (in_filter seen) same) ∙ h f (y % sz.K) l (omega arith) (omega arith)
        (and_r (eqb (frame_at d f) (y / sz.K)) (bit (valid_at d f) (y % sz.K)) t)) clear)
        (λ t. t))

    -- a slot that the filter has let pass
    unmet-good : (i : ℕ) (seen : List ℕ) → Tested i seen → (j : ℕ) → Unmet (sz.N * sz.K) d.slots i seen j → slot_good sz d j ≡ true
    unmet-good i seen h j (inl v) = sym (slot-compared j) ∙ or_l _ (eq-eqb (slot_at d j) vacant v)
    unmet-good i seen h j (inr u) = sym (slot-compared j) ∙ or_r (eqb (slot_at d j) vacant) (and_i
        (and_i (lt-ltb _ _ u.0) (all_of j (λ e. not (eqb (slot_at d e) (slot_at d j)))
        (λ e l. not-i (ne_eqb (slot_at d e) (slot_at d j) (λ q. by-test (ltb e i)
        (λ t. clash (sym (ap (in_filter seen) q) ∙ h.marked e (ltb-true e i t) (rw q u.0)) u.1)
        (λ t. u.2 e (ltb-false e i t) l q))))))
        (all_of sz.B (λ f. not (inFrame sz d (slot_at d j) f)) (outside-frames seen h.laid (slot_at d j) u.0 u.1)))

    -- all of them, up to j
    pub tested-passed : (i j : ℕ) (seen next : List ℕ) → Tested i seen → Passed (sz.N * sz.K) d.slots i j seen next → Tested j next
    tested-passed i j seen next h p = record {
      good = all_of j (slot_good sz d) (λ e l. by-test (ltb e i)
          (λ t. all-at i (slot_good sz d) h.good e (ltb-true e i t))
          (λ t. let k = ltb-false e i t in unmet-good i seen h e (p.unmet e k l)));
      long = p.long;
      laid = λ f o l ol small q. p.kept _ (h.laid f o l ol small q);
      marked = λ e l q. by-test (ltb e i)
          (λ t. p.kept _ (h.marked e (ltb-true e i t) q))
          (λ t. p.marked e (ltb-false e i t) l q);
    }
