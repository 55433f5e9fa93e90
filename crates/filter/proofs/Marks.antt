-- Laws of the filter: what it has it keeps, and what goes in it has.
use mathlib.Core.Path.{◌≡◌, refl, sym, ap, ◌∙◌}
use mathlib.Core.Logic.{inl, inr}
use mathlib.Core.Bool.{true, false}
use mathlib.Core.List.{List}
use Prim.Native.Nat.{ℕ, ◌+◌, ◌-◌, ◌*◌, ◌/◌, ◌%◌, ◌^◌, ◌≤◌, ◌<◌}
use native.Mathlib.Omega.{arith}
use lib.Bits.{bit_or}
use lib.Dec.{ltb, eqb}
use lib.ListN.{length, length-set, get_or, set}
use lib.Seq.{get_or-set_same, get_or-set_other}
use borrow.Author.Tests.{ltb-true, ltb-false, eqb-true, eqb-false}
use Rattle.prelude.specs.Bits.{bit, with_bit}
use Rattle.prelude.proofs.Tests.{by-test, clash, or_l, or_r}
use Rattle.prelude.proofs.Bits.{bit-or, bit-one, or_with, shl_bit, shr_bit}
use Rattle.model.specs.Sizes.{vacant}
use Rattle.filter.specs.Filter.{in_filter, or_at, laid_at}
use Rattle.filter.specs.Passed.{Unmet, Passed}

-- ---- a word that takes more bits

module _ (seen : List ℕ) (w m : ℕ) (long : length seen ≡ 64) where
  or_length : length (or_at seen w m) ≡ 64
  or_length = simp length-set long

  or_keeps : (x : ℕ) → in_filter seen x ≡ true → in_filter (or_at seen w m) x ≡ true
  or_keeps x h = by-test (eqb (x % 4096 / 64) w)
      (λ t. let e = eqb-true (x % 4096 / 64) w t in let l : w < length seen = omega arith in
      rw (e, get_or-set_same seen w (bit_or (get_or seen w 0) m) 0 l) (bit-or (get_or seen w 0) m (x % 64) ∙ or_l _ (rw e at h)))
      (λ t. rw (get_or-set_other seen w (x % 4096 / 64) (bit_or (get_or seen w 0) m) 0 (eqb-false (x % 4096 / 64) w t)) h)

  or_marks : (x : ℕ) → x % 4096 / 64 ≡ w → bit m (x % 64) ≡ true → in_filter (or_at seen w m) x ≡ true
  or_marks x e h = let l : w < length seen = omega arith in
      rw (e, get_or-set_same seen w (bit_or (get_or seen w 0) m) 0 l)
      (bit-or (get_or seen w 0) m (x % 64) ∙ or_r (bit (get_or seen w 0) (x % 64)) h)

-- ---- one number goes in

abbrev pub put_in : List ℕ → ℕ → List ℕ
put_in seen x = set seen (x % 4096 / 64) (with_bit (get_or seen (x % 4096 / 64) 0) (x % 64))

module _ (seen : List ℕ) (x : ℕ) (long : length seen ≡ 64) where
  put-or : put_in seen x ≡ or_at seen (x % 4096 / 64) (2 ^ (x % 64))
  put-or = ap (set seen (x % 4096 / 64)) (sym (or_with (get_or seen (x % 4096 / 64) 0) (x % 64)))

  pub put-length : length (put_in seen x) ≡ 64
  put-length = simp length-set long

  pub put_keeps : (y : ℕ) → in_filter seen y ≡ true → in_filter (put_in seen x) y ≡ true
  put_keeps y h = rw put-or (or_keeps seen (x % 4096 / 64) (2 ^ (x % 64)) long y h)

  pub put_has : in_filter (put_in seen x) x ≡ true
  put_has = rw put-or (or_marks seen (x % 4096 / 64) (2 ^ (x % 64)) long x refl (bit-one (x % 64)))

-- ---- a set goes in from x on: m in word w, and what does not fit there, n, in the next word u

module _ (seen : List ℕ) (x v : ℕ) (long : length seen ≡ 64) where
  abbrev w : ℕ
  w = x % 4096 / 64

  abbrev m : ℕ
  m = v * 2 ^ (x % 64) % 2 ^ 64

  abbrev u : ℕ
  u = (x % 4096 / 64 + 1) % 64

  abbrev n : ℕ
  n = v / 2 ^ 1 / 2 ^ (63 - x % 64)

  first-long : length (or_at seen w m) ≡ 64
  first-long = or_length seen w m long

  pub laid-length : length (laid_at seen x v) ≡ 64
  laid-length = or_length (or_at seen w m) u n first-long

  pub laid-keeps : (y : ℕ) → in_filter seen y ≡ true → in_filter (laid_at seen x v) y ≡ true
  laid-keeps y h = or_keeps (or_at seen w m) u n first-long y (or_keeps seen w m long y h)

  pub laid-has : (o : ℕ) → o < 64 → bit v o ≡ true → in_filter (laid_at seen x v) (x + o) ≡ true
  laid-has o l h = by-test (ltb (x % 64 + o) 64)
      (λ t. let s = ltb-true (x % 64 + o) 64 t in let e : (x + o) % 64 ≡ x % 64 + o = omega arith in
      or_keeps (or_at seen w m) u n first-long (x + o) (or_marks seen w m long (x + o) (omega arith) (rw (e, shl_bit v (x % 64) o s) h)))
      (λ t. let s = ltb-false (x % 64 + o) 64 t in let e : (x + o) % 64 ≡ x % 64 + o - 64 = omega arith in
      or_marks (or_at seen w m) u n first-long (x + o) (omega arith) (rw (e, shr_bit v (x % 64) o (omega arith) s) h))

-- ---- slots passed one by one

module _ (end : ℕ) (s : List ℕ) (i : ℕ) (seen : List ℕ) where
  module _ (j : ℕ) (next : List ℕ) (h : Passed end s i j seen next) where
    -- the last of the slots below j + 1, or one before
    last : {X : ℕ → Type 0} → ((e : ℕ) → i ≤ e → e < j → X e) → X j → (e : ℕ) → i ≤ e → e < j + 1 → X e
    last {X} f x e a b = by-test (eqb e j) (λ t. rw (eqb-true e j t) x) (λ t. f e a (let ne = eqb-false e j t in omega arith))

    pub passed-vacant : end ≤ get_or s j 0 → get_or s j 0 ≡ vacant → Passed end s i (j + 1) seen next
    passed-vacant past v = record {
      low = let l = h.low in omega arith;
      long = h.long;
      kept = h.kept;
      unmet = last {X = Unmet end s i seen} h.unmet (inl v);
      marked = last {X = λ e. get_or s e 0 < end → in_filter next (get_or s e 0) ≡ true} h.marked (λ l. absurd (omega arith));
    }

    pub passed-new : get_or s j 0 < end → in_filter next (get_or s j 0) ≡ false → Passed end s i (j + 1) seen (put_in next (get_or s j 0))
    passed-new l clear = record {
      low = let l = h.low in omega arith;
      long = put-length next y h.long;
      kept = λ x e. put_keeps next y h.long x (h.kept x e);
      unmet = last {X = Unmet end s i seen} h.unmet (inr (
        l,
        by-test (in_filter seen y) (λ t. clash (h.kept y t) clear) (λ t. t),
        λ g a b e. clash (ap (in_filter next) (sym e) ∙ h.marked g a b (rw e l)) clear,
      ));
      marked = last {X = λ e. get_or s e 0 < end → in_filter (put_in next y) (get_or s e 0) ≡ true}
          (λ e a b q. put_keeps next y h.long (get_or s e 0) (h.marked e a b q)) (λ q. put_has next y h.long);
    }
      where
        y : ℕ
        y = get_or s j 0
