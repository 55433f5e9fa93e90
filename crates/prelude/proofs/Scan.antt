-- Laws of the scans over numbers below a bound.
use mathlib.Core.Path.{◌≡◌, refl, sym, ap, subst, ◌∙◌}
use mathlib.Core.Bool.{Bool, true, false, not, cond, ◌&&◌, ◌||◌}
use Prim.Native.Nat.{ℕ, zero, suc, ◌+◌, ◌-◌, ◌≤◌, ◌<◌}
use native.Mathlib.Nat.{not-suc-le-zero}
use native.Mathlib.Numerals.{add-one}
use native.Mathlib.Omega.{arith}
use lib.Dec.{ltb, eqb}
use borrow.Author.Tests.{ltb-true, ltb-false, eqb-true, eqb-false, lt-ltb, le-ltb, eq-eqb, ne_eqb}
use Rattle.prelude.specs.Scan.{first_from, first, count, all, all_pairs, nth, argmax, least, greatest}
use Rattle.prelude.proofs.Tests.{by-test, clash, and_l, and_r, and_i, not-i, same_test, or_l, or_r}

-- ---- all

pub all-at : (n : ℕ) (p : ℕ → Bool) → all n p ≡ true → (i : ℕ) → i < n → p i ≡ true
unfolding all
all-at zero p h i l = absurd (not-suc-le-zero l)
all-at (suc n) p h i l = by-test (eqb i n)
    (λ e. rw (eqb-true i n e) (and_r (all n p) (p n) h))
    (λ e. all-at n p (and_l (all n p) (p n) h) i (let z = eqb-false i n e in omega arith))

pub all_of : (n : ℕ) (p : ℕ → Bool) → ((i : ℕ) → i < n → p i ≡ true) → all n p ≡ true
unfolding all
all_of zero p f = refl
all_of (suc n) p f = and_i (all_of n p (λ i l. f i (omega arith))) (f n (omega arith))

pub pairs-at : (n : ℕ) (p : ℕ → ℕ → Bool) → all_pairs n p ≡ true → (i j : ℕ) → i < j → j < n → p i j ≡ true
unfolding all_pairs
pairs-at n p h i j il jl = all-at j (λ k. p k j) (all-at n (λ m. all m (λ k. p k m)) h j jl) i il

pub pairs_of : (n : ℕ) (p : ℕ → ℕ → Bool) → ((i j : ℕ) → i < j → j < n → p i j ≡ true) → all_pairs n p ≡ true
unfolding all_pairs
pairs_of n p f = all_of n (λ m. all m (λ k. p k m)) (λ j jl. all_of j (λ k. p k j) (λ i il. f i j il jl))

-- a loop that keeps a flag: none passed yet, and one more turn
pub all_none : (p : ℕ → Bool) → all 0 p ≡ true
unfolding all
all_none p = refl

pub all_more : (p : ℕ → Bool) (i : ℕ) {ok ok' : Bool} → ok ≡ all i p → ok' ≡ (ok && p i) → ok' ≡ all (i + 1) p
unfolding all
all_more p i {ok} e q = q ∙ rw (e, add-one i)

-- and where it ends
pub all_end : (p : ℕ → Bool) (i n : ℕ) {ok : Bool} → ok ≡ all i p → i ≡ n → ok ≡ all n p
all_end p i n e q = e ∙ ap (λ (k : ℕ). all k p) q

-- one that fails
pub all-fails : (n : ℕ) (p : ℕ → Bool) (i : ℕ) → i < n → p i ≡ false → all n p ≡ false
all-fails n p i l e = by-test (all n p) (λ h. clash (all-at n p h i l) e) (λ h. h)

-- two tests alike below n
pub all_same : (n : ℕ) (p q : ℕ → Bool) → ((j : ℕ) → j < n → p j ≡ q j) → all n p ≡ all n q
all_same n p q f = same_test
    (λ h. all_of n q (λ j l. sym (f j l) ∙ all-at n p h j l))
    (λ h. all_of n p (λ j l. f j l ∙ all-at n q h j l))

-- a test that does not look at the number
pub all-or : (n : ℕ) (a : Bool) (p : ℕ → Bool) → (a || all n p) ≡ all n (λ i. a || p i)
all-or n true p = sym (all_of n (λ i. true) (λ i l. refl))
all-or n false p = refl

-- two tests at once
pub all_both : (n : ℕ) (p q : ℕ → Bool) → all n (λ i. p i && q i) ≡ (all n p && all n q)
all_both n p q = same_test
    (λ h. and_i (all_of n p (λ i l. and_l (p i) (q i) (all-at n (λ j. p j && q j) h i l)))
    (all_of n q (λ i l. and_r (p i) (q i) (all-at n (λ j. p j && q j) h i l))))
    (λ h. all_of n (λ i. p i && q i) (λ i l. and_i (all-at n p (and_l (all n p) (all n q) h) i l)
    (all-at n q (and_r (all n p) (all n q) h) i l)))

-- what each number from i on, below n, hands on to the next
pub handed_on : (T : ℕ → Type 0) (i n : ℕ) → i ≤ n → ((j : ℕ) → i ≤ j → j < n → T j → T (j + 1)) → T i → T n
handed_on T i zero l h t = let e : i ≡ 0 = omega arith in subst T e t
handed_on T i (suc n) l h t = by-test (eqb i (suc n))
    (λ q. subst T (eqb-true i (suc n) q) t)
    (λ q. let ne = eqb-false i (suc n) q in subst T (add-one n) (h n (omega arith) (omega arith)
    (handed_on T i n (omega arith) (λ j a b. h j a (omega arith)) t)))

-- ---- first

pub record First (i n : ℕ) (p : ℕ → Bool) (r : ℕ) : Type 0 where
  pub low : i ≤ r
  pub high : r ≤ i + n
  pub hit : r < i + n → p r ≡ true
  pub miss : (j : ℕ) → i ≤ j → j < r → p j ≡ false

pub first_from-is : (i n : ℕ) (p : ℕ → Bool) → First i n p (first_from i n p)
unfolding first_from
first_from-is i zero p = record {
  low = omega arith;
  high = omega arith;
  hit = λ l. absurd (omega arith);
  miss = λ j a b. absurd (omega arith);
}
first_from-is i (suc n) p = by-test (p i)
    (λ e. rw (e, first_from) (record { low = omega arith; high = omega arith; hit = λ l. e; miss = λ j a b. absurd (omega arith) }))
    (λ e. rw (e, first_from) (let h = first_from-is (suc i) n p in record {
      low = omega arith;
      high = omega arith;
      hit = λ l. h.hit (omega arith);
      miss = λ j a b. by-test (eqb j i)
          (λ q. rw (eqb-true j i q) e)
          (λ q. h.miss j (let z = eqb-false j i q in omega arith) b);
    }))

-- these facts tell which one it is
pub from_is : (i n : ℕ) (p : ℕ → Bool) (r : ℕ) → First i n p r → r ≡ first_from i n p
from_is i n p r h = let f = first_from-is i n p in by-test (ltb r (first_from i n p))
    (λ t. let l = ltb-true r (first_from i n p) t in clash (h.hit (omega arith)) (f.miss r h.low l))
    (λ t. let l = ltb-false r (first_from i n p) t in by-test (ltb (first_from i n p) r)
    (λ u. let k = ltb-true (first_from i n p) r u in clash (f.hit (omega arith)) (h.miss (first_from i n p) f.low k))
    (λ u. let k = ltb-false (first_from i n p) r u in omega arith))

module _ (n : ℕ) (p : ℕ → Bool) where
  pub first-le : first n p ≤ n
  unfolding first
  first-le = let h = first_from-is 0 n p in omega arith

  pub first-hit : first n p < n → p (first n p) ≡ true
  unfolding first
  first-hit l = (first_from-is 0 n p).hit (omega arith)

  pub first-miss : (j : ℕ) → j < first n p → p j ≡ false
  unfolding first
  first-miss j l = (first_from-is 0 n p).miss j (omega arith) l

  -- where one passes, the first does, and stands no later
  pub first-at : (j : ℕ) → j < n → p j ≡ true → first n p ≤ j
  first-at j l e = by-test (ltb j (first n p)) (λ q. clash e (first-miss j (ltb-true j (first n p) q)))
      (λ q. let z = ltb-false j (first n p) q in omega arith)

-- none of the numbers below i passes, as a loop that looks for the first one knows
abbrev pub Missed : (ℕ → Bool) → ℕ → Type 0
Missed p i = (j : ℕ) → j < i → p j ≡ false

-- it ends at a number that passes, or at the bound
pub first-is : (n : ℕ) (p : ℕ → Bool) (i : ℕ) → i ≤ n → Missed p i → (i < n → p i ≡ true) → i ≡ first n p
unfolding first
first-is n p i l h e = from_is 0 n p i (record { low = omega arith; high = omega arith; hit = λ k. e (omega arith); miss = λ j a b. h j b })

-- the first that passes one of two tests
pub first-or : (n : ℕ) (p q r : ℕ → Bool) → ((i : ℕ) → r i ≡ (p i || q i))
    → cond (ltb (first n q) (first n p)) (first n q) (first n p) ≡ first n r
first-or n p q r f = let a = first-le n p in let b = first-le n q in
    let none : (j : ℕ) → j < first n p → j < first n q → r j ≡ false = (λ j x y. f j ∙ rw (first-miss n p j x, first-miss n q j y)) in
    by-test (ltb (first n q) (first n p))
    (λ t. let l = ltb-true (first n q) (first n p) t in rw t (first-is n r (first n q) b
    (λ j y. none j (omega arith) y) (λ y. f (first n q) ∙ or_r (p (first n q)) (first-hit n q y))))
    (λ t. let l = ltb-false (first n q) (first n p) t in rw t (first-is n r (first n p) a
    (λ j x. none j x (omega arith)) (λ x. f (first n p) ∙ or_l (q (first n p)) (first-hit n p x))))

-- whether one of the numbers up to i passes
pub first-upto : (n : ℕ) (p : ℕ → Bool) (i : ℕ) → i < n → ltb (first n p) (i + 1) ≡ (ltb (first n p) i || p i)
first-upto n p i l = by-test (ltb (first n p) i)
    (λ t. let h = ltb-true (first n p) i t in rw t (lt-ltb (first n p) (i + 1) (omega arith)))
    (λ t. let h = ltb-false (first n p) i t in rw t (by-test (p i)
    (λ u. let k = first-at n p i l u in rw u (lt-ltb (first n p) (i + 1) (omega arith)))
    (λ u. rw u (le-ltb (first n p) (i + 1) (by-test (eqb (first n p) i)
    (λ v. let e = eqb-true (first n p) i v in let k = first-hit n p (omega arith) in clash (rw e at k) u)
    (λ v. let ne = eqb-false (first n p) i v in omega arith))))))

-- ---- a search under way, which goes on from o

module _ (n : ℕ) (p : ℕ → Bool) where
  pub from_end : (o : ℕ) → n ≤ o → first_from o (n - o) p ≡ o
  unfolding first_from
  from_end o l = ap (λ (k : ℕ). first_from o k p) (let h : n - o ≡ 0 = omega arith in h)

  pub from_le : (o : ℕ) → o ≤ n → first_from o (n - o) p ≤ n
  from_le o l = let h = first_from-is o (n - o) p in let a = h.high in omega arith

-- two tests alike from i on
pub from-same : (i n : ℕ) (p q : ℕ → Bool) → ((j : ℕ) → i ≤ j → j < i + n → p j ≡ q j) → first_from i n p ≡ first_from i n q
unfolding first_from
from-same i zero p q f = refl
from-same i (suc n) p q f = let e : p i ≡ q i = f i (omega arith) (omega arith) in by-test (q i)
    (λ t. rw (e ∙ t, t, first_from))
    (λ t. rw (e ∙ t, t, first_from) (from-same (suc i) n p q (λ j a b. f j (omega arith) (omega arith))))

-- ---- count

-- a loop that counts: one more turn
pub count-hit : (i : ℕ) (p : ℕ → Bool) → p i ≡ true → count i p + 1 ≡ count (i + 1) p
unfolding count
count-hit i p e = rw (add-one i, e) (omega arith)

pub count-miss : (i : ℕ) (p : ℕ → Bool) → p i ≡ false → count i p ≡ count (i + 1) p
unfolding count
count-miss i p e = rw (add-one i, e) (omega arith)

pub count-le : (n : ℕ) (p : ℕ → Bool) → count n p ≤ n
unfolding count
count-le zero p = omega arith
count-le (suc n) p = by-test (p n) (λ e. rw e (let h = count-le n p in omega arith)) (λ e. rw e (let h = count-le n p in omega arith))

-- a count is monotone in the bound, and grows past a number that passes
pub count-mono : (n k : ℕ) (p : ℕ → Bool) → n ≤ k → count n p ≤ count k p
unfolding count
count-mono n zero p l = rw (let e : n ≡ 0 = omega arith in e) (omega arith)
count-mono n (suc k) p l = by-test (eqb n (suc k))
    (λ e. rw (eqb-true n (suc k) e) (omega arith))
    (λ e. let h = count-mono n k p (let z = eqb-false n (suc k) e in omega arith) in omega arith)

pub count_past : (i n : ℕ) (p : ℕ → Bool) → i < n → p i ≡ true → count i p < count n p
unfolding count
count_past i n p l e = let h : cond (p i) 1 0 + count i p ≤ count n p = count-mono (suc i) n p l in
    let h2 : 1 + count i p ≤ count n p = (rw e at h) in omega arith

pub count_none : (n : ℕ) (p : ℕ → Bool) → ((j : ℕ) → j < n → p j ≡ false) → count n p ≡ 0
unfolding count
count_none zero p f = refl
count_none (suc n) p f = rw (f n (omega arith)) (let h = count_none n p (λ j l. f j (omega arith)) in omega arith)

-- a count that is not 0 has a member
pub count-some : (n : ℕ) (p : ℕ → Bool) → 0 < count n p → first n p < n
count-some n p h = by-test (ltb (first n p) n) (λ e. ltb-true (first n p) n e)
    (λ e. absurd (let z = count_none n p (λ j l. first-miss n p j (let y = ltb-false (first n p) n e in omega arith)) in omega arith))

-- two tests alike below n have one count
pub count_same : (n : ℕ) (p q : ℕ → Bool) → ((j : ℕ) → j < n → p j ≡ q j) → count n p ≡ count n q
unfolding count
count_same zero p q f = refl
count_same (suc n) p q f = rw (f n (omega arith)) (let h = count_same n p q (λ j l. f j (omega arith)) in omega arith)

-- a count falls apart by a second test
pub count-split : (n : ℕ) (p q : ℕ → Bool) → count n p ≡ count n (λ i. p i && q i) + count n (λ i. p i && not (q i))
unfolding count
count-split zero p q = refl
count-split (suc n) p q = let h = count-split n p q in by-test (p n)
    (λ e. by-test (q n) (λ k. rw (e, k) (omega arith)) (λ k. rw (e, k) (omega arith)))
    (λ e. rw e (omega arith))

-- one number less
pub count-remove : (n : ℕ) (p : ℕ → Bool) (x : ℕ) → x < n → p x ≡ true → count n p ≡ suc (count n (λ i. p i && not (eqb i x)))
unfolding count
count-remove zero p x l e = absurd (not-suc-le-zero l)
count-remove (suc n) p x l e = by-test (eqb n x)
    (λ k. let k2 = eqb-true n x k in let e2 : p n ≡ true = (rw k2 e) in
    let h = count_same n p (λ i. p i && not (eqb i x)) (λ j jl. let ne : eqb j x ≡ false = ne_eqb j x (λ w. absurd (omega arith)) in
    by-test (p j) (λ t. rw (t, ne)) (λ t. rw t)) in
    rw (e2, k) (omega arith))
    (λ k. let k2 = eqb-false n x k in let h = count-remove n p x (omega arith) e in by-test (p n)
    (λ t. rw (t, k) (omega arith))
    (λ t. rw t (omega arith)))

-- none passes from k on
pub count-upto : (k n : ℕ) (p : ℕ → Bool) → k ≤ n → ((j : ℕ) → k ≤ j → j < n → p j ≡ false) → count n p ≡ count k p
unfolding count
count-upto k zero p l f = rw (let e : k ≡ 0 = omega arith in e)
count-upto k (suc n) p l f = by-test (eqb k (suc n))
    (λ t. rw (eqb-true k (suc n) t))
    (λ t. let ne = eqb-false k (suc n) t in rw (f n (omega arith) (omega arith))
    (let h = count-upto k n p (omega arith) (λ j a b. f j a (omega arith)) in omega arith))

-- no more numbers pass p below n than pass q below k, where h takes each to one of its own
pub count-inj : (n k : ℕ) (p q : ℕ → Bool) (h : ℕ → ℕ) → ((i : ℕ) → i < n → p i ≡ true → (h i < k) × (q (h i) ≡ true))
    → ((i j : ℕ) → i < n → j < n → p i ≡ true → p j ≡ true → h i ≡ h j → i ≡ j) → count n p ≤ count k q
unfolding count
count-inj zero k p q h f g = omega arith
count-inj (suc n) k p q h f g = by-test (p n)
    (λ e. let a = f n (omega arith) e in let w = count-remove k q (h n) a.0 a.1 in
    let ih = count-inj n k p (λ i. q i && not (eqb i (h n))) h
    (λ i l t. let b = f i (omega arith) t in
    (b.0, and_i b.1 (not-i (ne_eqb (h i) (h n) (λ y. let ij = g i n (omega arith) (omega arith) t e y in omega arith)))))
    (λ i j l l2 t t2 y. g i j (omega arith) (omega arith) t t2 y) in
    rw e (omega arith))
    (λ e. rw e (let ih = count-inj n k p q h (λ i l t. f i (omega arith) t)
    (λ i j l l2 t t2 y. g i j (omega arith) (omega arith) t t2 y) in omega arith))

-- fewer pass a test that implies another, and fails at a number where that passes
pub count_less : (n : ℕ) (p q : ℕ → Bool) → ((i : ℕ) → i < n → p i ≡ true → q i ≡ true)
    → (x : ℕ) → x < n → p x ≡ false → q x ≡ true → count n p < count n q
count_less n p q h x l a b = let s = count-remove n q x l b in
    let k = count-inj n n p (λ i. q i && not (eqb i x)) (λ i. i)
    (λ i il t. (il, and_i (h i il t) (not-i (by-test (eqb i x) (λ u. clash t (ap p (eqb-true i x u) ∙ a)) (λ u. u)))))
    (λ i j il jl t u e. e) in
    omega arith

-- at most one passes
pub count-one : (n : ℕ) (p : ℕ → Bool) → ((i j : ℕ) → i < n → j < n → p i ≡ true → p j ≡ true → i ≡ j) → count n p ≤ 1
unfolding count
count-one n p f = count-inj n 1 p (λ i. true) (λ i. 0) (λ i l t. (omega arith, refl)) (λ i j l l2 t t2 e. f i j l l2 t t2)

-- ---- nth

-- the passing number with r passing ones below it
pub nth-is : (n : ℕ) (p : ℕ → Bool) (r : ℕ) → nth n p r < n → (p (nth n p r) ≡ true) × (count (nth n p r) p ≡ r)
unfolding nth
nth-is n p r l = let h = first-hit n (λ i. p i && eqb (count i p) r) l in
    (and_l (p (nth n p r)) _ h, eqb-true (count (nth n p r) p) r (and_r (p (nth n p r)) _ h))

-- two passing numbers with as many below are one
pub rank-inj : (p : ℕ → Bool) (i j : ℕ) → p i ≡ true → p j ≡ true → count i p ≡ count j p → i ≡ j
rank-inj p i j a b e = by-test (ltb i j)
    (λ q. absurd (let h = count_past i j p (ltb-true i j q) a in omega arith))
    (λ q. by-test (ltb j i)
    (λ s. absurd (let h = count_past j i p (ltb-true j i s) b in omega arith))
    (λ s. let x = ltb-false i j q in let y = ltb-false j i s in omega arith))

-- there is none past the count
pub nth-none : (n : ℕ) (p : ℕ → Bool) (r : ℕ) → count n p ≤ r → n ≤ nth n p r
nth-none n p r l = by-test (ltb (nth n p r) n)
    (λ e. let w = ltb-true _ n e in let h = nth-is n p r w in let c = count_past (nth n p r) n p w h.0 in let d = h.1 in
    absurd (omega arith))
    (λ e. ltb-false _ n e)

pub nth-rank : (n : ℕ) (p : ℕ → Bool) (i : ℕ) → i < n → p i ≡ true → nth n p (count i p) ≡ i
unfolding nth
nth-rank n p i l e =
    let q : ℕ → Bool = λ j. p j && eqb (count j p) (count i p) in
    let at = first-at n q i l (and_i e (eq-eqb (count i p) (count i p) refl)) in
    let h = nth-is n p (count i p) (omega arith) in
    rank-inj p (nth n p (count i p)) i h.0 e h.1

-- there is an r-th where more than r pass
pub nth-some : (n : ℕ) (p : ℕ → Bool) (r : ℕ) → r < count n p → nth n p r < n
unfolding nth count
nth-some zero p r l = absurd (omega arith)
nth-some (suc n) p r l = by-test (ltb r (count n p))
    (λ q. let l2 = nth-some n p r (ltb-true r (count n p) q) in let h = nth-is n p r l2 in
    let at = first-at (suc n) (λ j. p j && eqb (count j p) r) (nth n p r) (omega arith) (and_i h.0 (eq-eqb _ _ h.1)) in omega arith)
    (λ q. by-test (p n)
    (λ e. let g = ltb-false r (count n p) q in let l3 : r < 1 + count n p = (rw e at l) in
    let at = first-at (suc n) (λ j. p j && eqb (count j p) r) n (omega arith) (and_i e (eq-eqb (count n p) r (omega arith))) in omega arith)
    (λ e. absurd (let g = ltb-false r (count n p) q in let l3 : r < 0 + count n p = (rw e at l) in omega arith)))

-- a search that goes on past each number found: the r-th passing number is the first from at on
module _ (n : ℕ) (p : ℕ → Bool) where
  nth-le : (r : ℕ) → nth n p r ≤ n
  unfolding nth
  nth-le r = first-le n (λ i. p i && eqb (count i p) r)

  -- a number found that has r passing ones below it, or none found
  nth-found : (r m : ℕ) → count m p ≡ r → m ≤ n → (m < n → p m ≡ true) → nth n p r ≡ m
  nth-found r m c l h = by-test (ltb m n)
      (λ t. let ml = ltb-true m n t in ap (nth n p) (sym c) ∙ nth-rank n p m ml (h ml))
      (λ t. let g = ltb-false m n t in let e : m ≡ n = omega arith in let cn : count n p ≡ r = (rw e at c) in
      let a = nth-none n p r (omega arith) in let b = nth-le r in omega arith)

  pub nth-zero : nth n p 0 ≡ first_from 0 (n - 0) p
  nth-zero = let m = first_from 0 (n - 0) p in let w = first_from-is 0 (n - 0) p in let hi = w.high in
      nth-found 0 m (count_none m p (λ j l. w.miss j (omega arith) l)) (omega arith) (λ l. w.hit (omega arith))

  pub nth-suc : (r at m : ℕ) → at ≤ n → nth n p r ≡ first_from at (n - at) p → m ≡ first_from at (n - at) p
      → nth n p (suc r) ≡ first_from (cond (ltb m n) (m + 1) m) (n - cond (ltb m n) (m + 1) m) p
  nth-suc r at m l e d = by-test (ltb m n)
      (λ t. rw t (let ml = ltb-true m n t in let h = nth-is n p r (omega arith) in let f : nth n p r ≡ m = e ∙ sym d in
      let k = first_from (m + 1) (n - (m + 1)) p in let w = first_from-is (m + 1) (n - (m + 1)) p in let lo = w.low in let hi = w.high in
      let c : count k p ≡ suc r = count-upto (m + 1) k p lo (λ j a b. w.miss j a b) ∙ sym (count-hit m p (rw f at h.0))
      ∙ add-one (count m p) ∙ ap suc (rw f at h.1) in
      nth-found (suc r) k c (omega arith) (λ kl. w.hit (omega arith))))
      (λ t. rw t (let g = ltb-false m n t in let x = from_end n p m g in
      let c : count n p ≤ r = by-test (ltb r (count n p)) (λ u. absurd (let s = nth-some n p r (ltb-true r (count n p) u) in omega arith))
      (λ u. ltb-false r (count n p) u) in
      let a = nth-none n p (suc r) (omega arith) in let b = nth-le (suc r) in let y = from_le n p at l in omega arith))

-- ---- argmax

pub argmax-lt : (n : ℕ) (g : ℕ → ℕ) → 0 < n → argmax n g < n
unfolding argmax
argmax-lt zero g l = absurd (omega arith)
argmax-lt (suc zero) g l = by-test (ltb (g 0) (g 0)) (λ e. rw e (omega arith)) (λ e. rw e (omega arith))
argmax-lt (suc (suc n)) g l = let h = argmax-lt (suc n) g (omega arith) in
    by-test (ltb (g (argmax (suc n) g)) (g (suc n))) (λ e. rw e (omega arith)) (λ e. rw e (omega arith))

pub argmax-ge : (n : ℕ) (g : ℕ → ℕ) (i : ℕ) → i < n → g i ≤ g (argmax n g)
unfolding argmax
argmax-ge zero g i l = absurd (omega arith)
argmax-ge (suc n) g i l = by-test (ltb (g (argmax n g)) (g n))
    (λ e. rw e (at (λ l2. let h = argmax-ge n g i l2 in let z = ltb-true (g (argmax n g)) (g n) e in omega arith) (omega arith)))
    (λ e. rw e (at (λ l2. argmax-ge n g i l2) (ltb-false (g (argmax n g)) (g n) e)))
  where
    at : {m : ℕ} → (i < n → g i ≤ m) → g n ≤ m → g i ≤ m
    at f h = by-test (eqb i n) (λ q. rw (eqb-true i n q) h) (λ q. f (let z = eqb-false i n q in omega arith))

-- r is the least index below n of the greatest value
pub record Leads (n : ℕ) (g : ℕ → ℕ) (r : ℕ) : Type 0 where
  pub low : r < n
  pub le : (j : ℕ) → j < n → g j ≤ g r
  pub lt : (j : ℕ) → j < r → g j < g r

pub argmax-first : (n : ℕ) (g : ℕ → ℕ) (i : ℕ) → i < argmax n g → g i < g (argmax n g)
unfolding argmax
argmax-first zero g i = λ l. absurd (omega arith)
argmax-first (suc n) g i = by-test (ltb (g (argmax n g)) (g n))
    (λ e. rw e (λ l. let m = argmax-ge n g i l in let k = ltb-true (g (argmax n g)) (g n) e in omega arith))
    (λ e. rw e (λ l. argmax-first n g i l))

pub leads-is : (n : ℕ) (g : ℕ → ℕ) (r : ℕ) → Leads n g r → r ≡ argmax n g
leads-is n g r h = let l = h.low in let al = argmax-lt n g (omega arith) in
    let a = h.le (argmax n g) al in let b = argmax-ge n g r l in by-test (ltb r (argmax n g))
    (λ t. absurd (let k = argmax-first n g r (ltb-true r (argmax n g) t) in omega arith))
    (λ t. let t2 = ltb-false r (argmax n g) t in by-test (ltb (argmax n g) r)
    (λ u. absurd (let k = h.lt (argmax n g) (ltb-true (argmax n g) r u) in omega arith))
    (λ u. let u2 = ltb-false (argmax n g) r u in omega arith))

-- ---- least

-- a loop that keeps the least: one more turn
pub least-hit : (i : ℕ) (g : ℕ → ℕ) (d : ℕ) → g i < least i g d → g i ≡ least (i + 1) g d
unfolding least
least-hit i g d h = rw (add-one i, lt-ltb (g i) (least i g d) h)

pub least-miss : (i : ℕ) (g : ℕ → ℕ) (d : ℕ) → least i g d ≤ g i → least i g d ≡ least (i + 1) g d
unfolding least
least-miss i g d h = rw (add-one i, le-ltb (g i) (least i g d) h)

pub least-top : (n : ℕ) (g : ℕ → ℕ) (d : ℕ) → least n g d ≤ d
unfolding least
least-top zero g d = omega arith
least-top (suc n) g d = let h = least-top n g d in
    by-test (ltb (g n) (least n g d)) (λ q. rw q (let w = ltb-true (g n) (least n g d) q in omega arith)) (λ q. rw q h)

pub least-le : (n : ℕ) (g : ℕ → ℕ) (d i : ℕ) → i < n → least n g d ≤ g i
unfolding least
least-le zero g d i l = absurd (omega arith)
least-le (suc n) g d i l = by-test (eqb i n)
    (λ e. rw (eqb-true i n e) (by-test (ltb (g n) (least n g d)) (λ q. rw q (omega arith)) (λ q. rw q (ltb-false (g n) (least n g d) q))))
    (λ e. let h = least-le n g d i (let w = eqb-false i n e in omega arith) in
    by-test (ltb (g n) (least n g d)) (λ q. rw q (let w = ltb-true (g n) (least n g d) q in omega arith)) (λ q. rw q h))

pub least-is : (n : ℕ) (g : ℕ → ℕ) (d : ℕ) → least n g d < d → (i : ℕ) × (i < n) × (g i ≡ least n g d)
unfolding least
least-is zero g d = λ l. absurd (omega arith)
least-is (suc n) g d = by-test (ltb (g n) (least n g d))
    (λ q. rw q (λ l. (n, omega arith, refl)))
    (λ q. rw q (λ l. let h = least-is n g d l in let h1 = h.1 in (h.0, omega arith, h.2)))

-- the first number below n that passes is the least of m values, where the values below n are the numbers that pass
pub first-least : (n m : ℕ) (p : ℕ → Bool) (g : ℕ → ℕ) → ((i : ℕ) → i < m → g i < n → p (g i) ≡ true)
    → ((b : ℕ) → b < n → p b ≡ true → (i : ℕ) × (i < m) × (g i ≡ b)) → least m g n ≡ first n p
first-least n m p g f h = let top = least-top m g n in first-is n p (least m g n) top
    (λ j l. by-test (p j) (λ t. absurd (let w = h j (omega arith) t in let a = least-le m g n w.0 w.1 in let e = w.2 in
    omega arith)) (λ t. t))
    (λ l. let w = least-is m g n l in let e = w.2 in rw (← e) (f w.0 w.1 (omega arith)))

-- ---- greatest

pub greatest-ge : (n : ℕ) (g : ℕ → ℕ) (i : ℕ) → i < n → g i ≤ greatest n g
unfolding greatest
greatest-ge zero g i l = absurd (not-suc-le-zero l)
greatest-ge (suc n) g i l = by-test (eqb i n)
    (λ t. rw (eqb-true i n t) (omega arith))
    (λ t. let ne = eqb-false i n t in let h = greatest-ge n g i (omega arith) in omega arith)

pub greatest-le : (n : ℕ) (g : ℕ → ℕ) (m : ℕ) → ((i : ℕ) → i < n → g i ≤ m) → greatest n g ≤ m
unfolding greatest
greatest-le zero g m f = omega arith
greatest-le (suc n) g m f = let a = f n (omega arith) in let b = greatest-le n g m (λ i l. f i (omega arith)) in omega arith

pub greatest-is : (n : ℕ) (g : ℕ → ℕ) → 0 < greatest n g → (i : ℕ) × (i < n) × (g i ≡ greatest n g)
unfolding greatest
greatest-is zero g h = absurd (not-suc-le-zero h)
greatest-is (suc n) g h = by-test (ltb (g n) (greatest n g))
    (λ t. let l = ltb-true (g n) (greatest n g) t in let k = greatest-is n g (omega arith) in let e = k.2 in let m = k.1 in
    (k.0, omega arith, omega arith))
    (λ t. let l = ltb-false (g n) (greatest n g) t in (n, omega arith, omega arith))

-- ---- a list of n entries that has each number below n

module _ (n : ℕ) (u : ℕ → ℕ) (has : (f : ℕ) → f < n → (i : ℕ) × (i < n) × (u i ≡ f)) where
  abbrev position : ℕ → ℕ
  position f = first n (λ k. eqb (u k) f)

  -- each number has a place
  pub position-is : (f : ℕ) → f < n → (first n (λ k. eqb (u k) f) < n) × (u (first n (λ k. eqb (u k) f)) ≡ f)
  position-is f l =
      let h = has f l in
      let at = first-at n (λ k. eqb (u k) f) h.0 h.1 (eq-eqb (u h.0) f h.2) in
      let hl = h.1 in
      let pl : position f < n = omega arith in
      (pl, eqb-true (u (position f)) f (first-hit n (λ k. eqb (u k) f) pl))

  -- no index is left over: else n numbers would have places among n - 1 indices
  none_over : (i : ℕ) → i < n → ((f : ℕ) → f < n → position f ≡ i → ⊥) → ⊥
  none_over i l out =
      let every_one = count_same n (λ k. true) (λ k. true) (λ j jl. refl) in
      let r = count-remove n (λ k. true) i l refl in
      let c = count-inj n n (λ k. true) (λ k. true && not (eqb k i)) position
      (λ f fl t. ((position-is f fl).0, not-i (ne_eqb (position f) i (out f fl))))
      (λ f g fl gl t t2 e. sym (position-is f fl).1 ∙ ap u e ∙ (position-is g gl).1) in
      omega arith

  -- so each entry is below n, and stands once
  pub listed_at : (i : ℕ) → i < n → (u i < n) × (first n (λ k. eqb (u k) (u i)) ≡ i)
  listed_at i l = by-test (ltb (u i) n && eqb (position (u i)) i)
      (λ e. (
        ltb-true (u i) n (and_l (ltb (u i) n) (eqb (position (u i)) i) e),
        eqb-true (position (u i)) i (and_r (ltb (u i) n) (eqb (position (u i)) i) e),
      ))
      (λ e. absurd (none_over i l (λ f fl q.
      let h = position-is f fl in
      let v : u i ≡ f = sym (ap u q) ∙ h.1 in
      clash (and_i {a = ltb (u i) n} {b = eqb (position (u i)) i} (rw v (lt-ltb f n fl)) (rw v (eq-eqb (position f) i q))) e)))

  pub listed-once : (i j : ℕ) → i < n → j < n → u i ≡ u j → i ≡ j
  listed-once i j il jl e = sym (listed_at i il).1 ∙ ap position e ∙ (listed_at j jl).1

-- each number below n stands once among n entries: the test, and the fact that each of them stands there
module _ (n : ℕ) (u : ℕ → ℕ) where
  pub once-has : all n (λ f. eqb (count n (λ i. eqb (u i) f)) 1) ≡ true → (f : ℕ) → f < n → (i : ℕ) × (i < n) × (u i ≡ f)
  once-has h f l = let p : ℕ → Bool = λ i. eqb (u i) f in let c = eqb-true (count n p) 1
      (all-at n (λ g. eqb (count n (λ i. eqb (u i) g)) 1) h f l) in
      let k = count-some n p (omega arith) in (first n p, k, eqb-true _ f (first-hit n p k))

  pub has-once : ((f : ℕ) → f < n → (i : ℕ) × (i < n) × (u i ≡ f)) → all n (λ f. eqb (count n (λ i. eqb (u i) f)) 1) ≡ true
  has-once has = all_of n (λ f. eqb (count n (λ i. eqb (u i) f)) 1) (λ f l. let p : ℕ → Bool = λ i. eqb (u i) f in let h = has f l in
      let lo = count_past h.0 n p h.1 (eq-eqb _ _ h.2) in
      let hi = count-one n p (λ i j il jl a b. listed-once n u has i j il jl (eqb-true _ f a ∙ sym (eqb-true _ f b))) in
      eq-eqb (count n p) 1 (omega arith))
