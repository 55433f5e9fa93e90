-- The one pass over the wear: what has been added up after the first i entries.
use Rattle.std.proofs.Common.{◌≡◌, ℕ, ◌+◌, ◌-◌, ◌*◌, ◌%◌, ◌<◌, ◌≤◌, max, leb, List, length, sym, refl, mul-le-mul, add-one, arith, le-leb}
use Rattle.std.proofs.Common.{leb-true, Some, None}
use Rattle.prelude.specs.Scan.{all, greatest}
use Rattle.prelude.proofs.Tests.{by-test}
use Rattle.prelude.proofs.Scan.{all_of, all-at, greatest-ge, greatest-le}
use Rattle.model.specs.Calls.{sum}
use Rattle.wear.specs.Figures.{wear_at, squared, total, largest, squares, spread, in_limit, measured}
use Rattle.wear.proofs.Sums.{sum-le, cauchy}

-- total t, sum of squares q modulo 2^64, largest m
pub record Passed (l : List ℕ) (t q m i : ℕ) : Type 0 where
  pub low : i ≤ length l
  pub t_is : t ≡ sum i (wear_at l)
  pub t_high : t ≤ i * 4294967295
  pub q_is : q ≡ sum i (squared (wear_at l)) % 18446744073709551616
  pub m_is : m ≡ greatest i (wear_at l)

pub pass_none : (l : List ℕ) → Passed l 0 0 0 0
unfolding sum greatest
pass_none l = record { low = omega arith; t_is = refl; t_high = omega arith; q_is = refl; m_is = refl }

-- one more entry, x
pub pass_more : (l : List ℕ) (t q m i x q' m' : ℕ) → Passed l t q m i → i < length l → x ≡ wear_at l i → x ≤ 4294967295
    → q' ≡ (q + x * x) % 18446744073709551616 → m' ≡ max m (wear_at l i) → Passed l (t + x) q' m' (i + 1)
unfolding sum greatest
pass_more l t q m i x q' m' p h e k f g = record {
  low = omega arith;
  t_is = let a = p.t_is in rw (add-one i, sym e) (omega arith);
  t_high = let a = p.t_high in omega arith;
  q_is = let a = p.q_is in rw (add-one i, sym e) (omega arith);
  m_is = let a = p.m_is in rw (add-one i) (omega arith);
}

-- the figures of a list whose largest entry is within the limit, and what their computing takes
pub record Ended (l : List ℕ) (w t q m : ℕ) : Type 0 where
  pub q_high : q ≤ 4096000000000000
  pub t_high : t ≤ 4096000000
  pub least : t * t ≤ length l * q
  pub figures : measured l w ≡ Some (record { total = t; largest = m; spread = length l * q - t * t })

-- the pass is over, and no entry is above the limit
pub pass_end : (l : List ℕ) (w t q m i : ℕ) → Passed l t q m i → i ≡ length l → length l ≤ 4096 → w ≤ 1000000 → m ≤ w → Ended l w t q m
unfolding measured in_limit total largest squares spread
pass_end l w t q m i p e n-high w-high h =
    let fine : (b : ℕ) → b < length l → wear_at l b ≤ w = (λ b k. let g = greatest-ge i (wear_at l) b (omega arith) in let me = p.m_is in
    omega arith) in
    let a = sum-le (length l) (wear_at l) 1000000 (λ b k. let f = fine b k in omega arith) in
    let s = sum-le (length l) (squared (wear_at l)) 1000000000000
    (λ b k. let f = fine b k in let f' : wear_at l b ≤ 1000000 = omega arith in mul-le-mul f' f') in
    let te : t ≡ sum (length l) (wear_at l) = rw (sym e) p.t_is in
    let qr : q ≡ sum (length l) (squared (wear_at l)) % 18446744073709551616 = rw (sym e) p.q_is in
    let qe : q ≡ sum (length l) (squared (wear_at l)) = omega arith in
    let me : m ≡ greatest (length l) (wear_at l) = rw (sym e) p.m_is in
    record {
      q_high = omega arith;
      t_high = omega arith;
      least = rw (te, qe) (cauchy (length l) (wear_at l));
      figures = rw (te, qe, me, all_of (length l) (λ b. leb (wear_at l b) w) (λ b k. le-leb (wear_at l b) w (fine b k))) refl;
    }

-- the pass is over, and an entry is above the limit
pub pass_fails : (l : List ℕ) (w t q m i : ℕ) → Passed l t q m i → i ≡ length l → w < m → measured l w ≡ None
unfolding measured in_limit
pass_fails l w t q m i p e h = by-test (all (length l) (λ b. leb (wear_at l b) w))
    (λ t. absurd (
    let g = greatest-le (length l) (wear_at l) w (λ b k. leb-true (wear_at l b) w (all-at (length l) (λ i. leb (wear_at l i) w) t b k)) in
    let me : m ≡ greatest (length l) (wear_at l) = rw (sym e) p.m_is in omega arith))
    (λ t. rw t refl)
