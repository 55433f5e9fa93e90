-- The words' second sayings hold.
use mathlib.Core.Path.{◌≡◌, refl, sym, ap, ◌∙◌}
use mathlib.Core.Bool.{true}
use mathlib.Core.List.{List, []}
use Prim.Native.Nat.{ℕ, zero, suc, ◌+◌, ◌-◌, ◌*◌, ◌/◌, ◌%◌, ◌^◌, ◌<◌}
use native.Mathlib.Nat.{mod-lt, div-add-mod'}
use native.Mathlib.Omega.{arith}
use lib.Dec.{ltb, eqb}
use lib.Pow.{pow_pos}
use lib.Arith.{digits_div}
use lib.ListN.{length, get_or, take, get_or-append}
use lib.Seq.{get_or-take, get_or-drop, get_or-append-add, length-take-le}
use borrow.Author.Tests.{ltb-true, ltb-false, eqb-true, eq-eqb}
use Rattle.prelude.specs.Scan.{first, count, nth}
use Rattle.prelude.specs.Bits.{bit, mask}
use Rattle.prelude.specs.Pages.{page_at, laid, flat}
use Rattle.prelude.specs.Rules.{FirstRule, FirstNoneRule, CountRule, CountOneRule, AllRule, ArgmaxRule, LeastRule, GreatestRule}
use Rattle.prelude.specs.Rules.{TabRule, BitRule, BitWholeRule, MaskRule, PageAtRule, FlatRule, LaidRule}
use Rattle.prelude.proofs.Tests.{by-test}
use Rattle.prelude.proofs.Scan.{all-at, all_of, first-hit, first-at, first-is, count_past, count-mono, count-inj, nth-is, nth-rank}
use Rattle.prelude.proofs.Scan.{nth-some, leads-is, least-le, least-is, greatest-ge, greatest-le}
use Rattle.prelude.proofs.Tab.{length-tab, get_d_tab}
use Rattle.prelude.proofs.Bits.{mask_lt, bit_mask, bit_high}
use Rattle.prelude.proofs.Pages.{length-laid, length-page_at, in_run, page-flat, length-flat}

-- ---- scans

pub first-rule : FirstRule
first-rule n p i l hit miss = sym (first-is n p i (omega arith) miss (λ k. hit))

pub first-none_rule : FirstNoneRule
first-none_rule n p miss = sym (first-is n p n (omega arith) miss (λ k. absurd (omega arith)))

pub count-rule : CountRule
count-rule n p = record {
  within = λ k l. nth-some n p k l;
  passing = λ k l. (nth-is n p k (nth-some n p k l)).0;
  rising = λ k l kl lc. let a = (nth-is n p k (nth-some n p k (omega arith))).1 in let b = (nth-is n p l (nth-some n p l lc)).1 in
      by-test (ltb (nth n p k) (nth n p l)) (λ t. ltb-true _ (nth n p l) t)
      (λ t. absurd (let m = count-mono (nth n p l) (nth n p k) p (ltb-false _ (nth n p l) t) in omega arith));
  all_there = λ i l e. (count i p, count_past i n p l e, nth-rank n p i l e);
}

count-each : (c : ℕ) → count c (λ i. true) ≡ c
unfolding count
count-each zero = refl
count-each (suc c) = let h = count-each c in omega arith

-- each index goes to its number, and each number to its index, so that there are as many of one as of the other
pub count-one_rule : CountOneRule
count-one_rule n p c at h =
    let to = count-inj c n (λ k. true) p at (λ k l t. (h.within k l, h.passing k l)) (λ k l kl ll t u e. same k l kl ll e) in
    let index : ℕ → ℕ = λ i. first c (λ k. eqb (at k) i) in
    let back = count-inj n c p (λ k. true) index (λ i l e. ((found i l e).0, refl))
    (λ i j il jl a b e. sym (found i il a).1 ∙ ap at e ∙ (found j jl b).1) in
    let e = count-each c in omega arith
  where
    same : (k l : ℕ) → k < c → l < c → at k ≡ at l → k ≡ l
    same k l kl ll e = by-test (ltb k l)
        (λ t. absurd (let r = h.rising k l (ltb-true k l t) ll in omega arith))
        (λ t. by-test (ltb l k)
        (λ u. absurd (let r = h.rising l k (ltb-true l k u) kl in omega arith))
        (λ u. let x = ltb-false k l t in let y = ltb-false l k u in omega arith))

    found : (i : ℕ) → i < n → p i ≡ true → (first c (λ k. eqb (at k) i) < c) × (at (first c (λ k. eqb (at k) i)) ≡ i)
    found i l e = let w = h.all_there i l e in let wl = w.1 in let f = first-at c (λ k. eqb (at k) i) w.0 wl (eq-eqb _ i w.2) in
        let fl : first c (λ k. eqb (at k) i) < c = omega arith in (fl, eqb-true _ i (first-hit c (λ k. eqb (at k) i) fl))

pub all-rule : AllRule
all-rule n p = (all-at n p, all_of n p)

pub argmax-rule : ArgmaxRule
argmax-rule n g i l le lt = sym (leads-is n g i (record { low = l; le = le; lt = lt }))

pub least-rule : LeastRule
least-rule n g d i l low le = let a = least-le n g d i l in let b = least-is n g d (omega arith) in
    let c = le b.0 b.1 in let e = b.2 in omega arith

pub greatest-rule : GreatestRule
greatest-rule n g i l top = let a = greatest-ge n g i l in let b = greatest-le n g (g i) top in omega arith

pub tab-rule : TabRule
tab-rule A n f z = (length-tab n f, λ i l. get_d_tab n f z i l)

-- ---- bits

pub bit-rule : BitRule
unfolding bit
bit-rule above below i l = (
  ap (λ (x : ℕ). eqb (x % 2) 1) (digits_div (above * 2 + 1) l) ∙ eq-eqb ((above * 2 + 1) % 2) 1 (omega arith),
  ap (λ (x : ℕ). eqb (x % 2) 1) (digits_div (above * 2) l) ∙ ap (λ (x : ℕ). eqb x 1) (let e : above * 2 % 2 ≡ 0 = omega arith in e),
)

pub bit-whole_rule : BitWholeRule
bit-whole_rule m i = (
  m / 2 ^ i / 2,
  m / 2 ^ i % 2,
  m % 2 ^ i,
  omega arith,
  mod-lt m (pow_pos i),
  sym (ap (λ (x : ℕ). x * 2 ^ i + m % 2 ^ i) (div-add-mod' (m / 2 ^ i) 2) ∙ div-add-mod' m (2 ^ i)),
)

pub mask-rule : MaskRule
mask-rule n p = (bit_mask n p, λ i l. bit_high n (mask n p) i (mask_lt n p) l)

-- ---- pages

pub page_at-rule : PageAtRule
unfolding page_at
page_at-rule A s l i z fits = (length-page_at s l i fits, λ j jl. get_or-take s _ j z jl ∙ get_or-drop (i * s) l j z)

pub flat-rule : FlatRule
flat-rule A s ps z full = let e = length-flat s ps [] full in (
  e,
  λ i j il jl. sym ((page_at-rule A s (flat ps) i z (in_run s (length ps) (flat ps) e il)).1 j jl)
      ∙ ap (λ (q : List A). get_or q j z) (page-flat s ps [] full i il),
)

pub laid-rule : LaidRule
unfolding laid
laid-rule A first x l z h = let e = length-take-le first l (omega arith) in (
  length-laid first x l h,
  (λ j k. get_or-append (take first l) _ z j (omega arith) ∙ get_or-take first l j z k),
  (λ j k. ap (λ (q : ℕ). get_or (laid first x l) q z) (let y : first + j ≡ length (take first l) + j = omega arith in y)
      ∙ get_or-append-add (take first l) _ j z ∙ get_or-append x _ z j k),
  (λ j k. ap (λ (q : ℕ). get_or (laid first x l) q z) (let y : j ≡ first + length x + (j - (first + length x)) = omega arith in y)
      ∙ rest (j - (first + length x)) e
      ∙ ap (λ (q : ℕ). get_or l q z) (let y : first + length x + (j - (first + length x)) ≡ j = omega arith in y)),
)
  where
    -- byte i past the bytes laid in
    rest : (i : ℕ) → length (take first l) ≡ first → get_or (laid first x l) (first + length x + i) z ≡ get_or l (first + length x + i) z
    rest i e = ap (λ (q : ℕ). get_or (laid first x l) q z) (let y : first + length x + i ≡ length (take first l) + (length x + i) =
        omega arith in y)
        ∙ get_or-append-add (take first l) _ (length x + i) z ∙ get_or-append-add x _ i z ∙ get_or-drop (first + length x) l i z
