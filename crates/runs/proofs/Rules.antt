-- Request A9's second sayings hold.
use mathlib.Core.Path.{◌≡◌, refl, sym, ap, ◌∙◌}
use mathlib.Core.Logic.{inl, inr}
use mathlib.Core.Bool.{Bool, false, not, cond, ◌&&◌}
use mathlib.Core.List.{List, [], ◌∷◌}
use Prim.Native.Nat.{ℕ, zero, suc, ◌+◌, ◌-◌, ◌≤◌, ◌<◌, max}
use native.Mathlib.Omega.{arith}
use lib.Dec.{ltb, leb, eqb}
use lib.ListN.{get_or}
use borrow.Author.Tests.{ltb-true, ltb-false, leb-true, eqb-true, lt-ltb, le-leb, eq-eqb, ne_eqb}
use Rattle.prelude.specs.Scan.{first, count, all, nth}
use Rattle.prelude.proofs.Tests.{by-test, clash, fails, and_l, and_r, and_i, and-not_l, or_l, or_r, or_cases}
use Rattle.prelude.proofs.Tests.{not_t, not_f, not-i, each, every_of}
use Rattle.prelude.proofs.Scan.{all-at, all_of, first-le, first-hit, first-miss, nth-none, greatest-ge, greatest-is}
use Rattle.prelude.proofs.Rules.{first-rule, first-none_rule, count-rule}
use Rattle.runs.specs.Sheet.{Sheet, numbers, number_at, sheet_of, page_of, empty_run, is_empty, inUse}
use Rattle.runs.specs.Runs.{sheet_at, run_at, counts, find, first_empty, largest, full, position}
use Rattle.runs.specs.Ranges.{overlaps, claims, taken, range_ok, index_ok}
use Rattle.runs.specs.RulesWords.{Tests, InUse, StandsOn, Among, Has, LargestIs}
use Rattle.runs.specs.Rules.{SheetRule, PageRule, ReadBackRule, WordsRule, EmptyRule, CountsRule, FindRule, FindNoneRule}
use Rattle.runs.specs.Rules.{KnownRule, FirstEmptyRule, LargestRule, LargestIsRule, FullRule, PositionRule, PositionPastRule}
use Rattle.runs.specs.Rules.{OverlapsRule, TakenRule, RangeRule, IndexRule}
use Rattle.runs.proofs.Sheet.{page-words, length-page_of, page_of-byte, page_of-rest, read_back}

-- what a test that fails shows, and what makes it fail
module _ {b : Bool} {P : Type 0} (t : Tests b P) where
  pub not_so : b ≡ false → P → ⊥
  not_so e p = clash (t.passes p) e

  pub refuted : (P → ⊥) → b ≡ false
  refuted h = fails b (λ e. h (t.holds e))

-- ---- sheets on pages

pub sheet-rule : SheetRule
unfolding sheet_of number_at
sheet-rule p zero l = refl
sheet-rule p (suc zero) l = refl
sheet-rule p (suc (suc zero)) l = refl
sheet-rule p (suc (suc (suc zero))) l = refl
sheet-rule p (suc (suc (suc (suc zero)))) l = refl
sheet-rule p (suc (suc (suc (suc (suc zero))))) l = refl
sheet-rule p (suc (suc (suc (suc (suc (suc zero)))))) l = refl
sheet-rule p (suc (suc (suc (suc (suc (suc (suc k))))))) l = absurd (omega arith)

pub page-rule : (S : ℕ) (s : Sheet) → PageRule S s
page-rule S s = record {
  long = length-page_of S s;
  bytes = page_of-byte S s;
  each = λ wide w k l. sym (sheet-rule (page_of S s) k l) ∙ ap (λ (x : Sheet). get_or (numbers x) k 0) (read_back S s wide w);
  rest = page_of-rest S s;
}

pub read_back-rule : ReadBackRule
read_back-rule = read_back

pub words_rule : WordsRule
words_rule = page-words

pub empty-rule : EmptyRule
unfolding empty_run
empty-rule s = record {
  holds = λ h. elim (or_cases (eqb s.run 0) (eqb s.run 4294967295) h) [
    | inl e ↦ inl (eqb-true s.run 0 e)
    | inr e ↦ inr (eqb-true s.run 4294967295 e)
  ];
  passes = λ h. elim h [
    | inl e ↦ or_l (eqb s.run 4294967295) (eq-eqb s.run 0 e)
    | inr e ↦ or_r (eqb s.run 0) (eq-eqb s.run 4294967295 e)
  ];
}

-- ---- runs

module _ (ss : List Sheet) (i : ℕ) where
  pub used : Tests (inUse (sheet_at ss i)) (InUse ss i)
  used = let t = empty-rule (sheet_at ss i) in record {
    holds = λ h. (λ e. not_so t (not_t h) (inl e), λ e. not_so t (not_t h) (inr e));
    passes = λ h. not-i (refuted t (λ e. elim e [ inl a ↦ h.0 a | inr a ↦ h.1 a ]));
  }

  empty : Tests (is_empty (sheet_at ss i)) (InUse ss i → ⊥)
  empty = record {
    holds = λ h u. clash h (not_t (used.passes u));
    passes = λ h. not_f (refuted used h);
  }

pub counts-rule : CountsRule
unfolding counts
counts-rule ss i = record {
  holds = λ h. record {
    in_use = (used ss i).holds (and_l (inUse (sheet_at ss i)) _ h);
    number = refl;
    none_before = λ j l e. clash (eq-eqb (run_at ss j) (run_at ss i) e) (not_t (all-at i _ (and_r (inUse (sheet_at ss i)) _ h) j l));
  };
  passes = λ h. and_i ((used ss i).passes h.in_use)
      (all_of i _ (λ j l. not-i (ne_eqb (run_at ss j) (run_at ss i) (h.none_before j l))));
}

-- the test that a search for run r asks of each sheet
abbrev has_run : List Sheet → ℕ → ℕ → Bool
has_run ss r i = inUse (sheet_at ss i) && eqb (run_at ss i) r

pub find-rule : FindRule
unfolding find
find-rule c ss r i l h = first-rule c (has_run ss r) i l (and_i ((used ss i).passes h.in_use) (eq-eqb (run_at ss i) r h.number))
    (λ j k. fails (has_run ss r j) (λ t. h.none_before j k (eqb-true (run_at ss j) r (and_r (inUse (sheet_at ss j)) _ t))))

pub find-none_rule : FindNoneRule
unfolding find
find-none_rule c ss r h = first-none_rule c (has_run ss r) (λ i l. fails (has_run ss r i)
    (λ t. h i l ((used ss i).holds (and_l (inUse (sheet_at ss i)) _ t)) (eqb-true (run_at ss i) r (and_r (inUse (sheet_at ss i)) _ t))))

-- a run that is found stands where it is found: a sheet before it with its number would be in use too
find-stands : (c : ℕ) (ss : List Sheet) (r : ℕ) → find c ss r < c → StandsOn ss r (find c ss r)
unfolding find
find-stands c ss r l = let at = find c ss r in let h = first-hit c (has_run ss r) l in
    let e = eqb-true (run_at ss at) r (and_r (inUse (sheet_at ss at)) _ h) in record {
      in_use = (used ss at).holds (and_l (inUse (sheet_at ss at)) _ h);
      number = e;
      none_before = λ j k q. clash
          (and_i (ap (λ (x : ℕ). not (empty_run x)) (q ∙ sym e) ∙ and_l (inUse (sheet_at ss at)) _ h) (eq-eqb (run_at ss j) r q))
          (first-miss c (has_run ss r) j k);
    }

pub known-rule : KnownRule
known-rule c ss r = record {
  holds = λ h. let l = ltb-true (find c ss r) c h in (find c ss r, l, find-stands c ss r l);
  passes = λ h. let e = find-rule c ss r h.0 h.1 h.2 in let l = h.1 in lt-ltb (find c ss r) c (omega arith);
}

pub first_empty-rule : FirstEmptyRule
unfolding first_empty
first_empty-rule c ss i h = first-rule c (λ j. is_empty (sheet_at ss j)) i h.0 ((empty ss i).passes h.1)
    (λ j l. not_t ((used ss j).passes (h.2 j l)))

-- the numbers of which the largest is taken
abbrev used_run : List Sheet → ℕ → ℕ
used_run ss i = cond (inUse (sheet_at ss i)) (run_at ss i) 0

pub largest-is_rule : LargestIsRule
unfolding largest
largest-is_rule c ss = record {
  greatest = λ i l u. let k = greatest-ge c (used_run ss) i l in
      let e : used_run ss i ≡ run_at ss i = rw ((used ss i).passes u) in omega arith;
  found = λ h. let k = greatest-is c (used_run ss) h in by-test (inUse (sheet_at ss k.0))
      (λ t. let e : used_run ss k.0 ≡ run_at ss k.0 = rw t in (k.0, k.1, (used ss k.0).holds t, sym e ∙ k.2))
      (λ t. let e : used_run ss k.0 ≡ 0 = rw t in let f = k.2 in absurd (omega arith));
}

-- of two such numbers neither is larger
largest-le : (c : ℕ) (ss : List Sheet) (l m : ℕ) → LargestIs c ss l → LargestIs c ss m → l ≤ m
largest-le c ss l m a b = by-test (ltb 0 l)
    (λ t. let k = a.found (ltb-true 0 l t) in let h = b.greatest k.0 k.1 k.2 in let e = k.3 in omega arith)
    (λ t. let z = ltb-false 0 l t in omega arith)

pub largest-rule : LargestRule
largest-rule c ss l h = let m = largest-is_rule c ss in
    let a = largest-le c ss (largest c ss) l m h in let b = largest-le c ss l (largest c ss) h m in omega arith

pub full-rule : FullRule
unfolding full first_empty
full-rule c ss = record {
  holds = λ h. by-test (ltb (first_empty c ss) c)
      (λ t. let l = ltb-false (largest c ss) 4294967294 (and-not_l t (not_t h)) in
      let k = (largest-is_rule c ss).found (omega arith) in let e = k.3 in
      inr (k.0, k.1, k.2, omega arith))
      (λ t. let l = ltb-false (first_empty c ss) c t in
      inl (λ i il. (used ss i).holds (not-i (first-miss c (λ j. is_empty (sheet_at ss j)) i (omega arith)))));
  passes = λ h. not-i (fails (ltb (first_empty c ss) c && ltb (largest c ss) 4294967294) (λ t.
      let l = ltb-true (first_empty c ss) c (and_l (ltb (first_empty c ss) c) _ t) in
      let m = ltb-true (largest c ss) 4294967294 (and_r (ltb (first_empty c ss) c) _ t) in
      elim h [
        | inl a ↦ clash (first-hit c (λ j. is_empty (sheet_at ss j)) l)
            (not_t ((used ss (first_empty c ss)).passes (a (first_empty c ss) l)))
        | inr a ↦ let k = (largest-is_rule c ss).greatest a.0 a.1 a.2 in let e = a.3 in absurd (omega arith)
      ]));
}

pub position-rule : PositionRule
unfolding position
position-rule c ss = count-rule c (counts ss)

pub position-past_rule : PositionPastRule
unfolding position nth
position-past_rule c ss n h = let a = nth-none c (counts ss) n h in
    let b = first-le c (λ i. counts ss i && eqb (count i (counts ss)) n) in omega arith

-- ---- pages

pub overlaps-rule : OverlapsRule
unfolding overlaps
overlaps-rule a n b m = record {
  holds = λ h. let e = each (ltb 0 n ∷ ltb 0 m ∷ ltb a (b + m) ∷ ltb b (a + n) ∷ []) h in
      let e0 = ltb-true 0 n e.0 in let e1 = ltb-true 0 m e.1.0 in
      let e2 = ltb-true a (b + m) e.1.1.0 in let e3 = ltb-true b (a + n) e.1.1.1.0 in
      (max a b, (omega arith, omega arith), (omega arith, omega arith));
  passes = λ h. let p = h.0 in let x = h.1 in let y = h.2 in let a0 = x.0 in let a1 = x.1 in let b0 = y.0 in let b1 = y.1 in
      every_of (ltb 0 n ∷ ltb 0 m ∷ ltb a (b + m) ∷ ltb b (a + n) ∷ [])
      (lt-ltb 0 n (omega arith), (lt-ltb 0 m (omega arith), (lt-ltb a (b + m) (omega arith), (lt-ltb b (a + n) (omega arith), tt))));
}

-- a sheet claims one of some pages exactly where its run has one of them
module _ (ss : List Sheet) (f n i : ℕ) where
  claims-rule : Tests (claims ss f n i) ((p : ℕ) × Has ss i p × Among f n p)
  unfolding claims
  claims-rule = let t = overlaps-rule f n (sheet_at ss i).first (sheet_at ss i).count in record {
    holds = λ h. let k = t.holds (and_r (counts ss i) _ h) in (k.0, ((counts-rule ss i).holds (and_l (counts ss i) _ h), k.2), k.1);
    passes = λ h. and_i ((counts-rule ss i).passes h.1.0) (t.passes (h.0, h.2, h.1.1));
  }

pub taken-rule : TakenRule
unfolding taken
taken-rule c ss f n = let p : ℕ → Bool = claims ss f n in record {
  holds = λ h. by-test (ltb (first c p) c)
      (λ t. let l = ltb-true (first c p) c t in let k = (claims-rule ss f n (first c p)).holds (first-hit c p l) in
      (first c p, k.0, l, k.1, k.2))
      (λ t. let l = ltb-false (first c p) c t in
      clash (all_of c (λ i. not (p i)) (λ i il. not-i (first-miss c p i (omega arith)))) (not_t h));
  passes = λ h. not-i (fails (all c (λ i. not (p i)))
      (λ t. clash ((claims-rule ss f n h.0).passes (h.1, h.3, h.4)) (not_t (all-at c (λ i. not (p i)) t h.0 h.2))));
}

pub range_rule : RangeRule
unfolding range_ok
range_rule c ss pages f n = let t = taken-rule c ss f n in record {
  holds = λ h. let e = each (ltb 0 n ∷ leb c f ∷ leb (f + n) pages ∷ not (taken c ss f n) ∷ []) h in
      let e0 = ltb-true 0 n e.0 in let e1 = leb-true c f e.1.0 in let e2 = leb-true (f + n) pages e.1.1.0 in record {
        some-page = omega arith;
        each_in = λ p a. let a0 = a.0 in let a1 = a.1 in (omega arith, omega arith);
        alone = λ i p l a b. not_so t (not_t e.1.1.1.0) (i, p, l, a, b);
      };
  passes = λ h. let s = h.some-page in let lo = (h.each_in f (omega arith, omega arith)).0 in
      let hi = (h.each_in (f + n - 1) (omega arith, omega arith)).1 in
      every_of (ltb 0 n ∷ leb c f ∷ leb (f + n) pages ∷ not (taken c ss f n) ∷ []) (
        lt-ltb 0 n s,
        (
          le-leb c f lo,
          (
            le-leb (f + n) pages (omega arith),
            (not-i (refuted t (λ k. h.alone k.0 k.1 k.2 k.3 k.4)), tt),
          ),
        ),
      );
}

pub index_rule : IndexRule
unfolding index_ok
index_rule c pages s x = let tests : List Bool = ltb x s.count ∷ leb c (s.first + x) ∷ ltb (s.first + x) pages ∷ [] in record {
  holds = λ h. let e = each tests h in
      (ltb-true x s.count e.0, leb-true c (s.first + x) e.1.0, ltb-true (s.first + x) pages e.1.1.0);
  passes = λ h. every_of tests
      (lt-ltb x s.count h.0, (le-leb c (s.first + x) h.1, (lt-ltb (s.first + x) pages h.2, tt)));
}
