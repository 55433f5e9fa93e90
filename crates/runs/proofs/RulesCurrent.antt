-- Request A11's second sayings hold: the current run exists, few steps lead to it, nothing replaces it, and it is the only such run.
use mathlib.Core.Path.{◌≡◌, refl, sym, ◌∙◌}
use mathlib.Core.Bool.{Bool, true, false, cond, ◌&&◌, and-false}
use mathlib.Core.List.{List, [], ◌∷◌}
use Prim.Native.Nat.{ℕ, zero, suc, ◌-◌, ◌≤◌, ◌<◌}
use native.Mathlib.Omega.{arith}
use lib.Dec.{ltb, eqb}
use borrow.Author.Tests.{ltb-true, eqb-true, lt-ltb, le-ltb, eq-eqb}
use Rattle.prelude.specs.Scan.{count}
use Rattle.prelude.proofs.Tests.{by-test, and_l, and_r, and_i, each, every_of}
use Rattle.prelude.proofs.Scan.{count-le, count_less, greatest-ge, greatest-le, greatest-is}
use Rattle.runs.specs.Sheet.{Sheet}
use Rattle.runs.specs.Runs.{sheet_at, run_at, counts}
use Rattle.runs.specs.Current.{replaces, replacer, replaced, follow, current}
use Rattle.runs.specs.RulesWords.{StandsOn, Replaces, Replaced, Step, Leads, CurrentIs}
use Rattle.runs.specs.RulesCurrent.{ReplacesRule, ReplacedRule, StepRule, CurrentRule, CurrentOneRule}
use Rattle.runs.proofs.Rules.{not_so, counts-rule}

-- ---- what replaces a run

pub replaces-rule : ReplacesRule
unfolding replaces
replaces-rule ss r i = let tests : List Bool = eqb (sheet_at ss i).replaces r ∷ ltb 0 r ∷ ltb r (run_at ss i) ∷ counts ss i ∷ [] in record {
  holds = λ h. let e = each tests h in let z = ltb-true 0 r e.1.0 in record {
    counted = (counts-rule ss i).holds e.1.1.1.0;
    named = eqb-true (sheet_at ss i).replaces r e.0;
    some-run = λ q. omega arith;
    below = ltb-true r (run_at ss i) e.1.1.0;
  };
  passes = λ h. let ne = h.some-run in let z : 0 < r = omega arith in
      every_of tests (
        eq-eqb (sheet_at ss i).replaces r h.named,
        (
          lt-ltb 0 r z,
          (
            lt-ltb r (run_at ss i) h.below,
            ((counts-rule ss i).passes h.counted, tt),
          ),
        ),
      );
}

-- the numbers of which the highest is taken
abbrev replacing : List Sheet → ℕ → ℕ → ℕ
replacing ss r i = cond (replaces ss r i) (run_at ss i) 0

replacing-at : (c : ℕ) (ss : List Sheet) (r i : ℕ) → i < c → Replaces ss r i → run_at ss i ≤ replacer c ss r
unfolding replacer
replacing-at c ss r i l h = let k = greatest-ge c (replacing ss r) i l in
    let e : replacing ss r i ≡ run_at ss i = rw ((replaces-rule ss r i).passes h) in omega arith

-- a run that is replaced takes the step to its replacer
step_is : (c : ℕ) (ss : List Sheet) (r : ℕ) → replaced c ss r ≡ true → Step c ss r (replacer c ss r)
unfolding replacer
step_is c ss r h = let k = greatest-is c (replacing ss r) (ltb-true 0 (replacer c ss r) h) in record {
  by = by-test (replaces ss r k.0)
      (λ t. let e : replacing ss r k.0 ≡ run_at ss k.0 = rw t in (k.0, k.1, (replaces-rule ss r k.0).holds t, sym e ∙ k.2))
      (λ t. let e : replacing ss r k.0 ≡ 0 = rw t in let f = k.2 in let z = ltb-true 0 (replacer c ss r) h in absurd (omega arith));
  highest = replacing-at c ss r;
}

pub replaced-rule : ReplacedRule
replaced-rule c ss r = record {
  holds = λ h. let k = (step_is c ss r h).by in (k.0, k.1, k.2);
  passes = λ h. let a = replacing-at c ss r h.0 h.1 h.2 in let b = h.2.below in lt-ltb 0 (replacer c ss r) (omega arith);
}

pub step-rule : StepRule
unfolding replacer
step-rule c ss r q h = let k = h.by in let e = k.3 in let low = replacing-at c ss r k.0 k.1 k.2 in
    let top = greatest-le c (replacing ss r) q (λ i l. by-test (replaces ss r i)
    (λ t. let a = h.highest i l ((replaces-rule ss r i).holds t) in let f : replacing ss r i ≡ run_at ss i = rw t in omega arith)
    (λ t. let f : replacing ss r i ≡ 0 = rw t in omega arith)) in
    omega arith

-- ---- the current run

module _ (c : ℕ) (ss : List Sheet) where
  -- the runs above r: there are fewer of them with each step, and of c sheets the run's own is not among them
  above : ℕ → ℕ → Bool
  above r i = counts ss i && ltb r (run_at ss i)

  above-less : (r : ℕ) → replaced c ss r ≡ true → count c (above (replacer c ss r)) < count c (above r)
  unfolding above
  above-less r h = let k = (step_is c ss r h).by in let e = k.3 in let up = k.2.below in
      let here = (counts-rule ss k.0).passes k.2.counted in
      count_less c (above (replacer c ss r)) (above r)
      (λ i il t. and_i (and_l (counts ss i) _ t)
      (let q = ltb-true (replacer c ss r) (run_at ss i) (and_r (counts ss i) _ t) in lt-ltb r (run_at ss i) (omega arith)))
      k.0 k.1
      (rw (le-ltb (replacer c ss r) (run_at ss k.0) (omega arith)) (and-false (counts ss k.0)))
      (and_i here (lt-ltb r (run_at ss k.0) up))

  above-start : (r i : ℕ) → i < c → StandsOn ss r i → count c (above r) ≤ c - 1
  unfolding above
  above-start r i l h = let e = h.number in let m = count-le c (λ j. true) in
      let less = count_less c (above r) (λ j. true) (λ j jl t. refl) i l
      (rw (le-ltb r (run_at ss i) (omega arith)) (and-false (counts ss i))) refl in
      omega arith

  follow-end : (n r : ℕ) → count c (above r) ≤ n → replaced c ss (follow c ss n r) ≡ false
  unfolding follow
  follow-end zero r h = by-test (replaced c ss r) (λ t. let l = above-less r t in absurd (omega arith)) (λ t. t)
  follow-end (suc n) r h = by-test (replaced c ss r)
      (λ t. let l = above-less r t in rw (t, follow) (follow-end n (replacer c ss r) (omega arith)))
      (λ t. rw (t, follow) t)

  follow-leads : (n r : ℕ) → (k : ℕ) × (k ≤ n) × Leads c ss k r (follow c ss n r)
  unfolding follow
  follow-leads zero r = (0, omega arith, refl)
  follow-leads (suc n) r = by-test (replaced c ss r)
      (λ t. let d = follow-leads n (replacer c ss r) in let l = d.1 in
      rw (t, follow) (suc d.0, omega arith, (replacer c ss r, step_is c ss r t, d.2)))
      (λ t. rw (t, follow) (0, omega arith, refl))

  -- each step leads to a run that stands on a sheet
  follow-stands : (n r : ℕ) → (i : ℕ) × (i < c) × StandsOn ss r i → (i : ℕ) × (i < c) × StandsOn ss (follow c ss n r) i
  unfolding follow
  follow-stands zero r h = h
  follow-stands (suc n) r h = by-test (replaced c ss r)
      (λ t. let k = (step_is c ss r t).by in
      rw (t, follow) (follow-stands n (replacer c ss r) (k.0, k.1, rw k.3 at k.2.counted)))
      (λ t. rw (t, follow) h)

  follow-few : (r i : ℕ) → i < c → StandsOn ss r i → CurrentIs c ss r (follow c ss (c - 1) r)
  follow-few r i l h = let d = follow-leads (c - 1) r in record {
    steps = d.0;
    few = d.1;
    leads = d.2;
    stands = follow-stands (c - 1) r (i, l, h);
    last = not_so (replaced-rule c ss (follow c ss (c - 1) r)) (follow-end (c - 1) r (above-start r i l h));
  }

  stepped : (r q : ℕ) → Step c ss r q → Replaced c ss r
  stepped r q h = (h.by.0, h.by.1, h.by.2)

  -- steps go one way, so that two ways to an end are one
  one_end : (k n r p q : ℕ) → Leads c ss k r p → (Replaced c ss p → ⊥) → Leads c ss n r q → (Replaced c ss q → ⊥) → p ≡ q
  one_end zero zero r p q a x b y = sym a ∙ b
  one_end zero (suc n) r p q a x b y = absurd (x (rw a at (stepped r b.0 b.1)))
  one_end (suc k) zero r p q a x b y = absurd (y (rw b at (stepped r a.0 a.1)))
  one_end (suc k) (suc n) r p q a x b y = let e = sym (step-rule c ss r b.0 b.1) ∙ step-rule c ss r a.0 a.1 in
      one_end k n a.0 p q a.2 x (rw e at b.2) y

pub current-rule : CurrentRule
unfolding current
current-rule c ss r i l h = follow-few c ss r i l h

pub current-one_rule : CurrentOneRule
current-one_rule c ss r i l h n q a x = let k = current-rule c ss r i l h in
    one_end c ss n k.steps r q (current c ss r) a x k.leads k.last
