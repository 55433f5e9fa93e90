-- Request A10's second sayings hold: the grid, what a trainee sees, and that others' trainee numbers and marks stay unseen.
use mathlib.Core.Path.{◌≡◌, refl, sym, ap, ◌∙◌}
use mathlib.Core.Bool.{true, false, not, cond, ◌&&◌, and-false}
use mathlib.Core.List.{List, [], ◌∷◌}
use Prim.Native.Nat.{ℕ, zero, suc, ◌-◌, ◌<◌}
use native.Mathlib.Omega.{arith}
use lib.Dec.{ltb, eqb}
use lib.ListN.{length}
use borrow.Author.Tests.{ltb-true, ltb-false, eqb-true, eqb-false, eq-eqb, ne_eqb}
use Rattle.prelude.specs.Tests.{every}
use Rattle.prelude.specs.Scan.{first, all, nth, greatest}
use Rattle.prelude.proofs.Tests.{by-test}
use Rattle.prelude.proofs.Tab.{get_d_past}
use Rattle.runs.specs.Sheet.{Sheet, empty_run, no_sheet, unmarked}
use Rattle.runs.specs.Runs.{sheet_at, run_at, counts, find, position}
use Rattle.runs.specs.Roles.{Role, trainee, tutor, examiner, Operation, add, look, list, read, replace, mark, grid, allowed}
use Rattle.runs.specs.Roles.{Caller, is_trainee, another, masked}
use Rattle.runs.specs.Current.{replaces, replacer, replaced, follow, current}
use Rattle.runs.specs.Verdict.{unless, show, tell, looking, listing, verdict, in_order, judged}
use Rattle.runs.specs.RulesRoles.{GridRule, MaskRule, Alike, Looks, looks, lists, UnseenRule}

-- ---- the grid

pub grid-rule : GridRule
unfolding allowed grid
grid-rule = record {
  adds = λ w s f n. elim w as (λ w'. allowed w' (add s f n) ≡ true) [ trainee ↦ refl | tutor ↦ refl | examiner ↦ refl ];
  looks = λ w r. elim w as (λ w'. allowed w' (look r) ≡ true) [ trainee ↦ refl | tutor ↦ refl | examiner ↦ refl ];
  lists = λ w p. elim w as (λ w'. allowed w' (list p) ≡ true) [ trainee ↦ refl | tutor ↦ refl | examiner ↦ refl ];
  reads = λ w r x. elim w as (λ w'. allowed w' (read r x) ≡ true) [ trainee ↦ refl | tutor ↦ refl | examiner ↦ refl ];
  trainee-replaces = λ r s f n. refl;
  tutor-replaces = λ r s f n. refl;
  trainee-marks = λ r m. refl;
  tutor-marks = λ r m. refl;
  examiner-does = λ o. elim o as (λ o'. allowed examiner o' ≡ true) [
    | add s f n ↦ refl
    | look r ↦ refl
    | list p ↦ refl
    | read r x ↦ refl
    | replace r s f n ↦ refl
    | mark r m ↦ refl
  ];
}

-- ---- what a caller sees

staff-sees : (w : Role) → (w ≡ trainee → ⊥) → is_trainee w ≡ false
staff-sees trainee h = absurd (h refl)
staff-sees tutor h = refl
staff-sees examiner h = refl

pub mask-rule : (w : Caller) (s : Sheet) → MaskRule w s
unfolding masked another
mask-rule w s = record {
  own = λ e. rw (eq-eqb s.trainee w.number e, and-false (is_trainee w.role));
  staff = λ h. rw (staff-sees w.role h);
  other = λ t h. rw (t, ne_eqb s.trainee w.number h);
}

-- a trainee sees alike sheets alike: its own are equal, and of others' the rest is
masked_same : (w : Caller) → w.role ≡ trainee → (s s' : Sheet) → Alike w.number s s' → masked w s ≡ masked w s'
masked_same w t s s' h = by-test (eqb s.trainee w.number)
    (λ e. ap (masked w) (h.own (eqb-true s.trainee w.number e)))
    (λ e. by-test (eqb s'.trainee w.number)
    (λ e'. ap (masked w) (h.own' (eqb-true s'.trainee w.number e')))
    (λ e'. (mask-rule w s).other t (λ q. unequal s.trainee e q) ∙ (λ i. record {
      run = h.run_is i;
      trainee = 0;
      sample = h.sample-is i;
      first = h.first-is i;
      count = h.count-is i;
      mark = unmarked;
      replaces = h.replaces-is i;
    }) ∙ sym ((mask-rule w s').other t (λ q. unequal s'.trainee e' q))))
  where
    unequal : (x : ℕ) → eqb x w.number ≡ false → x ≡ w.number → ⊥
    unequal x e q = eqb-false x w.number e q

-- ---- what a trainee cannot learn

-- whatever goes by run numbers and replacements alone is the same of two lists whose sheets are alike, one by one
module _ (c : ℕ) (ss ss' : List Sheet) (t : ℕ) (alike : (i : ℕ) → Alike t (sheet_at ss i) (sheet_at ss' i)) where
  counts_same : counts ss ≡ counts ss'
  unfolding counts
  counts_same = λ k i. not (empty_run ((alike i).run_is k)) && all i (λ j. not (eqb ((alike j).run_is k) ((alike i).run_is k)))

  find-same : (r : ℕ) → find c ss r ≡ find c ss' r
  unfolding find
  find-same r = λ k. first c (λ i. not (empty_run ((alike i).run_is k)) && eqb ((alike i).run_is k) r)

  position-same : (n : ℕ) → position c ss n ≡ position c ss' n
  unfolding position
  position-same n = λ k. nth c (counts_same k) n

  replacer-same : (r : ℕ) → replacer c ss r ≡ replacer c ss' r
  unfolding replacer replaces
  replacer-same r = λ k. greatest c (λ i. cond
      (every (eqb ((alike i).replaces-is k) r ∷ ltb 0 r ∷ ltb r ((alike i).run_is k) ∷ counts_same k i ∷ [])) ((alike i).run_is k) 0)

  follow-same : (n r : ℕ) → follow c ss n r ≡ follow c ss' n r
  unfolding follow
  follow-same zero r = refl
  follow-same (suc n) r = by-test (replaced c ss r)
      (λ h. let h' : replaced c ss' r ≡ true = sym (ap (ltb 0) (replacer-same r)) ∙ h in
      rw (h, h', follow) (follow-same n (replacer c ss r) ∙ ap (follow c ss' n) (replacer-same r)))
      (λ h. let h' : replaced c ss' r ≡ false = sym (ap (ltb 0) (replacer-same r)) ∙ h in rw (h, h', follow))

  current-same : (r : ℕ) → current c ss r ≡ current c ss' r
  unfolding current
  current-same r = follow-same (c - 1) r

  module _ (w : Caller) (role : w.role ≡ trainee) (self : w.number ≡ t) where
    look-same : (r : ℕ) → looking c ss w r ≡ looking c ss' w r
    unfolding looking
    look-same r = λ k. unless (not (ltb (find-same r k) c)) 10 (show (seen k) (current-same r k))
      where
        seen : masked w (sheet_at ss (find c ss r)) ≡ masked w (sheet_at ss' (find c ss' r))
        seen = masked_same w role (sheet_at ss (find c ss r)) (sheet_at ss' (find c ss r)) (rw self (alike (find c ss r)))
            ∙ ap (λ (i : ℕ). masked w (sheet_at ss' i)) (find-same r)

    list_same : (n : ℕ) → listing c ss n ≡ listing c ss' n
    unfolding listing
    list_same n = λ k. unless (not (ltb (position-same n k) c)) 10 (tell (run-there k))
      where
        run-there : run_at ss (position c ss n) ≡ run_at ss' (position c ss' n)
        run-there = (alike (position c ss n)).run_is ∙ ap (run_at ss') (position-same n)

    verdict-same : (pages : ℕ) (o : Operation) → Looks o → verdict c pages ss w o ≡ verdict c pages ss' w o
    unfolding verdict
    verdict-same pages o (looks r) = look-same r
    verdict-same pages o (lists p) = list_same p

-- past their end, lists of equal length have nothing to tell apart
alike-past : (c : ℕ) (ss ss' : List Sheet) (t : ℕ) → length ss ≡ c → length ss' ≡ c
    → ((i : ℕ) → i < c → Alike t (sheet_at ss i) (sheet_at ss' i)) → (i : ℕ) → Alike t (sheet_at ss i) (sheet_at ss' i)
alike-past c ss ss' t e e' h i = by-test (ltb i c)
    (λ b. h i (ltb-true i c b))
    (λ b. let l = ltb-false i c b in
    let p : sheet_at ss i ≡ no_sheet = get_d_past no_sheet ss i (omega arith) in
    let p' : sheet_at ss' i ≡ no_sheet = get_d_past no_sheet ss' i (omega arith) in
    let q : sheet_at ss i ≡ sheet_at ss' i = p ∙ sym p' in record {
      run_is = ap (λ (s : Sheet). s.run) q;
      sample-is = ap (λ (s : Sheet). s.sample) q;
      first-is = ap (λ (s : Sheet). s.first) q;
      count-is = ap (λ (s : Sheet). s.count) q;
      replaces-is = ap (λ (s : Sheet). s.replaces) q;
      own = λ x. q;
      own' = λ x. q;
    })

pub unseen_rule : UnseenRule
unfolding judged
unseen_rule Answer c pages ss ss' w role e e' h o l k =
    ap (in_order (allowed w.role o) k) (verdict-same c ss ss' w.number (alike-past c ss ss' w.number e e' h) w role refl pages o l)
