-- The second sayings of the refusals and their order hold.
use mathlib.Core.Path.{◌≡◌, ap, ◌∙◌}
use mathlib.Core.Bool.{Bool, true, false, not}
use mathlib.Core.List.{List}
use Prim.Native.Nat.{ℕ, ◌+◌, ◌<◌}
use native.Mathlib.Omega.{arith}
use borrow.Author.Tests.{lt-ltb, le-ltb}
use Rattle.prelude.proofs.Tests.{not-i}
use Rattle.runs.specs.Sheet.{Sheet}
use Rattle.runs.specs.Runs.{sheet_at, known, position}
use Rattle.runs.specs.Ranges.{index_ok}
use Rattle.runs.specs.Roles.{Operation, Caller, masked}
use Rattle.runs.specs.Current.{current}
use Rattle.runs.specs.Verdict.{refuse, show, fetch, put, with_mark, new_sheet, placing, adding, looking, listing, reading}
use Rattle.runs.specs.Verdict.{replacing, marking, verdict, passed, stopped, in_order, judged}
use Rattle.runs.specs.RulesWords.{StandsOn, FirstEmpty, LargestIs, RangeFits}
use Rattle.runs.specs.RulesVerdict.{Unknown, added_sheet, OrderRule, AddRule, LookRule, ListRule, ReadRule, ReplaceRule, MarkRule}
use Rattle.runs.proofs.Verdict.{stops, goes}
use Rattle.runs.proofs.Rules.{refuted, find-rule, known-rule, first_empty-rule, largest-rule, full-rule}
use Rattle.runs.proofs.Rules.{position-rule, position-past_rule, range_rule, index_rule}
use Rattle.runs.proofs.RulesCurrent.{replaced-rule}

pub order-rule : (Answer : Type 0) (c pages : ℕ) (ss : List Sheet) (w : Caller) (o : Operation) → OrderRule Answer c pages ss w o
unfolding judged in_order
order-rule Answer c pages ss w o = record {
  role-first = λ k h. ap (λ (b : Bool). in_order b k (verdict c pages ss w o)) h;
  then-outside = λ a h. ap (λ (b : Bool). in_order b (stopped a) (verdict c pages ss w o)) h;
  then-sheets = λ h. ap (λ (b : Bool). in_order {Answer = Answer} b passed (verdict c pages ss w o)) h;
}

module _ (c pages : ℕ) (ss : List Sheet) (w : Caller) where
  unknown : (r : ℕ) → Unknown c ss r → not (known c ss r) ≡ true
  unknown r h = not-i (refuted (known-rule c ss r) (λ k. h k.0 k.1 k.2))

  found : (r i : ℕ) → i < c → StandsOn ss r i → not (known c ss r) ≡ false
  found r i l h = ap not ((known-rule c ss r).passes (i, l, h))

  module _ (r s f n : ℕ) where
    -- 11, once the run may be added
    bad-pages : (RangeFits c ss pages f n → ⊥) → placing c ss pages (new_sheet c ss w r s f n) ≡ refuse 11
    unfolding placing new_sheet
    bad-pages h = stops _ 11 _ (not-i (refuted (range_rule c ss pages f n) h))

    placed : RangeFits c ss pages f n → (i l : ℕ) → FirstEmpty c ss i → LargestIs c ss l
        → placing c ss pages (new_sheet c ss w r s f n) ≡ put i (added_sheet w (l + 1) r s f n)
    unfolding placing new_sheet
    placed h i l e m = goes _ 11 _ (ap not ((range_rule c ss pages f n).passes h))
        ∙ (λ k. put (first_empty-rule c ss i e k) (added_sheet w (largest-rule c ss l m k + 1) r s f n))

  pub add-rule : (s f n : ℕ) → AddRule c pages ss w s f n
  unfolding verdict adding
  add-rule s f n = record {
    full-first = λ h. stops _ 9 _ ((full-rule c ss).passes h);
    then-pages = λ h g. goes _ 9 _ (refuted (full-rule c ss) h) ∙ bad-pages 0 s f n g;
    else_adds = λ h g i l e m. goes _ 9 _ (refuted (full-rule c ss) h) ∙ placed 0 s f n g i l e m;
  }

  pub look-rule : (r : ℕ) → LookRule c pages ss w r
  unfolding verdict looking
  look-rule r = record {
    unknown-first = λ h. stops _ 10 _ (unknown r h);
    else_shows = λ i l h. goes _ 10 _ (found r i l h)
        ∙ ap (λ (j : ℕ). show (masked w (sheet_at ss j)) (current c ss r)) (find-rule c ss r i l h);
  }

  pub list-rule : (p : ℕ) → ListRule c pages ss w p
  unfolding verdict listing
  list-rule p = record {
    past = λ h. let e = position-past_rule c ss p h in stops _ 10 _ (ap not (le-ltb (position c ss p) c (omega arith)));
    else_tells = λ h. goes _ 10 _ (ap not (lt-ltb (position c ss p) c ((position-rule c ss).within p h)));
  }

  pub read-rule : (r x : ℕ) → ReadRule c pages ss w r x
  unfolding verdict reading
  read-rule r x = record {
    unknown-first = λ h. stops _ 10 _ (unknown r h);
    then-pages = λ i l h g. goes _ 10 _ (found r i l h)
        ∙ stops _ 11 _ (ap (λ (j : ℕ). not (index_ok c pages (sheet_at ss j) x)) (find-rule c ss r i l h)
        ∙ not-i (refuted (index_rule c pages (sheet_at ss i) x) g));
    else_reads = λ i l h g. goes _ 10 _ (found r i l h)
        ∙ goes _ 11 _ (ap (λ (j : ℕ). not (index_ok c pages (sheet_at ss j) x)) (find-rule c ss r i l h)
        ∙ ap not ((index_rule c pages (sheet_at ss i) x).passes g))
        ∙ ap (λ (j : ℕ). fetch ((sheet_at ss j).first + x)) (find-rule c ss r i l h);
  }

  pub replace-rule : (r s f n : ℕ) → ReplaceRule c pages ss w r s f n
  unfolding verdict replacing
  replace-rule r s f n = record {
    full-first = λ h. stops _ 9 _ ((full-rule c ss).passes h);
    then-unknown = λ h u. goes _ 9 _ (refuted (full-rule c ss) h) ∙ stops _ 10 _ (unknown r u);
    then-replaced = λ h i l u d. goes _ 9 _ (refuted (full-rule c ss) h) ∙ goes _ 10 _ (found r i l u)
        ∙ stops _ 13 _ ((replaced-rule c ss r).passes d);
    then-pages = λ h i l u d g. goes _ 9 _ (refuted (full-rule c ss) h) ∙ goes _ 10 _ (found r i l u)
        ∙ goes _ 13 _ (refuted (replaced-rule c ss r) d) ∙ bad-pages r s f n g;
    else_adds = λ h i l u d g e m a b. goes _ 9 _ (refuted (full-rule c ss) h) ∙ goes _ 10 _ (found r i l u)
        ∙ goes _ 13 _ (refuted (replaced-rule c ss r) d) ∙ placed r s f n g e m a b;
  }

  pub mark-rule : (r m : ℕ) → MarkRule c pages ss w r m
  unfolding verdict marking
  mark-rule r m = record {
    unknown-first = λ h. stops _ 10 _ (unknown r h);
    then-replaced = λ i l h d. goes _ 10 _ (found r i l h) ∙ stops _ 13 _ ((replaced-rule c ss r).passes d);
    then-above = λ i l h d k. goes _ 10 _ (found r i l h) ∙ goes _ 13 _ (refuted (replaced-rule c ss r) d) ∙ stops _ 11 _ (lt-ltb 100 m k);
    else_marks = λ i l h d k. goes _ 10 _ (found r i l h) ∙ goes _ 13 _ (refuted (replaced-rule c ss r) d) ∙ goes _ 11 _ (le-ltb 100 m k)
        ∙ ap (λ (j : ℕ). put j (with_mark (sheet_at ss j) m)) (find-rule c ss r i l h);
  }
