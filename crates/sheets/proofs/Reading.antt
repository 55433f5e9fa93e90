-- Laws of reading a table: its sheets, what a search finds, which sheets count, and what a sheet replaces and claims.
use Rattle.std.proofs.Common.{◌≡◌, sym, ap, ◌∙◌, Bool, true, false, not, ◌&&◌, List, ℕ, ◌<◌, get_or, eqb, eq-eqb, ne_eqb, arith}
use Rattle.std.proofs.Math.ListN.{get_or-map}
use mathlib.Core.Bool.{and-false}
use Rattle.prelude.specs.Scan.{first}
use Rattle.prelude.proofs.Tests.{clash, and_i, or_r, not_t, not-i}
use Rattle.prelude.proofs.Scan.{Missed, all_of, all-fails, first-is, count_none, count-hit, count-miss}
use Rattle.runs.specs.Sheet.{Sheet, no_sheet, empty_run, inUse}
use Rattle.runs.specs.Runs.{sheet_at, run_at, counts}
use Rattle.sheets.specs.declared.Sheet as code
use Rattle.sheets.specs.View.{fields_of, sheets_of}

-- what stands where a table has no sheet
abbrev pub blank : code.Sheet
blank = record { run = 0; trainee = 0; sample = 0; first = 0; count = 0; mark = 0; replaces = 0 }

pub sheet_is : (t : List code.Sheet) (i : ℕ) → sheet_at (sheets_of t) i ≡ fields_of (get_or t i blank)
unfolding no_sheet
sheet_is t i = get_or-map fields_of t i blank

pub run_is : (t : List code.Sheet) (i : ℕ) → run_at (sheets_of t) i ≡ (get_or t i blank).run
run_is t i = ap (λ (s : Sheet). s.run) (sheet_is t i)

-- where no number below n passes
pub first_unmet : (n : ℕ) (p : ℕ → Bool) → Missed p n → n ≡ first n p
first_unmet n p m = first-is n p n (omega arith) m (λ k. absurd (omega arith))

-- a run number in use is not that of an erased page
pub not_erased : (r : ℕ) → not (empty_run r) ≡ true → r ≡ 4294967295 → ⊥
unfolding empty_run
not_erased r h e = clash (or_r (eqb r 0) (eq-eqb r 4294967295 e)) (not_t h)

-- ---- which sheets count

module _ (ss : List Sheet) (i : ℕ) where
  pub counts_empty : inUse (sheet_at ss i) ≡ false → false ≡ counts ss i
  unfolding counts
  counts_empty h = sym (rw h)

  pub counts_later : (j : ℕ) → j < i → run_at ss j ≡ run_at ss i → false ≡ counts ss i
  unfolding counts
  counts_later j l h = sym (ap (λ (b : Bool). inUse (sheet_at ss i) && b)
      (all-fails i _ j l (ap not (eq-eqb (run_at ss j) (run_at ss i) h))) ∙ and-false (inUse (sheet_at ss i)))

  pub counts_first : inUse (sheet_at ss i) ≡ true → ((j : ℕ) → j < i → run_at ss j ≡ run_at ss i → ⊥) → true ≡ counts ss i
  unfolding counts
  counts_first h m = sym (and_i h (all_of i _ (λ j l. not-i (ne_eqb (run_at ss j) (run_at ss i) (m j l)))))

pub ruleset reading = (sheet_is, run_is, first_unmet, not_erased, counts_empty)

pub ruleset counting = (first_unmet, count_none, count-hit, count-miss)
