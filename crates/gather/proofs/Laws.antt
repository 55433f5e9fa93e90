-- Laws of reading all sheets, one after the other.
use Rattle.std.proofs.Common.{◌≡◌, ◌≢◌, sym, ap, ◌∙◌, Bool, not, cond, List, ℕ, ◌+◌, ◌≤◌, ◌<◌, length, get_or, set, take, ltb, eqb, arith}
use Rattle.std.proofs.Common.{get_or-set_same, get_or-set_other, get_or-take, length-take-le}
use Rattle.std.specs.Prelude.{Some, Ok, Err}
use Rattle.std.proofs.Math.ListN.{length-map}
use lib.Seq.{ext_get_or}
use borrow.Author.Tests.{eqb-true, eqb-false, eq-eqb, ne_eqb, lt-ltb, le-ltb}
use Rattle.prelude.proofs.Tests.{by-test}
use Rattle.prelude.proofs.Scan.{first-is}
use Rattle.prelude.proofs.Tab.{length-tab, get_d_tab}
use Rattle.model.specs.Sizes.{Sizes}
use Rattle.model.specs.Directory.{Directory}
use Rattle.model.specs.Calls.{Page}
use Rattle.answer.specs.declared.fault.Fault.{Fault}
use Rattle.answer.specs.declared.fault.Fault.TheVariants.{Unreadable, Torn}
use Rattle.answer.specs.Numbers.{fault_number}
use Rattle.reads.specs.Reads.{fault_read, mends_read}
use Rattle.runs.specs.Sheet.{no_sheet, sheet_of}
use Rattle.sheets.specs.declared.Sheet.{Sheet}
use Rattle.sheets.specs.View.{fields_of}
use Rattle.sheets.proofs.Reading.{blank, sheet_is}
use Rattle.gather.specs.Gather.{lowest_met, page_read, Gathered}

-- entries set one after the other, each with what it is to show
set_more : {A X : Type 0} (f : A → X) (g : ℕ → X) (d : A) (l : List A) (i : ℕ) (x : A) → i < length l
    → ((j : ℕ) → j < i → f (get_or l j d) ≡ g j) → f x ≡ g i → (j : ℕ) → j < i + 1 → f (get_or (set l i x) j d) ≡ g j
set_more f g d l i x il h e j jl = by-test (eqb j i)
    (λ q. rw (eqb-true j i q) (ap f (get_or-set_same l i x d il) ∙ e))
    (λ q. let ne = eqb-false j i q in ap f (get_or-set_other l i j x d ne) ∙ h j (omega arith))

some_fault : (fault : Fault) → fault_number (Some fault) ≢ 0
some_fault Unreadable z = omega arith
some_fault Torn z = omega arith

module _ (sz : Sizes) (d : Directory) (flash codes marks pspace bspace : List ℕ) where
  abbrev at : ℕ → Page
  at = page_read sz d flash codes marks pspace bspace

  abbrev faults : ℕ → ℕ
  faults = fault_read sz d flash codes marks

  -- the first i pages were not refused, and stand in the tables
  pub record SoFar (i : ℕ) (t : List Sheet) (mends : List ℕ) : Type 0 where
    pub passed : (j : ℕ) → j < i → faults j ≡ 0
    pub sheets : (j : ℕ) → j < i → fields_of (get_or t j blank) ≡ sheet_of (at j)
    pub mended : (j : ℕ) → j < i → get_or mends j 0 ≡ mends_read sz d flash codes marks j

  pub so_far_more : (i : ℕ) (t : List Sheet) (mends : List ℕ) (s : Sheet) (m : ℕ) → i < length t → i < length mends → SoFar i t mends
      → 0 ≡ faults i → fields_of s ≡ sheet_of (at i) → m ≡ mends_read sz d flash codes marks i → SoFar (i + 1) (set t i s) (set mends i m)
  so_far_more i t mends s m tl ml h f e em = record {
    passed = λ j l. by-test (eqb j i) (λ q. ap faults (eqb-true j i q) ∙ sym f) (λ q. let ne = eqb-false j i q in h.passed j (omega arith));
    sheets = set_more fields_of (λ j. sheet_of (at j)) blank t i s tl h.sheets e;
    mended = set_more (λ x. x) (mends_read sz d flash codes marks) 0 mends i m ml h.mended em;
  }

  module _ (c i : ℕ) (t : List Sheet) (mends : List ℕ) (h : SoFar i t mends) where
    -- a refused page ends it
    pub met_first : i < c → (fault : Fault) → fault_number (Some fault) ≡ faults i
        → Gathered sz d flash codes marks pspace bspace c (Err fault) t mends
    met_first l fault e =
        let low : i ≡ lowest_met sz d flash codes marks c = first-is c (λ j. not (eqb (faults j) 0)) i (omega arith)
        (λ j k. ap (λ (x : Bool). not x) (eq-eqb (faults j) 0 (h.passed j k)))
        (λ k. ap (λ (x : Bool). not x) (ne_eqb (faults i) 0 (λ z. some_fault fault (e ∙ z)))) in
        record {
          fault-is = e ∙ sym (ap (λ (x : ℕ). cond (ltb x c) (faults x) 0) (sym low) ∙ rw (lt-ltb i c l));
          sheets-are = tt;
          mends-are = tt;
        }

    pub none_met : i ≡ c → c ≤ length t → Gathered sz d flash codes marks pspace bspace c (Ok tt) t mends
    none_met q few =
        let low : i ≡ lowest_met sz d flash codes marks c = first-is c (λ j. not (eqb (faults j) 0)) i (omega arith)
        (λ j k. ap (λ (x : Bool). not x) (eq-eqb (faults j) 0 (h.passed j k))) (λ k. absurd (omega arith)) in
        let long = length-take-le c t few in
        record {
          fault-is = sym (ap (λ (x : ℕ). cond (ltb x c) (faults x) 0) (sym low) ∙ rw (le-ltb i c (omega arith)));
          sheets-are = ext_get_or no_sheet _ _ (length-map (take c t) fields_of ∙ long ∙ sym (length-tab c _)) (λ j k.
              let jl : j < c = (rw (length-map (take c t) fields_of, long) at k) in
              sheet_is (take c t) j ∙ ap fields_of (get_or-take c t j blank jl) ∙ h.sheets j (omega arith) ∙ sym (get_d_tab c _ no_sheet j jl));
          mends-are = λ j k. h.mended j (omega arith);
        }
