-- What is decoded where a page lies is the sheet that a reader is given.
use Rattle.std.proofs.Common.{◌≡◌, ◌≢◌, sym, ap, subst, ◌∙◌, true, false, List, [], ℕ, ◌+◌, ◌*◌, ◌%◌, ◌<◌, get_or, ltb, eqb, arith}
use Rattle.std.specs.Prelude.{None, Result, Ok}
use borrow.Author.Tests.{lt-ltb, le-ltb}
use lib.Arith.{digits_lt}
use Rattle.prelude.specs.Pages.{page_at, pages_of}
use Rattle.prelude.proofs.Pages.{page-at}
use Rattle.model.specs.Sizes.{Sizes, InLimits}
use Rattle.model.specs.Directory.{Directory}
use Rattle.model.specs.Policy.{slot_of, in_slots, frame_with, read_way}
use Rattle.model.specs.Moves.{read_page, flash_page}
use Rattle.model.specs.Calls.{Page, zero_page}
use Rattle.model.proofs.Lookup.{offset_lt}
use Rattle.answer.specs.declared.fault.Fault.{Fault}
use Rattle.answer.specs.Numbers.{fault_number}
use Rattle.chip.specs.declared.Seen.{Seen}
use Rattle.chip.specs.Formats.{read_at}
use Rattle.chip.specs.Chip.{Lent, Looked, Legible}
use Rattle.chip.proofs.Cells.{page-is, mends-is, page-lent, can-read, legible, read_plain}
use Rattle.reads.proofs.Places.{no-fault_read, no-mends_read, one-fault, one-mends}
use Rattle.runs.specs.Sheet.{sheet_of}
use Rattle.sheets.specs.declared.Sheet.{Sheet}
use Rattle.sheets.specs.View.{fields_of}
use Rattle.gather.specs.declared.sheet.Met.{Met}
use Rattle.gather.specs.Gather.{Found, CachedSheet, FlashSheet, SheetRead, page_read}

-- ---- a page of flash that was looked at, and that is not refused

module _ (sz : Sizes) (flash codes marks : List ℕ) (n : ℕ) (h : Lent sz flash codes marks) (l : n < sz.N * sz.K) (seen : Seen)
    (k : Looked sz flash codes marks n seen) (none : seen.fault ≡ None) where
  pub to_mend : seen.mends ≢ 0 → Legible sz flash codes n
  to_mend m = legible sz flash codes marks n (page-lent h l) seen k [] 0 (ap fault_number none) m

  -- where nothing is mended it is read as it lies
  pub as_it_lies : seen.mends ≡ 0 → read_at sz flash codes n ≡ page_at sz.S flash n
  as_it_lies m = read_plain sz flash codes n h.codes-lent l
      (can-read sz flash codes marks n (page-lent h l) seen k [] 0 (ap fault_number none))
      (sym (k.mends-are ∙ mends-is sz flash codes marks n l) ∙ m)

  pub found : (s : Sheet) → fields_of s ≡ sheet_of (read_at sz flash codes n)
      → FlashSheet sz flash codes marks n (Ok (record { mends = seen.mends; sheet = s }))
  found s e = record { fault-is = sym (ap fault_number none) ∙ k.fault-is; mends-are = k.mends-are; sheet-is = e }

-- ---- a page wherever it is

moved : {fault fault' mends mends' : ℕ} {x x' : Page} {r : Result Met Fault} → fault ≡ fault' → mends ≡ mends' → x ≡ x'
    → Found fault mends x r → Found fault' mends' x' r
moved {fault} {fault'} {mends} {mends'} {x} {x'} {r} p q e k = subst (λ (y : Page). Found fault' mends' y r) e
    (subst (λ (m : ℕ). Found fault' m x r) q (subst (λ (f : ℕ). Found f mends x r) p k))

-- a page of the frames' runs
pub frame-page_lt : (sz : Sizes) → InLimits sz → (n f : ℕ) → f < sz.B → f * sz.K + n % sz.K < sz.B * sz.K
frame-page_lt sz h n f l = digits_lt l (offset_lt sz h n)

no-slot : (sz : Sizes) (d : Directory) (n : ℕ) → sz.P ≡ slot_of sz d n → ltb (slot_of sz d n) sz.P ≡ false
no-slot sz d n m = le-ltb (slot_of sz d n) sz.P (omega arith)

module _ (sz : Sizes) (d : Directory) (flash codes marks pspace bspace : List ℕ) (n : ℕ) {r : Result Met Fault} where
  pub from_slot : (i : ℕ) → i ≡ slot_of sz d n → i < sz.P → CachedSheet sz.S pspace i r → SheetRead sz d flash codes marks pspace bspace n r
  unfolding read_page in_slots read_way
  from_slot i ei l k =
      let e : ltb (slot_of sz d n) sz.P ≡ true = lt-ltb (slot_of sz d n) sz.P (rw (← ei) l) in
      let w : eqb (read_way sz d n) 3 ≡ false = rw (e, read_way) in
      let x : page_at sz.S pspace i ≡ page_read sz d flash codes marks pspace bspace n = rw (e, read_page)
      (sym (page-at sz.S sz.P pspace (zero_page sz) i l) ∙ ap (λ (y : ℕ). get_or (pages_of sz.S sz.P pspace) y (zero_page sz)) ei) in
      moved (sym (no-fault_read sz d flash codes marks n w)) (sym (no-mends_read sz d flash codes marks n w)) x k

  module _ (m : sz.P ≡ slot_of sz d n) where
    pub from_frame : InLimits sz → (f at : ℕ) → f ≡ frame_with sz d n → f < sz.B → at ≡ f * sz.K + n % sz.K
        → CachedSheet sz.S bspace at r → SheetRead sz d flash codes marks pspace bspace n r
    unfolding read_page in_slots read_way
    from_frame h f at ef l ea k =
        let g : ltb (frame_with sz d n) sz.B ≡ true = lt-ltb (frame_with sz d n) sz.B (rw (← ef) l) in
        let w : eqb (read_way sz d n) 3 ≡ false = rw (no-slot sz d n m, read_way) (rw g) in
        let x : page_at sz.S bspace at ≡ page_read sz d flash codes marks pspace bspace n = rw (no-slot sz d n m, read_page) (rw g
        (ap (page_at sz.S bspace) ea ∙ sym (page-at sz.S (sz.B * sz.K) bspace (zero_page sz) _ (frame-page_lt sz h n f l))
        ∙ ap (λ (y : ℕ). get_or (pages_of sz.S (sz.B * sz.K) bspace) (y * sz.K + n % sz.K) (zero_page sz)) ef)) in
        moved (sym (no-fault_read sz d flash codes marks n w)) (sym (no-mends_read sz d flash codes marks n w)) x k

    pub from_flash : sz.B ≡ frame_with sz d n → n < sz.N * sz.K → FlashSheet sz flash codes marks n r
        → SheetRead sz d flash codes marks pspace bspace n r
    unfolding read_page in_slots flash_page read_way
    from_flash ef l k =
        let g : ltb (frame_with sz d n) sz.B ≡ false = le-ltb (frame_with sz d n) sz.B (omega arith) in
        let w : eqb (read_way sz d n) 3 ≡ true = rw (no-slot sz d n m, read_way) (rw g) in
        let x : read_at sz flash codes n ≡ page_read sz d flash codes marks pspace bspace n = rw (no-slot sz d n m, read_page) (rw g
        (sym (page-is sz flash codes marks n l))) in
        moved (sym (one-fault sz d flash codes marks n w l)) (sym (one-mends sz d flash codes marks n w l)) x k
