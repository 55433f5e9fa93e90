-- Flash, codes and marks as cells: what a cell is, and what a page put into each of the three makes of the cells.
use mathlib.Core.Path.{◌≡◌, refl, sym, ap, ◌∙◌}
use mathlib.Core.Logic.{◌≢◌}
use mathlib.Core.Bool.{Bool, true, false, cond}
use Rattle.std.specs.Prelude.{Option, None, Some, is_some}
use mathlib.Core.List.{List, [], ◌∷◌}
use Prim.Native.Nat.{ℕ, ◌*◌, ◌/◌, ◌<◌}
use native.Mathlib.Omega.{arith}
use lib.Dec.{eqb}
use lib.ListN.{length, get_or, set, length-set}
use lib.Seq.{ext_get_or, get_or-set_same, get_or-set_other}
use borrow.Author.Tests.{eqb-true, eqb-false, ne_eqb}
use Rattle.prelude.specs.Pages.{page_at, put_page}
use Rattle.prelude.proofs.Tests.{by-test, clash, not_f}
use Rattle.prelude.proofs.Tab.{length-tab, get_d_tab}
use Rattle.prelude.proofs.Pages.{in_run, length-page_at, page-put_same, page-put_other}
use Rattle.model.specs.Sizes.{Sizes, InLimits, is_coded, is_marked}
use Rattle.model.specs.Moves.{cell_at}
use Rattle.model.specs.Calls.{Page, Cell, Buffers, Fits, flash_cells}
use Rattle.model.specs.Lists.{no_cell}
use Rattle.model.specs.Formats.{format_of, torn, store_format}
use Rattle.codes.proofs.Pages.{length-codes, length-read}
use Rattle.codes.proofs.Pages.{none-mended}
use Rattle.page.specs.Page.{HasPage}
use Rattle.answer.specs.declared.fault.Fault.{Fault}
use Rattle.answer.specs.declared.fault.Fault.TheVariants.{Unreadable, Torn}
use Rattle.answer.specs.Numbers.{fault_number}
use Rattle.chip.specs.declared.Seen.{Seen}
use Rattle.model.specs.Formats.{page_code, code_for, chip_for, code_long, mark_long}
use Rattle.chip.specs.Formats.{cells, cell_on, read_at, unreadable_at, mends_at}
use Rattle.chip.specs.Chip.{CodesLent, Lent, PageLent, CodeLooked, Looked, ReadOut, Legible, torn_at, fault_on, mends_on, Programmed}

-- ---- a cell

module _ (sz : Sizes) (flash codes marks : List ℕ) where
  abbrev pub cell_of : ℕ → Cell
  cell_of n = record { bytes = page_at sz.S flash n; code = page_at (code_long sz) codes n; mark = page_at (mark_long sz) marks n }

  pub cells-long : length (cells sz flash codes marks) ≡ sz.N * sz.K
  unfolding flash_cells
  cells-long = length-tab (sz.N * sz.K) _

  pub cell-at : (d : Cell) (n : ℕ) → n < sz.N * sz.K → get_or (cells sz flash codes marks) n d ≡ cell_of n
  unfolding flash_cells format_of
  cell-at d n l = get_d_tab (sz.N * sz.K) (cell_of) d n l

  module _ (n : ℕ) (l : n < sz.N * sz.K) where
    pub cell-is : cell_on sz flash codes marks n ≡ cell_of n
    unfolding cell_at
    cell-is = cell-at _ n l

    pub page-is : (chip_for sz).page (cell_on sz flash codes marks n) ≡ read_at sz flash codes n
    unfolding format_of
    page-is = ap (chip_for sz).page cell-is

    pub fault-is : fault_on sz flash codes marks n ≡ cond (unreadable_at sz flash codes n) 7 (cond (torn_at sz marks n) 14 0)
    unfolding format_of torn
    fault-is = ap (chip_for sz).fault cell-is

    pub mends-is : mends_on sz flash codes marks n ≡ mends_at sz flash codes n
    unfolding format_of
    mends-is = ap (chip_for sz).mends cell-is

-- ---- the lengths of a page's code and of a mark

pub code-long : (coded : Bool) (sz : Sizes) (x : Page) → length ((code_for coded).code_of sz x) ≡ (code_for coded).long sz
unfolding page_code
code-long true sz x = length-codes _ x
code-long false sz x = refl

pub mark-long : (marked : Bool) → length {A = ℕ} (cond marked (0 ∷ []) []) ≡ cond marked 1 0
mark-long true = refl
mark-long false = refl

-- ---- pages put into all three

module _ (sz : Sizes) (flash codes marks : List ℕ) (h : Lent sz flash codes marks) (n : ℕ) (l : n < sz.N * sz.K) where
  pub in_flash : HasPage sz.S flash n
  in_flash = in_run sz.S (sz.N * sz.K) flash h.codes-lent.flash-length l

  pub in_codes : HasPage (code_long sz) codes n
  in_codes = in_run (code_long sz) (sz.N * sz.K) codes h.codes-lent.codes-length l

  pub in_marks : HasPage (mark_long sz) marks n
  in_marks = in_run (mark_long sz) (sz.N * sz.K) marks h.marks-length l

  module _ (x c m : List ℕ) (xl : length x ≡ sz.S) (cl : length c ≡ code_long sz) (ml : length m ≡ mark_long sz) where
    pub cells-put : cells sz (put_page sz.S flash n x) (put_page (code_long sz) codes n c) (put_page (mark_long sz) marks n m)
        ≡ set (cells sz flash codes marks) n (record { bytes = x; code = c; mark = m })
    cells-put = ext_get_or no_cell _ _ (cells-long sz _ _ _ ∙ sym (length-set (cells sz flash codes marks) n _
        ∙ cells-long sz flash codes marks)) (λ j k.
        let jl : j < sz.N * sz.K = (rw (cells-long sz (put_page sz.S flash n x) (put_page (code_long sz) codes n c)
        (put_page (mark_long sz) marks n m)) at k) in
        cell-at sz _ _ _ no_cell j jl ∙ by-test (eqb j n)
        (λ e. rw (eqb-true j n e)
        ((λ i. record {
          bytes = page-put_same sz.S flash n x in_flash xl i;
          code = page-put_same (code_long sz) codes n c in_codes cl i;
          mark = page-put_same (mark_long sz) marks n m in_marks ml i;
        })
        ∙ sym (get_or-set_same (cells sz flash codes marks) n (record { bytes = x; code = c; mark = m }) no_cell
        (rw (cells-long sz flash codes marks) l))))
        (λ e. let ne = eqb-false j n e in
        (λ i. record {
          bytes = page-put_other sz.S flash n x in_flash xl j (λ q. ne (sym q)) i;
          code = page-put_other (code_long sz) codes n c in_codes cl j (λ q. ne (sym q)) i;
          mark = page-put_other (mark_long sz) marks n m in_marks ml j (λ q. ne (sym q)) i;
        })
        ∙ sym (get_or-set_other (cells sz flash codes marks) n j (record { bytes = x; code = c; mark = m }) no_cell ne
        ∙ cell-at sz flash codes marks no_cell j jl)))

  -- page x is programmed
  pub programmed-is : (x flash' codes' marks' : List ℕ) → length x ≡ sz.S → flash' ≡ put_page sz.S flash n x
      → codes' ≡ put_page (code_long sz) codes n ((code_for (is_coded sz)).code_of sz (page_at sz.S flash' n))
      → marks' ≡ put_page (mark_long sz) marks n (cond (is_marked sz) (0 ∷ []) [])
      → Programmed sz flash codes marks n x flash' codes' marks'
  unfolding format_of
  programmed-is x flash' codes' marks' xl fe ce me =
      let back : page_at sz.S flash' n ≡ x = rw fe (page-put_same sz.S flash n x in_flash xl) in
      let ce' : codes' ≡ put_page (code_long sz) codes n ((code_for (is_coded sz)).code_of sz x) = ce
      ∙ ap (λ (y : Page). put_page (code_long sz) codes n ((code_for (is_coded sz)).code_of sz y)) back in
      record { cells_are = rw (fe, ce', me) (cells-put x _ _ xl (code-long (is_coded sz) sz x) (mark-long (is_marked sz))) }

-- ---- reading

-- the rules of a code, by whether there is one
module _ (sz : Sizes) (x : Page) (k : List ℕ) (xl : length x ≡ sz.S) where
  plain_by : (coded : Bool) → (coded ≡ true → sz.S / 256 * 256 ≡ sz.S) → (code_for coded).unreadable sz x k ≡ false
      → (code_for coded).mends sz x k ≡ 0 → (code_for coded).page_read sz x k ≡ x
  unfolding page_code
  plain_by true w u e = none-mended (sz.S / 256) x k (xl ∙ sym (w refl)) (not_f u) e
  plain_by false w u e = refl

  long-by : (coded : Bool) → (coded ≡ true → sz.S / 256 * 256 ≡ sz.S) → length ((code_for coded).page_read sz x k) ≡ sz.S
  unfolding page_code
  long-by true w = length-read (sz.S / 256) x k (xl ∙ sym (w refl)) ∙ w refl
  long-by false w = xl

module _ (sz : Sizes) (flash codes : List ℕ) (n : ℕ) (h : CodesLent sz flash codes) (l : n < sz.N * sz.K) where
  page-long : length (page_at sz.S flash n) ≡ sz.S
  page-long = length-page_at sz.S flash n (in_run sz.S (sz.N * sz.K) flash h.flash-length l)

  -- a page of which nothing is mended is read as its bytes
  pub read_plain : unreadable_at sz flash codes n ≡ false → mends_at sz flash codes n ≡ 0 → read_at sz flash codes n ≡ page_at sz.S flash n
  read_plain u e = plain_by sz _ _ page-long (is_coded sz) h.whole u e

  pub read-long : length (read_at sz flash codes n) ≡ sz.S
  read-long = long-by sz _ (page_at (code_long sz) codes n) page-long (is_coded sz) h.whole

-- only a coded store mends
pub mends-coded : (coded : Bool) (sz : Sizes) (x : Page) (k : List ℕ) → 0 < (code_for coded).mends sz x k → coded ≡ true
mends-coded true sz x k h = refl
mends-coded false sz x k h = absurd (omega arith)

-- ---- a fault's number

pub number-some : (f : Option Fault) → is_some f ≡ true → fault_number f ≢ 0
number-some None e z = clash e refl
number-some (Some Unreadable) e z = omega arith
number-some (Some Torn) e z = omega arith

pub number-none : (f : Option Fault) → is_some f ≡ false → fault_number f ≡ 0
number-none None e = refl
number-none (Some f) e = clash refl e

-- ---- a page is looked at: first its code, then its mark

some-fault : (u : Bool) (r : ℕ) → r ≡ cond u 7 0 → r ≢ 0 → u ≡ true
some-fault true r e n = refl
some-fault false r e n = absurd (n e)

no-fault : (u : Bool) (r : ℕ) → r ≡ cond u 7 0 → r ≡ 0 → u ≡ false
no-fault true r e z = absurd (omega arith)
no-fault false r e z = refl

module _ (sz : Sizes) (flash codes marks : List ℕ) (n : ℕ) (l : n < sz.N * sz.K) (seen : Seen) (h : CodeLooked sz flash codes n seen)
  where
    mends-seen : seen.mends ≡ mends_on sz flash codes marks n
    mends-seen = h.mends-are ∙ sym (mends-is sz flash codes marks n l)

    pub looked-bad : is_some seen.fault ≡ true → Looked sz flash codes marks n seen
    looked-bad e = let u : unreadable_at sz flash codes n ≡ true = some-fault _ (fault_number seen.fault) h.fault-is (number-some _ e) in
        record { fault-is = h.fault-is ∙ sym (rw (fault-is sz flash codes marks n l, u)); mends-are = mends-seen }

    module _ (none : is_some seen.fault ≡ false) where
      z : fault_number seen.fault ≡ 0
      z = number-none seen.fault none

      unread : unreadable_at sz flash codes n ≡ false
      unread = no-fault _ (fault_number seen.fault) h.fault-is z

      pub looked-torn : torn_at sz marks n ≡ true → Looked sz flash codes marks n (record { fault = Some Torn; mends = seen.mends })
      looked-torn e = record { fault-is = rw (fault-is sz flash codes marks n l, unread, e); mends-are = mends-seen }

      pub looked-good : torn_at sz marks n ≡ false → Looked sz flash codes marks n seen
      looked-good e = record { fault-is = rw (fault-is sz flash codes marks n l, unread, e) z; mends-are = mends-seen }

-- ---- and read

pub page-lent : {sz : Sizes} {flash codes marks : List ℕ} {n : ℕ} → Lent sz flash codes marks → n < sz.N * sz.K
    → PageLent sz flash codes marks n
page-lent h l = record { lent = h; page-lt = l }

-- a page without fault can be read
fault-none : (u x : Bool) → ◌≡◌ {A = ℕ} (cond u 7 (cond x 14 0)) 0 → u ≡ false
fault-none true x h = absurd (omega arith)
fault-none false x h = refl

module _ (sz : Sizes) (flash codes marks : List ℕ) (n : ℕ) (h : PageLent sz flash codes marks n) (seen : Seen)
    (k : Looked sz flash codes marks n seen) (dst : List ℕ) (di : ℕ) where
  pub read_none : is_some seen.fault ≡ true → ReadOut sz flash codes marks n dst di seen dst
  read_none e = record { looked = k; data_is = rw (ne_eqb (fault_number seen.fault) 0 (number-some _ e)) }

  module _ (z : fault_number seen.fault ≡ 0) where
    pub can-read : unreadable_at sz flash codes n ≡ false
    can-read = fault-none _ (torn_at sz marks n) (sym (k.fault-is ∙ fault-is sz flash codes marks n h.page-lt) ∙ z)

    pub read_whole : (dst' : List ℕ) → dst' ≡ put_page sz.S dst di (read_at sz flash codes n)
        → ReadOut sz flash codes marks n dst di seen dst'
    read_whole dst' e = record { looked = k; data_is = rw (z, page-is sz flash codes marks n h.page-lt) e }

    pub legible : seen.mends ≢ 0 → Legible sz flash codes n
    legible m = record {
      codes-lent = h.lent.codes-lent;
      page-lt = h.page-lt;
      coded = mends-coded (is_coded sz) sz (page_at sz.S flash n) (page_at (code_long sz) codes n)
          (let e = k.mends-are ∙ mends-is sz flash codes marks n h.page-lt in rw (← e) (omega arith));
      readable = can-read;
    }

    pub read-raw : seen.mends ≡ 0 → (dst' : List ℕ) → dst' ≡ put_page sz.S dst di (page_at sz.S flash n)
        → ReadOut sz flash codes marks n dst di seen dst'
    read-raw m dst' e = read_whole dst' (e ∙ ap (put_page sz.S dst di)
        (sym (read_plain sz flash codes n h.lent.codes-lent h.page-lt can-read
        (sym (k.mends-are ∙ mends-is sz flash codes marks n h.page-lt) ∙ m))))

-- ---- buffers in their sizes are lent as the chip asks

pub lent_of : (sz : Sizes) (u : Buffers) → InLimits sz → Fits store_format sz u → Lent sz u.flash u.codes u.marks
lent_of sz u l h = record {
  codes-lent = record {
    limits = l;
    whole = l.whole;
    flash-length = h.flash-length;
    codes-length = h.codes-length;
  };
  marks-length = h.marks-length;
}

pub ruleset reading = (page-lent, read_none)
