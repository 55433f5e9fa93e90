-- Requests A9 to A11 over the store: a call of a catalogue whose sheets are the first c pages. It reads all sheets, as no use, judges the
-- operation by what they hold, and has the store make the last step.
use Rattle.std.specs.Prelude.{Bool, true, false, not, cond, ◌&&◌, ◌||◌, List, [], ◌∷◌, ℕ, ◌*◌, leb, ltb, eqb, length}
use Rattle.prelude.specs.Tests.{every}
use Rattle.prelude.specs.Scan.{first, tab}
use Rattle.model.specs.Sizes.{Sizes, vacant}
use Rattle.model.specs.Directory.{Directory}
use Rattle.model.specs.Soundness.{sound}
use Rattle.model.specs.Policy.{Choice, read_way}
use Rattle.model.specs.Moves.{cell_at}
use Rattle.model.specs.Calls.{Answer, refused, is_refused, Call, read, write, Page, lent_ok, zero_page, flash_cells, state_of, reads_page}
use Rattle.model.specs.Calls.{fault_met, mends_met, reads_all, page_seen}
use Rattle.model.specs.Formats.{chip_for, store_format}
use Rattle.model.specs.Shelf.{shelf_ok, plainly, ShelfStore, shelving_reads, store_call}
use Rattle.runs.specs.Sheet.{Sheet, sheet_of, page_of}
use Rattle.runs.specs.Roles.{Operation, Caller}
use Rattle.runs.specs.Verdict.{Verdict, refuse, show, tell, fetch, put, Check, passed, stopped, outside, decided, judged}

-- a call: who calls, the operation, and the page buffer lent
pub record Asked : Type 0 where
  pub caller : Caller
  pub operation : Operation
  pub page : Page

pub data Says : Type 0 where
  -- turned down before the last step, in this order: 12; 4, 2; 1; 7 or 14 of a sheet; 9, 10, 13, 11
  down : Answer → Says
  -- a look answers the sheet and the current run
  shown : Sheet → ℕ → Says
  -- a listing answers the run
  listed : ℕ → Says
  -- a read answers as the store's read does
  fetched : Answer → Says
  -- add, replace and mark answer the run, and as the store's write does
  wrote : ℕ → Answer → Says

-- what comes out: the answer, the chunks mended in the whole call, the store and the page buffer afterwards
pub record Out : Type 0 where
  pub says : Says
  pub mends : ℕ
  pub store : ShelfStore
  pub page : Page

-- 1: S at least 28, C 1 to 256 and below N×K
unfoldable pub sizes_fit : Sizes → ℕ → Bool
sizes_fit sz c = every (leb 28 sz.S ∷ leb 1 c ∷ leb c 256 ∷ ltb c (sz.N * sz.K) ∷ [])

-- refused with this number unless the test passes
unfoldable pub asking : Bool → ℕ → Check Answer → Check Answer
asking b n k = elim b [ false ↦ stopped (refused n vacant) | true ↦ k ]

abbrev pub sizes_in : ShelfStore → Sizes
sizes_in s = s.store.cache.sizes

abbrev pub directory_in : ShelfStore → Directory
directory_in s = s.store.cache.directory

-- 4 and 2 as every call has them, 2 with the page buffer
unfoldable pub entering : ShelfStore → Page → Check Answer → Check Answer
entering s x k = let sz = sizes_in s in
    asking (sound sz (directory_in s) && shelf_ok sz sz.shelf_pages s.entries) 4
    (asking (lent_ok store_format sz s.store.lent && eqb (length s.shelf) (sz.shelf_pages * sz.S)) 2 (asking (eqb (length x)
    sz.S) 2 k))

-- ---- the sheets

-- the refusal that page n meets where it is read (0: none; only a page that is cached nowhere can meet one)
unfoldable pub fault_at : ShelfStore → ℕ → ℕ
fault_at s n = let sz = sizes_in s in
    fault_met sz (λ i. (chip_for sz).fault (cell_at (chip_for sz) (zero_page sz) (flash_cells store_format sz s.store.lent) i))
    (reads_page sz (directory_in s) n)

-- the lowest sheet that the store refuses: c where it refuses none
unfoldable pub lowest_refused : ShelfStore → ℕ → ℕ
lowest_refused s c = first c (λ i. not (eqb (fault_at s i) 0))

-- it decides
unfoldable pub sheets_check : ShelfStore → ℕ → Check Answer
sheets_check s c = elim (ltb (lowest_refused s c) c) [
  | true ↦ stopped (refused (fault_at s (lowest_refused s c)) vacant)
  | false ↦ passed
]

-- what comes from outside between 12 and the rest
unfoldable pub outside_of : ShelfStore → ℕ → Page → Check Answer
outside_of s c x = entering s x (asking (sizes_fit (sizes_in s) c) 1 (sheets_check s c))

-- the sheets as a reader is given them
unfoldable pub stored : ShelfStore → ℕ → List Sheet
stored s c = tab c (λ i. sheet_of (page_seen store_format s.store i))

-- flash page i is read as a sheet: it is one of the first c, and cached nowhere
unfoldable pub sheet_reads : ShelfStore → ℕ → ℕ → Bool
sheet_reads s c i = ltb i c && eqb (read_way (sizes_in s) (directory_in s) i) 3

-- ---- the last step

-- the chunks mended in these flash pages, each page counting once
unfoldable pub mends_from : ShelfStore → (ℕ → Bool) → ℕ
mends_from s reads = let sz = sizes_in s in
    mends_met sz (λ i. (chip_for sz).mends (cell_at (chip_for sz) (zero_page sz) (flash_cells store_format sz s.store.lent) i)) reads

-- a call that is turned down changes nothing
abbrev pub turned_down : ShelfStore → Page → Answer → Out
turned_down s x a = record { says = down a; mends = 0; store = s; page = x }

module _ (pick : Choice) (c : ℕ) (s : ShelfStore) (x : Page) where
  -- the flash pages read in the whole call: by the last step, what it shelves included, and as sheets
  unfoldable pub whole_reads : Call Page → ℕ → Bool
  whole_reads k = reads_all store_format pick (sizes_in s) (state_of s.store) k
      (λ i. shelving_reads store_format (sizes_in s).shelf_pages pick s (plainly k) i || sheet_reads s c i)

  -- the mends of the whole call; a refused call reports none
  abbrev pub whole_mends : Call Page → Bool → ℕ
  whole_mends k turned = cond turned 0 (mends_from s (whole_reads k))

  -- by what the sheets decided: a look and a listing have no last step, a read is the store's read of that page, and the others are the
  -- store's write of the sheet's page, which an accepted one leaves in the page buffer
  unfoldable pub last_step : Verdict → Out
  last_step (refuse n) = turned_down s x (refused n vacant)
  last_step (show sh q) = record { says = shown sh q; mends = mends_from s (sheet_reads s c); store = s; page = x }
  last_step (tell r) = record { says = listed r; mends = mends_from s (sheet_reads s c); store = s; page = x }
  last_step (fetch n) = let r = store_call pick s (plainly (read n x)) in record {
    says = fetched r.answer;
    mends = whole_mends (read n x) (is_refused r.answer);
    store = r.store;
    page = r.page;
  }
  last_step (put i sh) = let y = page_of (sizes_in s).S sh in let r = store_call pick s (plainly (write i y)) in record {
    says = wrote sh.run r.answer;
    mends = whole_mends (write i y) (is_refused r.answer);
    store = r.store;
    page = cond (is_refused r.answer) x y;
  }

-- A call of a catalogue of c sheets: 12; what comes from outside; what the sheets decide; the last step.
unfoldable pub catalogue_call : Choice → ℕ → ShelfStore → Asked → Out
catalogue_call pick c s q = elim (judged c ((sizes_in s).N * (sizes_in s).K) (stored s c) q.caller q.operation (outside_of s c q.page)) [
  | outside a ↦ turned_down s q.page a
  | decided v ↦ last_step pick c s q.page v
]
