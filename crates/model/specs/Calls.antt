-- The calls: what each answers, and what it leaves in the record and in the lent buffers.
use Rattle.std.specs.Prelude.{◌≡◌, Bool, true, false, not, cond, ◌&&◌, ◌||◌, List, [], ◌∷◌, map, ℕ, zero, suc, ◌+◌, ◌*◌, ◌/◌, ◌%◌, leb, ltb}
use Rattle.std.specs.Prelude.{eqb, length, get_or, replicate}
use Rattle.prelude.specs.Tests.{every}
use Rattle.prelude.specs.Scan.{all, count, first, tab}
use Rattle.prelude.specs.Bits.{bit}
use Rattle.prelude.specs.Pages.{page_at, laid, pages_of, flat}
use Rattle.model.specs.Sizes.{Sizes, vacant, sizes_ok}
use Rattle.model.specs.Directory.{Directory, Cache, frame_at, valid_at, vacant_directory, blank_cache}
use Rattle.model.specs.Soundness.{sound}
use Rattle.model.specs.Policy.{Choice, Plan, slot_hit, frame_hit, free_slot, join, fill, exchange, evict, read_way, plan, way_of, erased_by}
use Rattle.model.specs.Policy.{merge_reads, Due, clean, due, due_of, is_worn, lowest_worn}
use Rattle.model.specs.Moves.{Chip, Memory, cell_at, worn_by, read_directory, written, merged_by, joined, stepped, read_page, written_pages}
use Rattle.model.specs.Moves.{stepped_pages}

-- ---- answers

pub data Answer : Type 0 where
  open_done : Answer
  -- a read answers its way
  read_done : ℕ → Answer
  -- a write, of a page or of part of one, answers its way, the block erased (vacant: none), and its merge reads
  write_done : ℕ → ℕ → ℕ → Answer
  -- a flush step answers the block and the merge reads, or "clean"
  step_done : ℕ → ℕ → Answer
  step_clean : Answer
  -- a flush answers the rewrites and the sum of merge reads
  flush_done : ℕ → ℕ → Answer
  -- a refusal gives its number, and number 6 also the block (vacant: none)
  refused : ℕ → ℕ → Answer

abbrev pub is_refused : Answer → Bool
is_refused open_done = false
is_refused (read_done way) = false
is_refused (write_done way b m) = false
is_refused (step_done b m) = false
is_refused step_clean = false
is_refused (flush_done r m) = false
is_refused (refused n b) = true

-- A call with its arguments. A is what is told of the page buffer, and of the bytes of a part write: the bytes to the store, their number
-- alone to the rewrite book.
pub data Call (A : Type 0) : Type 0 where
  read : ℕ → A → Call A
  write : ℕ → A → Call A
  -- request A1's part write: the page, its first byte, the bytes, the page buffer
  part : ℕ → ℕ → A → A → Call A
  step : Call A
  flush : Call A

-- ---- the numbers of a call, from directory and wear alone

pub record State : Type 0 where
  pub directory : Directory
  pub wear : List ℕ

pub record Outcome : Type 0 where
  pub answer : Answer
  pub state : State

-- turned down: the state stays as it was
abbrev pub turned_down : State → ℕ → ℕ → Outcome
turned_down k n b = record { answer = refused n b; state = k }

module _ (sz : Sizes) (k : State) where
  -- refusal 2 for the page buffer, then refusal 5
  unfoldable pub checked : ℕ → ℕ → Outcome → Outcome
  checked n long o = elim (eqb long sz.S) [
    | false ↦ turned_down k 2 vacant
    | true ↦ elim (ltb n (sz.N * sz.K)) [ false ↦ turned_down k 5 vacant | true ↦ o ]
  ]

  unfoldable pub read_outcome : ℕ → Outcome
  read_outcome n = record {
    answer = read_done (read_way sz k.directory n);
    state = record { directory = read_directory sz k.directory n; wear = k.wear };
  }

  -- refusal 6 looks at the one block due
  unfoldable pub write_outcome : ℕ → Plan → Outcome
  write_outcome n p = elim (is_worn sz k.wear (erased_by k.directory p)) [
    | true ↦ turned_down k 6 (erased_by k.directory p)
    | false ↦ record {
      answer = write_done (way_of p) (erased_by k.directory p) (merged_by sz k.directory p);
      state = record { directory = written sz k.directory n p; wear = worn_by k.wear (erased_by k.directory p) };
    }
  ]

  -- a part write of so many bytes: refusal 2 where they reach past S; way 0 with no bytes, which changes nothing; else it is the write w
  unfoldable pub part_outcome : ℕ → ℕ → Outcome → Outcome
  part_outcome first many w = elim (leb (first + many) sz.S) [
    | false ↦ turned_down k 2 vacant
    | true ↦ elim (eqb many 0) [ true ↦ record { answer = write_done 0 vacant 0; state = k } | false ↦ w ]
  ]

  unfoldable pub step_outcome : Due → Outcome
  step_outcome clean = record { answer = step_clean; state = k }
  step_outcome (due b f) = elim (is_worn sz k.wear b) [
    | true ↦ turned_down k 6 b
    | false ↦ record {
      answer = step_done b (merge_reads sz (joined sz k.directory b f) f);
      state = record { directory = stepped sz k.directory (due b f); wear = worn_by k.wear b };
    }
  ]

-- a flush under way: the state, the rewrites and the merge reads so far
pub record Tally : Type 0 where
  pub state : State
  pub rewrites : ℕ
  pub merges : ℕ

module _ (pick : Choice) (sz : Sizes) where
  -- steps until clean, at most c of them
  unfoldable pub steps : ℕ → Tally → Tally
  steps zero t = t
  steps (suc c) t = elim (due_of pick sz t.state.directory) [
    | clean ↦ t
    | due b f ↦ steps c (record {
      state = record { directory = stepped sz t.state.directory (due b f); wear = worn_by t.state.wear b };
      rewrites = suc t.rewrites;
      merges = merge_reads sz (joined sz t.state.directory b f) f + t.merges;
    })
  ]

  -- refusal 6 looks at every block with a cached page first and names the lowest worn one; each step cleans one of N blocks
  unfoldable pub flush_outcome : State → Outcome
  flush_outcome k = elim (ltb (lowest_worn sz k.directory k.wear) sz.N) [
    | true ↦ turned_down k 6 (lowest_worn sz k.directory k.wear)
    | false ↦ let t = steps sz.N (record { state = k; rewrites = 0; merges = 0 }) in
        record { answer = flush_done t.rewrites t.merges; state = t.state }
  ]

  -- what becomes of a call, given the length of its page buffer, and of a part write's bytes
  unfoldable pub decide : State → Call ℕ → Outcome
  decide k (read n long) = checked sz k n long (read_outcome sz k n)
  decide k (write n long) = checked sz k n long (write_outcome sz k n (plan pick sz k.directory k.wear n))
  decide k (part n first many long) = checked sz k n long (part_outcome sz k first many
      (write_outcome sz k n (plan pick sz k.directory k.wear n)))
  decide k step = step_outcome sz k (due_of pick sz k.directory)
  decide k flush = flush_outcome k

-- ---- the flash pages that a call reads, and what it meets there

-- page n is merged by a rewrite of block b through frame f, after the block's pages in slots have joined the frame
unfoldable pub merges_page : Sizes → Directory → ℕ → ℕ → ℕ → Bool
merges_page sz d b f n = eqb (n / sz.K) b && not (bit (valid_at (joined sz d b f) f) (n % sz.K))

abbrev pub write_merges : Sizes → Directory → Plan → ℕ → Bool
write_merges sz d (slot_hit i) n = false
write_merges sz d (frame_hit f) n = false
write_merges sz d (free_slot i) n = false
write_merges sz d (join v f) n = false
write_merges sz d (fill v f) n = false
write_merges sz d (exchange v f) n = false
write_merges sz d (evict v f) n = merges_page sz d (frame_at d f) f n

abbrev pub step_merges : Sizes → Directory → Due → ℕ → Bool
step_merges sz d clean n = false
step_merges sz d (due b f) n = merges_page sz d b f n

-- page n is read by way 3
unfoldable pub reads_page : Sizes → Directory → ℕ → ℕ → Bool
reads_page sz d n i = eqb i n && eqb (read_way sz d n) 3

module _ (pick : Choice) (sz : Sizes) where
  unfoldable pub steps_merge : ℕ → Directory → ℕ → Bool
  steps_merge zero d n = false
  steps_merge (suc c) d n = elim (due_of pick sz d) [
    | clean ↦ false
    | due b f ↦ merges_page sz d b f n || steps_merge c (stepped sz d (due b f)) n
  ]

  -- flash page i is read by the call: by way 3, also in a part write with bytes, or by a merge
  unfoldable pub reads_flash : State → Call ℕ → ℕ → Bool
  reads_flash k (read n long) i = reads_page sz k.directory n i
  reads_flash k (write n long) i = write_merges sz k.directory (plan pick sz k.directory k.wear n) i
  reads_flash k (part n first many long) i =
      not (eqb many 0) && (reads_page sz k.directory n i || write_merges sz k.directory (plan pick sz k.directory k.wear n) i)
  reads_flash k step i = step_merges sz k.directory (due_of pick sz k.directory) i
  reads_flash k flush i = steps_merge sz.N k.directory i

-- a flash page passes
unfoldable pub some_page : Sizes → (ℕ → Bool) → Bool
some_page sz p = ltb (first (sz.N * sz.K) p) (sz.N * sz.K)

-- refusal 7 where one of the pages read is unreadable, else refusal 14 where one is torn, else none
unfoldable pub fault_met : Sizes → (ℕ → ℕ) → (ℕ → Bool) → ℕ
fault_met sz fault reads = cond (some_page sz (λ i. reads i && eqb (fault i) 7)) 7
    (cond (some_page sz (λ i. reads i && eqb (fault i) 14)) 14 0)

unfoldable pub sum : ℕ → (ℕ → ℕ) → ℕ
sum zero g = 0
sum (suc n) g = g n + sum n g

-- request A7: the chunks mended in the pages read, each page counting once
unfoldable pub mends_met : Sizes → (ℕ → ℕ) → (ℕ → Bool) → ℕ
mends_met sz mends reads = sum (sz.N * sz.K) (λ i. cond (reads i) (mends i) 0)

-- An outcome with a cause that a request adds, of number late (0: none), which is looked at after all others.
unfoldable pub heeding : State → ℕ → Outcome → Outcome
heeding k late o = elim (is_refused o.answer) [ true ↦ o | false ↦ elim (eqb late 0) [ true ↦ o | false ↦ turned_down k late vacant ] ]

-- ---- the pages of an accepted call

module _ (pick : Choice) (sz : Sizes) {C A : Type 0} (chip : Chip C A) (filler : A) where
  unfoldable pub steps_pages : ℕ → Directory → Memory C A → Memory C A
  steps_pages zero d m = m
  steps_pages (suc c) d m = elim (due_of pick sz d) [
    | clean ↦ m
    | due b f ↦ steps_pages c (stepped sz d (due b f)) (stepped_pages chip filler sz d m (due b f))
  ]

-- ---- the calls over lent buffers of bytes

abbrev pub Page : Type 0
Page = List ℕ

-- a flash page as it is lent: its bytes, its code and its mark; a store without codes, or without marks, has none there
pub record Cell : Type 0 where
  pub bytes : Page
  pub code : List ℕ
  pub mark : List ℕ

-- what sizes and options make of a cell: how long its code and its mark are, and how it is read and programmed
pub record Format : Type 0 where
  pub code_long : Sizes → ℕ
  pub mark_long : Sizes → ℕ
  pub chip : Sizes → Chip Cell Page

-- a cell's bytes, code and mark are as long as that
abbrev pub CellFits : Format → Sizes → Cell → Type 0
CellFits fmt sz c = (length c.bytes ≡ sz.S) × (length c.code ≡ fmt.code_long sz) × (length c.mark ≡ fmt.mark_long sz)

-- a part write without bytes is way 0
abbrev pub no_bytes : Page → Bool
no_bytes x = eqb (length x) 0

module _ {C : Type 0} (chip : Chip C Page) (filler : Page) where
  -- page n, read as no use, with the bytes x laid in from byte first on: what a part write writes
  unfoldable pub combined : Sizes → Directory → Memory C Page → ℕ → ℕ → Page → Page
  combined sz d m n first x = laid first x (read_page chip filler sz d m n)

  unfoldable pub call_pages : Choice → Sizes → State → Memory C Page → Call Page → Memory C Page
  call_pages pick sz k m (read n x) = m
  call_pages pick sz k m (write n x) = written_pages chip filler sz k.directory m n x (plan pick sz k.directory k.wear n)
  call_pages pick sz k m (part n first x page) = elim (no_bytes x) [
    | true ↦ m
    | false ↦ written_pages chip filler sz k.directory m n (combined sz k.directory m n first x)
        (plan pick sz k.directory k.wear n)
  ]
  call_pages pick sz k m step = stepped_pages chip filler sz k.directory m (due_of pick sz k.directory)
  call_pages pick sz k m flush = steps_pages pick sz chip filler sz.N k.directory m

pub record Buffers : Type 0 where
  pub flash : List ℕ
  pub codes : List ℕ
  pub marks : List ℕ
  pub wear : List ℕ
  pub pspace : List ℕ
  pub bspace : List ℕ

module _ (fmt : Format) where
  -- refusal 2: flash of N×K×S bytes, codes and marks of N×K pages', wear of N numbers, p-space of P×S bytes, b-space of B×K×S bytes
  unfoldable pub lent_ok : Sizes → Buffers → Bool
  lent_ok sz u = every (
      eqb (length u.flash) (sz.N * sz.K * sz.S) ∷ eqb (length u.codes) (sz.N * sz.K * fmt.code_long sz)
      ∷ eqb (length u.marks) (sz.N * sz.K * fmt.mark_long sz)
      ∷ eqb (length u.wear) sz.N ∷ eqb (length u.pspace) (sz.P * sz.S) ∷ eqb (length u.bspace) (sz.B * sz.K * sz.S) ∷ [])

-- the same as facts
pub record Fits (fmt : Format) (sz : Sizes) (u : Buffers) : Type 0 where
  pub flash-length : length u.flash ≡ sz.N * sz.K * sz.S
  pub codes-length : length u.codes ≡ sz.N * sz.K * fmt.code_long sz
  pub marks-length : length u.marks ≡ sz.N * sz.K * fmt.mark_long sz
  pub wear-length : length u.wear ≡ sz.N
  pub pspace-length : length u.pspace ≡ sz.P * sz.S
  pub bspace-length : length u.bspace ≡ sz.B * sz.K * sz.S

-- Request A12: the blocks with a mark that is not 0, each counted once; where there are no marks none is torn.
unfoldable pub torn_blocks : Sizes → List ℕ → ℕ
torn_blocks sz marks = count sz.N (λ b. not (all sz.K (λ o. eqb (get_or marks (b * sz.K + o) 0) 0)))

-- Opening: refusals 1, 2, 3, and the blank record with them; else a record with the sizes set and all vacant, and the number of torn
-- blocks.
pub record Opened : Type 0 where
  pub answer : Answer
  pub torn : ℕ
  pub cache : Cache

unfoldable pub open_store : Format → Sizes → Buffers → Opened
open_store fmt sz u = elim (sizes_ok sz) [
  | false ↦ record { answer = refused 1 vacant; torn = 0; cache = blank_cache }
  | true ↦ elim (lent_ok fmt sz u) [
    | false ↦ record { answer = refused 2 vacant; torn = 0; cache = blank_cache }
    | true ↦ elim (all sz.N (λ b. leb (get_or u.wear b 0) sz.W)) [
      | false ↦ record { answer = refused 3 vacant; torn = 0; cache = blank_cache }
      | true ↦ record { answer = open_done; torn = torn_blocks sz u.marks; cache = record { sizes = sz; directory = vacant_directory } }
    ]
  ]
]

pub record Store : Type 0 where
  pub cache : Cache
  pub lent : Buffers

pub record Result : Type 0 where
  pub answer : Answer
  -- request A7: the chunks mended, beside the answer
  pub mends : ℕ
  pub store : Store
  pub page : Page

-- a page to stand where there is none; no call gives it to a reader
unfoldable pub zero_page : Sizes → Page
zero_page sz = replicate sz.S 0

-- buffers as cells and pages, and back
abbrev pub slot_pages : Sizes → List ℕ → List Page
slot_pages sz l = pages_of sz.S sz.P l

abbrev pub frame_pages : Sizes → List ℕ → List Page
frame_pages sz l = pages_of sz.S (sz.B * sz.K) l

unfoldable pub flash_cells : Format → Sizes → Buffers → List Cell
flash_cells fmt sz u = tab (sz.N * sz.K) (λ n. record {
  bytes = page_at sz.S u.flash n;
  code = page_at (fmt.code_long sz) u.codes n;
  mark = page_at (fmt.mark_long sz) u.marks n;
})

unfoldable pub memory_of : Format → Sizes → Buffers → Memory Cell Page
memory_of fmt sz u = record { flash = flash_cells fmt sz u; pspace = slot_pages sz u.pspace; bspace = frame_pages sz u.bspace }

-- the raw bytes, the codes and the marks of cells
abbrev pub raw_of : List Cell → List Page
raw_of cs = map (λ (c : Cell). c.bytes) cs

abbrev pub codes_of : List Cell → List (List ℕ)
codes_of cs = map (λ (c : Cell). c.code) cs

abbrev pub marks_of : List Cell → List (List ℕ)
marks_of cs = map (λ (c : Cell). c.mark) cs

unfoldable pub buffers_of : Memory Cell Page → List ℕ → Buffers
buffers_of m w = record {
  flash = flat (raw_of m.flash);
  codes = flat (codes_of m.flash);
  marks = flat (marks_of m.flash);
  wear = w;
  pspace = flat m.pspace;
  bspace = flat m.bspace;
}

abbrev pub state_of : Store → State
state_of s = record { directory = s.cache.directory; wear = s.lent.wear }

-- what the rewrite book is told of a call
abbrev pub told : Call Page → Call ℕ
told (read n x) = read n (length x)
told (write n x) = write n (length x)
told (part n first x page) = part n first (length x) (length page)
told step = step
told flush = flush

-- the page buffer as it is lent; a step and a flush are lent none
abbrev pub lent_buffer : Call Page → Page
lent_buffer (read n x) = x
lent_buffer (write n x) = x
lent_buffer (part n first x page) = page
lent_buffer step = []
lent_buffer flush = []

-- the page buffer after an accepted call: a read fills it, and a part write with bytes leaves the combined page in it
abbrev pub filled_buffer : {C : Type 0} → Chip C Page → Sizes → Directory → Memory C Page → Call Page → Page
filled_buffer chip sz d m (read n x) = read_page chip (zero_page sz) sz d m n
filled_buffer chip sz d m (write n x) = x
filled_buffer chip sz d m (part n first x page) = cond (no_bytes x) page (combined chip (zero_page sz) sz d m n first x)
filled_buffer chip sz d m step = []
filled_buffer chip sz d m flush = []

-- a refused call hands record and buffers back unaltered
abbrev pub unaltered : Answer → Store → Call Page → Result
unaltered a s c = record { answer = a; mends = 0; store = s; page = lent_buffer c }

module _ (fmt : Format) (pick : Choice) where
  -- what a call meets on the flash pages that it reads: a refusal of request A6 or A12, and mends
  unfoldable pub fault_of : Sizes → List Cell → (ℕ → Bool) → ℕ
  fault_of sz fl reads = fault_met sz (λ n. (fmt.chip sz).fault (cell_at (fmt.chip sz) (zero_page sz) fl n)) reads

  unfoldable pub mends_of : Sizes → List Cell → (ℕ → Bool) → ℕ
  mends_of sz fl reads = mends_met sz (λ n. (fmt.chip sz).mends (cell_at (fmt.chip sz) (zero_page sz) fl n)) reads

  -- the flash pages that it reads, with those that it reads besides
  unfoldable pub reads_all : Sizes → State → Call Page → (ℕ → Bool) → ℕ → Bool
  reads_all sz k c besides i = reads_flash pick sz k (told c) i || besides i

  unfoldable pub carried_out : Store → Call Page → (ℕ → Bool) → Outcome → Result
  carried_out s c besides o =
      let sz = s.cache.sizes in
      let m = memory_of fmt sz s.lent in
      elim (is_refused o.answer) [
        | true ↦ unaltered o.answer s c
        | false ↦ record {
          answer = o.answer;
          mends = mends_of sz m.flash (reads_all sz (state_of s) c besides);
          store = record {
            cache = record { sizes = sz; directory = o.state.directory };
            lent = buffers_of (call_pages (fmt.chip sz) (zero_page sz) pick sz (state_of s) m c) o.state.wear;
          };
          page = filled_buffer (fmt.chip sz) sz s.cache.directory m c;
        }
      ]

  -- refusals 4 and 2, then 2 for the page buffer, 5, 2 for the reach of a part write, and 6; then 7 and 14, over all flash pages that are
  -- read, those besides included
  unfoldable pub call_reading : (ℕ → Bool) → Store → Call Page → Result
  call_reading besides s c = elim (sound s.cache.sizes s.cache.directory) [
    | false ↦ unaltered (refused 4 vacant) s c
    | true ↦ elim (lent_ok fmt s.cache.sizes s.lent) [
      | false ↦ unaltered (refused 2 vacant) s c
      | true ↦ carried_out s c besides (heeding (state_of s)
          (fault_of s.cache.sizes (memory_of fmt s.cache.sizes s.lent).flash (reads_all s.cache.sizes (state_of s) c besides))
          (decide pick s.cache.sizes (state_of s) (told c)))
    ]
  ]

  -- no request has the call read anything besides
  unfoldable pub call : Store → Call Page → Result
  call s c = call_reading (λ i. false) s c

-- the page that a reader would be given
unfoldable pub page_seen : Format → Store → ℕ → Page
page_seen fmt s n = let sz = s.cache.sizes in read_page (fmt.chip sz) (zero_page sz) sz s.cache.directory (memory_of fmt sz s.lent) n
