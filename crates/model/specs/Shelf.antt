-- Request A8: a layer on the store that shelves what a write replaces, and takes the latest write back. h is the number of shelf pages.
use Rattle.std.specs.Prelude.{◌≡◌, Bool, true, false, not, cond, ◌&&◌, List, [], ◌∷◌, ℕ, suc, ◌-◌, ◌*◌, ◌<◌, leb, ltb, eqb, length}
use Rattle.std.specs.Prelude.{get_or, set, replicate}
use Rattle.prelude.specs.Tests.{every}
use Rattle.prelude.specs.Scan.{first, all, tab}
use Rattle.prelude.specs.Pages.{pages_of, flat}
use Rattle.model.specs.Sizes.{Sizes, vacant, sizes_ok}
use Rattle.model.specs.Directory.{Cache, blank_cache}
use Rattle.model.specs.Soundness.{sound}
use Rattle.model.specs.Policy.{Choice}
use Rattle.model.specs.Calls.{Answer, refused, is_refused, Call, read, write, part, step, flush, Outcome, turned_down, reads_page}
use Rattle.model.specs.Calls.{Page, no_bytes, Format, lent_ok, Store, Result, flash_cells, lent_buffer, call_reading, page_seen}
use Rattle.model.specs.Calls.{Cell, Buffers, open_store}
use Rattle.model.specs.Formats.{store_format}
use Rattle.model.specs.Lists.{Chosen, Reference, opened, book_says, fed, ReadGives, flipped, Borne, After}

-- ---- entries: page numbers from index 0 on, oldest first, then vacant

-- of an empty shelf
abbrev pub no_entries : List ℕ
no_entries = replicate 8 vacant

-- none is in use
abbrev pub all_vacant : List ℕ → Bool
all_vacant es = all 8 (λ i. eqb (get_or es i 0) vacant)

-- how many are in use
unfoldable pub shelved : List ℕ → ℕ
shelved es = first 8 (λ i. eqb (get_or es i vacant) vacant)

-- x joins k entries: after them or, where all h are in use, at the end, the oldest leaving; with h 0 nothing is shelved
unfoldable pub shelve : {X : Type 0} → X → ℕ → ℕ → List X → X → List X
shelve none h k l x = cond (ltb k h) (set l k x) (tab (length l)
    (λ i. cond (ltb (suc i) h) (get_or l (suc i) none) (cond (eqb (suc i) h) x (get_or l i none))))

-- no more than there are shelf pages, each below N×K, the rest vacant
unfoldable pub shelf_ok : Sizes → ℕ → List ℕ → Bool
shelf_ok sz h es = every (
    eqb (length es) 8 ∷ leb (shelved es) h
    ∷ all 8 (λ i. cond (ltb i (shelved es)) (ltb (get_or es i vacant) (sz.N * sz.K)) (eqb (get_or es i vacant) vacant)) ∷ [])

-- entries es are sound, and a shelf of so many bytes is as long as h shelf pages
abbrev pub shelf_fits : Sizes → ℕ → List ℕ → ℕ → Bool
shelf_fits sz h es long = shelf_ok sz h es && eqb long (h * sz.S)

-- ---- the calls

-- a call of the store, or taking back
pub data ShelfCall : Type 0 where
  plainly : Call Page → ShelfCall
  back : ShelfCall

abbrev pub is_back : ShelfCall → Bool
is_back (plainly c) = false
is_back back = true

-- what a call is by the ordinary rules: taking back writes the latest shelved page
abbrev pub meant : List ℕ → List Page → ShelfCall → Call Page
meant es ps (plainly c) = c
meant es ps back = write (get_or es (shelved es - 1) vacant) (get_or ps (shelved es - 1) [])

-- the page whose earlier contents a call shelves, if accepted (vacant: none)
abbrev pub shelves : ShelfCall → ℕ
shelves (plainly (read n x)) = vacant
shelves (plainly (write n x)) = n
shelves (plainly (part n first x page)) = cond (no_bytes x) vacant n
shelves (plainly step) = vacant
shelves (plainly flush) = vacant
shelves back = vacant

module _ (h : ℕ) where
  -- the entries after a call, down if it is refused
  unfoldable pub entries_after : List ℕ → ShelfCall → Bool → List ℕ
  entries_after es c true = es
  entries_after es c false = cond (is_back c) (set es (shelved es - 1) vacant)
      (cond (ltb (shelves c) vacant) (shelve vacant h (shelved es) es (shelves c)) es)

  -- the shelf pages after a call that finds x at the page it shelves; es are the entries before it
  unfoldable pub shelf_after : List ℕ → List Page → ShelfCall → Page → Bool → List Page
  shelf_after es ps c x true = ps
  shelf_after es ps c x false = cond (ltb (shelves c) vacant) (shelve [] h (shelved es) ps x) ps

-- ---- the store with its shelf

pub record ShelfStore : Type 0 where
  pub store : Store
  pub entries : List ℕ
  pub shelf : List ℕ

pub record ShelfResult : Type 0 where
  pub answer : Answer
  pub mends : ℕ
  pub store : ShelfStore
  pub page : Page

abbrev pub pages_of_shelf : Sizes → ℕ → List ℕ → List Page
pages_of_shelf sz h l = pages_of sz.S h l

-- what an opening hands out, the shelf's entries with it
pub record ShelfOpened : Type 0 where
  pub answer : Answer
  pub torn : ℕ
  pub cache : Cache
  pub entries : List ℕ

-- Opening: where the sizes are accepted, a shelf of another length is refused 2; all else is as without a shelf. No record handed out has
-- entries.
unfoldable pub open_shelf : Format → ℕ → Sizes → Buffers → List ℕ → ShelfOpened
open_shelf fmt h sz u shelf = elim (sizes_ok sz && not (eqb (length shelf) (h * sz.S))) [
  | true ↦ record { answer = refused 2 vacant; torn = 0; cache = blank_cache; entries = no_entries }
  | false ↦ let o = open_store fmt sz u in record { answer = o.answer; torn = o.torn; cache = o.cache; entries = no_entries }
]

module _ (fmt : Format) (h : ℕ) (pick : Choice) where
  -- shelving reads the earlier page, as no use
  unfoldable pub shelving_reads : ShelfStore → ShelfCall → ℕ → Bool
  shelving_reads s c i = ltb 0 h && ltb (shelves c) vacant && reads_page s.store.cache.sizes s.store.cache.directory (shelves c) i

  -- the call by the ordinary rules
  unfoldable pub ordinary : ShelfStore → ShelfCall → Result
  ordinary s c = call_reading fmt pick (shelving_reads s c) s.store
      (meant s.entries (pages_of_shelf s.store.cache.sizes h s.shelf) c)

  -- the page buffer of a call: taking back is lent none
  abbrev pub buffer_of : ShelfCall → Page → Page
  buffer_of (plainly c) x = x
  buffer_of back x = []

  abbrev pub lent_to : ShelfCall → Page
  lent_to (plainly c) = lent_buffer c
  lent_to back = []

  -- refusals 4, 2, 8, then those of the ordinary rules
  unfoldable pub shelf_call : ShelfStore → ShelfCall → ShelfResult
  shelf_call s c =
      let sz = s.store.cache.sizes in
      elim (sound sz s.store.cache.directory && shelf_ok sz h s.entries) [
        | false ↦ record { answer = refused 4 vacant; mends = 0; store = s; page = lent_to c }
        | true ↦ elim (lent_ok fmt sz s.store.lent && eqb (length s.shelf) (h * sz.S)) [
          | false ↦ record { answer = refused 2 vacant; mends = 0; store = s; page = lent_to c }
          | true ↦ elim (is_back c && eqb (shelved s.entries) 0) [
            | true ↦ record { answer = refused 8 vacant; mends = 0; store = s; page = lent_to c }
            | false ↦ let r = ordinary s c in record {
              answer = r.answer;
              mends = r.mends;
              store = record {
                store = r.store;
                entries = entries_after h s.entries c (is_refused r.answer);
                shelf = flat (shelf_after h s.entries (pages_of_shelf sz h s.shelf) c (page_seen fmt s.store (shelves c))
                    (is_refused r.answer));
              };
              page = buffer_of c r.page;
            }
          ]
        ]
      ]

-- ---- the store's own: cells and shelf by the sizes and options of its record

abbrev pub store_open : Sizes → Buffers → List ℕ → ShelfOpened
store_open sz u shelf = open_shelf store_format sz.shelf_pages sz u shelf

abbrev pub store_call : Choice → ShelfStore → ShelfCall → ShelfResult
store_call pick s c = shelf_call store_format s.store.cache.sizes.shelf_pages pick s c

-- ---- lists of calls

-- the book keeps the entries, and the array its own shelf
pub record ShelfReference : Type 0 where
  pub reference : Reference
  pub entries : List ℕ
  pub shelf : List Page

-- as a list begins
abbrev pub shelf_opened : Format → Sizes → ℕ → Buffers → List ℕ → ShelfReference
shelf_opened fmt sz h u shelf = record { reference = opened fmt sz u; entries = no_entries; shelf = pages_of_shelf sz h shelf }

pub record ShelfChosen : Type 0 where
  pub choice : Choice
  pub call : ShelfCall

module _ (sz : Sizes) (h : ℕ) where
  -- what the book and the array take the call for
  abbrev pub taken : ShelfReference → ShelfChosen → Chosen
  taken r t = record { choice = t.choice; besides = λ i. false; call = meant r.entries r.shelf t.call }

  -- told by the store's answer of a cause that a request adds
  unfoldable pub shelf_book_says : ShelfReference → ShelfChosen → Answer → Outcome
  shelf_book_says r t a = elim (is_back t.call && eqb (shelved r.entries) 0) [
    | true ↦ turned_down r.reference.book 8 vacant
    | false ↦ book_says sz r.reference (taken r t) a
  ]

  unfoldable pub shelf_fed : ShelfReference → ShelfChosen → Outcome → List Cell → ShelfReference
  shelf_fed r t o cs = record {
    reference = fed sz r.reference (meant r.entries r.shelf t.call) o cs;
    entries = entries_after h r.entries t.call (is_refused o.answer);
    shelf = shelf_after h r.entries r.shelf t.call (get_or r.reference.array (shelves t.call) []) (is_refused o.answer);
  }

abbrev pub shelf_flipped : ShelfStore → List ℕ → List ℕ → ShelfStore
shelf_flipped s fl cd = record { store = flipped s.store fl cd; entries = s.entries; shelf = s.shelf }

abbrev pub ShelfGives : List Page → ShelfCall → ShelfResult → Type 0
ShelfGives a (plainly c) x = ReadGives a c (record { answer = x.answer; mends = x.mends; store = x.store.store; page = x.page })
ShelfGives a back x = Unit {0}

module _ (fmt : Format) (Near : Sizes → Cell → Cell → Type 0) (sz : Sizes) (h : ℕ) (u : Buffers) where
  abbrev pub ShelfStep : ShelfStore → ShelfReference → ShelfChosen → (ShelfStore → ShelfReference → Type 0) → Type 0
  ShelfStep s r t Then = record {
    answers : (shelf_call fmt h t.choice s t.call).answer ≡ (shelf_book_says sz h r t
        (shelf_call fmt h t.choice s t.call).answer).answer;
    shows : (n : ℕ) → n < sz.N * sz.K → page_seen fmt s.store n ≡ get_or r.reference.array n [];
    reads : ShelfGives r.reference.array t.call (shelf_call fmt h t.choice s t.call);
    borne : Borne fmt Near sz (shelf_fed sz h r t (shelf_book_says sz h r t (shelf_call fmt h t.choice s t.call).answer)
        (flash_cells fmt sz (shelf_call fmt h t.choice s t.call).store.store.lent)).reference
        (shelf_call fmt h t.choice s t.call).store.store.lent;
    then : Then (shelf_call fmt h t.choice s t.call).store
        (shelf_fed sz h r t (shelf_book_says sz h r t (shelf_call fmt h t.choice s t.call).answer)
        (flash_cells fmt sz (shelf_call fmt h t.choice s t.call).store.store.lent));
  }

  abbrev pub ShelfClaim : List ShelfChosen → ShelfStore → ShelfReference → Type 0
  ShelfClaim [] s r = (fl cd : List ℕ) → Borne fmt Near sz r.reference (flipped s.store fl cd).lent
      → After fmt Near sz u (flipped s.store fl cd) r.reference
  ShelfClaim (t ∷ cs) s r = (fl cd : List ℕ) → Borne fmt Near sz r.reference (flipped s.store fl cd).lent
      → ShelfStep (shelf_flipped s fl cd) r t (ShelfClaim cs)
