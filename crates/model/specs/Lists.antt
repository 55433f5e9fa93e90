-- Lists of calls on one store: the page array, the rewrite book, and the one claim of demand 3.
use Rattle.std.specs.Prelude.{◌≡◌, ◌⊎◌, Bool, true, false, not, cond, ◌&&◌, ◌||◌, List, [], ◌∷◌, map, ℕ, ◌+◌, ◌*◌, ◌/◌, ◌≤◌, ◌<◌, ltb, eqb}
use Rattle.std.specs.Prelude.{length, get_or, set, replicate}
use Rattle.prelude.specs.Scan.{count, tab}
use Rattle.prelude.specs.Pages.{laid}
use Rattle.model.specs.Sizes.{Sizes}
use Rattle.model.specs.Directory.{Directory, slot_at, inFrame, vacant_directory}
use Rattle.model.specs.Soundness.{Listed}
use Rattle.model.specs.Policy.{Choice}
use Rattle.model.specs.Calls.{Answer, open_done, read_done, write_done, step_done, step_clean, flush_done, refused, is_refused, Call, read}
use Rattle.model.specs.Calls.{write, part, step, flush, State, Outcome, decide, heeding, Page, no_bytes, Cell, Format, CellFits}
use Rattle.model.specs.Calls.{Buffers, Fits, Store, Result, flash_cells, told, open_store, call_reading, page_seen}

-- ---- the list

-- a call, with the choice that it makes among the frames that a rule leaves open, which the book is told, and the flash pages that a
-- request has it read besides
pub record Chosen : Type 0 where
  pub choice : Choice
  pub besides : ℕ → Bool
  pub call : Call Page

-- a choice takes one of the frames left open, where there is one
abbrev pub Picks : Choice → Type 0
Picks pick = (sz : Sizes) (d : Directory) (passes : ℕ → Bool) (f : ℕ)
    → Listed sz d → f < sz.B → passes f ≡ true → (pick sz d passes < sz.B) × (passes (pick sz d passes) ≡ true)

abbrev pub AllPick : List Chosen → Type 0
AllPick [] = Unit {0}
AllPick (t ∷ cs) = Picks t.choice × AllPick cs

-- stands past the end of a list of cells
abbrev pub no_cell : Cell
no_cell = record { bytes = []; code = []; mark = [] }

-- ---- what runs beside the store

-- bytes that an accepted call put at a page
pub record Put : Type 0 where
  pub page : ℕ
  pub bytes : Page

-- x was accepted for page n
abbrev pub Accepted : ℕ → Page → List Put → Type 0
Accepted n x [] = ⊥
Accepted n x (p ∷ l) = ((p.page ≡ n) × (p.bytes ≡ x)) ⊎ Accepted n x l

pub record Reference : Type 0 where
  -- document 01's rewrite book: places, frames, valid pages and order of use as numbers, and a wear for each block
  pub book : State
  -- document 01's page array
  pub array : List Page
  -- what was accepted in the list so far, latest first
  pub log : List Put
  -- for each block, array and log as they stood before the call of its last rewrite, or at opening
  pub array_before : List (List Page)
  pub log_before : List (List Put)
  -- each cell of flash as it was last programmed, or at opening
  pub base : List Cell
  -- the last call was an accepted flush
  pub flushed : Bool

-- The array is fed a call with its page buffer, and whether the book turns it down: an accepted write of n puts the bytes lent at n, an
-- accepted part write, unless it has none, its bytes into the page that the array has at n.
unfoldable pub array_after : List Page → Call Page → Bool → List Page
array_after a (read n x) down = a
array_after a (write n x) true = a
array_after a (write n x) false = set a n x
array_after a (part n first x page) true = a
array_after a (part n first x page) false = cond (no_bytes x) a (set a n (laid first x (get_or a n [])))
array_after a step down = a
array_after a flush down = a

-- what was accepted, fed like the array, which is a as the call finds it
unfoldable pub log_after : List Page → List Put → Call Page → Bool → List Put
log_after a l (read n x) down = l
log_after a l (write n x) true = l
log_after a l (write n x) false = record { page = n; bytes = x } ∷ l
log_after a l (part n first x page) true = l
log_after a l (part n first x page) false = cond (no_bytes x) l (record { page = n; bytes = laid first x (get_or a n []) } ∷ l)
log_after a l step down = l
log_after a l flush down = l

-- a block was rewritten in a call where its wear in the book, w before the call and w' after it, grew; l is what the call finds
unfoldable pub before_after : {A : Type 0} → Sizes → List (List A) → List A → List ℕ → List ℕ → List (List A)
before_after sz before l w w' = tab sz.N (λ b. cond (ltb (get_or w b 0) (get_or w' b 0)) l (get_or before b []))

abbrev pub is_flush : Call Page → Bool
is_flush (read n x) = false
is_flush (write n x) = false
is_flush (part n first x page) = false
is_flush step = false
is_flush flush = true

-- the cause that a request adds for which an answer turns its call down: 7 or 14, else none
abbrev pub added_cause : Answer → ℕ
added_cause open_done = 0
added_cause (read_done way) = 0
added_cause (write_done way b m) = 0
added_cause (step_done b m) = 0
added_cause step_clean = 0
added_cause (flush_done r m) = 0
added_cause (refused n b) = cond (eqb n 7 || eqb n 14) n 0

-- The book is fed a call's arguments and the length of its page buffer, of a part write's bytes their number, and told by the store's
-- answer when the call is turned down for a cause that a request adds; and nothing else.
abbrev pub book_says : Sizes → Reference → Chosen → Answer → Outcome
book_says sz r t a = heeding r.book (added_cause a) (decide t.choice sz r.book (told t.call))

-- the cells of the blocks that were rewritten in a call are new; cs are the cells that the call leaves
unfoldable pub base_after : Sizes → List Cell → List Cell → List ℕ → List ℕ → List Cell
base_after sz base cs w w' = tab (sz.N * sz.K) (λ n. cond (ltb (get_or w (n / sz.K) 0) (get_or w' (n / sz.K) 0)) (get_or cs n no_cell)
    (get_or base n no_cell))

unfoldable pub fed : Sizes → Reference → Call Page → Outcome → List Cell → Reference
fed sz r c o cs = record {
  book = o.state;
  array = array_after r.array c (is_refused o.answer);
  log = log_after r.array r.log c (is_refused o.answer);
  array_before = before_after sz r.array_before r.array r.book.wear o.state.wear;
  log_before = before_after sz r.log_before r.log r.book.wear o.state.wear;
  base = base_after sz r.base cs r.book.wear o.state.wear;
  flushed = is_flush c && not (is_refused o.answer);
}

-- flash as its rule reads it
unfoldable pub flash_pages : Format → Sizes → Buffers → List Page
flash_pages fmt sz u = map (fmt.chip sz).page (flash_cells fmt sz u)

-- as an accepted opening leaves it: the book all vacant with the wear at opening, the array the flash at opening
unfoldable pub opened : Format → Sizes → Buffers → Reference
opened fmt sz u = record {
  book = record { directory = vacant_directory; wear = u.wear };
  array = flash_pages fmt sz u;
  log = [];
  array_before = replicate sz.N (flash_pages fmt sz u);
  log_before = replicate sz.N [];
  base = flash_cells fmt sz u;
  flushed = false;
}

-- ---- the claim

-- how often page n is cached: once for each slot that holds it, once for each frame that has it valid
unfoldable pub times_cached : Sizes → Directory → ℕ → ℕ
times_cached sz d n = count sz.P (λ i. eqb (slot_at d i) n) + count sz.B (inFrame sz d n)

-- the K pages of block b in a list of pages
unfoldable pub block_pages : Sizes → List Page → ℕ → List Page
block_pages sz l b = tab sz.K (λ o. get_or l (b * sz.K + o) [])

-- an accepted read leaves the array's page n in the page buffer, an accepted part write with bytes that page with them laid in
abbrev pub ReadGives : List Page → Call Page → Result → Type 0
ReadGives a (read n x) r = is_refused r.answer ≡ false → r.page ≡ get_or a n []
ReadGives a (write n x) r = Unit {0}
ReadGives a (part n first x page) r = is_refused r.answer ≡ false → r.page ≡ cond (no_bytes x) page (laid first x (get_or a n []))
ReadGives a step r = Unit {0}
ReadGives a flush r = Unit {0}

-- bits of flash and codes have flipped: other bytes stand there, and nothing else has changed
abbrev pub flipped : Store → List ℕ → List ℕ → Store
flipped s fl cd = record {
  cache = s.cache;
  lent = record {
    flash = fl;
    codes = cd;
    marks = s.lent.marks;
    wear = s.lent.wear;
    pspace = s.lent.pspace;
    bspace = s.lent.bspace;
  };
}

-- Near c c': cell c can have come to be c' by flips that the store has to bear
module _ (fmt : Format) (Near : Sizes → Cell → Cell → Type 0) (sz : Sizes) where
  -- every cell is still near what it was when it was last programmed, or at opening
  pub record Borne (r : Reference) (u : Buffers) : Type 0 where
    pub fits : Fits fmt sz u
    pub near : (n : ℕ) → n < sz.N * sz.K → Near sz (get_or r.base n no_cell) (get_or (flash_cells fmt sz u) n no_cell)

  module _ (u : Buffers) where
    -- after the list, which began with the buffers u; flash is taken as its rule reads it
    pub record After (s : Store) (r : Reference) : Type 0 where
      -- no page is cached twice
      pub cached-once : (n : ℕ) → n < sz.N * sz.K → times_cached sz s.cache.directory n ≤ 1
      -- every flash block is, as a whole, the page array at opening or just before the call of its last rewrite
      pub block-whole : (b : ℕ) → b < sz.N → block_pages sz (flash_pages fmt sz s.lent) b ≡ block_pages sz (get_or r.array_before b []) b
      -- hence each flash page holds its opening contents or something accepted for it before the call of its block's last rewrite
      pub flash-from : (n : ℕ) → n < sz.N * sz.K
          → (get_or (flash_pages fmt sz s.lent) n [] ≡ get_or (flash_pages fmt sz u) n [])
          ⊎ Accepted n (get_or (flash_pages fmt sz s.lent) n []) (get_or r.log_before (n / sz.K) [])
      -- each block's wear is the book's: its wear at opening plus the rewrites that the book prescribes
      pub wear-is : s.lent.wear ≡ r.book.wear
      -- if the last call was an accepted flush, the flash is the page array
      pub flushed-is : r.flushed ≡ true → flash_pages fmt sz s.lent ≡ r.array

    -- what is claimed of one call, on store s with r beside it, and of what follows it
    abbrev pub Step : Store → Reference → Chosen → (Store → Reference → Type 0) → Type 0
    Step s r t Then = record {
      -- the store turns down exactly the calls that the book does, and answers alike
      answers : (call_reading fmt t.choice t.besides s t.call).answer
          ≡ (book_says sz r t (call_reading fmt t.choice t.besides s t.call).answer).answer;
      -- every page is seen as the page array has it
      shows : (n : ℕ) → n < sz.N * sz.K → page_seen fmt s n ≡ get_or r.array n [];
      -- each accepted read gave the page array's page as it stood at that call
      reads : ReadGives r.array t.call (call_reading fmt t.choice t.besides s t.call);
      -- and where no further bit flips, every cell is near still
      borne : Borne (fed sz r t.call (book_says sz r t (call_reading fmt t.choice t.besides s t.call).answer)
          (flash_cells fmt sz (call_reading fmt t.choice t.besides s t.call).store.lent))
          (call_reading fmt t.choice t.besides s t.call).store.lent;
      then : Then (call_reading fmt t.choice t.besides s t.call).store
          (fed sz r t.call (book_says sz r t (call_reading fmt t.choice t.besides s t.call).answer)
          (flash_cells fmt sz (call_reading fmt t.choice t.besides s t.call).store.lent));
    }

    -- from store s with r beside it, for the calls that follow; before each call, and after the last, bits have flipped
    abbrev pub Claim : List Chosen → Store → Reference → Type 0
    Claim [] s r = (fl cd : List ℕ) → Borne r (flipped s fl cd).lent → After (flipped s fl cd) r
    Claim (t ∷ cs) s r = (fl cd : List ℕ) → Borne r (flipped s fl cd).lent → Step (flipped s fl cd) r t (Claim cs)

    -- the same where no bit flips
    abbrev pub Quiet : List Chosen → Store → Reference → Type 0
    Quiet [] s r = After s r
    Quiet (t ∷ cs) s r = Step s r t (Quiet cs)

-- What demand 3 asks of the rule that flash is read by: a programmed page is read as it is, and so is every cell that is near one whose
-- code matches.
pub record Bears (fmt : Format) (Matched : Sizes → Cell → Type 0) (Near : Sizes → Cell → Cell → Type 0) (sz : Sizes) : Type 0 where
  pub cell-fits : (x : Page) → length x ≡ sz.S → CellFits fmt sz ((fmt.chip sz).cell x)
  pub page-long : (c : Cell) → CellFits fmt sz c → length ((fmt.chip sz).page c) ≡ sz.S
  pub page-cell : (x : Page) → length x ≡ sz.S → (fmt.chip sz).page ((fmt.chip sz).cell x) ≡ x
  pub matched-cell : (x : Page) → length x ≡ sz.S → Matched sz ((fmt.chip sz).cell x)
  pub near-self : (c : Cell) → Near sz c c
  pub page-near : (c c' : Cell) → CellFits fmt sz c → CellFits fmt sz c' → Matched sz c → Near sz c c'
      → (fmt.chip sz).page c' ≡ (fmt.chip sz).page c

-- Demand 3: after one accepted opening of a store whose codes match, for every list of calls.
abbrev pub Demand3 : Format → (Sizes → Cell → Type 0) → (Sizes → Cell → Cell → Type 0) → Sizes → Type 0
Demand3 fmt Matched Near sz = (u : Buffers) → (open_store fmt sz u).answer ≡ open_done
    → ((n : ℕ) → n < sz.N * sz.K → Matched sz (get_or (flash_cells fmt sz u) n no_cell))
    → (cs : List Chosen) → AllPick cs → Claim fmt Near sz u cs (record { cache = (open_store fmt sz u).cache; lent = u }) (opened fmt sz u)
