-- Lists that mix the calls of the store with calls of catalogues: what the rewrite book, the page array and a list of sheets say of a
-- catalogue's call, the claim of demand 3 for such lists, and request A9's own sentence.
use Rattle.std.specs.Prelude.{◌≡◌, cond, List, [], ◌∷◌, ℕ, ◌*◌, ◌<◌, eqb, length, get_or, set}
use Rattle.prelude.specs.Scan.{tab}
use Rattle.model.specs.Sizes.{Sizes, vacant}
use Rattle.model.specs.Policy.{Choice}
use Rattle.model.specs.Calls.{Answer, open_done, refused, is_refused, Call, read, write, part, step, flush, Page, Cell, Buffers}
use Rattle.model.specs.Calls.{flash_cells}
use Rattle.model.specs.Formats.{store_format, StoreNear}
use Rattle.model.specs.Lists.{Picks, added_cause, flipped, Borne, After}
use Rattle.model.specs.Legible.{AsProgrammed}
use Rattle.model.specs.Shelf.{plainly, back, ShelfCall, ShelfStore, ShelfReference, ShelfChosen, shelf_call, shelf_book_says, shelf_fed}
use Rattle.model.specs.Shelf.{shelf_flipped}
use Rattle.model.specs.Shelf.{ShelfStep}
use Rattle.runs.specs.Sheet.{Sheet, sheet_of, page_of}
use Rattle.runs.specs.Verdict.{Verdict, refuse, show, tell, fetch, put, Check, passed, stopped, outside, decided, judged}
use Rattle.runs.specs.RulesEnds.{OperationWords}
use Rattle.over.specs.Catalogue.{Asked, Says, down, shown, listed, fetched, wrote, Out, sizes_fit, asking, catalogue_call}

-- ---- the list of sheets

-- the sheets that an array holds
unfoldable pub sheets_in : ℕ → List Page → List Sheet
sheets_in c a = tab c (λ i. sheet_of (get_or a i []))

-- what is told by the store's answer: a sheet that it refuses, 7 or 14, and the answer of the last step; and nothing else
abbrev pub sheet_told : Says → Check Answer
sheet_told (down a) = cond (eqb (added_cause a) 0) passed (stopped a)
sheet_told (shown sh q) = passed
sheet_told (listed r) = passed
sheet_told (fetched a) = passed
sheet_told (wrote r a) = passed

abbrev pub step_told : Says → Answer
step_told (down a) = open_done
step_told (shown sh q) = open_done
step_told (listed r) = open_done
step_told (fetched a) = a
step_told (wrote r a) = a

-- what the list answers, what runs beside the store then, the sheets and the page buffer afterwards
pub record Listed : Type 0 where
  pub says : Says
  pub reference : ShelfReference
  pub sheets : List Sheet
  pub page : Page

abbrev pub by_choice : Choice → Call Page → ShelfChosen
by_choice pick k = record { choice = pick; call = plainly k }

module _ (sz : Sizes) (h : ℕ) (pick : Choice) (c : ℕ) (ss : List Sheet) (r : ShelfReference) (q : Asked) (told : Says)
    (cs : List Cell) where
  -- Where the list asks for nothing, book, array and log stay. A read and a write are the book's, told the answer; array and log take the
  -- page of the sheet that an accepted write put. cs are the cells that the call leaves.
  unfoldable pub list_step : Verdict → Listed
  list_step (refuse n) = record { says = down (refused n vacant); reference = r; sheets = ss; page = q.page }
  list_step (show sh x) = record { says = shown sh x; reference = r; sheets = ss; page = q.page }
  list_step (tell x) = record { says = listed x; reference = r; sheets = ss; page = q.page }
  list_step (fetch n) = let t = by_choice pick (read n q.page) in let o = shelf_book_says sz h r t (step_told told) in record {
    says = fetched o.answer;
    reference = shelf_fed sz h r t o cs;
    sheets = ss;
    page = cond (is_refused o.answer) q.page (get_or r.reference.array n []);
  }
  list_step (put i sh) = let y = page_of sz.S sh in let t = by_choice pick (write i y) in
      let o = shelf_book_says sz h r t (step_told told) in record {
        says = wrote sh.run o.answer;
        reference = shelf_fed sz h r t o cs;
        sheets = cond (is_refused o.answer) ss (set ss i sh);
        page = cond (is_refused o.answer) q.page y;
      }

  -- what comes from outside: 2 of the page buffer, 1, and the sheet told; record and buffers are right in a list
  unfoldable pub list_outside : Check Answer
  list_outside = asking (eqb (length q.page) sz.S) 2 (asking (sizes_fit sz c) 1 (sheet_told told))

  -- the list of sheets ss over the page array, told the store's answers and refusals
  unfoldable pub list_call : Listed
  list_call = elim (judged c (sz.N * sz.K) ss q.caller q.operation list_outside) [
    | outside a ↦ record { says = down a; reference = r; sheets = ss; page = q.page }
    | decided v ↦ list_step v
  ]

-- ---- the list of calls

-- a call of the store, or one of a catalogue of so many sheets, with its choice
pub data Turn : Type 0 where
  plain : ShelfChosen → Turn
  catalogue : Choice → ℕ → Asked → Turn

abbrev pub AllPick : List Turn → Type 0
AllPick [] = Unit {0}
AllPick (plain t ∷ ts) = Picks t.choice × AllPick ts
AllPick (catalogue pick c q ∷ ts) = Picks pick × AllPick ts

-- every element is a byte
abbrev pub Bytes : Page → Type 0
Bytes x = (j : ℕ) → get_or x j 0 < 256

abbrev pub AllBytes : List Page → Type 0
AllBytes a = (i : ℕ) → Bytes (get_or a i [])

abbrev pub WritesBytes : ShelfCall → Type 0
WritesBytes (plainly (read n x)) = Unit {0}
WritesBytes (plainly (write n x)) = Bytes x
WritesBytes (plainly (part n first x page)) = Bytes x
WritesBytes (plainly step) = Unit {0}
WritesBytes (plainly flush) = Unit {0}
WritesBytes back = Unit {0}

-- what is written is bytes, and a catalogue's numbers are 32-bit ones
abbrev pub InWords : List Turn → Type 0
InWords [] = Unit {0}
InWords (plain t ∷ ts) = WritesBytes t.call × InWords ts
InWords (catalogue pick c q ∷ ts) = ((q.caller.number < 4294967296) × OperationWords q.operation) × InWords ts

-- ---- the claim

-- not refused 7
abbrev pub NotUnreadable : Says → Type 0
NotUnreadable (down a) = (b : ℕ) → a ≡ refused 7 b → ⊥
NotUnreadable (shown sh q) = Unit {0}
NotUnreadable (listed r) = Unit {0}
NotUnreadable (fetched a) = (b : ℕ) → a ≡ refused 7 b → ⊥
NotUnreadable (wrote r a) = (b : ℕ) → a ≡ refused 7 b → ⊥

module _ (sz : Sizes) where
  -- as the list of the sheets ss says of a call that came out so
  abbrev pub list_says : Choice → ℕ → List Sheet → ShelfReference → Asked → Out → Listed
  list_says pick c ss r q out = list_call sz sz.shelf_pages pick c ss r q out.says (flash_cells store_format sz out.store.store.lent)

  -- what runs beside the store after a call of its own, and the store
  abbrev pub store_after : ShelfStore → ShelfChosen → ShelfStore
  store_after s t = (shelf_call store_format sz.shelf_pages t.choice s t.call).store

  abbrev pub reference_after : ShelfStore → ShelfReference → ShelfChosen → ShelfReference
  reference_after s r t = shelf_fed sz sz.shelf_pages r t (shelf_book_says sz sz.shelf_pages r t
      (shelf_call store_format sz.shelf_pages t.choice s t.call).answer) (flash_cells store_format sz (store_after s t).store.lent)

  module _ (u : Buffers) where
    -- a call of a catalogue: out is what came out of it, and l what the list of the array's sheets says
    abbrev pub CatalogueStep : ShelfReference → Buffers → Out → Listed → (ShelfStore → ShelfReference → Type 0) → Type 0
    CatalogueStep r lent out l Then = record {
      -- it answers as the list of the sheets that the page array holds, told the book's answers, and so does its page buffer
      answers : out.says ≡ l.says;
      buffer : out.page ≡ l.page;
      -- requests A6 and A7: it is not refused 7, and where no bit has flipped it mends nothing
      readable : NotUnreadable out.says;
      mendless : AsProgrammed store_format sz r.reference lent → out.mends ≡ 0;
      -- where no further bit flips, every cell is near still
      borne : Borne store_format StoreNear sz l.reference.reference out.store.store.lent;
      -- array, log and book are fed the read or the write that the array's sheets decide
      then : Then out.store l.reference;
    }

    -- from store s with r beside it, for the calls that follow; before each call, and after the last, bits have flipped
    abbrev pub Mixed : List Turn → ShelfStore → ShelfReference → Type 0
    Mixed [] s r = (fl cd : List ℕ) → Borne store_format StoreNear sz r.reference (flipped s.store fl cd).lent
        → After store_format StoreNear sz u (flipped s.store fl cd) r.reference
    Mixed (plain t ∷ ts) s r = (fl cd : List ℕ) → Borne store_format StoreNear sz r.reference (flipped s.store fl cd).lent
        → ShelfStep store_format StoreNear sz sz.shelf_pages u (shelf_flipped s fl cd) r t (Mixed ts)
    Mixed (catalogue pick c q ∷ ts) s r = (fl cd : List ℕ)
        → Borne store_format StoreNear sz r.reference (flipped s.store fl cd).lent
        → let out = catalogue_call pick c (shelf_flipped s fl cd) q in
        CatalogueStep r (flipped s.store fl cd).lent out (list_says pick c (sheets_in c r.reference.array) r q out) (Mixed ts)

  -- Request A9's sentence: a list of c sheets with a state of its own, ss. While no more bits flip than the store has to bear, every
  -- catalogue's call has c sheets, and the store's own calls leave the pages below c as they are, the catalogue answers as that list.
  abbrev pub Own : ℕ → List Turn → ShelfStore → ShelfReference → List Sheet → Type 0
  Own c [] s r ss = Unit {0}
  Own c (plain t ∷ ts) s r ss = (fl cd : List ℕ) → Borne store_format StoreNear sz r.reference (flipped s.store fl cd).lent
      → ((i : ℕ) → i < c → get_or (reference_after (shelf_flipped s fl cd) r t).reference.array i [] ≡ get_or r.reference.array i [])
      → Own c ts (store_after (shelf_flipped s fl cd) t) (reference_after (shelf_flipped s fl cd) r t) ss
  Own c (catalogue pick n q ∷ ts) s r ss = (fl cd : List ℕ)
      → Borne store_format StoreNear sz r.reference (flipped s.store fl cd).lent → n ≡ c
      → let out = catalogue_call pick n (shelf_flipped s fl cd) q in let l = list_says pick c ss r q out in
      record { answers : out.says ≡ l.says; buffer : out.page ≡ l.page; then : Own c ts out.store l.reference l.sheets }
