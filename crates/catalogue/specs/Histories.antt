-- Calls of the code on one store and of catalogues above it, with what came out of each, and what is shown of their lists.
use Rattle.std.specs.Prelude.{◌≡◌, List, [], ◌∷◌, ℕ, ◌<◌, get_or}
use Rattle.model.specs.Sizes as model
use Rattle.model.specs.Policy.{policy_choice}
use Rattle.model.specs.Calls.{Page, open_done}
use Rattle.model.specs.Formats.{store_format, StoreNear}
use Rattle.model.specs.Lists.{After, flash_pages}
use Rattle.model.specs.Legible.{AsProgrammed}
use Rattle.model.specs.Shelf.{ShelfReference, ShelfGives}
use Rattle.cache.specs.declared.Sizes.{Sizes}
use Rattle.cache.specs.View.{sizes_of}
use Rattle.store.specs.declared.Cache.{Cache}
use Rattle.store.specs.View.{Opened, Lent, opened_of, store_of}
use Rattle.store.specs.Histories as store
use Rattle.store.specs.Histories.{flipped_to, StillNear, OpeningContract, CodesMatch, begun}
use Rattle.runs.specs.Sheet.{Sheet}
use Rattle.runs.specs.Roles as roles
use Rattle.runs.specs.RulesEnds.{OperationWords}
use Rattle.over.specs.Catalogue.{Says, Out}
use Rattle.over.specs.Mixed.{sheets_in, Bytes, WritesBytes, NotUnreadable, Listed}
use Rattle.over.specs.Mixed as mixed
use Rattle.sheets.specs.declared.roles.Caller.{Caller}
use Rattle.catalogue.specs.View as listings
use Rattle.catalogue.specs.View.{Looked, ReadOut, WriteOut, look_says, look_mends, list_says, list_mends, fetch_says, fetch_mends}
use Rattle.catalogue.specs.View.{write_says, write_mends, out_with}
use Rattle.catalogue.specs.View.{asked_by, called}

-- a call of a catalogue with its arguments, what it returned, and what is lent to it as `&mut`, as it left it
pub data Entry : Type 0 where
  look : ℕ → Looked → Page → Entry
  list : ℕ → listings.Listed → Page → Entry
  read : ℕ → ℕ → ReadOut → Page → Entry
  add : ℕ → ℕ → ℕ → WriteOut → Lent → Page → Entry
  replace : ℕ → ℕ → ℕ → ℕ → WriteOut → Lent → Page → Entry
  mark : ℕ → ℕ → WriteOut → Lent → Page → Entry

-- a call of the store, or one of a catalogue of so many sheets, by a caller, lent a page buffer
pub data Made : Type 0 where
  plain : store.Made → Made
  catalogue : ℕ → Caller → Page → Entry → Made

abbrev pub operation_of : Entry → roles.Operation
operation_of (look r out page') = roles.look r
operation_of (list p out page') = roles.list p
operation_of (read r x out page') = roles.read r x
operation_of (add s f n out u' page') = roles.add s f n
operation_of (replace r s f n out u' page') = roles.replace r s f n
operation_of (mark r m out u' page') = roles.mark r m

abbrev pub says_of : Entry → Says
says_of (look r out page') = look_says out
says_of (list p out page') = list_says out
says_of (read r x out page') = fetch_says out.answer
says_of (add s f n out u' page') = write_says out.answer
says_of (replace r s f n out u' page') = write_says out.answer
says_of (mark r m out u' page') = write_says out.answer

abbrev pub mends_in : Entry → ℕ
mends_in (look r out page') = look_mends out
mends_in (list p out page') = list_mends out
mends_in (read r x out page') = fetch_mends out.answer
mends_in (add s f n out u' page') = write_mends out.answer
mends_in (replace r s f n out u' page') = write_mends out.answer
mends_in (mark r m out u' page') = write_mends out.answer

-- the record, the buffers and the page buffer after a call on record c that was lent the buffers u
abbrev pub cache_after : Cache → Entry → Cache
cache_after c (look r out page') = c
cache_after c (list p out page') = c
cache_after c (read r x out page') = out.cache
cache_after c (add s f n out u' page') = out.cache
cache_after c (replace r s f n out u' page') = out.cache
cache_after c (mark r m out u' page') = out.cache

abbrev pub lent_after : Lent → Entry → Lent
lent_after u (look r out page') = u
lent_after u (list p out page') = u
lent_after u (read r x out page') = u
lent_after u (add s f n out u' page') = u'
lent_after u (replace r s f n out u' page') = u'
lent_after u (mark r m out u' page') = u'

abbrev pub page_after : Entry → Page
page_after (look r out page') = page'
page_after (list p out page') = page'
page_after (read r x out page') = page'
page_after (add s f n out u' page') = page'
page_after (replace r s f n out u' page') = page'
page_after (mark r m out u' page') = page'

-- what came out of it
abbrev pub out_of : Cache → Lent → Entry → Out
out_of c u e = out_with (says_of e) (mends_in e) (store_of (cache_after c e) (lent_after u e)) (page_after e)

-- the contract of the call, on record c and buffers u: this is the `ensures` of look, list, read, add, replace, mark
abbrev pub Contract : Cache → Lent → ℕ → Caller → Page → Entry → Type 0
Contract c u n w page e = out_of c u e ≡ called c u n w (operation_of e) page

-- a call, before which bits of flash and codes may have flipped: flash and codes as the call finds them
pub record Turn : Type 0 where
  pub flash : List ℕ
  pub codes : List ℕ
  pub made : Made

abbrev pub lent_to : Lent → Turn → Lent
lent_to u t = flipped_to u t.flash t.codes

-- the record and the buffers after a call
abbrev pub cache_then : Cache → Made → Cache
cache_then c (plain m) = store.cache_after m
cache_then c (catalogue n w page e) = cache_after c e

abbrev pub lent_then : Lent → Made → Lent
lent_then u (plain m) = store.lent_after u m
lent_then u (catalogue n w page e) = lent_after u e

-- the outcome of a call is as its contract says
abbrev pub Keeps : Cache → Lent → Made → Type 0
Keeps c u (plain m) = store.Contract c u m
Keeps c u (catalogue n w page e) = Contract c u n w page e

-- each call was made on the record and the buffers that the one before it left, but for flips, and its outcome is as its contract says
abbrev pub AsContracted : Cache → Lent → List Turn → Type 0
AsContracted c u [] = Unit {0}
AsContracted c u (t ∷ ts) = Keeps c (lent_to u t) t.made × AsContracted (cache_then c t.made) (lent_then (lent_to u t) t.made) ts

-- what is lent to be written is bytes, and a catalogue's arguments are 32-bit numbers: both hold by the types of the code
abbrev pub Words : Made → Type 0
Words (plain m) = WritesBytes (store.by_policy m).call
Words (catalogue n w page e) = (w.number < 4294967296) × OperationWords (operation_of e)

abbrev pub InWords : List Turn → Type 0
InWords [] = Unit {0}
InWords (t ∷ ts) = Words t.made × InWords ts

-- what the list of sheets ss says of a call of a catalogue of so many sheets, told by what came out of it
abbrev pub listed : model.Sizes → List Sheet → ShelfReference → Cache → Lent → ℕ → Caller → Page → Entry → Listed
listed sz ss r c u n w page e = mixed.list_says sz policy_choice n ss r (asked_by w (operation_of e) page) (out_of c u e)

-- what runs beside the store, after the call
abbrev pub fed_then : model.Sizes → ShelfReference → Cache → Lent → Made → ShelfReference
fed_then sz r c u (plain m) = store.fed_by sz r u m
fed_then sz r c u (catalogue n w page e) = (listed sz (sheets_in n r.reference.array) r c u n w page e).reference

-- what is claimed of one call on record c and buffers u, with r beside it
abbrev pub Claimed : model.Sizes → ShelfReference → Cache → Lent → Made → Type 0
Claimed sz r c u (plain m) = record {
  answers : (store.result_of u m).answer ≡ (store.said_by sz r u m).answer;
  reads : ShelfGives r.reference.array (store.by_policy m).call (store.result_of u m);
}
Claimed sz r c u (catalogue n w page e) = let l = listed sz (sheets_in n r.reference.array) r c u n w page e in record {
  -- it answers as the list of the sheets that the page array holds, told the book's answers, and leaves in the page buffer what that says
  answers : says_of e ≡ l.says;
  buffer : page_after e ≡ l.page;
  -- it is not refused 7, and where it finds each cell as it was programmed it mends nothing
  readable : NotUnreadable (says_of e);
  mendless : AsProgrammed store_format sz r.reference u.below → mends_in e ≡ 0;
}

-- The model's claim, with what came out of the code's calls, as long as no more bits flip than the store has to bear.
abbrev pub Claim : model.Sizes → Lent → Cache → Lent → ShelfReference → List Turn → Type 0
Claim sz u₀ c u r [] = (flash codes : List ℕ) → StillNear sz r (flipped_to u flash codes)
    → After store_format StoreNear sz u₀.below (store_of c (flipped_to u flash codes)).store r.reference
Claim sz u₀ c u r (t ∷ ts) = StillNear sz r (lent_to u t) → record {
  here : Claimed sz r c (lent_to u t) t.made;
  -- where no further bit flips, every cell is near still
  near : StillNear sz (fed_then sz r c (lent_to u t) t.made) (lent_then (lent_to u t) t.made);
  then : Claim sz u₀ (cache_then c t.made) (lent_then (lent_to u t) t.made) (fed_then sz r c (lent_to u t) t.made) ts;
}

-- Demand 3 for the code with catalogues: after one accepted opening of a store whose codes match, on flash and a shelf of bytes, for every
-- list of calls.
abbrev pub Demand3 : Type 0
Demand3 = (z : Sizes) (u : Lent) (o : Opened) → OpeningContract z u o → (opened_of o).answer ≡ open_done → CodesMatch (sizes_of z) u
    → Bytes u.below.flash → Bytes u.shelf → (ts : List Turn) → InWords ts → AsContracted o.cache u ts
    → Claim (sizes_of z) u o.cache u (begun (sizes_of z) u) ts

-- ---- request A9's own sentence

-- one call beside a list of k sheets with a state of its own, ss, over the page array, told the store's answers and refusals
abbrev pub OwnStep : model.Sizes → ℕ → Cache → Lent → ShelfReference → List Sheet → Made → (Cache → Lent → ShelfReference → List Sheet
    → Type 0)
    → Type 0
OwnStep sz k c u r ss (plain m) Then = ((i : ℕ) → i < k → get_or (store.fed_by sz r u m).reference.array i []
    ≡ get_or r.reference.array i [])
    → Then (store.cache_after m) (store.lent_after u m) (store.fed_by sz r u m) ss
OwnStep sz k c u r ss (catalogue n w page e) Then = n ≡ k
    → let l = mixed.list_says sz policy_choice k ss r (asked_by w (operation_of e) page) (out_of c u e) in record {
      answers : says_of e ≡ l.says;
      buffer : page_after e ≡ l.page;
      then : Then (cache_after c e) (lent_after u e) l.reference l.sheets;
    }

-- While no more bits flip than the store has to bear, every call of the catalogue has k sheets, and the store's own calls leave the array's
-- pages below k as they are, the catalogue answers as that list.
abbrev pub Own : model.Sizes → ℕ → Cache → Lent → ShelfReference → List Sheet → List Turn → Type 0
Own sz k c u r ss [] = Unit {0}
Own sz k c u r ss (t ∷ ts) = StillNear sz r (lent_to u t)
    → OwnStep sz k c (lent_to u t) r ss t.made (λ c' u' r' ss'. Own sz k c' u' r' ss' ts)

-- at first the sheets are those stored
abbrev pub AnswersAsList : Type 0
AnswersAsList = (z : Sizes) (u : Lent) (o : Opened) → OpeningContract z u o → (opened_of o).answer ≡ open_done → CodesMatch (sizes_of z) u
    → Bytes u.below.flash → Bytes u.shelf → (k : ℕ) (ts : List Turn) → InWords ts → AsContracted o.cache u ts
    → Own (sizes_of z) k o.cache u (begun (sizes_of z) u) (sheets_in k (flash_pages store_format (sizes_of z) u.below)) ts
