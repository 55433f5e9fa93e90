-- Calls of the code on one store, with what came out of each, and demand 3 about them.
use Rattle.std.specs.Prelude.{◌≡◌, true, false, List, [], ◌∷◌, ℕ, ◌*◌, ◌<◌, ltb, get_or}
use Rattle.model.specs.Sizes as sizes
use Rattle.model.specs.Sizes.{vacant}
use Rattle.model.specs.Policy.{policy_choice}
use Rattle.model.specs.Calls as calls
use Rattle.model.specs.Calls.{refused, is_refused, Page, Buffers, Outcome, flash_cells, open_done, page_seen}
use Rattle.model.specs.Formats.{store_format, StoreMatches, StoreNear}
use Rattle.model.specs.Lists.{no_cell, Borne, After}
use Rattle.model.specs.Shelf as model
use Rattle.model.specs.Shelf.{ShelfCall, plainly, is_back, shelves, ShelfResult, ShelfReference, ShelfChosen, store_open, store_call}
use Rattle.model.specs.Shelf.{shelf_opened, shelf_book_says, shelf_fed, ShelfGives}
use Rattle.model.specs.Legible.{AsProgrammed}
use Rattle.address.specs.declared.PageNo.{PageNo}
use Rattle.cache.specs.declared.Sizes.{Sizes}
use Rattle.cache.specs.View.{sizes_of}
use Rattle.store.specs.declared.Cache.{Cache}
use Rattle.store.specs.View.{Opened, ReadOut, WriteOut, StepOut, FlushOut, Lent}
use Rattle.store.specs.View.{lent, opened_of, store_of, read_result, write_result, step_result, flush_result}

-- a call with its arguments, what it returned, and those of the buffers lent to it as `&mut`, as it left them
pub data Made : Type 0 where
  read : PageNo → Page → ReadOut → Page → Made
  write : PageNo → Page → WriteOut → Lent → Made
  part : PageNo → ℕ → Page → Page → WriteOut → Lent → Page → Made
  step : StepOut → List ℕ → List ℕ → List ℕ → List ℕ → List ℕ → Made
  flush : FlushOut → List ℕ → List ℕ → List ℕ → List ℕ → List ℕ → Made
  back : WriteOut → Buffers → Made

-- the call, as the model has it
abbrev pub call_of : Made → ShelfCall
call_of (read n page out page') = plainly (calls.read n.0 page)
call_of (write n page out u') = plainly (calls.write n.0 page)
call_of (part n first x page out u' page') = plainly (calls.part n.0 first x page)
call_of (step out flash' codes' marks' wear' bspace') = plainly calls.step
call_of (flush out flash' codes' marks' wear' bspace') = plainly calls.flush
call_of (back out below') = model.back

-- the record and the buffers after a call that was lent the buffers u
abbrev pub cache_after : Made → Cache
cache_after (read n page out page') = out.cache
cache_after (write n page out u') = out.cache
cache_after (part n first x page out u' page') = out.cache
cache_after (step out flash' codes' marks' wear' bspace') = out.cache
cache_after (flush out flash' codes' marks' wear' bspace') = out.cache
cache_after (back out below') = out.cache

abbrev pub lent_after : Lent → Made → Lent
lent_after u (read n page out page') = u
lent_after u (write n page out u') = u'
lent_after u (part n first x page out u' page') = u'
lent_after u (step out flash' codes' marks' wear' bspace') = lent flash' codes' marks' wear' u.below.pspace bspace' u.shelf
lent_after u (flush out flash' codes' marks' wear' bspace') = lent flash' codes' marks' wear' u.below.pspace bspace' u.shelf
lent_after u (back out below') = record { below = below'; shelf = u.shelf }

-- what came out of the call
abbrev pub result_of : Lent → Made → ShelfResult
result_of u (read n page out page') = read_result out u page'
result_of u (write n page out u') = write_result out u' page
result_of u (part n first x page out u' page') = write_result out u' page'
result_of u (step out flash' codes' marks' wear' bspace') = step_result out (lent flash' codes' marks' wear' u.below.pspace bspace'
    u.shelf)
result_of u (flush out flash' codes' marks' wear' bspace') = flush_result out (lent flash' codes' marks' wear' u.below.pspace bspace'
    u.shelf)
result_of u (back out below') = write_result out (record { below = below'; shelf = u.shelf }) []

-- the contract of a call, on record c and buffers u: this is the `ensures` of `Cache::read`, `write`, `write_part`, `flush_step`, `flush`,
-- `take_back`
abbrev pub Contract : Cache → Lent → Made → Type 0
Contract c u m = result_of u m ≡ store_call policy_choice (store_of c u) (call_of m)

-- a call, before which bits of flash and codes may have flipped: flash and codes as the call finds them
pub record Turn : Type 0 where
  pub flash : List ℕ
  pub codes : List ℕ
  pub made : Made

-- the buffers u with other bytes in flash and codes
abbrev pub flipped_to : Lent → List ℕ → List ℕ → Lent
flipped_to u flash codes = lent flash codes u.below.marks u.below.wear u.below.pspace u.below.bspace u.shelf

abbrev pub lent_to : Lent → Turn → Lent
lent_to u t = flipped_to u t.flash t.codes

-- each call was made on the record and the buffers that the one before it left, but for flips, and its outcome is as its contract says
abbrev pub AsContracted : Cache → Lent → List Turn → Type 0
AsContracted c u [] = Unit {0}
AsContracted c u (t ∷ ts) = Contract c (lent_to u t) t.made
    × AsContracted (cache_after t.made) (lent_after (lent_to u t) t.made) ts

-- the call, with the choice of the record's policy
abbrev pub by_policy : Made → ShelfChosen
by_policy m = record { choice = policy_choice; call = call_of m }

-- what the book says of a call on the buffers u; it is told by the answer of refusals that requests add
abbrev pub said_by : sizes.Sizes → ShelfReference → Lent → Made → Outcome
said_by sz r u m = shelf_book_says sz sz.shelf_pages r (by_policy m) (result_of u m).answer

-- what runs beside the store, after the call
abbrev pub fed_by : sizes.Sizes → ShelfReference → Lent → Made → ShelfReference
fed_by sz r u m = shelf_fed sz sz.shelf_pages r (by_policy m) (said_by sz r u m) (flash_cells store_format sz (lent_after u m).below)

-- every cell is near what it was when it was last programmed, or at opening
abbrev pub StillNear : sizes.Sizes → ShelfReference → Lent → Type 0
StillNear sz r u = Borne store_format StoreNear sz r.reference u.below

-- The model's claim, with what came out of the code's calls, as long as no more bits flip than the store has to bear: the answers and the
-- reads are the book's and the page array's.
abbrev pub Claim : sizes.Sizes → Lent → Cache → Lent → ShelfReference → List Turn → Type 0
Claim sz u₀ c u r [] = (flash codes : List ℕ) → StillNear sz r (flipped_to u flash codes)
    → After store_format StoreNear sz u₀.below (store_of c (flipped_to u flash codes)).store r.reference
Claim sz u₀ c u r (t ∷ ts) = StillNear sz r (lent_to u t) → record {
  answers : (result_of (lent_to u t) t.made).answer ≡ (said_by sz r (lent_to u t) t.made).answer;
  reads : ShelfGives r.reference.array (call_of t.made) (result_of (lent_to u t) t.made);
  -- where no further bit flips, every cell is near still
  near : StillNear sz (fed_by sz r (lent_to u t) t.made) (lent_after (lent_to u t) t.made);
  then : Claim sz u₀ (cache_after t.made) (lent_after (lent_to u t) t.made) (fed_by sz r (lent_to u t) t.made) ts;
}

-- the contract of an opening with sizes z and buffers u: this is the `ensures` of `Cache::open`
abbrev pub OpeningContract : Sizes → Lent → Opened → Type 0
OpeningContract z u o = opened_of o ≡ store_open (sizes_of z) u.below u.shelf

-- the codes lent at opening match their pages
abbrev pub CodesMatch : sizes.Sizes → Lent → Type 0
CodesMatch sz u = (n : ℕ) → n < sz.N * sz.K → StoreMatches sz (get_or (flash_cells store_format sz u.below) n no_cell)

-- book, page array and shelf as an accepted opening leaves them
abbrev pub begun : sizes.Sizes → Lent → ShelfReference
begun sz u = shelf_opened store_format sz sz.shelf_pages u.below u.shelf

-- Demand 3 for the code: after one accepted opening of a store whose codes match, for every list of calls.
abbrev pub Demand3 : Type 0
Demand3 = (z : Sizes) (u : Lent) (o : Opened) → OpeningContract z u o → (opened_of o).answer ≡ open_done → CodesMatch (sizes_of z) u
    → (ts : List Turn) → AsContracted o.cache u ts → Claim (sizes_of z) u o.cache u (begun (sizes_of z) u) ts

-- ---- requests A6 and A7

-- Of every call of a list, as long as no more bits flip than the store has to bear: it is not refused 7, and where it finds each cell as it
-- was programmed, or as it was at opening, it mends nothing.
abbrev pub Legible : sizes.Sizes → Lent → ShelfReference → List Turn → Type 0
Legible sz u r [] = Unit {0}
Legible sz u r (t ∷ ts) = StillNear sz r (lent_to u t) → record {
  readable : (b : ℕ) → (result_of (lent_to u t) t.made).answer ≡ refused 7 b → ⊥;
  mendless : AsProgrammed store_format sz r.reference (lent_to u t).below → (result_of (lent_to u t) t.made).mends ≡ 0;
  then : Legible sz (lent_after (lent_to u t) t.made) (fed_by sz r (lent_to u t) t.made) ts;
}

-- after one accepted opening of a store whose codes match, for every list of calls
abbrev pub NeverUnreadable : Type 0
NeverUnreadable = (z : Sizes) (u : Lent) (o : Opened) → OpeningContract z u o → (opened_of o).answer ≡ open_done → CodesMatch (sizes_of z) u
    → (ts : List Turn) → AsContracted o.cache u ts → Legible (sizes_of z) u (begun (sizes_of z) u) ts

-- ---- request A8

-- Before a write there were record c, buffers u and r beside them, after it c₁, u₁ and r₁. The next call, if it takes back and is accepted,
-- leaves the page array, and every page that a reader would be given, as they were before the write.
abbrev pub UndoneBy : sizes.Sizes → Cache → Lent → ShelfReference → Cache → Lent → ShelfReference → List Turn → Type 0
UndoneBy sz c u r c₁ u₁ r₁ [] = Unit {0}
UndoneBy sz c u r c₁ u₁ r₁ (t ∷ ts) = StillNear sz r₁ (lent_to u₁ t) → is_back (call_of t.made) ≡ true
    → is_refused (result_of (lent_to u₁ t) t.made).answer ≡ false
    → record {
      array-is : (fed_by sz r₁ (lent_to u₁ t) t.made).reference.array ≡ r.reference.array;
      shows : (flash codes : List ℕ) → StillNear sz (fed_by sz r₁ (lent_to u₁ t) t.made)
          (flipped_to (lent_after (lent_to u₁ t) t.made) flash codes)
          → (n : ℕ) → n < sz.N * sz.K
          → page_seen store_format (store_of (cache_after t.made) (flipped_to (lent_after (lent_to u₁ t) t.made) flash codes)).store n
          ≡ page_seen store_format (store_of c u).store n;
    }

-- Of every call of a list: if it is a write, of a page or of part of one, and accepted, the next call undoes it where that takes back.
abbrev pub Undoes : sizes.Sizes → Cache → Lent → ShelfReference → List Turn → Type 0
Undoes sz c u r [] = Unit {0}
Undoes sz c u r (t ∷ ts) = StillNear sz r (lent_to u t) → record {
  undone : ltb (shelves (call_of t.made)) vacant ≡ true → is_refused (result_of (lent_to u t) t.made).answer ≡ false
      → UndoneBy sz c (lent_to u t) r (cache_after t.made) (lent_after (lent_to u t) t.made) (fed_by sz r (lent_to u t) t.made) ts;
  then : Undoes sz (cache_after t.made) (lent_after (lent_to u t) t.made) (fed_by sz r (lent_to u t) t.made) ts;
}

-- after one accepted opening of a store whose codes match, for every list of calls
abbrev pub TakenBack : Type 0
TakenBack = (z : Sizes) (u : Lent) (o : Opened) → OpeningContract z u o → (opened_of o).answer ≡ open_done → CodesMatch (sizes_of z) u
    → (ts : List Turn) → AsContracted o.cache u ts → Undoes (sizes_of z) o.cache u (begun (sizes_of z) u) ts
