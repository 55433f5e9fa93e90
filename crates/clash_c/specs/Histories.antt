-- Calls for C on one store, with what came out of each, and demand 3 about them.
use Rattle.std.specs.Prelude.{◌≡◌, true, cond, List, [], ◌∷◌, ℕ, ◌*◌, ◌<◌, ltb, get_or}
use Rattle.prelude.specs.Pages.{laid}
use Rattle.model.specs.Sizes as model
use Rattle.model.specs.Sizes.{vacant}
use Rattle.model.specs.Policy.{policy_choice}
use Rattle.model.specs.Calls as calls
use Rattle.model.specs.Calls.{Page, Buffers, Outcome, refused, no_bytes, flash_cells, page_seen}
use Rattle.model.specs.Formats.{store_format, StoreNear}
use Rattle.model.specs.Lists.{After}
use Rattle.model.specs.Legible.{AsProgrammed}
use Rattle.model.specs.Shelf as shelf
use Rattle.model.specs.Shelf.{ShelfCall, plainly, is_back, shelves, ShelfReference, ShelfChosen, store_open, store_call, shelf_book_says}
use Rattle.model.specs.Shelf.{shelf_fed}
use Rattle.cache.specs.declared.Sizes.{Sizes}
use Rattle.cache.specs.View.{sizes_of}
use Rattle.replies.specs.Numbers.{numbers_of}
use Rattle.store.specs.declared.Cache.{Cache}
use Rattle.store.specs.View.{Lent, lent, store_of}
use Rattle.store.specs.Histories.{flipped_to, StillNear, CodesMatch, begun}
use Rattle.clash_c.specs.declared.Options.{Options}
use Rattle.clash_c.specs.declared.PlainSizes.{PlainSizes}
use Rattle.clash_c.specs.declared.Reply.{Reply}
use Rattle.clash_c.specs.Replies.{opened_reply, opened_in_numbers, replied, in_numbers}

-- the sizes with their options
abbrev pub with_options : PlainSizes → Options → Sizes
with_options s o = record {
  page_size = s.page_size;
  pages_per_block = s.pages_per_block;
  blocks = s.blocks;
  slots = s.slots;
  frames = s.frames;
  wear_limit = s.wear_limit;
  policy = o.policy;
  coded = o.coded;
  shelf_pages = o.shelf_pages;
  marked = o.marked;
}

-- a call with its arguments, its reply, and those of the buffers lent to it as `&mut`, as it left them
pub data Made : Type 0 where
  read : ℕ → Page → Reply → Page → Made
  write : ℕ → Page → Reply → Lent → Made
  part : ℕ → ℕ → Page → Page → Reply → Lent → Page → Made
  step : Reply → List ℕ → List ℕ → List ℕ → List ℕ → List ℕ → Made
  flush : Reply → List ℕ → List ℕ → List ℕ → List ℕ → List ℕ → Made
  back : Reply → Buffers → Made

-- the call, as the model has it
abbrev pub call_of : Made → ShelfCall
call_of (read n page r page') = plainly (calls.read n page)
call_of (write n page r u') = plainly (calls.write n page)
call_of (part n first x page r u' page') = plainly (calls.part n first x page)
call_of (step r flash' codes' marks' wear' bspace') = plainly calls.step
call_of (flush r flash' codes' marks' wear' bspace') = plainly calls.flush
call_of (back r below') = shelf.back

abbrev pub reply_of : Made → Reply
reply_of (read n page r page') = r
reply_of (write n page r u') = r
reply_of (part n first x page r u' page') = r
reply_of (step r flash' codes' marks' wear' bspace') = r
reply_of (flush r flash' codes' marks' wear' bspace') = r
reply_of (back r below') = r

-- the buffers after a call that was lent the buffers u
abbrev pub lent_after : Lent → Made → Lent
lent_after u (read n page r page') = u
lent_after u (write n page r u') = u'
lent_after u (part n first x page r u' page') = u'
lent_after u (step r flash' codes' marks' wear' bspace') = lent flash' codes' marks' wear' u.below.pspace bspace' u.shelf
lent_after u (flush r flash' codes' marks' wear' bspace') = lent flash' codes' marks' wear' u.below.pspace bspace' u.shelf
lent_after u (back r below') = record { below = below'; shelf = u.shelf }

-- the page buffer after the call; a step, a flush and taking back are lent none
abbrev pub page_after : Made → Page
page_after (read n page r page') = page'
page_after (write n page r u') = page
page_after (part n first x page r u' page') = page'
page_after (step r flash' codes' marks' wear' bspace') = []
page_after (flush r flash' codes' marks' wear' bspace') = []
page_after (back r below') = []

-- the contract of a call, on record c and buffers u: this is the `ensures` of `clash_read`, `clash_write`, `clash_part`, `clash_step`,
-- `clash_flush` and `clash_take_back`
abbrev pub Contract : Cache → Lent → Made → Type 0
Contract c u m = replied (reply_of m) (lent_after u m) (page_after m) ≡ in_numbers (store_call policy_choice (store_of c u) (call_of m))

-- the contract of an opening with sizes z, options among them, and buffers u: this is the `ensures` of `clash_open`
abbrev pub OpeningContract : Sizes → Lent → Reply → Type 0
OpeningContract z u r = opened_reply r ≡ opened_in_numbers (store_open (sizes_of z) u.below u.shelf)

-- a call, before which bits of flash and codes may have flipped: flash and codes as the call finds them
pub record Turn : Type 0 where
  pub flash : List ℕ
  pub codes : List ℕ
  pub made : Made

abbrev pub lent_to : Lent → Turn → Lent
lent_to u t = flipped_to u t.flash t.codes

-- each call was made on the record and the buffers that the one before it left, but for flips, and its outcome is as its contract says
abbrev pub AsContracted : Cache → Lent → List Turn → Type 0
AsContracted c u [] = Unit {0}
AsContracted c u (t ∷ ts) = Contract c (lent_to u t) t.made
    × AsContracted (reply_of t.made).cache (lent_after (lent_to u t) t.made) ts

-- the call, with the choice of the record's policy
abbrev pub by_policy : Made → ShelfChosen
by_policy m = record { choice = policy_choice; call = call_of m }

-- what the book says of a call; it is told by the reply's number of refusals that requests add
abbrev pub said_by : model.Sizes → ShelfReference → Made → Outcome
said_by sz r m = shelf_book_says sz sz.shelf_pages r (by_policy m) (refused (reply_of m).answer.refusal vacant)

-- what runs beside the store, after the call on the buffers u
abbrev pub fed_by : model.Sizes → ShelfReference → Lent → Made → ShelfReference
fed_by sz r u m = shelf_fed sz sz.shelf_pages r (by_policy m) (said_by sz r m) (flash_cells store_format sz (lent_after u m).below)

-- an accepted read leaves the array's page n in the page buffer, an accepted part write with bytes that page with them laid in
abbrev pub ReadGives : List Page → Made → Type 0
ReadGives a (read n page r page') = r.answer.refusal ≡ 0 → page' ≡ get_or a n []
ReadGives a (write n page r u') = Unit {0}
ReadGives a (part n first x page r u' page') = r.answer.refusal ≡ 0 → page' ≡ cond (no_bytes x) page (laid first x (get_or a n []))
ReadGives a (step r flash' codes' marks' wear' bspace') = Unit {0}
ReadGives a (flush r flash' codes' marks' wear' bspace') = Unit {0}
ReadGives a (back r below') = Unit {0}

-- The model's claim, with what came out of these calls, as long as no more bits flip than the store has to bear: the answers are the
-- book's in numbers, but for the chunks mended, of which the book is not told, and the reads the page array's.
abbrev pub Claim : model.Sizes → Lent → Cache → Lent → ShelfReference → List Turn → Type 0
Claim sz u₀ c u r [] = (flash codes : List ℕ) → StillNear sz r (flipped_to u flash codes)
    → After store_format StoreNear sz u₀.below (store_of c (flipped_to u flash codes)).store r.reference
Claim sz u₀ c u r (t ∷ ts) = StillNear sz r (lent_to u t) → record {
  answers : (reply_of t.made).answer ≡ numbers_of (said_by sz r t.made).answer (reply_of t.made).answer.mended;
  reads : ReadGives r.reference.array t.made;
  -- where no further bit flips, every cell is near still
  near : StillNear sz (fed_by sz r (lent_to u t) t.made) (lent_after (lent_to u t) t.made);
  then : Claim sz u₀ (reply_of t.made).cache (lent_after (lent_to u t) t.made) (fed_by sz r (lent_to u t) t.made) ts;
}

-- Demand 3 for what a program links: after one accepted opening of a store whose codes match, for every list of calls.
abbrev pub Demand3 : Type 0
Demand3 = (z : Sizes) (u : Lent) (o : Reply) → OpeningContract z u o → o.answer.refusal ≡ 0 → CodesMatch (sizes_of z) u
    → (ts : List Turn) → AsContracted o.cache u ts → Claim (sizes_of z) u o.cache u (begun (sizes_of z) u) ts

-- ---- requests A6 and A7

-- Of every call of a list, as long as no more bits flip than the store has to bear: it is not refused 7, and where it finds each cell as it
-- was programmed, or as it was at opening, it mends nothing.
abbrev pub Legible : model.Sizes → Lent → ShelfReference → List Turn → Type 0
Legible sz u r [] = Unit {0}
Legible sz u r (t ∷ ts) = StillNear sz r (lent_to u t) → record {
  readable : (reply_of t.made).answer.refusal ≡ 7 → ⊥;
  mendless : AsProgrammed store_format sz r.reference (lent_to u t).below → (reply_of t.made).answer.mended ≡ 0;
  then : Legible sz (lent_after (lent_to u t) t.made) (fed_by sz r (lent_to u t) t.made) ts;
}

-- after one accepted opening of a store whose codes match, for every list of calls
abbrev pub NeverUnreadable : Type 0
NeverUnreadable = (z : Sizes) (u : Lent) (o : Reply) → OpeningContract z u o → o.answer.refusal ≡ 0 → CodesMatch (sizes_of z) u
    → (ts : List Turn) → AsContracted o.cache u ts → Legible (sizes_of z) u (begun (sizes_of z) u) ts

-- ---- request A8

-- Before a write there were record c, buffers u and r beside them, after it c₁, u₁ and r₁. The next call, if it takes back and is accepted,
-- leaves the page array, and every page that a reader would be given, as they were before the write.
abbrev pub UndoneBy : model.Sizes → Cache → Lent → ShelfReference → Cache → Lent → ShelfReference → List Turn → Type 0
UndoneBy sz c u r c₁ u₁ r₁ [] = Unit {0}
UndoneBy sz c u r c₁ u₁ r₁ (t ∷ ts) = StillNear sz r₁ (lent_to u₁ t) → is_back (call_of t.made) ≡ true
    → (reply_of t.made).answer.refusal ≡ 0
    → record {
      array-is : (fed_by sz r₁ (lent_to u₁ t) t.made).reference.array ≡ r.reference.array;
      shows : (flash codes : List ℕ) → StillNear sz (fed_by sz r₁ (lent_to u₁ t) t.made)
          (flipped_to (lent_after (lent_to u₁ t) t.made) flash codes)
          → (n : ℕ) → n < sz.N * sz.K
          → page_seen store_format (store_of (reply_of t.made).cache (flipped_to (lent_after (lent_to u₁ t) t.made) flash codes)).store n
          ≡ page_seen store_format (store_of c u).store n;
    }

-- Of every call of a list: if it is a write, of a page or of part of one, and accepted, the next call undoes it where that takes back.
abbrev pub Undoes : model.Sizes → Cache → Lent → ShelfReference → List Turn → Type 0
Undoes sz c u r [] = Unit {0}
Undoes sz c u r (t ∷ ts) = StillNear sz r (lent_to u t) → record {
  undone : ltb (shelves (call_of t.made)) vacant ≡ true → (reply_of t.made).answer.refusal ≡ 0
      → UndoneBy sz c (lent_to u t) r (reply_of t.made).cache (lent_after (lent_to u t) t.made) (fed_by sz r (lent_to u t) t.made) ts;
  then : Undoes sz (reply_of t.made).cache (lent_after (lent_to u t) t.made) (fed_by sz r (lent_to u t) t.made) ts;
}

-- after one accepted opening of a store whose codes match, for every list of calls
abbrev pub TakenBack : Type 0
TakenBack = (z : Sizes) (u : Lent) (o : Reply) → OpeningContract z u o → o.answer.refusal ≡ 0 → CodesMatch (sizes_of z) u
    → (ts : List Turn) → AsContracted o.cache u ts → Undoes (sizes_of z) o.cache u (begun (sizes_of z) u) ts
