-- The rules of document 01 said a second time. Part 6: lists of calls: the page array, what was accepted, the rewrite book.
use Rattle.std.specs.Prelude.{◌≡◌, ◌⊎◌, true, false, ◌&&◌, List, [], ℕ, ◌+◌, ◌*◌, ◌/◌, ◌≤◌, ◌<◌, eqb, length, get_or}
use Rattle.prelude.specs.Scan.{count}
use Rattle.prelude.specs.Bits.{bit}
use Rattle.prelude.specs.Pages.{page_at, laid}
use Rattle.model.specs.Sizes.{Sizes, sizes_ok}
use Rattle.model.specs.Directory.{Directory, slot_at, frame_at, valid_at}
use Rattle.model.specs.Calls.{Answer, refused, Call, read, write, part, step, flush, is_refused, Outcome, decide, heeding, Page, Cell}
use Rattle.model.specs.Calls.{Format, Buffers, told}
use Rattle.model.specs.Lists.{Chosen, no_cell, Accepted, Reference, added_cause, book_says, fed, flash_pages, opened, times_cached}
use Rattle.model.specs.Lists.{block_pages}
use Rattle.model.specs.RulesWords.{◌⇔◌}
use Rattle.model.specs.RulesRecord.{AllVacant}

-- ---- at the start

-- cell n of flash: its bytes, its code, its mark
abbrev pub cell_of : Format → Sizes → Buffers → ℕ → Cell
cell_of fmt sz u n = record {
  bytes = page_at sz.S u.flash n;
  code = page_at (fmt.code_long sz) u.codes n;
  mark = page_at (fmt.mark_long sz) u.marks n;
}

-- page n of flash, as its cell is read
abbrev pub read_of : Format → Sizes → Buffers → ℕ → Page
read_of fmt sz u n = (fmt.chip sz).page (cell_of fmt sz u n)

-- Flash as its rule reads it: page n is what reading cell n gives.
abbrev pub FlashReadRule : Type 0
FlashReadRule = (fmt : Format) (sz : Sizes) (u : Buffers) (n : ℕ) → n < sz.N * sz.K
    → get_or (flash_pages fmt sz u) n [] ≡ read_of fmt sz u n

-- The page array is N×K pages of S bytes, at first those in flash at opening, as they are read.
abbrev pub StartsArrayRule : Type 0
StartsArrayRule = (fmt : Format) (sz : Sizes) (u : Buffers) → (length (opened fmt sz u).array ≡ sz.N * sz.K)
    × ((n : ℕ) → n < sz.N * sz.K → get_or (opened fmt sz u).array n [] ≡ read_of fmt sz u n)

-- Each cell is at first as it is at opening.
abbrev pub StartsBaseRule : Type 0
StartsBaseRule = (fmt : Format) (sz : Sizes) (u : Buffers) (n : ℕ) → n < sz.N * sz.K
    → get_or (opened fmt sz u).base n no_cell ≡ cell_of fmt sz u n

-- The book starts all vacant, order 0 to B-1, wear as at opening.
abbrev pub StartsBookRule : Type 0
StartsBookRule = (fmt : Format) (sz : Sizes) (u : Buffers) → AllVacant (opened fmt sz u).book.directory
    × ((opened fmt sz u).book.wear ≡ u.wear)

-- Nothing is accepted yet.
abbrev pub StartsLogRule : Type 0
StartsLogRule = (fmt : Format) (sz : Sizes) (u : Buffers) (n : ℕ) (x : Page) → Accepted n x (opened fmt sz u).log → ⊥

-- Before a block's first rewrite, what stood "before its last rewrite" is what stood at opening.
abbrev pub StartsBeforeRule : Type 0
StartsBeforeRule = (fmt : Format) (sz : Sizes) (u : Buffers) (b : ℕ) → b < sz.N
    → (get_or (opened fmt sz u).array_before b [] ≡ (opened fmt sz u).array)
    × (get_or (opened fmt sz u).log_before b [] ≡ (opened fmt sz u).log)

-- The empty list has no last call.
abbrev pub StartsFlushedRule : Type 0
StartsFlushedRule = (fmt : Format) (sz : Sizes) (u : Buffers) → (opened fmt sz u).flushed ≡ false

-- ---- what a call adds; r is what stood beside the store before it, o what the book makes of it, cs the cells that the call leaves

-- Of the store's answer a the book is told a refusal 7 or 14, and nothing of other refusals or of what an accepted call answers.
abbrev pub CauseRule : Type 0
CauseRule = ((b : ℕ) → (added_cause (refused 7 b) ≡ 7) × (added_cause (refused 14 b) ≡ 14))
    × ((n b : ℕ) → (n ≡ 7 → ⊥) → (n ≡ 14 → ⊥) → added_cause (refused n b) ≡ 0)
    × ((a : Answer) → is_refused a ≡ false → added_cause a ≡ 0)

-- The book makes of a call what the rules do, and heeds the cause that it is told.
abbrev pub BookHeedsRule : Type 0
BookHeedsRule = (sz : Sizes) (r : Reference) (t : Chosen) (a : Answer)
    → book_says sz r t a ≡ heeding r.book (added_cause a) (decide t.choice sz r.book (told t.call))

-- The book is fed the calls' arguments and the page buffer's length, of a part write's bytes their number, told that cause, and nothing
-- else: where these and the book are alike, so is what it makes of the call.
abbrev pub BookToldRule : Type 0
BookToldRule = (sz : Sizes) (r r' : Reference) (t t' : Chosen) (a a' : Answer) → r.book ≡ r'.book → t.choice ≡ t'.choice
    → told t.call ≡ told t'.call → added_cause a ≡ added_cause a' → book_says sz r t a ≡ book_says sz r' t' a'

-- The book is then as the rules leave it.
abbrev pub BookRule : Type 0
BookRule = (sz : Sizes) (r : Reference) (c : Call Page) (o : Outcome) (cs : List Cell) → (fed sz r c o cs).book ≡ o.state

-- array and log are as they were
abbrev pub NothingPut : Sizes → Reference → Call Page → Outcome → List Cell → Type 0
NothingPut sz r c o cs = ((fed sz r c o cs).array ≡ r.array) × ((fed sz r c o cs).log ≡ r.log)

-- Refused calls leave the array alone, and nothing is accepted by them.
abbrev pub RefusedCallRule : Type 0
RefusedCallRule = (sz : Sizes) (r : Reference) (c : Call Page) (o : Outcome) (cs : List Cell) → is_refused o.answer ≡ true
    → NothingPut sz r c o cs

-- So do reads, steps and flushes,
abbrev pub NoWriteRule : Type 0
NoWriteRule = (sz : Sizes) (r : Reference) (o : Outcome) (cs : List Cell)
    → ((n : ℕ) (x : Page) → NothingPut sz r (read n x) o cs) × NothingPut sz r step o cs × NothingPut sz r flush o cs

-- and part writes without bytes.
abbrev pub NoBytesRule : Type 0
NoBytesRule = (sz : Sizes) (r : Reference) (o : Outcome) (cs : List Cell) (n first : ℕ) (page : Page)
    → NothingPut sz r (part n first [] page) o cs

-- Page n of the array is x then, the others are as they were; x, for n, is accepted, beside what was.
pub record Puts (r then : Reference) (n : ℕ) (x : Page) : Type 0 where
  pub page-is : get_or then.array n [] ≡ x
  pub others : (j : ℕ) → (j ≡ n → ⊥) → get_or then.array j [] ≡ get_or r.array j []
  pub long : length then.array ≡ length r.array
  pub accepted : (j : ℕ) (y : Page) → Accepted j y then.log ⇔ (((n ≡ j) × (x ≡ y)) ⊎ Accepted j y r.log)

-- An accepted write of n puts the bytes lent in its page buffer at n.
abbrev pub WritePutsRule : Type 0
WritePutsRule = (sz : Sizes) (r : Reference) (o : Outcome) (cs : List Cell) (n : ℕ) (x : Page) → n < length r.array
    → is_refused o.answer ≡ false
    → Puts r (fed sz r (write n x) o cs) n x

-- An accepted part write with bytes puts the array's page n with its bytes laid in.
abbrev pub PartPutsRule : Type 0
PartPutsRule = (sz : Sizes) (r : Reference) (o : Outcome) (cs : List Cell) (n first : ℕ) (x page : Page) → n < length r.array
    → 0 < length x
    → is_refused o.answer ≡ false → Puts r (fed sz r (part n first x page) o cs) n (laid first x (get_or r.array n []))

-- A block whose wear grew was rewritten in this call: array and log before its last rewrite are those that the call found.
abbrev pub BeforeGrownRule : Type 0
BeforeGrownRule = (sz : Sizes) (r : Reference) (c : Call Page) (o : Outcome) (cs : List Cell) (b : ℕ) → b < sz.N
    → get_or r.book.wear b 0 < get_or o.state.wear b 0
    → (get_or (fed sz r c o cs).array_before b [] ≡ r.array) × (get_or (fed sz r c o cs).log_before b [] ≡ r.log)

-- Another block's stay.
abbrev pub BeforeStaysRule : Type 0
BeforeStaysRule = (sz : Sizes) (r : Reference) (c : Call Page) (o : Outcome) (cs : List Cell) (b : ℕ) → b < sz.N
    → get_or o.state.wear b 0 ≤ get_or r.book.wear b 0
    → (get_or (fed sz r c o cs).array_before b [] ≡ get_or r.array_before b [])
    × (get_or (fed sz r c o cs).log_before b [] ≡ get_or r.log_before b [])

-- The cells of a block whose wear grew are new, as the call leaves them.
abbrev pub BaseGrownRule : Type 0
BaseGrownRule = (sz : Sizes) (r : Reference) (c : Call Page) (o : Outcome) (cs : List Cell) (n : ℕ) → n < sz.N * sz.K
    → get_or r.book.wear (n / sz.K) 0 < get_or o.state.wear (n / sz.K) 0 → get_or (fed sz r c o cs).base n no_cell ≡ get_or cs n no_cell

-- Those of another block stand as they were last programmed, or at opening.
abbrev pub BaseStaysRule : Type 0
BaseStaysRule = (sz : Sizes) (r : Reference) (c : Call Page) (o : Outcome) (cs : List Cell) (n : ℕ) → n < sz.N * sz.K
    → get_or o.state.wear (n / sz.K) 0 ≤ get_or r.book.wear (n / sz.K) 0
    → get_or (fed sz r c o cs).base n no_cell ≡ get_or r.base n no_cell

-- The last call was an accepted flush exactly where it was a flush and is not refused.
abbrev pub FlushedRule : Type 0
FlushedRule = (sz : Sizes) (r : Reference) (c : Call Page) (o : Outcome) (cs : List Cell)
    → ((fed sz r c o cs).flushed ≡ true) ⇔ ((c ≡ flush) × (is_refused o.answer ≡ false))

-- ---- words of demand 3

-- A page is cached once for each of the first P slots that holds its number, and once for each of the first B frames that holds its block
-- with its bit set.
abbrev pub TimesCachedRule : Type 0
TimesCachedRule = (sz : Sizes) → sizes_ok sz ≡ true → (d : Directory) (b o : ℕ) → o < sz.K
    → times_cached sz d (b * sz.K + o)
    ≡ count sz.P (λ i. eqb (slot_at d i) (b * sz.K + o)) + count sz.B (λ f. eqb (frame_at d f) b && bit (valid_at d f) o)

-- The K pages of block b are those at b×K to b×K+K-1.
abbrev pub BlockPagesRule : Type 0
BlockPagesRule = (sz : Sizes) (l : List Page) (b : ℕ) → (length (block_pages sz l b) ≡ sz.K)
    × ((o : ℕ) → o < sz.K → get_or (block_pages sz l b) o [] ≡ get_or l (b * sz.K + o) [])
