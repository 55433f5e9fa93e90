-- Demand 3 said a second time. Part 7: after any list of calls on a store that was opened, in plain words about the record and the buffers
-- handed back; bits of flash and codes flip before each call and after the last.
use Rattle.std.specs.Prelude.{◌≡◌, ◌⊎◌, true, false, List, [], ◌∷◌, ℕ, ◌+◌, ◌*◌, ◌/◌, ◌<◌, length, get_or}
use Rattle.prelude.specs.Bits.{bit}
use Rattle.prelude.specs.Pages.{laid}
use Rattle.model.specs.Sizes.{Sizes}
use Rattle.model.specs.Directory.{slot_at, frame_at, valid_at}
use Rattle.model.specs.Calls.{is_refused, read, part, Page, Cell, Format, Buffers, Store, Result, flash_cells, open_store, open_done}
use Rattle.model.specs.Calls.{call_reading, page_seen}
use Rattle.model.specs.Lists.{Chosen, AllPick, Picks, no_cell, Accepted, Reference, book_says, fed, opened, flipped, Borne, Bears}
use Rattle.model.specs.Formats.{store_format, StoreMatches, StoreNear}
use Rattle.model.specs.RulesRecord.{WithinLimits}
use Rattle.model.specs.RulesLists.{read_of}

-- A rule for cells that bears what may flip, and the sizes of a store: Matched c says that cell c has its code, Near c c' that c can have
-- come to be c' by flips that are to be borne.
pub record Kind : Type 1 where
  pub fmt : Format
  pub Matched : Sizes → Cell → Type 0
  pub Near : Sizes → Cell → Cell → Type 0
  pub sz : Sizes
  pub bears : Bears fmt Matched Near sz

-- The store's own rule for cells is one of these, at all sizes within their limits.
abbrev pub StoreBears : Type 0
StoreBears = (sz : Sizes) → WithinLimits sz → Bears store_format StoreMatches StoreNear sz

-- a call of the list, and the bytes that flash and codes hold as it comes, some bits having flipped since the call before
pub record Turn : Type 0 where
  pub chosen : Chosen
  pub flash : List ℕ
  pub codes : List ℕ

abbrev pub calls : List Turn → List Chosen
calls [] = []
calls (t ∷ ts) = t.chosen ∷ calls ts

-- what a call gives on store s
abbrev pub gives : Format → Store → Chosen → Result
gives fmt s t = call_reading fmt t.choice t.besides s t.call

-- what a turn's call gives
abbrev pub turned : Format → Store → Turn → Result
turned fmt s t = gives fmt (flipped s t.flash t.codes) t.chosen

-- the store after a list of turns, each given the record that the last one handed back and the buffers as it left them
abbrev pub store_after : Format → Store → List Turn → Store
store_after fmt s [] = s
store_after fmt s (t ∷ ts) = store_after fmt (turned fmt s t).store ts

-- page array, rewrite book and what was accepted, fed the same calls; of the store's answer only a refusal 7 or 14, of its cells those
-- last programmed
abbrev pub fed_turn : Format → Sizes → Store → Reference → Turn → Reference
fed_turn fmt sz s r t = let q = turned fmt s t in
    fed sz r t.chosen.call (book_says sz r t.chosen q.answer) (flash_cells fmt sz q.store.lent)

abbrev pub beside_after : Format → Sizes → Store → Reference → List Turn → Reference
beside_after fmt sz s r [] = r
beside_after fmt sz s r (t ∷ ts) = beside_after fmt sz (turned fmt s t).store (fed_turn fmt sz s r t) ts

-- at every call the flips are such as the store has to bear
abbrev pub AllBorne : (k : Kind) → Store → Reference → List Turn → Type 0
AllBorne k s r [] = Unit {0}
AllBorne k s r (t ∷ ts) = Borne k.fmt k.Near k.sz r (flipped s t.flash t.codes).lent
    × AllBorne k (turned k.fmt s t).store (fed_turn k.fmt k.sz s r t) ts

-- the store as an opening leaves it
abbrev pub at_first : Format → Sizes → Buffers → Store
at_first fmt sz u = record { cache = (open_store fmt sz u).cache; lent = u }

-- an accepted opening with the buffers u, whose codes match
pub record Opens (k : Kind) (u : Buffers) : Type 0 where
  pub accepted : (open_store k.fmt k.sz u).answer ≡ open_done
  pub matched : (n : ℕ) → n < k.sz.N * k.sz.K → k.Matched k.sz (get_or (flash_cells k.fmt k.sz u) n no_cell)

-- s is the store after a list of turns that followed such an opening and a last flipping, and r is what ran beside it
pub record Reached (k : Kind) (u : Buffers) (s : Store) (r : Reference) : Type 0 where
  pub opens : Opens k u
  pub turns : List Turn
  pub picks : AllPick (calls turns)
  pub all-borne : AllBorne k (at_first k.fmt k.sz u) (opened k.fmt k.sz u) turns
  pub flash : List ℕ
  pub codes : List ℕ
  pub store_is : s ≡ flipped (store_after k.fmt (at_first k.fmt k.sz u) turns) flash codes
  pub beside-is : r ≡ beside_after k.fmt k.sz (at_first k.fmt k.sz u) (opened k.fmt k.sz u) turns
  pub borne : Borne k.fmt k.Near k.sz r s.lent

-- the calls cs as turns, no bit flipping
abbrev pub still : Format → Store → List Chosen → List Turn
still fmt s [] = []
still fmt s (t ∷ cs) = record { chosen = t; flash = s.lent.flash; codes = s.lent.codes } ∷ still fmt (gives fmt s t).store cs

-- Every list of calls on which no bit flips is one of those that the laws below are about.
abbrev pub StillReached : Type 1
StillReached = (k : Kind) (u : Buffers) → Opens k u → (cs : List Chosen) → AllPick cs
    → let ts = still k.fmt (at_first k.fmt k.sz u) cs in
    Reached k u (store_after k.fmt (at_first k.fmt k.sz u) ts)
    (beside_after k.fmt k.sz (at_first k.fmt k.sz u) (opened k.fmt k.sz u) ts)

-- The store turns down exactly the calls that the book does, which is told of 7 and 14, and answers alike.
abbrev pub AnswersAlike : Type 1
AnswersAlike = (k : Kind) (u : Buffers) (s : Store) (r : Reference) → Reached k u s r → (t : Chosen) → Picks t.choice
    → (gives k.fmt s t).answer ≡ (book_says k.sz r t (gives k.fmt s t).answer).answer

-- Each accepted read gave the page of the page array as it stood at that call;
abbrev pub ReadsArray : Type 1
ReadsArray = (k : Kind) (u : Buffers) (s : Store) (r : Reference) → Reached k u s r → (t : Chosen) → Picks t.choice → (n : ℕ) (x : Page)
    → t.call ≡ read n x → is_refused (gives k.fmt s t).answer ≡ false → (gives k.fmt s t).page ≡ get_or r.array n []

-- each accepted part write with bytes left that page with them laid in.
abbrev pub PartsArray : Type 1
PartsArray = (k : Kind) (u : Buffers) (s : Store) (r : Reference) → Reached k u s r → (t : Chosen) → Picks t.choice
    → (n first : ℕ) (x page : Page) → t.call ≡ part n first x page → 0 < length x → is_refused (gives k.fmt s t).answer ≡ false
    → (gives k.fmt s t).page ≡ laid first x (get_or r.array n [])

-- Every page is seen as the page array has it.
abbrev pub ShowsArray : Type 1
ShowsArray = (k : Kind) (u : Buffers) (s : Store) (r : Reference) → Reached k u s r → (n : ℕ) → n < k.sz.N * k.sz.K
    → page_seen k.fmt s n ≡ get_or r.array n []

-- After the list no page is cached twice: not in two slots,
abbrev pub SlotsOnce : Type 1
SlotsOnce = (k : Kind) (u : Buffers) (s : Store) (r : Reference) → Reached k u s r → let sz = k.sz in let d = s.cache.directory in
    (b o i j : ℕ) → b < sz.N → o < sz.K → i < sz.P → j < sz.P → slot_at d i ≡ b * sz.K + o → slot_at d j ≡ b * sz.K + o → i ≡ j

-- not valid in two frames,
abbrev pub FramesOnce : Type 1
FramesOnce = (k : Kind) (u : Buffers) (s : Store) (r : Reference) → Reached k u s r → let sz = k.sz in let d = s.cache.directory in
    (b o f g : ℕ) → b < sz.N → o < sz.K → f < sz.B → g < sz.B → frame_at d f ≡ b → bit (valid_at d f) o ≡ true
    → frame_at d g ≡ b → bit (valid_at d g) o ≡ true → f ≡ g

-- and not in a slot and a frame;
abbrev pub NotBoth : Type 1
NotBoth = (k : Kind) (u : Buffers) (s : Store) (r : Reference) → Reached k u s r → let sz = k.sz in let d = s.cache.directory in
    (b o i f : ℕ) → b < sz.N → o < sz.K → i < sz.P → f < sz.B → slot_at d i ≡ b * sz.K + o
    → frame_at d f ≡ b → bit (valid_at d f) o ≡ true → ⊥

-- every flash block, as it is read, is as a whole the page array at opening or just before the call of its last rewrite (request A2);
abbrev pub FlashBlock : Type 1
FlashBlock = (k : Kind) (u : Buffers) (s : Store) (r : Reference) → Reached k u s r → let sz = k.sz in (b o : ℕ) → b < sz.N → o < sz.K
    → read_of k.fmt sz s.lent (b * sz.K + o) ≡ get_or (get_or r.array_before b []) (b * sz.K + o) []

-- each flash page, as it is read, holds its opening contents or something accepted for it in the list before its block's last rewrite;
abbrev pub FlashPage : Type 1
FlashPage = (k : Kind) (u : Buffers) (s : Store) (r : Reference) → Reached k u s r → let sz = k.sz in (n : ℕ) → n < sz.N * sz.K
    → (read_of k.fmt sz s.lent n ≡ read_of k.fmt sz u n)
    ⊎ Accepted n (read_of k.fmt sz s.lent n) (get_or r.log_before (n / sz.K) [])

-- each block's wear is the book's;
abbrev pub WearBook : Type 1
WearBook = (k : Kind) (u : Buffers) (s : Store) (r : Reference) → Reached k u s r → s.lent.wear ≡ r.book.wear

-- and if the last call was an accepted flush, the flash, as it is read, equals the page array.
abbrev pub FlushedArray : Type 1
FlushedArray = (k : Kind) (u : Buffers) (s : Store) (r : Reference) → Reached k u s r → r.flushed ≡ true
    → (n : ℕ) → n < k.sz.N * k.sz.K → read_of k.fmt k.sz s.lent n ≡ get_or r.array n []
