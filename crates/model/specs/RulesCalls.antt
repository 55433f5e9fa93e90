-- The rules of document 01 said a second time. Part 5: what each call answers, why it is turned down and in which order that is looked at,
-- and what it leaves in the lent buffers. `pick` is any choice among the frames that a rule leaves open, `fmt` any rule for cells, and
-- `besides` are the flash pages that a request has the call read beside its own.
use Rattle.std.specs.Prelude.{◌≡◌, Bool, true, false, cond, [], ℕ, zero, suc, ◌+◌, ◌*◌, ◌≤◌, ◌<◌, length, get_or}
use Rattle.prelude.specs.Scan.{count}
use Rattle.prelude.specs.Pages.{page_at, laid, flat}
use Rattle.model.specs.Sizes.{Sizes}
use Rattle.model.specs.Directory.{Directory, frame_at}
use Rattle.model.specs.Soundness.{sound}
use Rattle.model.specs.Policy.{Choice, read_way, Plan, plan, way_of, evict, clean, due, due_of, cached}
use Rattle.model.specs.Moves.{Chip, Memory, cell_at, worn_by, read_directory, written, stepped, read_page, written_pages, stepped_pages}
use Rattle.model.specs.Calls.{Answer, read_done, write_done, step_done, step_clean, flush_done, refused, is_refused, Call, read, write}
use Rattle.model.specs.Calls.{part, step, flush, State, Outcome, decide, fault_met, sum, heeding, Page, Cell, Format, CellFits}
use Rattle.model.specs.Calls.{call_pages}
use Rattle.model.specs.Calls.{Buffers, Store, Result, zero_page, memory_of, raw_of, codes_of, marks_of, state_of, told, reads_all}
use Rattle.model.specs.Calls.{call_reading}
use Rattle.model.specs.Calls.{call}
use Rattle.model.specs.Lists.{Picks}
use Rattle.model.specs.RulesWords.{◌⇔◌, Cached, missing_pages}
use Rattle.model.specs.RulesRecord.{RightLengths, SoundBy}

-- ---- words

-- An answer is a refusal where it gives a refusal's number, and else not.
abbrev pub RefusedRule : Type 0
RefusedRule = (a : Answer) → (is_refused a ≡ true) ⇔ ((r : ℕ) × (b : ℕ) × (a ≡ refused r b))

-- A cell of flash is its page of S bytes, its code and its mark, each out of its own buffer.
abbrev pub CellRule : Type 0
CellRule = (fmt : Format) (sz : Sizes) (u : Buffers) (c : Cell) (n : ℕ) → n < sz.N * sz.K → let x = get_or (memory_of fmt sz u).flash n c in
    (x.bytes ≡ page_at sz.S u.flash n) × (x.code ≡ page_at (fmt.code_long sz) u.codes n)
    × (x.mark ≡ page_at (fmt.mark_long sz) u.marks n)

-- P-space and b-space are runs of pages of S bytes each.
abbrev pub MemoryRule : Type 0
MemoryRule = (fmt : Format) (sz : Sizes) (u : Buffers) (z : Page)
    → ((i : ℕ) → i < sz.P → get_or (memory_of fmt sz u).pspace i z ≡ page_at sz.S u.pspace i)
    × ((g o : ℕ) → g < sz.B → o < sz.K → get_or (memory_of fmt sz u).bspace (g * sz.K + o) z ≡ page_at sz.S u.bspace (g * sz.K + o))

-- What the rewrite book is told of a call: its arguments, and of page buffer and bytes their number. It is told q by these calls alone.
abbrev pub ToldRule : Type 0
ToldRule = (c : Call Page)
    → ((n l : ℕ) → (told c ≡ read n l) ⇔ ((x : Page) × (c ≡ read n x) × (length x ≡ l)))
    × ((n l : ℕ) → (told c ≡ write n l) ⇔ ((x : Page) × (c ≡ write n x) × (length x ≡ l)))
    × ((n first k l : ℕ) → (told c ≡ part n first k l)
    ⇔ ((x page : Page) × (c ≡ part n first x page) × (length x ≡ k) × (length page ≡ l)))
    × ((told c ≡ step) ⇔ (c ≡ step)) × ((told c ≡ flush) ⇔ (c ≡ flush))

-- ---- 7 and 14: what a request adds, after all other causes

-- a refusal gives its number, 6 also the block (4,294,967,295: none), and changes nothing
abbrev pub TurnedDown : State → ℕ → ℕ → Outcome → Type 0
TurnedDown k r b o = (o.answer ≡ refused r b) × (o.state ≡ k)

-- A refusal for another cause stands; a call accepted so far is turned down for the added cause, if there is one (0: none).
abbrev pub HeedsRule : Type 0
HeedsRule = (k : State) (late : ℕ) (o : Outcome) → (is_refused o.answer ≡ true → heeding k late o ≡ o)
    × (is_refused o.answer ≡ false → (late ≡ 0 → ⊥) → TurnedDown k late 4294967295 (heeding k late o))
    × (is_refused o.answer ≡ false → late ≡ 0 → heeding k late o ≡ o)

-- no flash page that is read meets r
abbrev pub NoneMeets : Sizes → (ℕ → ℕ) → (ℕ → Bool) → ℕ → Type 0
NoneMeets sz fault reads r = (n : ℕ) → n < sz.N * sz.K → reads n ≡ true → fault n ≡ r → ⊥

-- The added cause, over the flash pages read, is 7 where one is unreadable, 14 where none is and one is torn, and else none.
abbrev pub MeetsRule : Type 0
MeetsRule = (sz : Sizes) (fault : ℕ → ℕ) (reads : ℕ → Bool)
    → ((n : ℕ) → n < sz.N * sz.K → reads n ≡ true → fault n ≡ 7 → fault_met sz fault reads ≡ 7)
    × (NoneMeets sz fault reads 7 → (n : ℕ) → n < sz.N * sz.K → reads n ≡ true → fault n ≡ 14 → fault_met sz fault reads ≡ 14)
    × (NoneMeets sz fault reads 7 → NoneMeets sz fault reads 14 → fault_met sz fault reads ≡ 0)

-- ---- 4 and 2: the record, and the lent buffers

-- A call reads nothing besides, unless a request says so.
abbrev pub CallRule : Type 0
CallRule = (fmt : Format) (pick : Choice) (s : Store) (c : Call Page) → call fmt pick s c ≡ call_reading fmt pick (λ i. false) s c

-- a call that is turned down hands record and buffers back, and mends nothing
abbrev pub TurnedBack : Store → ℕ → ℕ → Result → Type 0
TurnedBack s r b q = (q.answer ≡ refused r b) × (q.store ≡ s) × (q.mends ≡ 0)

-- First 4: the record is not sound.
abbrev pub RefusesRecordRule : Type 0
RefusesRecordRule = (fmt : Format) (pick : Choice) (besides : ℕ → Bool) (s : Store) (c : Call Page)
    → (SoundBy s.cache.sizes s.cache.directory → ⊥) → TurnedBack s 4 4294967295 (call_reading fmt pick besides s c)

-- Then 2: a lent buffer has another length than it should.
abbrev pub RefusesBufferRule : Type 0
RefusesBufferRule = (fmt : Format) (pick : Choice) (besides : ℕ → Bool) (s : Store) (c : Call Page)
    → SoundBy s.cache.sizes s.cache.directory → (RightLengths fmt s.cache.sizes s.lent → ⊥)
    → TurnedBack s 2 4294967295 (call_reading fmt pick besides s c)

-- the record is sound and the buffers have their lengths, as every law below asks
abbrev pub Good : Format → Store → Type 0
Good fmt s = SoundBy s.cache.sizes s.cache.directory × RightLengths fmt s.cache.sizes s.lent

-- what the call's arguments, the record and the wear alone make of a call
abbrev pub says : Choice → Store → Call Page → Outcome
says pick s c = decide pick s.cache.sizes (state_of s) (told c)

-- Then the refusals further below, by these alone; any of them leaves everything as it was.
abbrev pub RefusesThenRule : Type 0
RefusesThenRule = (fmt : Format) (pick : Choice) (besides : ℕ → Bool) (s : Store) (c : Call Page) → Good fmt s → (r b : ℕ)
    → (says pick s c).answer ≡ refused r b → TurnedBack s r b (call_reading fmt pick besides s c)

-- flash page n is read by the call, of its own or besides
abbrev pub is_read : Format → Choice → (ℕ → Bool) → Store → Call Page → ℕ → Bool
is_read fmt pick besides s c n = reads_all fmt pick s.cache.sizes (state_of s) c besides n

-- cell n of flash
abbrev pub cell_now : Format → Store → ℕ → Cell
cell_now fmt s n = let sz = s.cache.sizes in cell_at (fmt.chip sz) (zero_page sz) (memory_of fmt sz s.lent).flash n

-- what a read of it meets: 7, 14, or neither
abbrev pub fault_at : Format → Store → ℕ → ℕ
fault_at fmt s n = (fmt.chip s.cache.sizes).fault (cell_now fmt s n)

-- Then 7: a flash page that the call reads is unreadable.
abbrev pub RefusesUnreadableRule : Type 0
RefusesUnreadableRule = (fmt : Format) (pick : Choice) (besides : ℕ → Bool) (s : Store) (c : Call Page) → Good fmt s
    → is_refused (says pick s c).answer ≡ false
    → (n : ℕ) → n < s.cache.sizes.N * s.cache.sizes.K → is_read fmt pick besides s c n ≡ true → fault_at fmt s n ≡ 7
    → TurnedBack s 7 4294967295 (call_reading fmt pick besides s c)

-- Then 14: none of them is, and one is torn.
abbrev pub RefusesTornRule : Type 0
RefusesTornRule = (fmt : Format) (pick : Choice) (besides : ℕ → Bool) (s : Store) (c : Call Page) → Good fmt s
    → is_refused (says pick s c).answer ≡ false → NoneMeets s.cache.sizes (fault_at fmt s) (is_read fmt pick besides s c) 7
    → (n : ℕ) → n < s.cache.sizes.N * s.cache.sizes.K → is_read fmt pick besides s c n ≡ true → fault_at fmt s n ≡ 14
    → TurnedBack s 14 4294967295 (call_reading fmt pick besides s c)

-- none of the refusals applies
pub record Passes (fmt : Format) (pick : Choice) (besides : ℕ → Bool) (s : Store) (c : Call Page) : Type 0 where
  pub good : Good fmt s
  pub not-refused : is_refused (says pick s c).answer ≡ false
  pub none-unreadable : NoneMeets s.cache.sizes (fault_at fmt s) (is_read fmt pick besides s c) 7
  pub none-torn : NoneMeets s.cache.sizes (fault_at fmt s) (is_read fmt pick besides s c) 14

-- what becomes of a call: each constructor has what the law of its outcome asks
pub data Case (fmt : Format) (pick : Choice) (besides : ℕ → Bool) (s : Store) (c : Call Page) : Type 0 where
  unsound : (SoundBy s.cache.sizes s.cache.directory → ⊥) → Case fmt pick besides s c
  lengths : SoundBy s.cache.sizes s.cache.directory → (RightLengths fmt s.cache.sizes s.lent → ⊥) → Case fmt pick besides s c
  turned : Good fmt s → (r b : ℕ) → (says pick s c).answer ≡ refused r b → Case fmt pick besides s c
  unreadable : Good fmt s → is_refused (says pick s c).answer ≡ false
      → (n : ℕ) → n < s.cache.sizes.N * s.cache.sizes.K → is_read fmt pick besides s c n ≡ true → fault_at fmt s n ≡ 7
      → Case fmt pick besides s c
  torn : Good fmt s → is_refused (says pick s c).answer ≡ false
      → NoneMeets s.cache.sizes (fault_at fmt s) (is_read fmt pick besides s c) 7
      → (n : ℕ) → n < s.cache.sizes.N * s.cache.sizes.K → is_read fmt pick besides s c n ≡ true → fault_at fmt s n ≡ 14
      → Case fmt pick besides s c
  accepted : Passes fmt pick besides s c → Case fmt pick besides s c

-- The five refusals and acceptance leave no case out.
abbrev pub CasesRule : Type 0
CasesRule = (fmt : Format) (pick : Choice) (besides : ℕ → Bool) (s : Store) (c : Call Page) → Case fmt pick besides s c

-- what an accepted call leaves of p-space, b-space and flash, as pages and cells
abbrev pub pages_then : Format → Choice → Store → Call Page → Memory Cell Page
pages_then fmt pick s c = let sz = s.cache.sizes in
    call_pages (fmt.chip sz) (zero_page sz) pick sz (state_of s) (memory_of fmt sz s.lent) c

-- An accepted call answers as below; the sizes stay, and record, wear, bytes, codes and marks are those of the call.
pub record Carried (s : Store) (o : Outcome) (p : Memory Cell Page) (r : Result) : Type 0 where
  pub answer-is : r.answer ≡ o.answer
  pub sizes-stay : r.store.cache.sizes ≡ s.cache.sizes
  pub record_is : r.store.cache.directory ≡ o.state.directory
  pub wear-is : r.store.lent.wear ≡ o.state.wear
  pub flash-is : r.store.lent.flash ≡ flat (raw_of p.flash)
  pub codes-are : r.store.lent.codes ≡ flat (codes_of p.flash)
  pub marks-are : r.store.lent.marks ≡ flat (marks_of p.flash)
  pub pspace-is : r.store.lent.pspace ≡ flat p.pspace
  pub bspace-is : r.store.lent.bspace ≡ flat p.bspace

-- So it is wherever none of the refusals applies.
abbrev pub AcceptsRule : Type 0
AcceptsRule = (fmt : Format) (pick : Choice) (besides : ℕ → Bool) (s : Store) (c : Call Page) → Passes fmt pick besides s c
    → Carried s (says pick s c) (pages_then fmt pick s c) (call_reading fmt pick besides s c)

-- Request A7: it reports the chunks mended in the flash pages read, each page counting once.
abbrev pub AcceptsMendsRule : Type 0
AcceptsMendsRule = (fmt : Format) (pick : Choice) (besides : ℕ → Bool) (s : Store) (c : Call Page) → Passes fmt pick besides s c
    → (call_reading fmt pick besides s c).mends ≡ sum (s.cache.sizes.N * s.cache.sizes.K)
    (λ n. cond (is_read fmt pick besides s c n) ((fmt.chip s.cache.sizes).mends (cell_now fmt s n)) 0)

-- what is asked of a rule for cells: the lengths of a programmed cell, and of a page read from one
abbrev pub LongCells : Format → Sizes → Type 0
LongCells fmt sz = ((x : Page) → length x ≡ sz.S → CellFits fmt sz ((fmt.chip sz).cell x))
    × ((c : Cell) → CellFits fmt sz c → length ((fmt.chip sz).page c) ≡ sz.S)

-- Page n of flash with its code and its mark, as the bytes of an accepted call have them.
abbrev pub FlashBytesRule : Type 0
FlashBytesRule = (fmt : Format) (pick : Choice) (besides : ℕ → Bool) (s : Store) (c : Call Page) → let sz = s.cache.sizes in
    LongCells fmt sz → Passes fmt pick besides s c → (n : ℕ) → n < sz.N * sz.K
    → let u = (call_reading fmt pick besides s c).store.lent in
    let x = cell_at (fmt.chip sz) (zero_page sz) (pages_then fmt pick s c).flash n in
    (page_at sz.S u.flash n ≡ x.bytes) × (page_at (fmt.code_long sz) u.codes n ≡ x.code)
    × (page_at (fmt.mark_long sz) u.marks n ≡ x.mark)

-- Slot i of p-space, offset o of frame g in b-space.
abbrev pub BytesRule : Type 0
BytesRule = (fmt : Format) (pick : Choice) (besides : ℕ → Bool) (s : Store) (c : Call Page) → let sz = s.cache.sizes in
    LongCells fmt sz → Passes fmt pick besides s c → let u = (call_reading fmt pick besides s c).store.lent in
    let z = zero_page sz in
    ((i : ℕ) → i < sz.P → page_at sz.S u.pspace i ≡ get_or (pages_then fmt pick s c).pspace i z)
    × ((g o : ℕ) → g < sz.B → o < sz.K
    → page_at sz.S u.bspace (g * sz.K + o) ≡ get_or (pages_then fmt pick s c).bspace (g * sz.K + o) z)

-- ---- the page buffer

-- the page that a read of n is given
abbrev pub page_read : Format → Store → ℕ → Page
page_read fmt s n = let sz = s.cache.sizes in
    read_page (fmt.chip sz) (zero_page sz) sz s.cache.directory (memory_of fmt sz s.lent) n

-- A refused call leaves the page buffer as it is lent.
abbrev pub KeepsPageRule : Type 0
KeepsPageRule = (fmt : Format) (pick : Choice) (besides : ℕ → Bool) (s : Store) (n first : ℕ) (x page : Page)
    → let down : Call Page → Type 0 = λ c. is_refused (call_reading fmt pick besides s c).answer ≡ true in
    (down (read n x) → (call_reading fmt pick besides s (read n x)).page ≡ x)
    × (down (write n x) → (call_reading fmt pick besides s (write n x)).page ≡ x)
    × (down (part n first x page) → (call_reading fmt pick besides s (part n first x page)).page ≡ page)

-- An accepted read fills the page buffer with the page.
abbrev pub FillsReadRule : Type 0
FillsReadRule = (fmt : Format) (pick : Choice) (besides : ℕ → Bool) (s : Store) (n : ℕ) (x : Page)
    → Passes fmt pick besides s (read n x) → (call_reading fmt pick besides s (read n x)).page ≡ page_read fmt s n

-- An accepted write leaves the page buffer as lent.
abbrev pub FillsWriteRule : Type 0
FillsWriteRule = (fmt : Format) (pick : Choice) (besides : ℕ → Bool) (s : Store) (n : ℕ) (x : Page)
    → Passes fmt pick besides s (write n x) → (call_reading fmt pick besides s (write n x)).page ≡ x

-- An accepted part write with bytes leaves the combined page in it;
abbrev pub FillsPartRule : Type 0
FillsPartRule = (fmt : Format) (pick : Choice) (besides : ℕ → Bool) (s : Store) (n first : ℕ) (x page : Page) → 0 < length x
    → Passes fmt pick besides s (part n first x page)
    → (call_reading fmt pick besides s (part n first x page)).page ≡ laid first x (page_read fmt s n)

-- without bytes it leaves it as lent.
abbrev pub FillsNothingRule : Type 0
FillsNothingRule = (fmt : Format) (pick : Choice) (besides : ℕ → Bool) (s : Store) (n first : ℕ) (page : Page)
    → Passes fmt pick besides s (part n first [] page) → (call_reading fmt pick besides s (part n first [] page)).page ≡ page

-- ---- 2 and 5: the page buffer's length, and the page

-- Then 2: the page buffer is not S long.
abbrev pub RefusesLengthRule : Type 0
RefusesLengthRule = (pick : Choice) (sz : Sizes) (k : State) (n long : ℕ) → (long ≡ sz.S → ⊥)
    → TurnedDown k 2 4294967295 (decide pick sz k (read n long)) × TurnedDown k 2 4294967295 (decide pick sz k (write n long))
    × ((first many : ℕ) → TurnedDown k 2 4294967295 (decide pick sz k (part n first many long)))

-- Then 5: n is N×K or more.
abbrev pub RefusesPageRule : Type 0
RefusesPageRule = (pick : Choice) (sz : Sizes) (k : State) (n : ℕ) → sz.N * sz.K ≤ n
    → TurnedDown k 5 4294967295 (decide pick sz k (read n sz.S)) × TurnedDown k 5 4294967295 (decide pick sz k (write n sz.S))
    × ((first many : ℕ) → TurnedDown k 5 4294967295 (decide pick sz k (part n first many sz.S)))

-- ---- answers of a read and a write

-- A read is not refused for anything else. It answers its way, and wears nothing.
abbrev pub AnswersReadRule : Type 0
AnswersReadRule = (pick : Choice) (sz : Sizes) (k : State) (n : ℕ) → n < sz.N * sz.K → let o = decide pick sz k (read n sz.S) in
    (o.answer ≡ read_done (read_way sz k.directory n)) × (o.state.directory ≡ read_directory sz k.directory n)
    × (o.state.wear ≡ k.wear)

-- A write of way 1 to 6 answers its way, erases and merges nothing, and wears nothing.
abbrev pub AnswersWriteRule : Type 0
AnswersWriteRule = (pick : Choice) (sz : Sizes) (k : State) (n : ℕ) → n < sz.N * sz.K
    → (p : Plan) → plan pick sz k.directory k.wear n ≡ p → way_of p ≤ 6 → let o = decide pick sz k (write n sz.S) in
    (o.answer ≡ write_done (way_of p) 4294967295 0) × (o.state.directory ≡ written sz k.directory n p) × (o.state.wear ≡ k.wear)

-- Way 7 erases the frame's block. Its merge reads are the offsets that are neither valid in the frame nor in a slot.
abbrev pub AnswersEvictRule : Type 0
AnswersEvictRule = (pick : Choice) (sz : Sizes) (k : State) (n : ℕ) → n < sz.N * sz.K → let d = k.directory in sound sz d ≡ true
    → (v f : ℕ) → f < sz.B → frame_at d f < sz.N → plan pick sz d k.wear n ≡ evict v f → get_or k.wear (frame_at d f) 0 < sz.W
    → let o = decide pick sz k (write n sz.S) in (o.answer ≡ write_done 7 (frame_at d f) (missing_pages sz d (frame_at d f) f))
    × (o.state.directory ≡ written sz d n (evict v f)) × (o.state.wear ≡ worn_by k.wear (frame_at d f))

-- Then 6: a rewrite is due for a block with wear W or more; the block is named.
abbrev pub RefusesWornRule : Type 0
RefusesWornRule = (pick : Choice) (sz : Sizes) (k : State) (n : ℕ) → n < sz.N * sz.K → let d = k.directory in sound sz d ≡ true
    → (v f : ℕ) → f < sz.B → frame_at d f < sz.N → plan pick sz d k.wear n ≡ evict v f → sz.W ≤ get_or k.wear (frame_at d f) 0
    → TurnedDown k 6 (frame_at d f) (decide pick sz k (write n sz.S))

-- ---- request A1: a part write of so many bytes from byte first on

-- Reaching past S is refused 2 after the page check;
abbrev pub RefusesReachRule : Type 0
RefusesReachRule = (pick : Choice) (sz : Sizes) (k : State) (n : ℕ) → n < sz.N * sz.K → (first many : ℕ) → sz.S < first + many
    → TurnedDown k 2 4294967295 (decide pick sz k (part n first many sz.S))

-- with no bytes and first byte up to S it is way 0, and changes nothing;
abbrev pub AnswersNothingRule : Type 0
AnswersNothingRule = (pick : Choice) (sz : Sizes) (k : State) (n : ℕ) → n < sz.N * sz.K → (first : ℕ) → first ≤ sz.S
    → ((decide pick sz k (part n first 0 sz.S)).answer ≡ write_done 0 4294967295 0)
    × ((decide pick sz k (part n first 0 sz.S)).state ≡ k)

-- with bytes it answers as the write of the page does.
abbrev pub AnswersPartRule : Type 0
AnswersPartRule = (pick : Choice) (sz : Sizes) (k : State) (n : ℕ) → n < sz.N * sz.K → (first many : ℕ) → 0 < many → first + many ≤ sz.S
    → decide pick sz k (part n first many sz.S) ≡ decide pick sz k (write n sz.S)

-- ---- a flush step

-- With nothing due it answers "clean", and nothing changes.
abbrev pub AnswersCleanRule : Type 0
AnswersCleanRule = (pick : Choice) (sz : Sizes) (k : State) → due_of pick sz k.directory ≡ clean
    → ((decide pick sz k step).answer ≡ step_clean) × ((decide pick sz k step).state ≡ k)

-- Else it answers the block and its merge reads, and the block's wear grows by 1.
abbrev pub AnswersStepRule : Type 0
AnswersStepRule = (pick : Choice) (sz : Sizes) (k : State) → let d = k.directory in sound sz d ≡ true → (b f : ℕ) → b < sz.N → f < sz.B
    → due_of pick sz d ≡ due b f → get_or k.wear b 0 < sz.W → let o = decide pick sz k step in
    (o.answer ≡ step_done b (missing_pages sz d b f)) × (o.state.directory ≡ stepped sz d (due b f))
    × (o.state.wear ≡ worn_by k.wear b)

-- A step looks at the one block due: 6 where it has wear W or more.
abbrev pub RefusesStepRule : Type 0
RefusesStepRule = (pick : Choice) (sz : Sizes) (k : State) → sound sz k.directory ≡ true → (b f : ℕ) → b < sz.N
    → due_of pick sz k.directory ≡ due b f → sz.W ≤ get_or k.wear b 0 → TurnedDown k 6 b (decide pick sz k step)

-- ---- a flush

-- It looks at every block with a cached page before it starts, and names the lowest worn one.
abbrev pub RefusesFlushRule : Type 0
RefusesFlushRule = (pick : Choice) (sz : Sizes) (k : State) → sound sz k.directory ≡ true
    → (b : ℕ) → b < sz.N → Cached sz k.directory b → sz.W ≤ get_or k.wear b 0
    → ((c : ℕ) → c < b → Cached sz k.directory c → get_or k.wear c 0 < sz.W) → TurnedDown k 6 b (decide pick sz k flush)

-- r flush steps lead from k to e, none of them refused, with m merge reads, and then it is clean
abbrev pub StepsUntilClean : Choice → Sizes → ℕ → State → ℕ → State → Type 0
StepsUntilClean pick sz zero k m e = ((decide pick sz k step).answer ≡ step_clean) × (m ≡ 0) × (k ≡ e)
StepsUntilClean pick sz (suc r) k m e = (b first rest : ℕ) × ((decide pick sz k step).answer ≡ step_done b first) × (m ≡ first + rest)
    × StepsUntilClean pick sz r (decide pick sz k step).state rest e

-- Else it is steps until clean, none of them refused, one for each of the blocks cached. It answers their number and the sum of their
-- merge reads.
abbrev pub AnswersFlushRule : Type 0
AnswersFlushRule = (pick : Choice) → Picks pick → (sz : Sizes) (k : State) → sound sz k.directory ≡ true → length k.wear ≡ sz.N
    → ((c : ℕ) → c < sz.N → Cached sz k.directory c → get_or k.wear c 0 < sz.W)
    → (r m : ℕ) × ((decide pick sz k flush).answer ≡ flush_done r m) × (r ≡ count sz.N (cached sz k.directory))
    × StepsUntilClean pick sz r k m (decide pick sz k flush).state

-- ---- the pages of an accepted call

-- A read changes no lent buffer,
abbrev pub ReadKeepsRule : Type 0
ReadKeepsRule = (fmt : Format) (pick : Choice) (besides : ℕ → Bool) (s : Store) → Good fmt s → (n : ℕ) (x : Page)
    → (call_reading fmt pick besides s (read n x)).store.lent ≡ s.lent

-- nor does a part write without bytes,
abbrev pub NothingKeepsRule : Type 0
NothingKeepsRule = (fmt : Format) (pick : Choice) (besides : ℕ → Bool) (s : Store) → Good fmt s → (n first : ℕ) (page : Page)
    → (call_reading fmt pick besides s (part n first [] page)).store.lent ≡ s.lent

-- nor a step with nothing due.
abbrev pub CleanKeepsRule : Type 0
CleanKeepsRule = (fmt : Format) (pick : Choice) (besides : ℕ → Bool) (s : Store) → Good fmt s
    → due_of pick s.cache.sizes s.cache.directory ≡ clean → (call_reading fmt pick besides s step).store.lent ≡ s.lent

-- A write changes those of its way, with the bytes lent.
abbrev pub PagesWriteRule : Type 1
PagesWriteRule = (C : Type 0) (chip : Chip C Page) (z : Page) (pick : Choice) (sz : Sizes) (k : State) (m : Memory C Page)
    → (n : ℕ) (x : Page) (p : Plan) → plan pick sz k.directory k.wear n ≡ p
    → call_pages chip z pick sz k m (write n x) ≡ written_pages chip z sz k.directory m n x p

-- A part write is a read that counts as no use, then a write of the page with its bytes laid in.
abbrev pub PagesPartRule : Type 1
PagesPartRule = (C : Type 0) (chip : Chip C Page) (z : Page) (pick : Choice) (sz : Sizes) (k : State) (m : Memory C Page)
    → (n first : ℕ) (x page : Page) → 0 < length x
    → call_pages chip z pick sz k m (part n first x page)
    ≡ call_pages chip z pick sz k m (write n (laid first x (read_page chip z sz k.directory m n)))

-- A step changes those of its block and frame.
abbrev pub PagesStepRule : Type 1
PagesStepRule = (C : Type 0) (chip : Chip C Page) (z : Page) (pick : Choice) (sz : Sizes) (k : State) (m : Memory C Page) (b f : ℕ)
    → due_of pick sz k.directory ≡ due b f → call_pages chip z pick sz k m step ≡ stepped_pages chip z sz k.directory m (due b f)

-- r steps take the pages m to q, with nothing due after them
abbrev pub PagesUntilClean : {C : Type 0} → Chip C Page → Page → Choice → Sizes → ℕ → Directory → Memory C Page → Memory C Page → Type 0
PagesUntilClean chip z pick sz zero d m q = (due_of pick sz d ≡ clean) × (q ≡ m)
PagesUntilClean chip z pick sz (suc r) d m q = (b f : ℕ) × (due_of pick sz d ≡ due b f)
    × PagesUntilClean chip z pick sz r (stepped sz d (due b f)) (stepped_pages chip z sz d m (due b f)) q

-- A flush changes those of its steps, one after the other until nothing is due.
abbrev pub PagesFlushRule : Type 1
PagesFlushRule = (C : Type 0) (chip : Chip C Page) (z : Page) (pick : Choice) → Picks pick → (sz : Sizes) (k : State) (m : Memory C Page)
    → sound sz k.directory ≡ true
    → (r : ℕ) × PagesUntilClean chip z pick sz r k.directory m (call_pages chip z pick sz k m flush)
