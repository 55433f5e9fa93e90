-- The rules of document 01 and its requests said a second time. Part 5, continued: the flash pages that a call reads, by way 3 and by the
-- merges of a rewrite. Refusals 7 and 14, and the mends, are over these. `pick` is any choice among the frames that a rule leaves open.
use Rattle.std.specs.Prelude.{◌≡◌, ◌⊎◌, Bool, true, false, [], ◌∷◌, ℕ, suc, ◌+◌, ◌*◌, ◌<◌, get_or, replicate}
use Rattle.prelude.specs.Bits.{bit}
use Rattle.codes.specs.Code.{codes_of}
use Rattle.codes.specs.Reading.{page_legible, page_mended, page_mends}
use Rattle.model.specs.Sizes.{Sizes}
use Rattle.model.specs.Directory.{Directory, frame_at, valid_at}
use Rattle.model.specs.Soundness.{sound}
use Rattle.model.specs.Policy.{Choice, evict, plan, clean, due, due_of}
use Rattle.model.specs.Calls.{Call, read, write, part, step, flush, State, reads_flash, sum, Page, Cell, Format, told, reads_all}
use Rattle.model.specs.Formats.{chip_for}
use Rattle.model.specs.Lists.{Picks}
use Rattle.model.specs.RulesWords.{◌⇔◌, InSlot, Uncached, Cached}

-- page n is one of block b at an offset that is not valid in frame f, and stands in no slot: a rewrite of b through f merges it
abbrev pub Merged : Sizes → Directory → ℕ → ℕ → ℕ → Type 0
Merged sz d b f n = (o : ℕ) × (o < sz.K) × (b * sz.K + o ≡ n) × (bit (valid_at d f) o ≡ false) × (InSlot sz d n → ⊥)

-- The flash pages that a call reads are those of its own and those that a request has it read besides.
abbrev pub ReadsAllRule : Type 0
ReadsAllRule = (fmt : Format) (pick : Choice) (sz : Sizes) (k : State) (c : Call Page) (besides : ℕ → Bool) (i : ℕ)
    → (reads_all fmt pick sz k c besides i ≡ true) ⇔ ((reads_flash pick sz k (told c) i ≡ true) ⊎ (besides i ≡ true))

-- A sum over the pages from 0 on adds each once.
abbrev pub SumRule : Type 0
SumRule = (g : ℕ → ℕ) → (sum 0 g ≡ 0) × ((n : ℕ) → sum (suc n) g ≡ sum n g + g n)

-- a law of flash page i, for every sound record
abbrev pub OfFlash : (Choice → Sizes → State → ℕ → Type 0) → Type 0
OfFlash Law = (pick : Choice) (sz : Sizes) (k : State) → sound sz k.directory ≡ true → (i : ℕ) → i < sz.N * sz.K → Law pick sz k i

-- A read of n reads flash page n alone, where n is cached nowhere.
abbrev pub ReadsReadRule : Type 0
ReadsReadRule = OfFlash (λ pick sz k i. (n long : ℕ)
    → (reads_flash pick sz k (read n long) i ≡ true) ⇔ ((i ≡ n) × Uncached sz k.directory i))

-- A write reads none by ways 1 to 6;
abbrev pub ReadsWriteNoneRule : Type 0
ReadsWriteNoneRule = OfFlash (λ pick sz k i. (n long : ℕ)
    → ((v f : ℕ) → plan pick sz k.directory k.wear n ≡ evict v f → ⊥) → reads_flash pick sz k (write n long) i ≡ false)

-- by way 7 the merges of the frame's block.
abbrev pub ReadsWriteRule : Type 0
ReadsWriteRule = OfFlash (λ pick sz k i. let d = k.directory in (n long v f : ℕ) → f < sz.B → frame_at d f < sz.N
    → plan pick sz d k.wear n ≡ evict v f → (reads_flash pick sz k (write n long) i ≡ true) ⇔ Merged sz d (frame_at d f) f i)

-- A part write without bytes reads none;
abbrev pub ReadsPartNoneRule : Type 0
ReadsPartNoneRule = OfFlash (λ pick sz k i. (n first long : ℕ) → reads_flash pick sz k (part n first 0 long) i ≡ false)

-- with bytes, what a read of the page and its write do.
abbrev pub ReadsPartRule : Type 0
ReadsPartRule = OfFlash (λ pick sz k i. (n first many long : ℕ) → 0 < many → (reads_flash pick sz k (part n first many long) i ≡ true)
    ⇔ ((reads_flash pick sz k (read n long) i ≡ true) ⊎ (reads_flash pick sz k (write n long) i ≡ true)))

-- A step reads the merges of the block due;
abbrev pub ReadsStepRule : Type 0
ReadsStepRule = OfFlash (λ pick sz k i. (b f : ℕ) → b < sz.N → f < sz.B → due_of pick sz k.directory ≡ due b f
    → (reads_flash pick sz k step i ≡ true) ⇔ Merged sz k.directory b f i)

-- a clean one none.
abbrev pub ReadsCleanRule : Type 0
ReadsCleanRule = OfFlash (λ pick sz k i. due_of pick sz k.directory ≡ clean → reads_flash pick sz k step i ≡ false)

-- A flush reads the pages that are cached nowhere, of the blocks that are cached.
abbrev pub ReadsFlushRule : Type 0
ReadsFlushRule = OfFlash (λ pick sz k i. Picks pick → (b o : ℕ) → b < sz.N → o < sz.K → b * sz.K + o ≡ i
    → (reads_flash pick sz k flush i ≡ true) ⇔ (Cached sz k.directory b × Uncached sz k.directory i))

-- Without codes and marks a flash page is read as its bytes, meets no refusal and mends nothing; it is programmed with no code and no mark.
abbrev pub NoOptionRule : Type 0
NoOptionRule = (sz : Sizes) → sz.coded ≡ 0 → sz.marked ≡ 0
    → ((c : Cell) → ((chip_for sz).page c ≡ c.bytes) × ((chip_for sz).fault c ≡ 0) × ((chip_for sz).mends c ≡ 0))
    × ((x : Page) → (chip_for sz).cell x ≡ record { bytes = x; code = []; mark = [] })

-- In a coded store whose pages are m chunks, without marks, a page is read by the rule of its codes, meets refusal 7 where that finds it
-- unreadable, and mends as many chunks as that says; it is programmed with its codes, and an erased page has codes of 255.
abbrev pub CodedRule : Type 0
CodedRule = (sz : Sizes) (m : ℕ) → sz.coded ≡ 1 → sz.marked ≡ 0 → sz.S ≡ m * 256
    → ((c : Cell) → ((chip_for sz).page c ≡ page_mended m c.bytes c.code) × ((chip_for sz).mends c ≡ page_mends m c.bytes c.code)
    × (page_legible m c.bytes c.code ≡ true → (chip_for sz).fault c ≡ 0)
    × (page_legible m c.bytes c.code ≡ false → (chip_for sz).fault c ≡ 7))
    × ((x : Page) → (chip_for sz).cell x ≡ record { bytes = x; code = codes_of m x; mark = [] })
    × ((chip_for sz).erased ≡ record { bytes = replicate (m * 256) 255; code = replicate (m * 3) 255; mark = [] })

-- In a marked store without codes a page is read as its bytes and mends nothing; it meets refusal 14 where its mark is not 0, whatever it
-- is. It is programmed with mark 0, and an erased page has mark 255.
abbrev pub MarkedRule : Type 0
MarkedRule = (sz : Sizes) → sz.coded ≡ 0 → sz.marked ≡ 1
    → ((c : Cell) → ((chip_for sz).page c ≡ c.bytes) × ((chip_for sz).mends c ≡ 0) × (get_or c.mark 0 0 ≡ 0 → (chip_for sz).fault c ≡ 0)
    × ((get_or c.mark 0 0 ≡ 0 → ⊥) → (chip_for sz).fault c ≡ 14))
    × ((x : Page) → (chip_for sz).cell x ≡ record { bytes = x; code = []; mark = 0 ∷ [] })
    × ((chip_for sz).erased ≡ record { bytes = replicate sz.S 255; code = []; mark = 255 ∷ [] })

-- With codes too, a page that is unreadable meets refusal 7, torn or not; one that can be read meets 14 where its mark is not 0. The rest
-- is as by the rule of the codes.
abbrev pub MarkedCodedRule : Type 0
MarkedCodedRule = (sz : Sizes) (m : ℕ) → sz.coded ≡ 1 → sz.marked ≡ 1 → sz.S ≡ m * 256
    → ((c : Cell) → ((chip_for sz).page c ≡ page_mended m c.bytes c.code) × ((chip_for sz).mends c ≡ page_mends m c.bytes c.code)
    × (page_legible m c.bytes c.code ≡ false → (chip_for sz).fault c ≡ 7)
    × (page_legible m c.bytes c.code ≡ true → get_or c.mark 0 0 ≡ 0 → (chip_for sz).fault c ≡ 0)
    × (page_legible m c.bytes c.code ≡ true → (get_or c.mark 0 0 ≡ 0 → ⊥) → (chip_for sz).fault c ≡ 14))
    × ((x : Page) → (chip_for sz).cell x ≡ record { bytes = x; code = codes_of m x; mark = 0 ∷ [] })
    × ((chip_for sz).erased ≡ record { bytes = replicate (m * 256) 255; code = replicate (m * 3) 255; mark = 255 ∷ [] })
