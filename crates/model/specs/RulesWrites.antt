-- The rules of document 01 said a second time. Part 4: what a read gives and what each way of a write leaves in record, p-space, b-space
-- and flash. Where the paper takes two steps, a law names what stands between them: there is an e with `Joined d e` and `Entered e d'`.
use Rattle.std.specs.Prelude.{◌≡◌, true, ℕ, ◌+◌, ◌*◌, ◌<◌, length, get_or}
use Rattle.prelude.specs.Bits.{bit}
use Rattle.model.specs.Sizes.{Sizes}
use Rattle.model.specs.Directory.{Directory, slot_at, frame_at, valid_at}
use Rattle.model.specs.Soundness.{sound}
use Rattle.model.specs.Policy.{read_way, slot_hit, frame_hit, free_slot, join, fill, exchange, evict}
use Rattle.model.specs.Moves.{Chip, Memory, flash_page, read_directory, written, read_page, written_pages}
use Rattle.model.specs.RulesWords.{InSlot, Uncached, FirstVacant, pages_in_slots, valid_pages}
use Rattle.model.specs.RulesMoves.{Used, Filled, HeldStays, Joined, JoinedPages, Exchanged, ExchangedPages, Stepped, SteppedPages}

-- ---- read n

-- Way 1: a slot holds it; nothing changes.
abbrev pub Read1Rule : Type 1
Read1Rule = (sz : Sizes) (d : Directory) (n : ℕ) → sound sz d ≡ true → n < sz.N * sz.K
    → (C A : Type 0) (chip : Chip C A) (filler : A) (m : Memory C A)
    → (i : ℕ) → i < sz.P → slot_at d i ≡ n
    → (read_way sz d n ≡ 1) × (read_directory sz d n ≡ d) × (read_page chip filler sz d m n ≡ get_or m.pspace i filler)

-- Way 2: a frame has it valid, and is used.
abbrev pub Read2Rule : Type 1
Read2Rule = (sz : Sizes) (d : Directory) (n : ℕ) → sound sz d ≡ true → n < sz.N * sz.K
    → (C A : Type 0) (chip : Chip C A) (filler : A) (m : Memory C A)
    → (InSlot sz d n → ⊥) → (f o : ℕ) → f < sz.B → o < sz.K → frame_at d f * sz.K + o ≡ n → bit (valid_at d f) o ≡ true
    → (read_way sz d n ≡ 2) × Used sz d (read_directory sz d n) f × HeldStays d (read_directory sz d n)
    × (read_page chip filler sz d m n ≡ get_or m.bspace (f * sz.K + o) filler)

-- Way 3: from flash; nothing is cached.
abbrev pub Read3Rule : Type 1
Read3Rule = (sz : Sizes) (d : Directory) (n : ℕ) → sound sz d ≡ true → (C A : Type 0) (chip : Chip C A) (filler : A) (m : Memory C A)
    → Uncached sz d n
    → (read_way sz d n ≡ 3) × (read_directory sz d n ≡ d) × (read_page chip filler sz d m n ≡ flash_page chip filler m n)

-- ---- page n goes into the first vacant slot

-- From e, where the move of the victim's pages into a frame is made, to d': n stands in the first vacant slot, and the frames stay.
pub record Entered (sz : Sizes) (e d' : Directory) (n : ℕ) : Type 0 where
  pub slot : (i : ℕ) → FirstVacant sz e i → (slot_at d' i ≡ n) × ((j : ℕ) → (j ≡ i → ⊥) → slot_at d' j ≡ slot_at e j)
  pub frames-stay : (d'.frames ≡ e.frames) × (d'.valid ≡ e.valid)

-- Its bytes are in that slot of p-space, and no other page changes.
pub record EnteredPages {C A : Type 0} (filler : A) (sz : Sizes) (e : Directory) (m q : Memory C A) (x : A) : Type 0 where
  pub slot : (i : ℕ) → FirstVacant sz e i
      → (get_or q.pspace i filler ≡ x) × ((j : ℕ) → (j ≡ i → ⊥) → get_or q.pspace j filler ≡ get_or m.pspace j filler)
  pub flash-stays : q.flash ≡ m.flash
  pub bspace-stays : q.bspace ≡ m.bspace

-- ---- write n with the page x

-- The page x is in slot i of p-space then, and no other page changed.
pub record PutInSlot {C A : Type 0} (filler : A) (m q : Memory C A) (i : ℕ) (x : A) : Type 0 where
  pub page-is : get_or q.pspace i filler ≡ x
  pub others : (j : ℕ) → (j ≡ i → ⊥) → get_or q.pspace j filler ≡ get_or m.pspace j filler
  pub flash-stays : q.flash ≡ m.flash
  pub bspace-stays : q.bspace ≡ m.bspace

-- Way 1 overwrites the page in slot i, and nothing else.
abbrev pub Writes1Rule : Type 1
Writes1Rule = (sz : Sizes) (d : Directory) (n : ℕ) (C A : Type 0) (chip : Chip C A) (filler : A) (m : Memory C A) (x : A)
    → length m.pspace ≡ sz.P
    → (i : ℕ) → i < sz.P
    → (written sz d n (slot_hit i) ≡ d) × PutInSlot filler m (written_pages chip filler sz d m n x (slot_hit i)) i x

-- Way 2 overwrites the page at its offset in frame f, which is used.
abbrev pub Writes2Rule : Type 1
Writes2Rule = (sz : Sizes) (d : Directory) (n : ℕ) → sound sz d ≡ true
    → (C A : Type 0) (chip : Chip C A) (filler : A) (m : Memory C A) (x : A) → length m.bspace ≡ sz.B * sz.K
    → (f o : ℕ) → f < sz.B → o < sz.K → frame_at d f * sz.K + o ≡ n
    → Used sz d (written sz d n (frame_hit f)) f × HeldStays d (written sz d n (frame_hit f))
    × (get_or (written_pages chip filler sz d m n x (frame_hit f)).bspace (f * sz.K + o) filler ≡ x)
    × ((k : ℕ) → (k ≡ f * sz.K + o → ⊥) → get_or (written_pages chip filler sz d m n x (frame_hit f)).bspace k filler
    ≡ get_or m.bspace k filler)
    × ((written_pages chip filler sz d m n x (frame_hit f)).flash ≡ m.flash)
    × ((written_pages chip filler sz d m n x (frame_hit f)).pspace ≡ m.pspace)

-- Way 3 puts n into slot i, and nothing else changes.
abbrev pub Writes3Rule : Type 1
Writes3Rule = (sz : Sizes) (d : Directory) (n : ℕ) → sound sz d ≡ true
    → (C A : Type 0) (chip : Chip C A) (filler : A) (m : Memory C A) (x : A) → length m.pspace ≡ sz.P → (i : ℕ) → i < sz.P
    → (slot_at (written sz d n (free_slot i)) i ≡ n)
    × ((j : ℕ) → (j ≡ i → ⊥) → slot_at (written sz d n (free_slot i)) j ≡ slot_at d j)
    × ((written sz d n (free_slot i)).frames ≡ d.frames) × ((written sz d n (free_slot i)).valid ≡ d.valid)
    × ((written sz d n (free_slot i)).recency ≡ d.recency) × ((written sz d n (free_slot i)).uses ≡ d.uses)
    × PutInSlot filler m (written_pages chip filler sz d m n x (free_slot i)) i x

-- Way 4: the victim's pages join the frame, which is used; then n goes into the first vacant slot.
abbrev pub Writes4Rule : Type 0
Writes4Rule = (sz : Sizes) (d : Directory) (n : ℕ) → sound sz d ≡ true → (v f : ℕ) → v < sz.N → f < sz.B
    → (e : Directory) × Joined sz d e v f × Entered sz e (written sz d n (join v f)) n × Used sz e (written sz d n (join v f)) f

-- The bytes go with them.
abbrev pub Writes4PagesRule : Type 1
Writes4PagesRule = (sz : Sizes) (d : Directory) (n : ℕ) → sound sz d ≡ true → (v f : ℕ) → v < sz.N → f < sz.B
    → (C A : Type 0) (chip : Chip C A) (filler : A) (m : Memory C A) (x : A) → length m.pspace ≡ sz.P
    → (e : Directory) × Joined sz d e v f
    × ((q : Memory C A) × JoinedPages filler sz d m q v f × EnteredPages filler sz e q (written_pages chip filler sz d m n x (join v f)) x)

-- Way 5: they fill the frame; then n goes into the first vacant slot.
abbrev pub Writes5Rule : Type 0
Writes5Rule = (sz : Sizes) (d : Directory) (n : ℕ) → sound sz d ≡ true → (v f : ℕ) → v < sz.N → f < sz.B
    → (e : Directory) × Joined sz d e v f × Entered sz e (written sz d n (fill v f)) n × Filled sz e (written sz d n (fill v f)) f

-- It moves the bytes as way 4 does.
abbrev pub Writes5PagesRule : Type 1
Writes5PagesRule = (sz : Sizes) (d : Directory) (n v f : ℕ) (C A : Type 0) (chip : Chip C A) (filler : A) (m : Memory C A) (x : A)
    → written_pages chip filler sz d m n x (fill v f) ≡ written_pages chip filler sz d m n x (join v f)

-- Way 6: they exchange with the frame's fewer pages, which fills the frame; then n goes into the first vacant slot.
abbrev pub Writes6Rule : Type 0
Writes6Rule = (sz : Sizes) (d : Directory) (n : ℕ) → sound sz d ≡ true → (v f : ℕ) → v < sz.N → f < sz.B
    → frame_at d f < sz.N → valid_pages d f < pages_in_slots sz d v
    → (e : Directory) × Exchanged sz d e v f × Entered sz e (written sz d n (exchange v f)) n
    × Filled sz e (written sz d n (exchange v f)) f

-- The bytes go with them.
abbrev pub Writes6PagesRule : Type 1
Writes6PagesRule = (sz : Sizes) (d : Directory) (n : ℕ) → sound sz d ≡ true → (v f : ℕ) → v < sz.N → f < sz.B
    → frame_at d f < sz.N → valid_pages d f < pages_in_slots sz d v → (C A : Type 0) (chip : Chip C A) (filler : A) (m : Memory C A) (x : A)
    → (e : Directory) × Exchanged sz d e v f
    × ((q : Memory C A) × ExchangedPages filler sz d e m q v f × EnteredPages filler sz e q
    (written_pages chip filler sz d m n x (exchange v f)) x)

-- Way 7, with request A2: the frame is rewritten and vacated as by a flush step of its block; then the victim's pages fill it, as in way 5.
abbrev pub Writes7Rule : Type 0
Writes7Rule = (sz : Sizes) (d : Directory) (n : ℕ) → sound sz d ≡ true → (v f : ℕ) → v < sz.N → f < sz.B → frame_at d f < sz.N
    → (c : Directory) × Stepped sz d c (frame_at d f) f
    × ((e : Directory) × Joined sz c e v f × Entered sz e (written sz d n (evict v f)) n × Filled sz e (written sz d n (evict v f)) f)

-- The bytes go with them.
abbrev pub Writes7PagesRule : Type 1
Writes7PagesRule = (sz : Sizes) (d : Directory) (n : ℕ) → sound sz d ≡ true → (v f : ℕ) → v < sz.N → f < sz.B → frame_at d f < sz.N
    → (C A : Type 0) (chip : Chip C A) (filler : A) (m : Memory C A) (x : A) → length m.pspace ≡ sz.P
    → (p : Memory C A) × SteppedPages chip filler sz d m p (frame_at d f) f
    × ((c e : Directory) × Stepped sz d c (frame_at d f) f × Joined sz c e v f
    × ((q : Memory C A) × JoinedPages filler sz c p q v f
    × EnteredPages filler sz e q (written_pages chip filler sz d m n x (evict v f)) x))
