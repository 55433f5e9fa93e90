-- The words that the laws of the rules are said in. Each speaks of the entries of the record one by one, and not by the definitions' scans.
use Rattle.std.specs.Prelude.{◌≡◌, ◌⊎◌, true, false, not, ◌&&◌, List, [], ◌∷◌, ℕ, ◌+◌, ◌*◌, ◌≤◌, ◌<◌, leb, ltb, eqb, get_or}
use Rattle.prelude.specs.Scan.{count, all}
use Rattle.prelude.specs.Bits.{bit}
use Rattle.model.specs.Sizes.{Sizes}
use Rattle.model.specs.Directory.{Directory, slot_at, frame_at, valid_at}

-- one holds exactly where the other does
infix 1 ◌⇔◌
abbrev pub ◌⇔◌ : Type 0 → Type 0 → Type 0
A ⇔ B = (A → B) × (B → A)

-- page n stands in a slot (document 01's place)
abbrev pub InSlot : Sizes → Directory → ℕ → Type 0
InSlot sz d n = (i : ℕ) × (i < sz.P) × (slot_at d i ≡ n)

-- frame f has page n valid: it is the page at one of the frame's valid offsets
abbrev pub ValidIn : Sizes → Directory → ℕ → ℕ → Type 0
ValidIn sz d f n = (o : ℕ) × (o < sz.K) × (frame_at d f * sz.K + o ≡ n) × (bit (valid_at d f) o ≡ true)

-- page n is neither in a slot nor valid in a frame
abbrev pub Uncached : Sizes → Directory → ℕ → Type 0
Uncached sz d n = (InSlot sz d n → ⊥) × ((f : ℕ) → f < sz.B → ValidIn sz d f n → ⊥)

-- slot i is the first vacant one
abbrev pub FirstVacant : Sizes → Directory → ℕ → Type 0
FirstVacant sz d i = (i < sz.P) × (slot_at d i ≡ 4294967295) × ((j : ℕ) → j < i → slot_at d j ≡ 4294967295 → ⊥)

-- frame f is the first vacant one
abbrev pub FirstVacantFrame : Sizes → Directory → ℕ → Type 0
FirstVacantFrame sz d f = (f < sz.B) × (frame_at d f ≡ 4294967295) × ((g : ℕ) → g < f → frame_at d g ≡ 4294967295 → ⊥)

-- slot i holds a page of block b: one of the K from b×K on
abbrev pub OfBlock : Sizes → Directory → ℕ → ℕ → Type 0
OfBlock sz d b i = (b * sz.K ≤ slot_at d i) × (slot_at d i < b * sz.K + sz.K)

-- how many slots hold pages of block b
abbrev pub pages_in_slots : Sizes → Directory → ℕ → ℕ
pages_in_slots sz d b = count sz.P (λ i. leb (b * sz.K) (slot_at d i) && ltb (slot_at d i) (b * sz.K + sz.K))

-- how many pages frame f has valid: the ones among its 64 bits
abbrev pub valid_pages : Directory → ℕ → ℕ
valid_pages d f = count 64 (bit (valid_at d f))

-- block b is cached: a slot holds a page of it, or a frame holds it
abbrev pub Cached : Sizes → Directory → ℕ → Type 0
Cached sz d b = ((i : ℕ) × (i < sz.P) × OfBlock sz d b i) ⊎ ((f : ℕ) × (f < sz.B) × (frame_at d f ≡ b))

-- the offsets of block b that are neither valid in frame f nor in a slot: what a rewrite reads once the pages in slots have joined
abbrev pub missing_pages : Sizes → Directory → ℕ → ℕ → ℕ
missing_pages sz d b f =
    count sz.K (λ o. not (bit (valid_at d f) o) && all sz.P (λ i. not (eqb (slot_at d i) (b * sz.K + o))))

-- A write of page n evicts block v: n is cached nowhere, no slot is vacant, and v has the most pages in slots, among equals the lowest.
pub record Evicts (sz : Sizes) (d : Directory) (n v : ℕ) : Type 0 where
  pub nowhere : Uncached sz d n
  pub full : (i : ℕ) → i < sz.P → slot_at d i ≡ 4294967295 → ⊥
  pub victim-in : v < sz.N
  pub most : (b : ℕ) → b < sz.N → pages_in_slots sz d b ≤ pages_in_slots sz d v
  pub lowest : (b : ℕ) → b < v → pages_in_slots sz d b < pages_in_slots sz d v

-- It finds no room: besides, no frame is v's, and no frame is vacant.
pub record Crowded (sz : Sizes) (d : Directory) (n v : ℕ) : Type 0 where
  pub evicts : Evicts sz d n v
  pub no-frame : (f : ℕ) → f < sz.B → frame_at d f ≡ v → ⊥
  pub all_held : (f : ℕ) → f < sz.B → frame_at d f ≡ 4294967295 → ⊥

-- frame f holds a block with wear below W
abbrev pub Unworn : Sizes → Directory → List ℕ → ℕ → Type 0
Unworn sz d w f = get_or w (frame_at d f) 0 < sz.W

-- a list without the entries f
abbrev pub without : ℕ → List ℕ → List ℕ
without f [] = []
without f (x ∷ l) = elim (eqb x f) [ true ↦ without f l | false ↦ x ∷ without f l ]
