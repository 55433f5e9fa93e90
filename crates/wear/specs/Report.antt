-- Request A14: the report of a store. It changes nothing.
use Rattle.std.specs.Prelude.{◌≡◌, ℕ, ◌*◌, ◌<◌, ◌≤◌, Bool, true, false, ◌&&◌, length, ◌==◌}
use Rattle.model.specs.Soundness.{sound}
use Rattle.model.specs.Calls.{lent_ok}
use Rattle.model.specs.Formats.{store_format}
use Rattle.model.specs.Shelf.{ShelfStore, shelf_ok}
use Rattle.wear.specs.Figures.{wear_at, total, largest, spread, in_limit}

-- what a report answers: the total, the largest and the spread, or the number of a refusal
pub data Reported : Type 0 where
  figures : ℕ → ℕ → ℕ → Reported
  turned_down : ℕ → Reported

-- refusal 4: the record is sound, its shelf's entries with it
unfoldable pub record_ok : ShelfStore → Bool
record_ok s = let sz = s.store.cache.sizes in sound sz s.store.cache.directory && shelf_ok sz sz.shelf_pages s.entries

-- refusal 2: all buffers that are lent have their lengths, the shelf with them
unfoldable pub buffers_ok : ShelfStore → Bool
buffers_ok s = let sz = s.store.cache.sizes in lent_ok store_format sz s.store.lent && length s.shelf == sz.shelf_pages * sz.S

-- refusals 4 and 2, then 3 when an entry is above W; else the figures of the wear
unfoldable pub reported : ShelfStore → Reported
reported s = let w = s.store.lent.wear in elim (record_ok s) [
  | false ↦ turned_down 4
  | true ↦ elim (buffers_ok s) [
    | false ↦ turned_down 2
    | true ↦ elim (in_limit w s.store.cache.sizes.W) [ false ↦ turned_down 3 | true ↦ figures (total w) (largest w) (spread w) ]
  ]
]

-- ---- the same said a second time, as laws

-- Refused 4 when the record is not sound;
abbrev pub RefusesRecordRule : Type 0
RefusesRecordRule = (s : ShelfStore) → record_ok s ≡ false → reported s ≡ turned_down 4

-- then 2 when a lent buffer has another length, whatever the wear;
abbrev pub RefusesBufferRule : Type 0
RefusesBufferRule = (s : ShelfStore) → record_ok s ≡ true → buffers_ok s ≡ false → reported s ≡ turned_down 2

-- then 3 when an entry is above W;
abbrev pub RefusesOverwornRule : Type 0
RefusesOverwornRule = (s : ShelfStore) → record_ok s ≡ true → buffers_ok s ≡ true → let sz = s.store.cache.sizes in
    (b : ℕ) → b < sz.N → sz.W < wear_at s.store.lent.wear b → reported s ≡ turned_down 3

-- else it gives the figures.
abbrev pub GivesRule : Type 0
GivesRule = (s : ShelfStore) → record_ok s ≡ true → buffers_ok s ≡ true → let sz = s.store.cache.sizes in let w = s.store.lent.wear in
    ((b : ℕ) → b < sz.N → wear_at w b ≤ sz.W) → reported s ≡ figures (total w) (largest w) (spread w)
