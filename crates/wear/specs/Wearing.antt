-- Which calls of a store change its wear, and its report with it (request A14).
use Rattle.std.specs.Prelude.{◌≡◌, ℕ, ◌+◌, ◌*◌, ◌<◌, ◌≤◌, max, ◌⊎◌, List, pos, ◌-ℤ◌, ◌≢◌, unsigned_abs}
use Rattle.model.specs.Sizes.{Sizes, vacant}
use Rattle.model.specs.Policy.{Choice}
use Rattle.model.specs.Calls.{Answer, open_done, read_done, write_done, step_done, step_clean, flush_done, refused}
use Rattle.model.specs.Lists.{Picks}
use Rattle.model.specs.Shelf.{ShelfStore, ShelfCall, store_call}
use Rattle.wear.specs.Figures.{wear_at, total, largest, spread, erased_once}
use Rattle.wear.specs.Report.{Reported, figures, reported}

-- What an answer says of the wear w before the call and w' after it: way 7 and a step erase the block that they name, once; a flush is not
-- spoken of; every other call leaves the wear.
abbrev pub Wears : Sizes → Answer → List ℕ → List ℕ → Type 0
Wears sz open_done w w' = w' ≡ w
Wears sz (read_done way) w w' = w' ≡ w
Wears sz (write_done way b m) w w' = ((way ≡ 7) × (b < sz.N) × (w' ≡ erased_once w b)) ⊎ ((way < 7) × (b ≡ vacant) × (w' ≡ w))
Wears sz (step_done b m) w w' = (b < sz.N) × (w' ≡ erased_once w b)
Wears sz step_clean w w' = w' ≡ w
Wears sz (flush_done r m) w w' = Unit {0}
Wears sz (refused n b) w w' = w' ≡ w

-- the wear of the store's blocks
abbrev pub wear_of : ShelfStore → List ℕ
wear_of s = s.store.lent.wear

-- Every call, whatever the record and the buffers, wears as its answer says.
abbrev pub WearRule : Type 0
WearRule = (pick : Choice) → Picks pick → (s : ShelfStore) (c : ShelfCall) → let r = store_call pick s c in
    Wears s.store.cache.sizes r.answer (wear_of s) (wear_of r.store)

-- Where the report of a store is accepted, so is the report after any call, whatever the call answers: its figures are those of the wear
-- then.
abbrev pub StaysAcceptedRule : Type 0
StaysAcceptedRule = (pick : Choice) → Picks pick → (s : ShelfStore) (c : ShelfCall) → let s' = (store_call pick s c).store in
    (t l v : ℕ) → reported s ≡ figures t l v → reported s' ≡ figures (total (wear_of s')) (largest (wear_of s')) (spread (wear_of s'))

-- r is the report of a chip of n blocks that had the figures t, l and v before one more erasure of a block with wear c: the total is one
-- more, the largest is the greater of l and c + 1, and the spread has changed by n×(2c+1) - (2t+1), hence by at most n×(2l+1) either way.
abbrev pub ErasedOnceMore : ℕ → ℕ → ℕ → ℕ → ℕ → Reported → Type 0
ErasedOnceMore n c t l v r = (v' : ℕ) × (r ≡ figures (t + 1) (max l (c + 1)) v')
    × (pos v' -ℤ pos v ≡ pos (n * (2 * c + 1)) -ℤ pos (2 * t + 1)) × (unsigned_abs (pos v' -ℤ pos v) ≤ n * (2 * l + 1))

-- An accepted write by way 7, of a page, of part of one or taking one back, and an accepted step change the report so, with c the wear of
-- the block that they name.
abbrev pub ReportChangesRule : Type 0
ReportChangesRule = (pick : Choice) → Picks pick → (s : ShelfStore) (c : ShelfCall) → let r = store_call pick s c in
    (b m : ℕ) → (r.answer ≡ write_done 7 b m) ⊎ (r.answer ≡ step_done b m) → (t l v : ℕ) → reported s ≡ figures t l v
    → ErasedOnceMore s.store.cache.sizes.N (wear_at (wear_of s) b) t l v (reported r.store)

-- An accepted read, or a write by another way, leaves it.
abbrev pub ReportStaysRule : Type 0
ReportStaysRule = (pick : Choice) → Picks pick → (s : ShelfStore) (c : ShelfCall) → let r = store_call pick s c in
    (way b m : ℕ) → (r.answer ≡ read_done way) ⊎ ((r.answer ≡ write_done way b m) × (way ≢ 7))
    → (t l v : ℕ) → reported s ≡ figures t l v → reported r.store ≡ figures t l v
