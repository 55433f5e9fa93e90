-- A store of sizes, a directory, entries and shelf, and what a call on them leaves.
use Rattle.std.specs.Prelude.{◌≡◌, true, false, cond, ◌&&◌, Result, Ok, Err, List, ℕ, ◌≤◌}
use Rattle.model.specs.Sizes.{vacant, InLimits}
use Rattle.model.specs.Directory.{Directory}
use Rattle.model.specs.Soundness.{sound}
use Rattle.model.specs.Policy.{policy_choice}
use Rattle.model.specs.Calls.{Answer, refused, Buffers, Page}
use Rattle.model.specs.Shelf.{ShelfCall, ShelfStore, ShelfResult, store_call, shelf_ok, shelf_fits}
use Rattle.model.specs.Cut.{operations}
use Rattle.model.specs.CutCalls.{meant_by, CutTo}
use Rattle.cache.specs.declared.Sizes.{Sizes}
use Rattle.cache.specs.View.{sizes_of}
use Rattle.answer.specs.declared.Refusal.{Refusal}
use Rattle.answer.specs.Numbers.{refusal_of}
use Rattle.checked.specs.Called.{store_with}

-- sizes, the directory, entries, the lent buffers and the shelf
abbrev pub store_on : Sizes → Directory → List ℕ → Buffers → List ℕ → ShelfStore
store_on z d es u sb = record { store = store_with z d u; entries = es; shelf = sb }

-- the answer and its mends, the store left and the page buffer
abbrev pub result_on : Answer → ℕ → Sizes → Directory → List ℕ → Buffers → List ℕ → Page → ShelfResult
result_on a mends z d es u sb page = record { answer = a; mends = mends; store = store_on z d es u sb; page = page }

-- The call c on the store s, which may do so many operations of the chip, gave r.
pub record ShelvedTo (ops : ℕ) (s : ShelfStore) (c : ShelfCall) (r : ShelfResult) : Type 0 where
  -- where the operations are enough it is what the model's call gives,
  pub whole : (InLimits s.store.cache.sizes → operations s.store.cache.sizes (meant_by s c) ≤ ops) → r ≡ store_call policy_choice s c
  -- and in any case flash and wear are as after so many operations
  pub cut : CutTo policy_choice ops s c r.store.store.lent

-- entries and a shelf of so many bytes fit; or why they do not: the shelf, where record and entries are sound, and else the record
abbrev pub Fitting : Sizes → Directory → List ℕ → ℕ → {A : Type 0} → Result A Refusal → Type 0
Fitting z d es long (Ok done) = shelf_fits (sizes_of z) z.shelf_pages es long ≡ true
Fitting z d es long (Err why) = (shelf_fits (sizes_of z) z.shelf_pages es long ≡ false)
    × (refusal_of why ≡ refused (cond (sound (sizes_of z) d && shelf_ok (sizes_of z) z.shelf_pages es) 2 4) vacant)
