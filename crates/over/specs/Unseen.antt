-- Request A10 over the store: what a trainee can tell apart.
use Rattle.std.specs.Prelude.{◌≡◌, ℕ, ◌*◌, ◌<◌, get_or}
use Rattle.model.specs.Policy.{Choice}
use Rattle.model.specs.Calls.{Page, flash_cells, page_seen}
use Rattle.model.specs.Formats.{StoreMatches, store_format}
use Rattle.model.specs.Lists.{no_cell}
use Rattle.model.specs.Shelf.{ShelfStore}
use Rattle.runs.specs.Sheet.{sheet_of}
use Rattle.runs.specs.Roles.{trainee}
use Rattle.runs.specs.RulesRoles.{Alike, Looks}
use Rattle.runs.specs.Verdict.{passed}
use Rattle.over.specs.Catalogue.{Asked, sizes_in, entering, catalogue_call}

-- all codes match, and no bit has flipped
abbrev pub Undisturbed : ShelfStore → Type 0
Undisturbed s = (n : ℕ) → n < (sizes_in s).N * (sizes_in s).K
    → StoreMatches (sizes_in s) (get_or (flash_cells store_format (sizes_in s) s.store.lent) n no_cell)

-- Two stores with the same record and the same marks, lent buffers that pass or fail alike, and sheets that are alike to trainee t: they
-- differ in others' trainee numbers and marks, and in the codes of those sheets. Others are others in both.
pub record Twins (c t : ℕ) (x : Page) (s s' : ShelfStore) : Type 0 where
  pub same-cache : s.store.cache ≡ s'.store.cache
  pub same-marks : s.store.lent.marks ≡ s'.store.lent.marks
  pub same-entry : entering s x passed ≡ entering s' x passed
  pub alike : (i : ℕ) → i < c → Alike t (sheet_of (page_seen store_format s.store i)) (sheet_of (page_seen store_format s'.store i))
  pub undisturbed : Undisturbed s
  pub undisturbed' : Undisturbed s'

-- A trainee is given the same looks and lists, refusals and mends included.
abbrev pub SameLooks : Type 0
SameLooks = (pick : Choice) (c : ℕ) (s s' : ShelfStore) (q : Asked) → q.caller.role ≡ trainee → Looks q.operation
    → Twins c q.caller.number q.page s s'
    → ((catalogue_call pick c s q).says ≡ (catalogue_call pick c s' q).says) × ((catalogue_call pick c s q).mends
    ≡ (catalogue_call pick c s' q).mends)
