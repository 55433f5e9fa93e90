-- Request A12 for the catalogue: adding, replacing and marking a run, cut off after so many operations of the chip.
use Rattle.std.specs.Prelude.{◌≡◌, ◌⊎◌, ℕ, suc, ◌≤◌}
use Rattle.model.specs.Directory.{blank_cache}
use Rattle.model.specs.Policy.{policy_choice}
use Rattle.model.specs.Calls.{Buffers, Page, write}
use Rattle.model.specs.Shelf.{no_entries, plainly, store_call}
use Rattle.model.specs.CutCalls.{left_in}
use Rattle.cache.specs.View.{sizes_of}
use Rattle.store.specs.declared.Cache.{Cache}
use Rattle.store.specs.View.{Lent, cache_of, store_of}
use Rattle.store.specs.PowerLoss.{CutContract, PowerLost}
use Rattle.runs.specs.Sheet.{Sheet, page_of}
use Rattle.runs.specs.Roles as roles
use Rattle.over.specs.Catalogue.{Out}
use Rattle.sheets.specs.declared.roles.Caller.{Caller}
use Rattle.catalogue.specs.View.{called}
use Rattle.catalogue.specs.Histories.{Entry, operation_of, lent_after, Contract}

-- the call changes nothing, cut off or not: the blank record r comes back, and the buffers are as they were
pub record Nothing (u : Lent) (r : Cache) (u' : Buffers) : Type 0 where
  pub record_lost : cache_of r ≡ blank_cache
  pub entries-lost : r.entries ≡ no_entries
  pub lent-stays : u' ≡ u.below

-- the write of a sheet as page i, cut off
abbrev pub CutPut : Cache → Lent → ℕ → ℕ → Sheet → Cache → Buffers → Type 0
CutPut cache u ops i sh r u' = CutContract cache u ops (plainly (write i (page_of cache.sizes.page_size sh))) r u'

-- A call whose whole comes to o, cut off after ops operations: the whole call leaves the store as it was and so does this, or the whole
-- call is the write of a sheet and this is that write cut off.
abbrev pub CutAs : Cache → Lent → Out → ℕ → Cache → Buffers → Type 0
CutAs cache u o ops r u' = record {
  same : o.store ≡ store_of cache u;
  nothing : Nothing u r u';
} ⊎ record {
  at : ℕ;
  sheet : Sheet;
  writes : o.store ≡ (store_call policy_choice (store_of cache u) (plainly (write at (page_of cache.sizes.page_size sheet)))).store;
  cut : CutPut cache u ops at sheet r u';
}

-- the contract of a call that is cut off: this is the `ensures` of `cut_add`, `cut_replace` and `cut_mark`
abbrev pub CutEntry : Cache → Lent → ℕ → Caller → roles.Operation → Page → ℕ → Cache → Buffers → Type 0
CutEntry cache u c w op page ops r u' = CutAs cache u (called cache u c w op page) ops r u'

-- Of every call of the code that adds, replaces or marks, and the same call cut off, after any number of operations.
abbrev pub CutOff : Type 0
CutOff = (cache : Cache) (u : Lent) (c : ℕ) (w : Caller) (page : Page) (e : Entry) → Contract cache u c w page e
    → (ops : ℕ) (r : Cache) (u' : Buffers) → CutEntry cache u c w (operation_of e) page ops r u'
    → let sz = sizes_of cache.sizes in
    PowerLost sz (left_in sz u.below) (left_in sz (lent_after u e).below) (left_in sz u') (suc sz.K ≤ ops)
