-- A call of a catalogue by its role's number, cut off.
use mathlib.Core.Path.{◌≡◌, refl, subst}
use mathlib.Core.Logic.{inl}
use Prim.Native.Nat.{ℕ, ◌≤◌, ◌<◌}
use native.Mathlib.Omega.{arith}
use borrow.Author.Tests.{lt-ltb, le-ltb}
use Rattle.model.specs.Directory.{blank_cache}
use Rattle.model.specs.Policy.{policy_choice}
use Rattle.model.specs.Calls.{Buffers, Page}
use Rattle.model.specs.Shelf.{no_entries}
use Rattle.store.specs.declared.Cache.{Cache}
use Rattle.store.specs.View.{Lent, cache_of, store_of}
use Rattle.runs.specs.Roles as roles
use Rattle.runs.specs.Roles.{Operation}
use Rattle.over.specs.Catalogue.{catalogue_call}
use Rattle.sheets.specs.declared.roles.Caller.{Caller}
use Rattle.sheets.specs.View.{caller_of}
use Rattle.catalogue.specs.PowerLoss.{CutAs, CutEntry}
use Rattle.callers.specs.Callers.{caller_at, called_by}

module _ (c : Cache) (u : Lent) (n role t : ℕ) (op : Operation) (page : Page) (ops : ℕ) (r : Cache) where
  -- another role: nothing changes
  pub cut-away : 2 < role → (cache_of r ≡ blank_cache) × (r.entries ≡ no_entries) → CutAs c u (called_by c u n role t op page) ops r u.below
  unfolding called_by
  cut-away l b = rw (le-ltb role 3 l, called_by)
      (inl (record { same = refl; nothing = record { record_lost = b.0; entries-lost = b.1; lent-stays = refl } }))

  -- the catalogue's call, by its contract
  pub cut_on : role ≤ 2 → (w : Caller) → caller_of w ≡ caller_at role t → (u' : Buffers) → CutEntry c u n w op page ops r u'
      → CutAs c u (called_by c u n role t op page) ops r u'
  unfolding called_by
  cut_on l w is u' h = rw (lt-ltb role 3 (omega arith), called_by) (subst (λ (k : roles.Caller). CutAs c u
      (catalogue_call policy_choice n (store_of c u) (record { caller = k; operation = op; page = page })) ops r u') is h)
