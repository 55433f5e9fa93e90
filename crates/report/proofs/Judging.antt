-- The report by its checks.
use mathlib.Core.Path.{◌≡◌, refl, ap}
use mathlib.Core.Bool.{true, false}
use lib.ListN.{length}
use Rattle.std.specs.Prelude.{Option, Some, None, ok_or}
use Rattle.prelude.proofs.Tests.{by-test, and-not_l, and_r}
use Rattle.model.specs.Sizes.{Sizes}
use Rattle.model.specs.Soundness.{sound}
use Rattle.model.specs.Calls.{lent_ok}
use Rattle.model.specs.Formats.{store_format}
use Rattle.model.specs.Shelf.{ShelfStore, shelf_ok, shelf_fits}
use Rattle.answer.specs.declared.Refusal.TheVariants as refusals
use Rattle.wear.specs.declared.Figures.{Figures}
use Rattle.wear.specs.Figures.{in_limit, measured}
use Rattle.wear.specs.Report.{turned_down, record_ok, buffers_ok, reported}
use Rattle.report.specs.Contract.{reported_of, measured_as}

-- no figures are refusal 3
pub measured-as : (m m' : Option Figures) → m ≡ m' → reported_of (ok_or m refusals.Overworn) ≡ measured_as m'
measured-as (Some f) m' e = ap measured_as e
measured-as None m' e = ap measured_as e

module _ (s : ShelfStore) where
  abbrev sz : Sizes
  sz = s.store.cache.sizes

  pub unsound : sound sz s.store.cache.directory ≡ false → turned_down 4 ≡ reported s
  unfolding reported record_ok
  unsound h = rw (h, reported) refl

  module _ (h : sound sz s.store.cache.directory ≡ true) where
    pub unshelved : shelf_ok sz sz.shelf_pages s.entries ≡ false → turned_down 4 ≡ reported s
    unfolding reported record_ok
    unshelved e = rw (h, e, reported) refl

    module _ (e : shelf_ok sz sz.shelf_pages s.entries ≡ true) where
      pub unfit : lent_ok store_format sz s.store.lent ≡ false → turned_down 2 ≡ reported s
      unfolding reported record_ok buffers_ok
      unfit l = rw (h, e, reported) (rw l refl)

      module _ (l : lent_ok store_format sz s.store.lent ≡ true) where
        pub shelf-unfit : shelf_fits sz sz.shelf_pages s.entries (length s.shelf) ≡ false → turned_down 2 ≡ reported s
        unfolding reported record_ok buffers_ok
        shelf-unfit b = rw (h, e, reported) (rw (l, and-not_l e b) refl)

        pub judged : shelf_fits sz sz.shelf_pages s.entries (length s.shelf) ≡ true
            → measured_as (measured s.store.lent.wear sz.W) ≡ reported s
        unfolding reported record_ok buffers_ok measured
        judged b = rw (h, e, reported) (rw (l, and_r (shelf_ok sz sz.shelf_pages s.entries) _ b)
            (by-test (in_limit s.store.lent.wear sz.W) (λ i. rw i refl) (λ i. rw i refl)))
