-- From a call on the directory's lists, with entries and a shelf, to the call on the record.
use mathlib.Core.Path.{◌≡◌, ap, ◌∙◌}
use mathlib.Core.List.{List}
use Prim.Native.Nat.{ℕ}
use Rattle.model.specs.Directory.{Directory}
use Rattle.model.specs.Policy.{policy_choice}
use Rattle.model.specs.Calls.{Answer, Page}
use Rattle.model.specs.Shelf.{ShelfCall, store_call}
use Rattle.cache.specs.declared.Sizes as sizes
use Rattle.cache.specs.declared.Directory as cache
use Rattle.cache.specs.View.{directory_of}
use Rattle.shelving.specs.Shelving.{store_on, result_on}
use Rattle.store.specs.View.{Lent}

-- the lists l are those of directory d, and the lists l' those of directory d'
pub on_lists : (z : sizes.Sizes) (d d' : cache.Directory) (l l' : Directory) (es es' : List ℕ) (u u' : Lent) (a : Answer) (mends : ℕ)
    (page : Page) (c : ShelfCall) → l ≡ directory_of d → directory_of d' ≡ l'
    → result_on a mends z l' es' u'.below u'.shelf page ≡ store_call policy_choice (store_on z l es u.below u.shelf) c
    → result_on a mends z (directory_of d') es' u'.below u'.shelf page ≡ store_call policy_choice (store_on z (directory_of d) es u.below
    u.shelf) c
on_lists z d d' l l' es es' u u' a mends page c e e' h = ap (λ (m : Directory). result_on a mends z m es' u'.below u'.shelf page) e'
    ∙ h
    ∙ ap (λ (m : Directory). store_call policy_choice (store_on z m es u.below u.shelf) c) e
