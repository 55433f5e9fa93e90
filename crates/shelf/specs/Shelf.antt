-- What a write puts on the shelf asks and leaves.
use Rattle.std.specs.Prelude.{◌≡◌, Bool, cond, List, [], ℕ, suc, ◌*◌, ◌≤◌, ◌<◌, length}
use Rattle.prelude.specs.Pages.{page_at, pages_of}
use Rattle.model.specs.Sizes.{Sizes, vacant, InLimits}
use Rattle.model.specs.Calls.{Page}
use Rattle.model.specs.Shelf.{shelved, shelve}

-- the h pages of s bytes on a shelf
abbrev pub shelf_pages : ℕ → ℕ → List ℕ → List Page
shelf_pages s h shelf = pages_of s h shelf

-- there is a shelf page, shelf and page have their lengths, and no more entries are in use than there are shelf pages
pub record Room (sz : Sizes) (es shelf earlier : List ℕ) : Type 0 where
  pub limits : InLimits sz
  pub some : 0 < sz.shelf_pages
  pub few : shelved es ≤ sz.shelf_pages
  pub shelf-length : length shelf ≡ sz.shelf_pages * sz.S
  pub earlier-length : length earlier ≡ 2048

-- each of the h pages but the first went down by one
pub record Lowered (s h : ℕ) (shelf shelf' : List ℕ) : Type 0 where
  pub long : length shelf' ≡ length shelf
  pub pages-are : (i : ℕ) → suc i < h → page_at s shelf' i ≡ page_at s shelf (suc i)

-- page n joined entries and shelf
pub record Shelved (sz : Sizes) (es shelf : List ℕ) (n : ℕ) (earlier es' shelf' : List ℕ) : Type 0 where
  pub entries-are : es' ≡ shelve vacant sz.shelf_pages (shelved es) es n
  pub pages-are : shelf_pages sz.S sz.shelf_pages shelf'
      ≡ shelve [] sz.shelf_pages (shelved es) (shelf_pages sz.S sz.shelf_pages shelf) (page_at sz.S earlier 0)

-- the same of a write, down if it was refused
pub record Kept (sz : Sizes) (down : Bool) (es shelf : List ℕ) (n : ℕ) (earlier es' shelf' : List ℕ) : Type 0 where
  pub entries-are : es' ≡ cond down es (shelve vacant sz.shelf_pages (shelved es) es n)
  pub pages-are : shelf_pages sz.S sz.shelf_pages shelf' ≡ cond down (shelf_pages sz.S sz.shelf_pages shelf)
      (shelve [] sz.shelf_pages (shelved es) (shelf_pages sz.S sz.shelf_pages shelf) (page_at sz.S earlier 0))
