-- Request A8: of every list of calls, wherever an accepted write is followed by its accepted taking back, the page array is as before the
-- write, and every page is seen as it was then.
use Rattle.std.specs.Prelude.{◌≡◌, true, false, List, [], ◌∷◌, ℕ, ◌*◌, ◌<◌, ltb}
use Rattle.model.specs.Sizes.{Sizes, vacant}
use Rattle.model.specs.Calls.{is_refused, Cell, Format, flash_cells, page_seen}
use Rattle.model.specs.Lists.{flipped, Borne}
use Rattle.model.specs.Shelf.{is_back, shelves, ShelfStore, ShelfResult, ShelfReference, ShelfChosen, shelf_call, shelf_book_says}
use Rattle.model.specs.Shelf.{shelf_fed, shelf_flipped}

module _ (fmt : Format) (Near : Sizes → Cell → Cell → Type 0) (sz : Sizes) (h : ℕ) where
  -- a call on store s, and what runs beside it then
  abbrev pub made : ShelfStore → ShelfChosen → ShelfResult
  made s t = shelf_call fmt h t.choice s t.call

  abbrev pub beside_it : ShelfStore → ShelfReference → ShelfChosen → ShelfReference
  beside_it s r t = shelf_fed sz h r t (shelf_book_says sz h r t (made s t).answer) (flash_cells fmt sz (made s t).store.store.lent)

  -- Before the write there were s and r, after it s₁ and r₁. The next call, if it takes back and is accepted, undoes the write, whatever
  -- bits flip that the store has to bear.
  abbrev pub UndoneBy : ShelfStore → ShelfReference → ShelfStore → ShelfReference → List ShelfChosen → Type 0
  UndoneBy s r s₁ r₁ [] = Unit {0}
  UndoneBy s r s₁ r₁ (t ∷ cs) = (fl cd : List ℕ) → Borne fmt Near sz r₁.reference (flipped s₁.store fl cd).lent
      → is_back t.call ≡ true → is_refused (made (shelf_flipped s₁ fl cd) t).answer ≡ false
      → record {
        array-is : (beside_it (shelf_flipped s₁ fl cd) r₁ t).reference.array ≡ r.reference.array;
        shows : (fl' cd' : List ℕ) → Borne fmt Near sz (beside_it (shelf_flipped s₁ fl cd) r₁ t).reference
            (flipped (made (shelf_flipped s₁ fl cd) t).store.store fl' cd').lent
            → (n : ℕ) → n < sz.N * sz.K
            → page_seen fmt (flipped (made (shelf_flipped s₁ fl cd) t).store.store fl' cd') n ≡ page_seen fmt s.store n;
      }

  abbrev pub ShelfUndoes : List ShelfChosen → ShelfStore → ShelfReference → Type 0
  ShelfUndoes [] s r = Unit {0}
  ShelfUndoes (t ∷ cs) s r = (fl cd : List ℕ) → Borne fmt Near sz r.reference (flipped s.store fl cd).lent →
      let s₀ = shelf_flipped s fl cd in
      record {
        undone : ltb (shelves t.call) vacant ≡ true → is_refused (made s₀ t).answer ≡ false
            → UndoneBy s₀ r (made s₀ t).store (beside_it s₀ r t) cs;
        then : ShelfUndoes cs (made s₀ t).store (beside_it s₀ r t);
      }
