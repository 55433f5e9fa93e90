-- What else holds of every list of calls while no more bits flip than the store has to bear: no call is refused 7 (request A6), and a call
-- that finds each cell as it was programmed, or as it was at opening, mends nothing (request A7).
use Rattle.std.specs.Prelude.{◌≡◌, List, [], ◌∷◌, ℕ, ◌*◌, ◌<◌, get_or}
use Rattle.model.specs.Sizes.{Sizes}
use Rattle.model.specs.Calls.{refused, Cell, Format, Buffers, flash_cells}
use Rattle.model.specs.Lists.{no_cell, Reference, flipped, Borne}
use Rattle.model.specs.Shelf.{ShelfStore, ShelfReference, ShelfChosen, shelf_call, shelf_book_says, shelf_fed, shelf_flipped}

-- no bit has flipped since a page was programmed, or since opening
abbrev pub AsProgrammed : Format → Sizes → Reference → Buffers → Type 0
AsProgrammed fmt sz r u = (n : ℕ) → n < sz.N * sz.K → get_or (flash_cells fmt sz u) n no_cell ≡ get_or r.base n no_cell

module _ (fmt : Format) (Near : Sizes → Cell → Cell → Type 0) (sz : Sizes) (h : ℕ) where
  abbrev pub ShelfLegible : List ShelfChosen → ShelfStore → ShelfReference → Type 0
  ShelfLegible [] s r = Unit {0}
  ShelfLegible (t ∷ cs) s r = (fl cd : List ℕ) → Borne fmt Near sz r.reference (flipped s.store fl cd).lent →
      let x = shelf_call fmt h t.choice (shelf_flipped s fl cd) t.call in
      record {
        readable : (b : ℕ) → x.answer ≡ refused 7 b → ⊥;
        mendless : AsProgrammed fmt sz r.reference (flipped s.store fl cd).lent → x.mends ≡ 0;
        then : ShelfLegible cs x.store (shelf_fed sz h r t (shelf_book_says sz h r t x.answer)
            (flash_cells fmt sz x.store.store.lent));
      }
