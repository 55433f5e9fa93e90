-- Request A12 for the store's own calls: what a call that may do so many operations of the chip leaves where the record is lost after it,
-- and when a torn block is whole again. What p-space, b-space and shelf hold then is left free.
use Rattle.std.specs.Prelude.{◌≡◌, ◌⊎◌, true, false, List, [], ◌∷◌, ℕ, ◌*◌, ◌/◌, ◌≤◌, ◌<◌, get_or}
use Rattle.model.specs.Sizes.{Sizes, is_marked}
use Rattle.model.specs.Policy.{Choice}
use Rattle.model.specs.Moves.{cell_at}
use Rattle.model.specs.Calls.{is_refused, Call, Page, Cell, Format, Buffers, zero_page, flash_cells, memory_of, state_of}
use Rattle.model.specs.Formats.{store_format, chip_for}
use Rattle.model.specs.Lists.{Picks, Accepted, Reference, flipped, Borne}
use Rattle.model.specs.Shelf.{ShelfCall, ShelfStore, ShelfReference, ShelfChosen, meant, pages_of_shelf, shelf_flipped, shelf_call}
use Rattle.model.specs.Shelf.{store_call}
use Rattle.model.specs.Shelf.{shelf_book_says, shelf_fed}
use Rattle.model.specs.Cut.{Left, cut_call, operations, BlockAs, CutShort}

-- ---- a call that is cut off

-- flash and wear of lent buffers
abbrev pub left_in : Sizes → Buffers → Left Cell
left_in sz u = record { flash = flash_cells store_format sz u; wear = u.wear }

-- what the call is by the ordinary rules
abbrev pub meant_by : ShelfStore → ShelfCall → Call Page
meant_by s c = meant s.entries (pages_of_shelf s.store.cache.sizes s.store.cache.sizes.shelf_pages s.shelf) c

-- flash and wear after ops operations of it
abbrev pub left_after : Choice → ℕ → ShelfStore → ShelfCall → Left Cell
left_after pick ops s c = let sz = s.store.cache.sizes in
    cut_call (chip_for sz) (zero_page sz) pick sz ops (state_of s.store) (memory_of store_format sz s.store.lent) (meant_by s c)

-- The call c on the store s, with ops operations of the chip, left the buffers u': flash, codes, marks and wear stay where the call is
-- refused, and are as after ops operations where it is accepted.
pub record CutTo (pick : Choice) (ops : ℕ) (s : ShelfStore) (c : ShelfCall) (u' : Buffers) : Type 0 where
  pub refused-stays : is_refused (store_call pick s c).answer ≡ true
      → (u'.flash ≡ s.store.lent.flash) × (u'.codes ≡ s.store.lent.codes) × (u'.marks ≡ s.store.lent.marks)
      × (u'.wear ≡ s.store.lent.wear)
  pub accepted-left : is_refused (store_call pick s c).answer ≡ false → left_in s.store.cache.sizes u' ≡ left_after pick ops s c

-- flash and wear after the ordinary call
abbrev pub left_whole : Choice → ShelfStore → ShelfCall → Left Cell
left_whole pick s c = left_in s.store.cache.sizes (store_call pick s c).store.store.lent

-- Every other block is as before the call or as after its own rewrite in it, the one under way is as before or half programmed, and the
-- wear is counted with the erasure: of every store, call and number of operations.
abbrev pub CutRule : Type 0
CutRule = (pick : Choice) → Picks pick → (ops : ℕ) (s : ShelfStore) (c : ShelfCall) (u' : Buffers) → CutTo pick ops s c u'
    → let sz = s.store.cache.sizes in
    CutShort (chip_for sz) (zero_page sz) sz (left_in sz s.store.lent) (left_whole pick s c) (left_in sz u')

-- With as many operations as the call has, flash and wear are as after the ordinary call.
abbrev pub WholeRule : Type 0
WholeRule = (pick : Choice) → Picks pick → (ops : ℕ) (s : ShelfStore) (c : ShelfCall) (u' : Buffers) → CutTo pick ops s c u'
    → operations s.store.cache.sizes (meant_by s c) ≤ ops → left_in s.store.cache.sizes u' ≡ left_whole pick s c

-- In a marked store the block under way is as before the call, or each of its pages that is marked 0 has the bytes and the code that the
-- call means for it.
abbrev pub MarkedZeroRule : Type 0
MarkedZeroRule = (sz : Sizes) (l l₁ l' : Left Cell) → is_marked sz ≡ true → (k : CutShort (chip_for sz) (zero_page sz) sz l l₁ l')
    → BlockAs (chip_for sz) (zero_page sz) sz l l₁ l' l k.under
    ⊎ ((n : ℕ) → n < sz.N * sz.K → n / sz.K ≡ k.under
    → get_or (cell_at (chip_for sz) (zero_page sz) l'.flash n).mark 0 0 ≡ 0
    → cell_at (chip_for sz) (zero_page sz) l'.flash n ≡ cell_at (chip_for sz) (zero_page sz) l₁.flash n)

-- ---- a torn block is made whole

-- If the last call was an accepted flush, each page is marked 0 of a block for which something was accepted since opening.
abbrev pub WholeBlocks : Sizes → List ℕ → Reference → Type 0
WholeBlocks sz marks r = r.flushed ≡ true → (p : ℕ) (x : Page) → Accepted p x r.log → p < sz.N * sz.K
    → (n : ℕ) → n < sz.N * sz.K → n / sz.K ≡ p / sz.K → get_or marks n 0 ≡ 0

-- after every list of calls, as long as no more bits flip than the store has to bear
module _ (fmt : Format) (Near : Sizes → Cell → Cell → Type 0) (sz : Sizes) (h : ℕ) where
  abbrev pub ShelfEnds : List ShelfChosen → ShelfStore → ShelfReference → Type 0
  ShelfEnds [] s r = WholeBlocks sz s.store.lent.marks r.reference
  ShelfEnds (t ∷ cs) s r = (fl cd : List ℕ) → Borne fmt Near sz r.reference (flipped s.store fl cd).lent →
      let x = shelf_call fmt h t.choice (shelf_flipped s fl cd) t.call in
      ShelfEnds cs x.store (shelf_fed sz h r t (shelf_book_says sz h r t x.answer) (flash_cells fmt sz x.store.store.lent))
