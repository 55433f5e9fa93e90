-- Request A12 for the code: calls that may do so many operations of the chip and then lose the record, what they leave, and when a torn
-- block is whole again.
use Rattle.std.specs.Prelude.{◌≡◌, ◌⊎◌, true, List, [], ◌∷◌, ℕ, ◌*◌, ◌/◌, ◌≤◌, ◌<◌, get_or}
use Rattle.model.specs.Sizes as sizes
use Rattle.model.specs.Sizes.{is_marked}
use Rattle.model.specs.Directory.{blank_cache}
use Rattle.model.specs.Policy.{policy_choice}
use Rattle.model.specs.Moves.{cell_at}
use Rattle.model.specs.Calls.{Buffers, Cell, zero_page, open_done}
use Rattle.model.specs.Formats.{chip_for}
use Rattle.model.specs.Shelf.{ShelfCall, ShelfReference, no_entries}
use Rattle.model.specs.Cut.{Left, operations, BlockAs, CutShort}
use Rattle.model.specs.CutCalls.{left_in, meant_by, CutTo, WholeBlocks}
use Rattle.cache.specs.declared.Sizes.{Sizes}
use Rattle.cache.specs.View.{sizes_of}
use Rattle.store.specs.declared.Cache.{Cache}
use Rattle.store.specs.View.{Opened, Lent, cache_of, opened_of, store_of}
use Rattle.store.specs.Histories.{Made, call_of, lent_after, Contract, Turn, lent_to, AsContracted, fed_by, StillNear}
use Rattle.store.specs.Histories.{OpeningContract, CodesMatch, begun}

-- The contract of a call that is cut off after ops operations, on record c and buffers u: this is the `ensures` of `Cache::cut_write`,
-- `cut_part`, `cut_take_back`, `cut_step` and `cut_flush`. The blank record r comes back, and flash, codes, marks and wear are as after ops
-- operations of the call; p-space, b-space, shelf and page buffer are left free.
pub record CutContract (c : Cache) (u : Lent) (ops : ℕ) (call : ShelfCall) (r : Cache) (u' : Buffers) : Type 0 where
  pub record_lost : cache_of r ≡ blank_cache
  pub entries-lost : r.entries ≡ no_entries
  pub cut : CutTo policy_choice ops (store_of c u) call u'

-- l before the call, l₁ after the whole call, l' after the cut, and enough: the call has no more operations than were done
pub record PowerLost (sz : sizes.Sizes) (l l₁ l' : Left Cell) (enough : Type 0) : Type 0 where
  -- every other block is as before the call or as after its own rewrite in it; the one under way as before, or erased with its first pages
  -- programmed; wear likewise
  pub short : CutShort (chip_for sz) (zero_page sz) sz l l₁ l'
  -- in a marked store the block under way is as before, or each of its pages that is marked 0 is as after its rewrite
  pub marked-0 : is_marked sz ≡ true → BlockAs (chip_for sz) (zero_page sz) sz l l₁ l' l short.under
      ⊎ ((n : ℕ) → n < sz.N * sz.K → n / sz.K ≡ short.under
      → get_or (cell_at (chip_for sz) (zero_page sz) l'.flash n).mark 0 0 ≡ 0
      → cell_at (chip_for sz) (zero_page sz) l'.flash n ≡ cell_at (chip_for sz) (zero_page sz) l₁.flash n)
  -- with enough operations it is as after the whole call
  pub whole : enough → l' ≡ l₁

-- Of every call of the code and the same call cut off, on any record and buffers, after any number of operations.
abbrev pub CutOff : Type 0
CutOff = (c : Cache) (u : Lent) (m : Made) → Contract c u m
    → (ops : ℕ) (r : Cache) (u' : Buffers) → CutContract c u ops (call_of m) r u'
    → let sz = sizes_of c.sizes in
    PowerLost sz (left_in sz u.below) (left_in sz (lent_after u m).below) (left_in sz u') (operations sz (meant_by (store_of c u)
    (call_of m)) ≤ ops)

-- After every list of calls, as long as no more bits flip than the store has to bear: if the last was an accepted flush, each page is
-- marked 0 of a block for which something was accepted since opening.
abbrev pub Ends : sizes.Sizes → Lent → ShelfReference → List Turn → Type 0
Ends sz u r [] = WholeBlocks sz u.below.marks r.reference
Ends sz u r (t ∷ ts) = StillNear sz r (lent_to u t) → Ends sz (lent_after (lent_to u t) t.made) (fed_by sz r (lent_to u t) t.made) ts

-- after one accepted opening of a marked store whose codes match, whatever its marks
abbrev pub MadeWhole : Type 0
MadeWhole = (z : Sizes) (u : Lent) (o : Opened) → OpeningContract z u o → (opened_of o).answer ≡ open_done → is_marked (sizes_of z) ≡ true
    → CodesMatch (sizes_of z) u → (ts : List Turn) → AsContracted o.cache u ts → Ends (sizes_of z) u (begun (sizes_of z) u) ts
