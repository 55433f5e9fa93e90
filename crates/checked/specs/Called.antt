-- A store of sizes, a directory and lent buffers, and what a call on them leaves.
use Rattle.std.specs.Prelude.{◌≡◌, Bool, true, false, List, ℕ, ◌*◌, ◌≤◌, ◌<◌}
use Rattle.prelude.specs.Pages.{page_at}
use Rattle.model.specs.Directory.{Directory}
use Rattle.model.specs.Soundness.{sound}
use Rattle.model.specs.Sizes.{InLimits}
use Rattle.model.specs.Policy.{Choice, policy_choice}
use Rattle.model.specs.Formats.{store_format, chip_for}
use Rattle.model.specs.Cut.{cut_call, operations}
use Rattle.model.specs.CutCalls.{left_in}
use Rattle.model.specs.Calls.{Answer, is_refused, Call, reads_page, Buffers, Page, Result, Store, call_reading, page_seen}
use Rattle.model.specs.Calls.{zero_page, state_of, memory_of}
use Rattle.cache.specs.declared.Sizes.{Sizes}
use Rattle.cache.specs.View.{sizes_of}

-- sizes, the directory and the lent buffers
abbrev pub store_with : Sizes → Directory → Buffers → Store
store_with z d u = record { cache = record { sizes = sizes_of z; directory = d }; lent = u }

-- the answer and its mends, the store left and the page buffer
abbrev pub result_with : Answer → ℕ → Sizes → Directory → Buffers → Page → Result
result_with a mends z d u page = record { answer = a; mends = mends; store = store_with z d u; page = page }

-- The call c on the store s, which reads those flash pages besides and may do so many operations of the chip, gave r.
pub record CalledTo (pick : Choice) (ops : ℕ) (besides : ℕ → Bool) (s : Store) (c : Call Page) (r : Result) : Type 0 where
  -- where the operations are enough it is what the model's call gives,
  pub whole : (InLimits s.cache.sizes → operations s.cache.sizes c ≤ ops) → r ≡ call_reading store_format pick besides s c
  -- and where the call is refused, however many they are;
  pub down : is_refused (call_reading store_format pick besides s c).answer ≡ true → r ≡ call_reading store_format pick besides s c
  -- of an accepted one flash and wear are as after so many operations
  pub left : is_refused (call_reading store_format pick besides s c).answer ≡ false → left_in s.cache.sizes r.store.lent
      ≡ cut_call (chip_for s.cache.sizes) (zero_page s.cache.sizes) pick s.cache.sizes ops (state_of s)
      (memory_of store_format s.cache.sizes s.lent) c

-- The call c gives r, reading page n besides, as no use; and where it is accepted, the record is sound, there is a page n, and the first
-- page of kept is that page as it was.
pub record Keeping (z : Sizes) (d : Directory) (u : Buffers) (n : ℕ) (c : Call Page) (r : Result) (kept : List ℕ) : Type 0 where
  pub accepted : is_refused r.answer ≡ false → (sound (sizes_of z) d ≡ true) × (n < z.blocks * z.pages_per_block)
  pub result_is : (besides : ℕ → Bool)
      → (sound (sizes_of z) d ≡ true → n < z.blocks * z.pages_per_block → (i : ℕ) → besides i ≡ reads_page (sizes_of z) d n i)
      → r ≡ call_reading store_format policy_choice besides (store_with z d u) c
  pub kept-is : is_refused r.answer ≡ false → page_at z.page_size kept 0 ≡ page_seen store_format (store_with z d u) n

-- the same with so many operations
pub record KeepingTo (ops : ℕ) (z : Sizes) (d : Directory) (u : Buffers) (n : ℕ) (c : Call Page) (r : Result) (kept : List ℕ) : Type 0 where
  pub accepted : is_refused r.answer ≡ false → (sound (sizes_of z) d ≡ true) × (n < z.blocks * z.pages_per_block)
  pub called : (besides : ℕ → Bool)
      → (sound (sizes_of z) d ≡ true → n < z.blocks * z.pages_per_block → (i : ℕ) → besides i ≡ reads_page (sizes_of z) d n i)
      → CalledTo policy_choice ops besides (store_with z d u) c r
  pub kept-is : is_refused r.answer ≡ false → page_at z.page_size kept 0 ≡ page_seen store_format (store_with z d u) n
