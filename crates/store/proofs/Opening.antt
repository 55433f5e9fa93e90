-- The opening by its tests.
use mathlib.Core.Path.{◌≡◌, sym, ap, ◌∙◌}
use mathlib.Core.Bool.{Bool, true, false}
use mathlib.Core.List.{List}
use Prim.Native.Nat.{ℕ, ◌*◌, ◌≤◌}
use native.Mathlib.Omega.{arith}
use native.Mathlib.Nat.{mul-le-mul}
use lib.Dec.{leb, eqb}
use lib.ListN.{length, get_or}
use borrow.Author.Tests.{eqb-true, eqb-false}
use Rattle.prelude.specs.Scan.{all}
use Rattle.prelude.proofs.Tests.{by-test, each}
use Rattle.model.specs.Sizes.{Sizes, InLimits, vacant, sizes_ok}
use Rattle.model.specs.Directory.{vacant_directory, blank_cache}
use Rattle.model.specs.Formats.{store_format}
use Rattle.model.specs.Shelf.{ShelfOpened, no_entries, store_open}
use Rattle.model.specs.Calls.{Buffers, open_done, refused, lent_ok, torn_blocks, open_store}
use Rattle.model.proofs.Shelving.{opened_below, open_fit, open_unfit, open_unsized}

pub wear-length : (sz : Sizes) (u : Buffers) → lent_ok store_format sz u ≡ true → length u.wear ≡ sz.N
unfolding lent_ok
wear-length sz u h = eqb-true _ _ (each _ h).1.1.1.0

-- the shelf is short
pub shelf-small : (sz : Sizes) → InLimits sz → sz.shelf_pages * sz.S ≤ 16384
shelf-small sz h = let a : sz.shelf_pages * sz.S ≤ 8 * 2048 = mul-le-mul h.shelf-high h.S_high in omega arith

module _ (sz : Sizes) (u : Buffers) where
  abbrev refused_as : ℕ → ShelfOpened
  refused_as n = record { answer = refused n vacant; torn = 0; cache = blank_cache; entries = no_entries }

  abbrev done_with : ShelfOpened
  done_with = record {
    answer = open_done;
    torn = torn_blocks sz u.marks;
    cache = record { sizes = sz; directory = vacant_directory };
    entries = no_entries;
  }

  abbrev within : ℕ → Bool
  within n = all n (λ b. leb (get_or u.wear b 0) sz.W)

  size_below : sizes_ok sz ≡ false → opened_below sz u ≡ refused_as 1
  unfolding open_store
  size_below a = rw (a, open_store)

  buffer-below : sizes_ok sz ≡ true → lent_ok store_format sz u ≡ false → opened_below sz u ≡ refused_as 2
  unfolding open_store
  buffer-below a b = rw (a, open_store) (rw b)

  overworn-below : sizes_ok sz ≡ true → lent_ok store_format sz u ≡ true → within (length u.wear) ≡ false → opened_below sz u ≡ refused_as 3
  unfolding open_store
  overworn-below a b c = let d : within sz.N ≡ false = sym (ap within (wear-length sz u b)) ∙ c in rw (a, open_store) (rw b (rw d))

  done_below : sizes_ok sz ≡ true → lent_ok store_format sz u ≡ true → within (length u.wear) ≡ true → opened_below sz u
      ≡ done_with
  unfolding open_store
  done_below a b c = let d : within sz.N ≡ true = sym (ap within (wear-length sz u b)) ∙ c in rw (a, open_store) (rw b (rw d))

  module _ (sb : List ℕ) where
    pub open_size : sizes_ok sz ≡ false → store_open sz u sb ≡ refused_as 1
    open_size a = open_unsized sz u sb a ∙ size_below a

    -- the shelf has the length that the sizes ask for
    abbrev Fitting : Type 0
    Fitting = length sb ≡ sz.shelf_pages * sz.S

    pub open_shelf_lem : sizes_ok sz ≡ true → (Fitting → ⊥) → store_open sz u sb ≡ refused_as 2
    open_shelf_lem a e = open_unfit sz u sb a e

    pub open_buffer : sizes_ok sz ≡ true → lent_ok store_format sz u ≡ false → store_open sz u sb ≡ refused_as 2
    open_buffer a b = by-test (eqb (length sb) (sz.shelf_pages * sz.S)) (λ e. open_fit sz u sb (eqb-true _ _ e) ∙ buffer-below a b)
        (λ e. open_unfit sz u sb a (eqb-false _ _ e))

    pub open_overworn : sizes_ok sz ≡ true → lent_ok store_format sz u ≡ true → Fitting → within (length u.wear) ≡ false
        → store_open sz u sb ≡ refused_as 3
    open_overworn a b e c = open_fit sz u sb e ∙ overworn-below a b c

    pub open_done_lem : sizes_ok sz ≡ true → lent_ok store_format sz u ≡ true → Fitting → within (length u.wear) ≡ true
        → store_open sz u sb ≡ done_with
    open_done_lem a b e c = open_fit sz u sb e ∙ done_below a b c
