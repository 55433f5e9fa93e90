-- An opening on fresh buffers is refused for its sizes alone.
use mathlib.Core.Path.{◌≡◌, refl, ap, ◌∙◌}
use mathlib.Core.Bool.{true, false}
use mathlib.Core.List.{List}
use Prim.Native.Nat.{ℕ, ◌*◌, ◌≤◌, ◌<◌}
use native.Mathlib.Omega.{arith}
use lib.Dec.{leb}
use lib.ListN.{length, get_or, replicate, length-replicate, get_or-replicate}
use borrow.Author.Tests.{eq-eqb, le-leb}
use Rattle.prelude.specs.Scan.{all}
use Rattle.prelude.proofs.Scan.{all_of}
use Rattle.prelude.proofs.Tests.{every_of}
use Rattle.model.specs.Sizes as model
use Rattle.model.specs.Sizes.{is_coded, is_marked}
use Rattle.model.specs.Sizes.{vacant, sizes_ok}
use Rattle.model.specs.Directory.{vacant_directory}
use Rattle.model.specs.Calls.{open_done, refused, Fits, lent_ok, torn_blocks}
use Rattle.model.specs.Formats.{store_format, code_long, mark_long}
use Rattle.model.specs.Shelf.{no_entries, ShelfOpened, ShelfStore, store_open}
use Rattle.answer.specs.Numbers.{opening_of}
use Rattle.print.specs.Print.{Printed, line_room, open_line}
use Rattle.print.proofs.Put.{printed-as}
use Rattle.store.specs.declared.Cache.{Cache}
use Rattle.store.specs.View.{Opened, Lent, plain_lent, opened_of, store_of}
use Rattle.store.proofs.Opening.{open_size, open_done_lem}
use Rattle.perform.specs.Effects.{fresh, opened, only}
use Rattle.perform.specs.View.{Carries}
use Rattle.perform.proofs.Carrying.{carries}

-- no shelf page has no bytes
pub no-pages : (h s : ℕ) → h ≡ 0 → 0 ≡ h * s
no-pages h s e = rw e (omega arith)

module _ (sz : model.Sizes) where
  -- the sizes ask for no codes, no marks and no shelf
  abbrev pub NoneAsked : Type 0
  NoneAsked = (0 ≡ sz.N * sz.K * code_long sz) × (0 ≡ sz.N * sz.K * mark_long sz) × (0 ≡ sz.shelf_pages * sz.S)

  pub none-asked : is_coded sz ≡ false → is_marked sz ≡ false → sz.shelf_pages ≡ 0 → NoneAsked
  none-asked c m h = (rw (code_long, c) (omega arith), rw (mark_long, m) (omega arith), rw h (omega arith))

  lent-fresh : NoneAsked → lent_ok store_format sz (fresh sz).below ≡ true
  unfolding lent_ok fresh
  lent-fresh none =
      every_of _ (
        eq-eqb _ _ (length-replicate {A = ℕ} (sz.N * sz.K * sz.S) 255),
        (
          eq-eqb 0 _ none.0,
          (
            eq-eqb 0 _ none.1,
            (
              eq-eqb _ _ (length-replicate {A = ℕ} sz.N 0),
              (
                eq-eqb _ _ (length-replicate {A = ℕ} (sz.P * sz.S) 0),
                (eq-eqb _ _ (length-replicate {A = ℕ} (sz.B * sz.K * sz.S) 0), tt),
              ),
            ),
          ),
        ),
      )

  zero-least : (i : ℕ) → i < length (replicate {A = ℕ} sz.N 0) → get_or (replicate {A = ℕ} sz.N 0) i 0 ≤ sz.W
  zero-least i l =
      let k : length (replicate {A = ℕ} sz.N 0) ≡ sz.N = length-replicate {A = ℕ} sz.N 0 in
      let e : get_or (replicate {A = ℕ} sz.N 0) i 0 ≡ 0 = get_or-replicate {A = ℕ} sz.N i 0 0 (omega arith) in
      omega arith

  within-fresh : all (length (fresh sz).below.wear) (λ b. leb (get_or (fresh sz).below.wear b 0) sz.W) ≡ true
  unfolding fresh
  within-fresh = all_of (length (replicate {A = ℕ} sz.N 0)) (λ b. leb (get_or (replicate {A = ℕ} sz.N 0) b 0) sz.W)
      (λ i l. le-leb _ _ (zero-least i l))

  no-shelf : NoneAsked → length (fresh sz).shelf ≡ sz.shelf_pages * sz.S
  unfolding fresh
  no-shelf none = none.2

  abbrev opens : ShelfOpened
  opens = store_open sz (fresh sz).below (fresh sz).shelf

  -- within limits, the store opens
  open_fresh : NoneAsked → sizes_ok sz ≡ true → opens ≡ record {
    answer = open_done;
    torn = torn_blocks sz (fresh sz).below.marks;
    cache = record { sizes = sz; directory = vacant_directory };
    entries = no_entries;
  }
  open_fresh none ok = open_done_lem sz (fresh sz).below (fresh sz).shelf ok (lent-fresh none) (no-shelf none) within-fresh

  pub opened-done : (s : ShelfStore) → NoneAsked → sizes_ok sz ≡ true → opened s sz
      ≡ record {
        store = record {
          store = record { cache = opens.cache; lent = (fresh sz).below };
          entries = opens.entries;
          shelf = (fresh sz).shelf;
        };
        printed = open_line opens.answer;
      }
  unfolding opened
  opened-done s none ok = rw (open_fresh none ok)

  pub opened-sizes : NoneAsked → sizes_ok sz ≡ true → opens.cache.sizes ≡ sz
  opened-sizes none ok = ap (λ (o : ShelfOpened). o.cache.sizes) (open_fresh none ok)

  -- beyond them, it is refused
  pub opened-refused : (s : ShelfStore) → sizes_ok sz ≡ false → opened s sz ≡ only s (open_line (refused 1 vacant))
  unfolding opened
  opened-refused s e = rw (open_size sz (fresh sz).below (fresh sz).shelf e)

  -- buffers of the right lengths, filled
  pub fresh-is : (u : Lent) → Fits store_format sz u.below → (flash wear pspace bspace : List ℕ)
      → flash ≡ replicate (length u.below.flash) 255 → wear ≡ replicate (length u.below.wear) 0
      → pspace ≡ replicate (length u.below.pspace) 0 → bspace ≡ replicate (length u.below.bspace) 0
      → plain_lent flash wear pspace bspace ≡ fresh sz
  unfolding fresh
  fresh-is u h flash wear pspace bspace f w p b =
      let f' : flash ≡ replicate (sz.N * sz.K * sz.S) 255 = f ∙ ap (λ (k : ℕ). replicate {A = ℕ} k 255) h.flash-length in
      let w' : wear ≡ replicate sz.N 0 = w ∙ ap (λ (k : ℕ). replicate {A = ℕ} k 0) h.wear-length in
      let p' : pspace ≡ replicate (sz.P * sz.S) 0 = p ∙ ap (λ (k : ℕ). replicate {A = ℕ} k 0) h.pspace-length in
      let b' : bspace ≡ replicate (sz.B * sz.K * sz.S) 0 = b ∙ ap (λ (k : ℕ). replicate {A = ℕ} k 0) h.bspace-length in
      λ i. plain_lent (f' i) (w' i) (p' i) (b' i)

  module _ (old out : List ℕ) (k : ℕ) (u : Lent) where
    pub refused-carries : (c : Cache) → sizes_ok sz ≡ false → Printed line_room (open_line (refused 1 vacant)) old 0 out k
        → Carries (opened (store_of c u) sz) (record { cache = c; printed = k }) u out
    refused-carries c e p = rw (opened-refused (store_of c u) e) (carries {room = line_room} (omega arith) refl p)

    pub open_carries : (s : ShelfStore) → NoneAsked → sizes_ok sz ≡ true → u ≡ fresh sz → (r : Opened)
        → opened_of r ≡ store_open sz u.below u.shelf
        → Printed line_room (open_line (opening_of r.answer)) old 0 out k
        → Carries (opened s sz) (record { cache = r.cache; printed = k }) u out
    open_carries s none ok f r e p =
        let e' : opened_of r ≡ opens = e ∙ ap (λ (v : Lent). store_open sz v.below v.shelf) f in
        rw (opened-done s none ok) (carries {room = line_room} (omega arith)
        (λ i. record { store = record { cache = (e' i).cache; lent = (f i).below }; entries = (e' i).entries; shelf = (f i).shelf })
        (printed-as {q = line_room} {r = line_room} (omega arith) (ap (λ (o : ShelfOpened). open_line o.answer) e') p))
