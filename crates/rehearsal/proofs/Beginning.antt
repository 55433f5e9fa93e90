-- Settings in their ranges, and the store as a rehearsal begins.
use mathlib.Core.Path.{◌≡◌, refl, ap, ◌∙◌}
use mathlib.Core.Bool.{true}
use mathlib.Core.List.{List}
use Prim.Native.Nat.{ℕ, ◌≤◌}
use native.Mathlib.Nat.{mul-le-mul}
use native.Mathlib.Omega.{arith}
use lib.ListN.{length, replicate}
use borrow.Author.Tests.{leb-true}
use Rattle.prelude.proofs.Tests.{and_l, and_r, each}
use Rattle.model.specs.Sizes.{Sizes, InLimits, sizes_ok}
use Rattle.model.specs.Shelf.{ShelfStore, store_open}
use Rattle.model.proofs.Soundness.{limits_of}
use Rattle.model.proofs.Plain.{uncoded, unmarked}
use Rattle.script.specs.Forms.{buffers_fit}
use Rattle.store.specs.View.{Opened, Lent, plain_lent, opened_of, store_of}
use Rattle.perform.specs.Effects.{fresh}
use Rattle.perform.proofs.Opening.{NoneAsked, none-asked, fresh-is, opened-sizes}
use Rattle.rehearsal.specs.declared.Setting.{Setting}
use Rattle.rehearsal.specs.Class.{Scene, scene, store_sizes, setting_ok, class_ok, blank_class, opened_store, begun, rehearsed}
use Rattle.rehearsal.specs.Ready.{Ready, Roomy, Lengths}

module _ (z : Setting) (ok : setting_ok z ≡ true) where
  pub sizes-fit : sizes_ok (store_sizes z) ≡ true
  unfolding setting_ok
  sizes-fit = and_l (sizes_ok (store_sizes z)) _ ok

  limits : InLimits (store_sizes z)
  limits = limits_of (store_sizes z) sizes-fit

  pub ready : Ready z
  unfolding setting_ok class_ok
  ready =
      let t = each _ (and_r (buffers_fit (store_sizes z)) _ (and_r (sizes_ok (store_sizes z)) _ ok)) in
      let l = limits in
      let n = l.N_low in
      let k = l.K_low in
      let p = mul-le-mul l.N_low k in
      let q = mul-le-mul l.N_high l.K_high in
      record {
        b_low = leb-true 1 z.benches t.0;
        b_high = leb-true z.benches 16 t.1.0;
        t_high = leb-true z.turns 1024 t.1.1.0;
        p_low = omega arith;
        p_high = omega arith;
      }

  pub roomy : Roomy (store_sizes z)
  unfolding setting_ok buffers_fit
  roomy =
      let t = each _ (and_l (buffers_fit (store_sizes z)) _ (and_r (sizes_ok (store_sizes z)) _ ok)) in
      let l = limits in
      record {
        S_high = l.S_high;
        K_high = l.K_high;
        N_high = l.N_high;
        P_high = l.P_high;
        B_high = l.B_high;
        flash-high = leb-true _ _ t.0;
        pspace-high = leb-true _ _ t.1.0;
        bspace-high = leb-true _ _ t.1.1.0;
      }

  pub K_few : (store_sizes z).K ≤ 64
  K_few = limits.K_high

  pub N_few : (store_sizes z).N ≤ 4096
  N_few = limits.N_high

  none : NoneAsked (store_sizes z)
  none = none-asked (store_sizes z) (uncoded (store_sizes z) refl) (unmarked (store_sizes z) refl) refl

  pub opened-as : (opened_store (store_sizes z)).store.cache.sizes ≡ store_sizes z
  unfolding opened_store
  opened-as = opened-sizes (store_sizes z) none sizes-fit

  -- buffers of these lengths, filled, are those of the script program's opening
  pub filled : (flash wear pspace bspace page : List ℕ) → Lengths (store_sizes z) (length flash) (length wear) (length pspace)
      (length bspace) (length page)
      → (flash' wear' pspace' bspace' : List ℕ)
      → flash' ≡ replicate (length flash) 255 → wear' ≡ replicate (length wear) 0
      → pspace' ≡ replicate (length pspace) 0 → bspace' ≡ replicate (length bspace) 0
      → plain_lent flash' wear' pspace' bspace' ≡ fresh (store_sizes z)
  filled flash wear pspace bspace page l flash' wear' pspace' bspace' f w p b =
      fresh-is (store_sizes z) (plain_lent flash wear pspace bspace) (record {
        flash-length = l.flash-is;
        codes-length = none.0;
        marks-length = none.1;
        wear-length = l.wear-is;
        pspace-length = l.pspace-is;
        bspace-length = l.bspace-is;
      }) flash' wear' pspace' bspace' f w p b

  -- the store that an opening on them leaves
  pub opened-on : (u : Lent) → u ≡ fresh (store_sizes z) → (sz : Sizes) → sz ≡ store_sizes z → (r : Opened)
      → opened_of r ≡ store_open sz u.below u.shelf → store_of r.cache u ≡ opened_store (store_sizes z)
  unfolding opened_store
  opened-on u f sz g r e =
      let e' : opened_of r ≡ store_open (store_sizes z) (fresh (store_sizes z)).below (fresh (store_sizes z)).shelf = e
      ∙ ap (λ (y : Sizes). store_open y u.below u.shelf) g
      ∙ ap (λ (v : Lent). store_open (store_sizes z) v.below v.shelf) f in
      λ i. record { store = record { cache = (e' i).cache; lent = (f i).below }; entries = (e' i).entries; shelf = (f i).shelf }

  -- has blocks of at most 64 pages
  pub opened-few : (s : ShelfStore) → s ≡ opened_store (store_sizes z) → s.store.cache.sizes.K ≤ 64
  opened-few s e = rw (e, opened-as) K_few

  -- and all turns on it are the rehearsal's
  pub tallied : (m : Scene) (s : ShelfStore) → m ≡ rehearsed z z.turns (scene (blank_class z.state) s)
      → s ≡ opened_store (store_sizes z) → m.class.tallies ≡ (rehearsed z z.turns (begun z)).class.tallies
  unfolding begun
  tallied m s e f = rw (e, f)
