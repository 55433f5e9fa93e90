-- The store's own buffers at the front of the program's memory.
use mathlib.Core.Path.{◌≡◌, refl, sym, ap, ◌∙◌, subst}
use mathlib.Core.Bool.{true}
use mathlib.Core.List.{List, ◌++◌}
use Prim.Native.Nat.{ℕ, ◌*◌, ◌≤◌}
use native.Mathlib.Omega.{arith}
use lib.ListN.{length, take}
use lib.Seq.{take_at, length-take-le}
use borrow.Author.Tests.{leb-true}
use Rattle.prelude.proofs.Tests.{by-test, each}
use Rattle.model.specs.Sizes as model
use Rattle.model.specs.Sizes.{sizes_ok}
use Rattle.model.specs.Policy.{policy_choice}
use Rattle.model.specs.Formats.{store_format}
use Rattle.model.specs.Shelf.{ShelfStore}
use Rattle.model.proofs.Shelf.{sizes-stay}
use Rattle.model.proofs.Soundness.{limits_of}
use Rattle.print.specs.Print.{wear_room}
use Rattle.script.specs.Forms as form
use Rattle.script.specs.Forms.{buffers_fit}
use Rattle.cache.specs.View.{sizes_of}
use Rattle.store.specs.declared.Cache.{Cache}
use Rattle.store.specs.View.{Lent, plain_lent, store_of}
use Rattle.interpret.specs.declared.memory.Parts.{Parts}
use Rattle.perform.specs.declared.Lined.{Lined}
use Rattle.perform.specs.Effects.{Effect, opened, written, was_read, stepped, flushed}
use Rattle.perform.specs.View.{Carries}
use Rattle.perform.proofs.Opening.{none-asked, opened-done, opened-sizes, opened-refused}
use Rattle.interpret.specs.Lines.{carried, sizes_after}
use Rattle.interpret.specs.View.{Held, PartsOf, front, Sized, InSizes, CarriedOut}

-- ---- what a form asks of the buffers lent

-- ---- the sizes after a line

held-open : (sz : model.Sizes) → Sized (form.opens sz) → sizes_ok sz ≡ true → Held sz
unfolding buffers_fit
held-open sz k ok =
    let h = limits_of sz ok in let q = each _ (k.2 ok) in
    record {
      no-codes = k.0;
      no-marks = k.1;
      no-shelf = k.3;
      S_high = h.S_high;
      K_high = h.K_high;
      N_high = h.N_high;
      B_high = h.B_high;
      flash-high = leb-true _ _ q.0;
      pspace-high = leb-true _ _ q.1.0;
      bspace-high = leb-true _ _ q.1.1.0;
    }

pub held_after : (old : model.Sizes) (f : form.Form) → Held old → Sized f → Held (sizes_after old f)
held_after old (form.opens sz) h k = by-test (sizes_ok sz) (λ t. rw t (held-open sz k t)) (λ t. rw t h)
held_after old (form.writes n b) h k = h
held_after old (form.reads n) h k = h
held_after old form.steps h k = h
held_after old form.flushes h k = h
held_after old form.wears h k = h
held_after old form.bad h k = h

pub held-as : (old sz : model.Sizes) (f : form.Form) → sz ≡ sizes_after old f → Held old → Sized f → Held sz
held-as old sz f e h k = subst Held (sym e) (held_after old f h k)

opened-keeps : (s : ShelfStore) (sz : model.Sizes) → Sized (form.opens sz) → (opened s sz).store.store.cache.sizes
    ≡ sizes_after s.store.cache.sizes (form.opens sz)
opened-keeps s sz k = let none = none-asked sz k.0 k.1 k.3 in
    by-test (sizes_ok sz) (λ t. ap (λ (e : Effect). e.store.store.cache.sizes) (opened-done sz s none t)
    ∙ opened-sizes sz none t ∙ rw t)
    (λ t. ap (λ (e : Effect). e.store.store.cache.sizes) (opened-refused sz s t) ∙ rw t)

carried-sizes : (s : ShelfStore) (f : form.Form) (n : ℕ) → Sized f
    → (carried s f n).store.store.cache.sizes ≡ sizes_after s.store.cache.sizes f
unfolding written was_read stepped flushed
carried-sizes s (form.opens sz) n k = opened-keeps s sz k
carried-sizes s (form.writes m b) n k = sizes-stay store_format policy_choice _ s _
carried-sizes s (form.reads m) n k = sizes-stay store_format policy_choice _ s _
carried-sizes s form.steps n k = sizes-stay store_format policy_choice _ s _
carried-sizes s form.flushes n k = sizes-stay store_format policy_choice _ s _
carried-sizes s form.wears n k = refl
carried-sizes s form.bad n k = refl

-- ---- the buffers in the memory

-- an accepted opening does not ask what was there
carried-front : (c : Cache) (f : form.Form) (n : ℕ) → Sized f → (flash wear pspace bspace : List ℕ)
    → carried (store_of c (front (sizes_after (sizes_of c.sizes) f) flash wear pspace bspace)) f n
    ≡ carried (store_of c (front (sizes_of c.sizes) flash wear pspace bspace)) f n
carried-front c (form.opens sz) n k flash wear pspace bspace =
    let none = none-asked sz k.0 k.1 k.3 in by-test (sizes_ok sz) (λ t. opened-done sz _ none t ∙ sym (opened-done sz _ none t))
    (λ t. rw t)
carried-front c (form.writes m b) n k flash wear pspace bspace = refl
carried-front c (form.reads m) n k flash wear pspace bspace = refl
carried-front c form.steps n k flash wear pspace bspace = refl
carried-front c form.flushes n k flash wear pspace bspace = refl
carried-front c form.wears n k flash wear pspace bspace = refl
carried-front c form.bad n k flash wear pspace bspace = refl

pub front-le : {A : Type 0} (k n : ℕ) (l : List A) → length l ≡ n → k ≤ n → k ≤ length l
front-le k n l e h = omega arith

pub front_long : {A : Type 0} (k n : ℕ) (l : List A) → length l ≡ n → k ≤ n → k ≡ length (take k l)
front_long k n l e h = sym (length-take-le k l (front-le k n l e h))

-- the parts are within the memory
pub record Within (p : Parts) : Type 0 where
  pub flash-within : p.flash ≤ 32768
  pub wear-within : p.wear ≤ 4096
  pub pspace-within : p.pspace ≤ 32768
  pub bspace-within : p.bspace ≤ 32768
  pub page-within : p.page ≤ 2048

module _ (sz : model.Sizes) (p : Parts) (q : PartsOf sz p) where
  pub parts_within : Held sz → Within p
  parts_within h = record {
    flash-within = omega arith;
    wear-within = omega arith;
    pspace-within = omega arith;
    bspace-within = omega arith;
    page-within = omega arith;
  }

  module _ (flash wear pspace bspace : List ℕ) where
    parts-front : plain_lent (take p.flash flash) (take p.wear wear) (take p.pspace pspace) (take p.bspace bspace)
        ≡ front sz flash wear pspace bspace
    parts-front = λ i. plain_lent (take (q.flash-is i) flash) (take (q.wear-is i) wear) (take (q.pspace-is i) pspace)
        (take (q.bspace-is i) bspace)

    pub lent-parts : (sz' : model.Sizes) → sz ≡ sz' → (page out : List ℕ) → Held sz → Within p → length flash ≡ 32768 → length wear ≡ 4096
        → length pspace ≡ 32768 → length bspace ≡ 32768 → length page ≡ 2048 → wear_room 4096 ≤ length out
        → InSizes sz' (plain_lent (take p.flash flash) (take p.wear wear) (take p.pspace pspace) (take p.bspace bspace))
        (take p.page page) out
    lent-parts sz' z page out held w fl wl pl bl gl ol =
        let e = length-take-le p.wear wear (omega arith) in
        subst (λ (m : model.Sizes). InSizes m (plain_lent (take p.flash flash) (take p.wear wear) (take p.pspace pspace)
        (take p.bspace bspace)) (take p.page page) out) z (record {
          fits = record {
            flash-length = length-take-le p.flash flash (omega arith) ∙ q.flash-is;
            codes-length = rw held.no-codes (omega arith);
            marks-length = rw held.no-marks (omega arith);
            wear-length = e ∙ q.wear-is;
            pspace-length = length-take-le p.pspace pspace (omega arith) ∙ q.pspace-is;
            bspace-length = length-take-le p.bspace bspace (omega arith) ∙ q.bspace-is;
          };
          no-shelf = held.no-shelf;
          page-length = length-take-le p.page page (omega arith) ∙ q.page-is;
          wear-room = omega arith;
          room = omega arith;
        })

    -- parts put back at the front
    module _ (x y v w : List ℕ) (xl : length x ≡ p.flash) (yl : length y ≡ p.wear) (vl : length v ≡ p.pspace)
        (wl : length w ≡ p.bspace) where
      put_back : (a b d e : List ℕ) → front sz (x ++ a) (y ++ b) (v ++ d) (w ++ e) ≡ plain_lent x y v w
      put_back a b d e =
          let f : take (sz.N * sz.K * sz.S) (x ++ a) ≡ x = take_at x a _ (xl ∙ q.flash-is) in
          let g : take sz.N (y ++ b) ≡ y = take_at y b _ (yl ∙ q.wear-is) in
          let h : take (sz.P * sz.S) (v ++ d) ≡ v = take_at v d _ (vl ∙ q.pspace-is) in
          let k : take (sz.B * sz.K * sz.S) (w ++ e) ≡ w = take_at w e _ (wl ∙ q.bspace-is) in
          λ i. plain_lent (f i) (g i) (h i) (k i)

      -- what was done to the parts is done to the memory
      pub line-carried : (c : Cache) (f : form.Form) (n : ℕ) → Sized f → sz ≡ sizes_after (sizes_of c.sizes) f → Held sz
          → (a b d e : List ℕ) (r : Lined) (out : List ℕ)
          → Carries (carried (store_of c (plain_lent (take p.flash flash) (take p.wear wear) (take p.pspace pspace)
          (take p.bspace bspace))) f n) r (plain_lent x y v w) out
          → CarriedOut (carried (store_of c (front (sizes_of c.sizes) flash wear pspace bspace)) f n) r (x ++ a) (y ++ b) (v ++ d)
          (w ++ e) out
      line-carried c f n k z held a b d e r out h =
          let effect : carried (store_of c (plain_lent (take p.flash flash) (take p.wear wear) (take p.pspace pspace)
          (take p.bspace bspace))) f n ≡ carried (store_of c (front (sizes_of c.sizes) flash wear pspace bspace)) f n =
          ap (λ (u : Lent). carried (store_of c u) f n) parts-front
          ∙ ap (λ (m : model.Sizes). carried (store_of c (front m flash wear pspace bspace)) f n) z
          ∙ carried-front c f n k flash wear pspace bspace in
          let sizes : sizes_of r.cache.sizes ≡ sz =
          ap (λ (m : Effect). m.store.store.cache.sizes) h.effect ∙ carried-sizes
          (store_of c (plain_lent (take p.flash flash) (take p.wear wear) (take p.pspace pspace) (take p.bspace bspace))) f n k
          ∙ sym z in
          let back : front (sizes_of r.cache.sizes) (x ++ a) (y ++ b) (v ++ d) (w ++ e) ≡ plain_lent x y v w =
          ap (λ (m : model.Sizes). front m (x ++ a) (y ++ b) (v ++ d) (w ++ e)) sizes ∙ put_back a b d e in
          record {
            carries = subst (λ (u : Lent). Carries (carried (store_of c (front (sizes_of c.sizes) flash wear pspace bspace)) f n) r u
                out) (sym back)
                (subst (λ (m : Effect). Carries m r (plain_lent x y v w) out) effect h);
            held = subst Held (sym sizes) held;
          }
