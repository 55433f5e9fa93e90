-- Taking back undoes a write, in every list of calls.
use mathlib.Core.Path.{◌≡◌, refl, sym, ap, ◌∙◌}
use mathlib.Core.Bool.{true, false}
use mathlib.Core.List.{List, [], ◌∷◌}
use Prim.Native.Nat.{ℕ, ◌-◌, ◌*◌, ◌≤◌, ◌<◌}
use native.Mathlib.Omega.{arith}
use lib.Dec.{ltb}
use lib.ListN.{length, get_or}
use borrow.Author.Tests.{ltb-true, ltb-false, eq-eqb}
use Rattle.prelude.specs.Pages.{pages_of}
use Rattle.prelude.proofs.Tests.{by-test, clash}
use Rattle.prelude.proofs.Tab.{length-tab}
use Rattle.model.specs.Sizes.{Sizes, vacant, InLimits}
use Rattle.model.specs.Calls.{is_refused, step, Cell, Format, Buffers, Page, flash_cells, open_store, open_done, page_seen, Outcome}
use Rattle.model.specs.Lists.{array_after, no_cell, flipped, Borne, Bears, Picks, fed}
use Rattle.model.specs.Shelf.{shelved, ShelfCall, plainly, back, is_back, meant, shelves, ShelfStore, ShelfReference}
use Rattle.model.specs.Shelf.{ShelfChosen, no_entries, shelf_opened, shelf_book_says, shelf_fed, shelf_flipped, ShelfStep}
use Rattle.model.specs.Undo.{made, beside_it, UndoneBy, ShelfUndoes}
use Rattle.model.proofs.Soundness.{limits_of}
use Rattle.model.proofs.Opening.{open_accepted}
use Rattle.model.proofs.Shelf.{run-shelved, shelved-lt, Shelves, AllShelfPick, shelf-step, taken_back, shelves-opened}

is-back : (c : ShelfCall) → is_back c ≡ true → c ≡ back
is-back (plainly c) e = clash e refl
is-back back e = refl

writes-on : (c : ShelfCall) → ltb (shelves c) vacant ≡ true → is_back c ≡ false
writes-on (plainly c) t = refl
writes-on back t = clash t refl

module _ (fmt : Format) (Matched : Sizes → Cell → Type 0) (Near : Sizes → Cell → Cell → Type 0) (sz : Sizes)
    (laws : Bears fmt Matched Near sz) (u : Buffers) (limits : InLimits sz) (h : ℕ) (h_le : h ≤ 8) where
  abbrev Holding : ShelfStore → ShelfReference → Type 0
  Holding = Shelves fmt Matched Near sz laws u limits h h_le

  abbrev Stepped : ShelfStore → ShelfReference → ShelfChosen → Type 0
  Stepped s r t = ShelfStep fmt Near sz h u s r t Holding

  -- the shelf has h pages
  shelf-long : (s : ShelfStore) (r : ShelfReference) → Holding s r → length r.shelf ≡ h
  unfolding pages_of
  shelf-long s r x = ap length (sym x.shelf-are) ∙ length-tab h _

  -- what the book says of an accepted call
  book-accepts : (s : ShelfStore) (r : ShelfReference) (t : ShelfChosen) → Stepped s r t → is_refused (made fmt Near sz h s t).answer
      ≡ false
      → is_refused (shelf_book_says sz h r t (made fmt Near sz h s t).answer).answer ≡ false
  book-accepts s r t st ok = ap is_refused (sym st.answers) ∙ ok

  -- the page that it shelves
  page-lt : (r : ShelfReference) (t : ShelfChosen) (w : ltb (shelves t.call) vacant ≡ true) (a : _)
      → is_refused (shelf_book_says sz h r t a).answer ≡ false → shelves t.call < sz.N * sz.K
  unfolding shelf_book_says
  page-lt r t w a = rw (writes-on t.call w, shelf_book_says) (λ q. shelved-lt sz t.choice r.reference.book r.entries r.shelf
      t.call _ q w)

  -- taking back is refused where there is no shelf page
  some-pages : (s : ShelfStore) (r : ShelfReference) → Holding s r → (t : ShelfChosen) → is_back t.call ≡ true → (a : _)
      → is_refused (shelf_book_says sz h r t a).answer ≡ false → 0 < h
  unfolding shelf_book_says
  some-pages s r x t e a = by-test (ltb 0 h) (λ p q. ltb-true 0 h p)
      (λ p. let z = ltb-false 0 h p in let k = x.run.k_le in
      let none : shelved r.entries ≡ 0 = run-shelved sz limits h h_le _ _ x.run ∙ omega arith in
      rw (e, eq-eqb _ 0 none, shelf_book_says) (λ q. clash refl q))

  module _ (s : ShelfStore) (r : ShelfReference) (x : Holding s r) (t : ShelfChosen) (p : Picks t.choice) (fl cd : List ℕ)
      (b : Borne fmt Near sz r.reference (flipped s.store fl cd).lent) (w : ltb (shelves t.call) vacant ≡ true)
      (ok : is_refused (made fmt Near sz h (shelf_flipped s fl cd) t).answer ≡ false) where
    abbrev s₀ : ShelfStore
    s₀ = shelf_flipped s fl cd

    abbrev s₁ : ShelfStore
    s₁ = (made fmt Near sz h s₀ t).store

    abbrev r₁ : ShelfReference
    r₁ = beside_it fmt Near sz h s₀ r t

    one : Stepped s₀ r t
    one = shelf-step fmt Matched Near sz laws u limits h h_le s r x t p fl cd b

    module _ (t' : ShelfChosen) (p' : Picks t'.choice) (fl₁ cd₁ : List ℕ)
        (b₁ : Borne fmt Near sz r₁.reference (flipped s₁.store fl₁ cd₁).lent) (e : is_back t'.call ≡ true)
        (ok' : is_refused (made fmt Near sz h (shelf_flipped s₁ fl₁ cd₁) t').answer ≡ false) where
      abbrev s₂ : ShelfStore
      s₂ = (made fmt Near sz h (shelf_flipped s₁ fl₁ cd₁) t').store

      abbrev r₂ : ShelfReference
      r₂ = beside_it fmt Near sz h (shelf_flipped s₁ fl₁ cd₁) r₁ t'

      two : Stepped (shelf_flipped s₁ fl₁ cd₁) r₁ t'
      two = shelf-step fmt Matched Near sz laws u limits h h_le s₁ r₁ one.then t' p' fl₁ cd₁ b₁

      said : is_refused (shelf_book_says sz h r t (made fmt Near sz h s₀ t).answer).answer ≡ false
      said = book-accepts s₀ r t one ok

      said' : is_refused (shelf_book_says sz h r₁ t' (made fmt Near sz h (shelf_flipped s₁ fl₁ cd₁) t').answer).answer ≡ false
      said' = book-accepts (shelf_flipped s₁ fl₁ cd₁) r₁ t' two ok'

      abbrev o : Outcome
      o = shelf_book_says sz h r t (made fmt Near sz h s₀ t).answer

      abbrev o' : Outcome
      o' = shelf_book_says sz h r₁ t' (made fmt Near sz h (shelf_flipped s₁ fl₁ cd₁) t').answer

      array_back : r₂.reference.array ≡ r.reference.array
      unfolding shelf_fed fed
      array_back = ap (λ (c : ShelfCall). array_after r₁.reference.array (meant r₁.entries r₁.shelf c) (is_refused o'.answer))
          (is-back t'.call e)
          ∙ taken_back sz limits h h_le (some-pages s₁ r₁ one.then t' e _ said') r x.count x.run (shelf-long s r x) t.call
          (page-lt r t w _ said) t.choice t'.choice o o' said said' (flash_cells fmt sz s₁.store.lent)
          (flash_cells fmt sz s₂.store.lent)

      -- every page is seen as the array has it, before and after
      seen-again : (fl₂ cd₂ : List ℕ) → Borne fmt Near sz r₂.reference (flipped s₂.store fl₂ cd₂).lent → (n : ℕ) → n < sz.N * sz.K
          → page_seen fmt (flipped s₂.store fl₂ cd₂) n ≡ page_seen fmt s₀.store n
      seen-again fl₂ cd₂ b₂ n l =
          let after : ShelfStep fmt Near sz h u (shelf_flipped s₂ fl₂ cd₂) r₂ (record { choice = t.choice; call = plainly step }) Holding =
          shelf-step fmt Matched Near sz laws u limits h h_le s₂ r₂ two.then
          (record { choice = t.choice; call = plainly step }) p fl₂ cd₂
          b₂ in
          after.shows n l ∙ ap (λ (a : List Page). get_or a n []) array_back ∙ sym (one.shows n l)

    undone-by : (cs : List ShelfChosen) → AllShelfPick cs → UndoneBy fmt Near sz h s₀ r s₁ r₁ cs
    undone-by [] q = tt
    undone-by (t' ∷ cs) q = λ fl₁ cd₁ b₁ e ok'. record {
      array-is = array_back t' q.0 fl₁ cd₁ b₁ e ok';
      shows = seen-again t' q.0 fl₁ cd₁ b₁ e ok';
    }

  undoes : (cs : List ShelfChosen) → AllShelfPick cs → (s : ShelfStore) (r : ShelfReference) → Holding s r
      → ShelfUndoes fmt Near sz h cs s r
  undoes [] q s r x = tt
  undoes (t ∷ cs) q s r x = λ fl cd b. record {
    undone = λ w ok. undone-by s r x t q.0 fl cd b w ok cs q.1;
    then = undoes cs q.1 _ _ (shelf-step fmt Matched Near sz laws u limits h h_le s r x t q.0 fl cd b).then;
  }

-- from an accepted opening of a store whose codes match; h is 0 to 8
pub shelf-undoes : (fmt : Format) (Matched : Sizes → Cell → Type 0) (Near : Sizes → Cell → Cell → Type 0) (sz : Sizes)
    → Bears fmt Matched Near sz → (u : Buffers) → (open_store fmt sz u).answer ≡ open_done
    → ((n : ℕ) → n < sz.N * sz.K → Matched sz (get_or (flash_cells fmt sz u) n no_cell))
    → (h : ℕ) → h ≤ 8 → (shelf : List ℕ) → length shelf ≡ h * sz.S → (cs : List ShelfChosen) → AllShelfPick cs
    → ShelfUndoes fmt Near sz h cs (record {
      store = record { cache = (open_store fmt sz u).cache; lent = u };
      entries = no_entries;
      shelf = shelf;
    })
    (shelf_opened fmt sz h u shelf)
shelf-undoes fmt Matched Near sz laws u acc ok h hl shelf sl cs p = let a = open_accepted fmt sz u acc in
    let limits = limits_of sz a.sizes-ok in
    undoes fmt Matched Near sz laws u limits h hl cs p _ _ (shelves-opened fmt Matched Near sz laws u limits h hl a ok shelf sl)
