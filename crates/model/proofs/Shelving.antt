-- A call of the store by its entries and its shelf: where they do not fit it is refused 4 or 2; where they do it is the call below, with
-- entries and shelf after it.
use mathlib.Core.Path.{◌≡◌, refl, sym, ap, ◌∙◌}
use mathlib.Core.Bool.{Bool, true, false, cond, ◌&&◌}
use mathlib.Core.List.{List, [], ◌∷◌}
use Prim.Native.Nat.{ℕ, suc, ◌-◌, ◌*◌, ◌<◌}
use native.Mathlib.Omega.{arith}
use lib.Dec.{ltb, eqb}
use lib.ListN.{length, get_or, set, get_or-replicate}
use borrow.Author.Tests.{eqb-true, leb-true, ltb-false, le-ltb, eq-eqb, ne_eqb}
use Rattle.prelude.specs.Tests.{every}
use Rattle.prelude.specs.Scan.{first_from, first, all}
use Rattle.prelude.specs.Pages.{flat}
use Rattle.prelude.proofs.Tests.{by-test, clash, and_l, and_r, and-not_l, each, fails}
use Rattle.prelude.proofs.Scan.{all-at, all_of}
use Rattle.prelude.proofs.Tab.{tab-ext, tab-list}
use Rattle.prelude.proofs.Pages.{flat-pages}
use Rattle.model.specs.Sizes.{Sizes, vacant, sizes_ok}
use Rattle.model.specs.Directory.{blank_cache}
use Rattle.model.specs.Soundness.{sound}
use Rattle.model.specs.Policy.{Choice}
use Rattle.model.specs.Calls.{refused, is_refused, Call, write, Page, Format, Buffers, Result, Store, lent_ok, call_reading}
use Rattle.model.specs.Calls.{call, open_store, open_done, page_seen, reads_page, unaltered}
use Rattle.model.specs.Formats.{store_format}
use Rattle.model.specs.Shelf.{no_entries, all_vacant, shelved, shelve, shelf_ok, shelf_fits, ShelfCall, plainly, back, is_back, meant}
use Rattle.model.specs.Shelf.{shelves, entries_after, shelf_after, ShelfStore, ShelfResult, pages_of_shelf, ShelfOpened, open_shelf}
use Rattle.model.specs.Shelf.{shelving_reads, ordinary, buffer_of, lent_to, shelf_call, store_open}
use Rattle.model.proofs.Demand3.{get_d_any}
use Rattle.model.proofs.Opening.{open_accepted}

-- ---- entries

pub vacant-are : (es : List ℕ) → length es ≡ 8 → all_vacant es ≡ true → es ≡ no_entries
vacant-are es long h = sym (tab-list 0 8 es long)
    ∙ tab-ext 0 8 _ _ (λ i l. eqb-true _ vacant (all-at 8 _ h i l) ∙ sym (get_or-replicate 8 i vacant 0 l)) ∙ tab-list 0 8 no_entries refl

-- with no shelf page, entries that are sound are vacant
entries-vacant : (sz : Sizes) (es : List ℕ) → shelf_ok sz 0 es ≡ true → all_vacant es ≡ true
unfolding shelf_ok
entries-vacant sz es h =
    let e = each _ h in
    let none = leb-true (shelved es) 0 e.1.0 in
    let long = eqb-true (length es) 8 e.0 in
    let rule : (i : ℕ) → i < 8 → eqb (get_or es i 0) vacant ≡ true = λ i l. ap (λ (x : ℕ). eqb x vacant) (get_d_any es i 0 vacant
    (omega arith))
    ∙ (rw (le-ltb i (shelved es) (omega arith)) at (all-at 8 _ e.1.1.0 i l)) in
    all_of 8 _ rule

none-ok : (sz : Sizes) → shelf_ok sz 0 no_entries ≡ true
unfolding shelf_ok shelved first first_from all every
none-ok sz = refl

-- and the other way round
pub vacant-ok : (sz : Sizes) (es : List ℕ) → length es ≡ 8 → shelf_ok sz 0 es ≡ all_vacant es
vacant-ok sz es long = by-test (all_vacant es) (λ v. rw v (ap (shelf_ok sz 0) (vacant-are es long v) ∙ none-ok sz))
    (λ v. rw v (fails (shelf_ok sz 0 es) (λ t. clash (entries-vacant sz es t) v)))

-- with no shelf page nothing is shelved
shelve-none : {X : Type 0} (h : ℕ) → ltb 0 h ≡ false → (none : X) (k : ℕ) (l : List X) (x : X) → shelve none h k l x ≡ l
unfolding shelve
shelve-none h z none k l x = let q = ltb-false 0 h z in
    rw (le-ltb k h (omega arith)) (tab-ext none (length l) _ _ (λ i il. rw (
      le-ltb (suc i) h (omega arith),
      ne_eqb (suc i) h (λ (e : suc i ≡ h). omega arith),
    )) ∙ tab-list none (length l) l refl)

-- the empty list
pub empty-is : {A : Type 0} (l : List A) → length l ≡ 0 → l ≡ []
empty-is [] e = refl
empty-is (x ∷ l) e = absurd (omega (arith, e))

-- ---- calls

and-f : (b : Bool) → (b && false) ≡ false
and-f true = refl
and-f false = refl

-- a conjunction fails whose second part holds
and-not_r : {a b : Bool} → b ≡ true → (a && b) ≡ false → a ≡ false
and-not_r {a} {b} t e = by-test a (λ p. clash t (rw p at e)) (λ p. p)

-- what a call below leaves, entries and shelf beside it
abbrev pub shelf_beside : Result → List ℕ → List ℕ → ShelfResult
shelf_beside r es sb = record {
  answer = r.answer;
  mends = r.mends;
  store = record { store = r.store; entries = es; shelf = sb };
  page = r.page;
}

module _ (fmt : Format) (h : ℕ) (pick : Choice) (s : Store) (es sb : List ℕ) where
  abbrev sz : Sizes
  sz = s.cache.sizes

  abbrev pub with-shelf : ShelfStore
  with-shelf = record { store = s; entries = es; shelf = sb }

  abbrev pub refused_by : ShelfCall → ℕ → ShelfResult
  refused_by c n = record { answer = refused n vacant; mends = 0; store = with-shelf; page = lent_to fmt h pick c }

  abbrev sounds : Bool
  sounds = sound s.cache.sizes s.cache.directory

  -- entries or shelf do not fit
  pub unfit : (c : ShelfCall) → shelf_fits s.cache.sizes h es (length sb) ≡ false
      → shelf_call fmt h pick with-shelf c ≡ refused_by c (cond (sounds && shelf_ok s.cache.sizes h es) 2 4)
  unfolding shelf_call
  unfit c e = by-test sounds
      (λ a. by-test (shelf_ok s.cache.sizes h es)
      (λ v. rw (a, v, shelf_call) (rw (and-not_l v e, and-f (lent_ok fmt s.cache.sizes s.lent))))
      (λ v. rw (a, v, shelf_call)))
      (λ a. rw (a, shelf_call))

  -- the call below, with entries and shelf after it
  abbrev pub called : ShelfCall → ShelfResult
  called c = let r = ordinary fmt h pick with-shelf c in record {
    answer = r.answer;
    mends = r.mends;
    store = record {
      store = r.store;
      entries = entries_after h es c (is_refused r.answer);
      shelf = flat (shelf_after h es (pages_of_shelf s.cache.sizes h sb) c (page_seen fmt s (shelves c)) (is_refused r.answer));
    };
    page = buffer_of fmt h pick c r.page;
  }

  module _ (ok : shelf_fits s.cache.sizes h es (length sb) ≡ true) where
    sound-entries : shelf_ok s.cache.sizes h es ≡ true
    sound-entries = and_l _ _ ok

    right-length : eqb (length sb) (h * s.cache.sizes.S) ≡ true
    right-length = and_r (shelf_ok s.cache.sizes h es) _ ok

    -- the shelf is its pages
    pub shelf-again : flat (pages_of_shelf s.cache.sizes h sb) ≡ sb
    shelf-again = flat-pages s.cache.sizes.S h sb (eqb-true _ _ right-length)

    -- a call that the ordinary rules refuse hands everything back
    handed_back : (c : ShelfCall) (n : ℕ)
        → ordinary fmt h pick with-shelf c ≡ unaltered (refused n vacant) s (meant es (pages_of_shelf s.cache.sizes h sb) c)
        → called c ≡ refused_by c n
    unfolding entries_after shelf_after
    handed_back (plainly c) n e = rw (e, shelf-again)
    handed_back back n e = rw (e, shelf-again)

    unsound-below : (c : ShelfCall) → sounds ≡ false
        → ordinary fmt h pick with-shelf c ≡ unaltered (refused 4 vacant) s (meant es (pages_of_shelf s.cache.sizes h sb) c)
    unfolding ordinary call_reading
    unsound-below c a = rw (a, call_reading)

    unlent_below : (c : ShelfCall) → sounds ≡ true → lent_ok fmt s.cache.sizes s.lent ≡ false
        → ordinary fmt h pick with-shelf c ≡ unaltered (refused 2 vacant) s (meant es (pages_of_shelf s.cache.sizes h sb) c)
    unfolding ordinary call_reading
    unlent_below c a b = rw (a, call_reading) (rw b)

    refused-4 : (c : ShelfCall) → sounds ≡ false → shelf_call fmt h pick with-shelf c ≡ refused_by c 4
    unfolding shelf_call
    refused-4 c a = rw (a, shelf_call)

    refused-2 : (c : ShelfCall) → sounds ≡ true → lent_ok fmt s.cache.sizes s.lent ≡ false
        → shelf_call fmt h pick with-shelf c ≡ refused_by c 2
    unfolding shelf_call
    refused-2 c a b = rw (a, sound-entries, shelf_call) (rw b)

    refused-8 : sounds ≡ true → lent_ok fmt s.cache.sizes s.lent ≡ true → eqb (shelved es) 0 ≡ true
        → shelf_call fmt h pick with-shelf back ≡ refused_by back 8
    unfolding shelf_call
    refused-8 a b e = rw (a, sound-entries, shelf_call) (rw (b, right-length) (rw e))

    accepted : (c : ShelfCall) → sounds ≡ true → lent_ok fmt s.cache.sizes s.lent ≡ true → (is_back c && eqb (shelved es) 0) ≡ false
        → shelf_call fmt h pick with-shelf c ≡ called c
    unfolding shelf_call
    accepted c a b e = rw (a, sound-entries, shelf_call) (rw (b, right-length) (rw e))

    -- entries and shelf fit, and there is an entry where one is taken back
    pub fit : (c : ShelfCall) → (is_back c && eqb (shelved es) 0) ≡ false → shelf_call fmt h pick with-shelf c ≡ called c
    fit c e = by-test sounds
        (λ a. by-test (lent_ok fmt s.cache.sizes s.lent) (λ b. accepted c a b e)
        (λ b. refused-2 c a b ∙ sym (handed_back c 2 (unlent_below c a b))))
        (λ a. refused-4 c a ∙ sym (handed_back c 4 (unsound-below c a)))

    -- taking back from an empty shelf
    pub empty : eqb (shelved es) 0 ≡ true
        → shelf_call fmt h pick with-shelf back ≡ refused_by back (cond sounds (cond (lent_ok fmt s.cache.sizes s.lent) 8 2) 4)
    empty e = by-test sounds
        (λ a. by-test (lent_ok fmt s.cache.sizes s.lent) (λ b. refused-8 a b e ∙ ap (refused_by back) (rw (a, b)))
        (λ b. refused-2 back a b ∙ ap (refused_by back) (rw (a, b))))
        (λ a. refused-4 back a ∙ ap (refused_by back) (rw a))

    -- what a call reads for the shelf: page n, if it shelves that
    pub shelving-is : (c : ShelfCall) → ltb 0 h ≡ true → ltb (shelves c) vacant ≡ true → (i : ℕ)
        → shelving_reads fmt h pick with-shelf c i ≡ reads_page s.cache.sizes s.cache.directory (shelves c) i
    unfolding shelving_reads
    shelving-is c p t i = rw (p, t)

    -- nothing is read for the shelf
    nothing_read : (c : ShelfCall) → (ltb 0 h && ltb (shelves c) vacant) ≡ false → (i : ℕ)
        → shelving_reads fmt h pick with-shelf c i ≡ false
    unfolding shelving_reads
    nothing_read c e i = by-test (ltb 0 h) (λ p. rw (p, and-not_l p e)) (λ p. rw p)

    -- the call below reads what it reads without a shelf
    below-is : (c : ShelfCall) → (ltb 0 h && ltb (shelves c) vacant) ≡ false → ordinary fmt h pick with-shelf c
        ≡ call fmt pick s (meant es (pages_of_shelf s.cache.sizes h sb) c)
    unfolding ordinary call
    below-is c e = λ j. call_reading fmt pick (λ i. nothing_read c e i j) s (meant es (pages_of_shelf s.cache.sizes h sb) c)

    entries-kept : (c : Call Page) → (ltb 0 h && ltb (shelves (plainly c)) vacant) ≡ false → (b : Bool)
        → entries_after h es (plainly c) b ≡ es
    unfolding entries_after
    entries-kept c e true = refl
    entries-kept c e false = by-test (ltb (shelves (plainly c)) vacant)
        (λ t. rw t (shelve-none h (and-not_r t e) vacant (shelved es) es (shelves (plainly c)))) (λ t. rw t)

    pages-kept : (c : Call Page) → (ltb 0 h && ltb (shelves (plainly c)) vacant) ≡ false → (x : Page) (b : Bool)
        → shelf_after h es (pages_of_shelf s.cache.sizes h sb) (plainly c) x b ≡ pages_of_shelf s.cache.sizes h sb
    unfolding shelf_after
    pages-kept c e x true = refl
    pages-kept c e x false = by-test (ltb (shelves (plainly c)) vacant)
        (λ t. rw t (shelve-none h (and-not_r t e) [] (shelved es) (pages_of_shelf s.cache.sizes h sb) x)) (λ t. rw t)

    -- A call that shelves nothing, or one of a store without shelf pages, is the call below.
    pub plain-call : (c : Call Page) → (ltb 0 h && ltb (shelves (plainly c)) vacant) ≡ false
        → shelf_call fmt h pick with-shelf (plainly c) ≡ shelf_beside (call fmt pick s c) es sb
    plain-call c e = fit (plainly c) refl ∙ (λ i. shelf_beside (ordinary fmt h pick with-shelf (plainly c))
        (entries-kept c e (is_refused (ordinary fmt h pick with-shelf (plainly c)).answer) i)
        ((ap flat (pages-kept c e (page_seen fmt s (shelves (plainly c))) (is_refused (ordinary fmt h pick with-shelf (plainly c)).answer))
        ∙ shelf-again) i)) ∙ ap (λ (r : Result). shelf_beside r es sb) (below-is (plainly c) e)

    -- A call of a store with shelf pages that shelves page n: it reads n besides, and where it is accepted entries and shelf have n, and
    -- what was seen there, more.
    pub shelving-call : (c : Call Page) → ltb 0 h ≡ true → ltb (shelves (plainly c)) vacant ≡ true → (r : Result)
        → r ≡ call_reading fmt pick (shelving_reads fmt h pick with-shelf (plainly c)) s c → (es' sb' : List ℕ)
        → es' ≡ cond (is_refused r.answer) es (shelve vacant h (shelved es) es (shelves (plainly c)))
        → length sb' ≡ length sb
        → pages_of_shelf s.cache.sizes h sb' ≡ cond (is_refused r.answer) (pages_of_shelf s.cache.sizes h sb)
        (shelve [] h (shelved es) (pages_of_shelf s.cache.sizes h sb) (page_seen fmt s (shelves (plainly c))))
        → shelf_beside r es' sb' ≡ shelf_call fmt h pick with-shelf (plainly c)
    unfolding ordinary entries_after shelf_after
    shelving-call c p t r e es' sb' f l g =
        let is : sb' ≡ flat (pages_of_shelf s.cache.sizes h sb') = sym (flat-pages s.cache.sizes.S h sb' (l
        ∙ eqb-true _ _ right-length)) in
        let entries : es' ≡ entries_after h es (plainly c) (is_refused r.answer) =
        f ∙ by-test (is_refused r.answer) (λ q. rw q) (λ q. rw (q, t)) in
        let pages : sb' ≡ flat (shelf_after h es (pages_of_shelf s.cache.sizes h sb) (plainly c) (page_seen fmt s (shelves (plainly c)))
        (is_refused r.answer)) = is ∙ ap flat (g ∙ by-test (is_refused r.answer) (λ q. rw q) (λ q. rw (q, t))) in
        (λ i. shelf_beside r (entries i) (pages i)) ∙ ap (λ (x : Result). shelf_beside x (entries_after h es (plainly c) (is_refused
        x.answer))
        (flat (shelf_after h es (pages_of_shelf s.cache.sizes h sb) (plainly c) (page_seen fmt s (shelves (plainly c)))
        (is_refused x.answer)))) e ∙ sym (fit (plainly c) refl)

    -- Taking back: the latest shelved page is written as below, and where that is accepted its entry is vacant.
    pub back-call : eqb (shelved es) 0 ≡ false → (r : Result)
        → r ≡ call fmt pick s (write (get_or es (shelved es - 1) vacant) (get_or (pages_of_shelf s.cache.sizes h sb) (shelved es - 1) []))
        → (es' : List ℕ) → es' ≡ cond (is_refused r.answer) es (set es (shelved es - 1) vacant)
        → record { answer = r.answer; mends = r.mends; store = record { store = r.store; entries = es'; shelf = sb }; page = [] }
        ≡ shelf_call fmt h pick with-shelf back
    unfolding entries_after shelf_after
    back-call z r e es' f =
        let below : r ≡ ordinary fmt h pick with-shelf back = e ∙ sym (below-is back (and-f (ltb 0 h))) in
        let entries : es' ≡ entries_after h es back (is_refused r.answer) = f ∙ by-test (is_refused r.answer) (λ q. rw q) (λ q. rw q) in
        let pages : sb ≡ flat (shelf_after h es (pages_of_shelf s.cache.sizes h sb) back (page_seen fmt s (shelves back))
        (is_refused r.answer)) = sym shelf-again ∙ by-test (is_refused r.answer) (λ q. rw q) (λ q. rw q) in
        (λ i. record {
          answer = r.answer;
          mends = r.mends;
          store = record { store = r.store; entries = entries i; shelf = pages i };
          page = [];
        }) ∙ ap (λ (x : Result). record {
          answer = x.answer;
          mends = x.mends;
          store = record {
            store = x.store;
            entries = entries_after h es back (is_refused x.answer);
            shelf = flat (shelf_after h es (pages_of_shelf s.cache.sizes h sb) back (page_seen fmt s (shelves back)) (is_refused
                x.answer));
          };
          page = [];
        }) below ∙ sym (fit back z)

-- ---- opening

not_done : refused 2 vacant ≡ open_done → ⊥
not_done e = clash refl (ap is_refused e)

module _ (sz : Sizes) (u : Buffers) where
  abbrev pub opened_below : ShelfOpened
  opened_below = let o = open_store store_format sz u in record { answer = o.answer; torn = o.torn; cache = o.cache; entries = no_entries }

  -- with a shelf that fits
  pub open_fit : (sb : List ℕ) → length sb ≡ sz.shelf_pages * sz.S → store_open sz u sb ≡ opened_below
  unfolding open_shelf
  open_fit sb e = by-test (sizes_ok sz) (λ a. rw (a, eq-eqb _ _ e, open_shelf)) (λ a. rw (a, open_shelf))

  -- with another
  pub open_unfit : (sb : List ℕ) → sizes_ok sz ≡ true → (length sb ≡ sz.shelf_pages * sz.S → ⊥)
      → store_open sz u sb ≡ record { answer = refused 2 vacant; torn = 0; cache = blank_cache; entries = no_entries }
  unfolding open_shelf
  open_unfit sb a e = rw (a, ne_eqb _ _ e, open_shelf)

  -- sizes refused, shelf or not
  pub open_unsized : (sb : List ℕ) → sizes_ok sz ≡ false → store_open sz u sb ≡ opened_below
  unfolding open_shelf
  open_unsized sb a = rw (a, open_shelf)

  -- an accepted opening is one below, with a shelf that fits
  pub opened-shelf : (sb : List ℕ) → (store_open sz u sb).answer ≡ open_done
      → (store_open sz u sb ≡ opened_below) × (length sb ≡ sz.shelf_pages * sz.S)
  unfolding open_shelf
  opened-shelf sb = by-test (sizes_ok sz) (λ a. by-test (eqb (length sb) (sz.shelf_pages * sz.S))
      (λ b. rw (a, b, open_shelf) (λ h. (refl, eqb-true _ _ b)))
      (λ b. rw (a, b, open_shelf) (λ h. absurd (not_done h))))
      (λ a. rw (a, open_shelf) (λ h. absurd (clash (open_accepted store_format sz u h).sizes-ok a)))
