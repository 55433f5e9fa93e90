-- A call on a store whose report is accepted leaves a sound record, buffers that fit, and a wear within W.
use Rattle.std.proofs.Common.{◌≡◌, ℕ, zero, suc, ◌+◌, ◌*◌, ◌<◌, Bool, true, false, ◌&&◌, eqb, ltb, leb, List, [], ◌∷◌, length, get_or, sym}
use Rattle.std.proofs.Common.{refl, ap, ◌∙◌, inl, inr, not-suc-le-zero, arith, ltb-false, ltb-true, le-ltb, lt-ltb, eq-eqb, eqb-true}
use Rattle.std.proofs.Common.{le-leb, leb-true}
use lib.ListN.{get_or-eq_default}
use Rattle.prelude.specs.Scan.{tab}
use Rattle.prelude.specs.Bits.{bit}
use Rattle.prelude.proofs.Tests.{by-test, clash, fails, and_l, and_r, and_i, each}
use Rattle.prelude.proofs.Scan.{first-hit, first-at, all-at, all_of}
use Rattle.prelude.proofs.Bits.{bit-zero}
use Rattle.prelude.proofs.Tab.{length-tab, get_d_tab}
use Rattle.model.specs.Sizes.{Sizes, vacant, sizes_ok}
use Rattle.model.specs.Directory.{Directory, slot_at, frame_at, valid_at, inFrame}
use Rattle.model.specs.Soundness.{sound, Sound}
use Rattle.model.specs.Policy.{Choice, slot_of, in_slots, frame_with}
use Rattle.model.specs.Moves.{Chip, Memory, flash_page, read_page}
use Rattle.model.specs.Calls.{is_refused, Call, Page, Cell, Buffers, heeding, decide, lent_ok, open_store, zero_page}
use Rattle.model.specs.Calls.{buffers_of, state_of, told, carried_out, call_reading}
use Rattle.model.specs.Formats.{store_format}
use Rattle.model.specs.Lists.{Picks, Put, Accepted, Reference, opened, Bears}
use Rattle.model.specs.Shelf.{ShelfStore, ShelfCall, ShelfReference, shelved, shelf_ok, pages_of_shelf, is_back, ordinary, shelf_call}
use Rattle.model.specs.Shelf.{store_call}
use Rattle.model.proofs.Soundness.{sound-facts}
use Rattle.model.proofs.Lookup.{in_slots_lem, found-slot, own-slot, has-frame, frame_has, page-div, page-mod, page-vacant, block-vacant}
use Rattle.model.proofs.Lookup.{page-lt, NoSlot, NoFrame}
use Rattle.model.proofs.Consistent.{Consistent}
use Rattle.model.proofs.Steps.{Within}
use Rattle.model.proofs.Calls.{decide-kept, heeding-kept}
use Rattle.model.proofs.Opening.{wear_ok, Accept}
use Rattle.model.proofs.Buffers.{fits-of}
use Rattle.model.proofs.Formats.{store-bears}
use Rattle.model.proofs.Demand3.{Holds, holds_opened, holds-sound, holds-borne}
use Rattle.model.proofs.Shelf.{Run, run_ok, lent_of, Shelves, shelf-step}
use Rattle.wear.specs.Figures.{wear_at, in_limit}
use Rattle.wear.specs.Report.{record_ok, buffers_ok}
use Rattle.wear.specs.Wearing.{wear_of}

-- what the checks of a report ask
pub record Fine (s : ShelfStore) : Type 0 where
  pub record_ok_lem : record_ok s ≡ true
  pub buffers-ok : buffers_ok s ≡ true
  pub in_limit_lem : in_limit (wear_of s) s.store.cache.sizes.W ≡ true

-- there are N entries of wear
pub long-wear : (s : ShelfStore) → buffers_ok s ≡ true → length (wear_of s) ≡ s.store.cache.sizes.N
unfolding buffers_ok
long-wear s b = (fits-of store_format s.store.cache.sizes s.store.lent
    (and_l (lent_ok store_format s.store.cache.sizes s.store.lent) _ b)).wear-length

-- all that was put was accepted
accepted-at : (l : List Put) (i : ℕ) (p : Put) → i < length l → Accepted (get_or l i p).page (get_or l i p).bytes l
accepted-at [] i p h = absurd (not-suc-le-zero h)
accepted-at (q ∷ l) zero p h = inl (refl, refl)
accepted-at (q ∷ l) (suc i) p h = inr (accepted-at l i p (omega arith))

-- Such a store is taken for one that a list of calls has come to: one that was opened with its buffers, and whose page array is what its
-- readers see, all of it accepted since.
module _ (s : ShelfStore) (fine : Fine s) where
  abbrev sz : Sizes
  sz = s.store.cache.sizes

  abbrev d : Directory
  d = s.store.cache.directory

  abbrev u : Buffers
  u = s.store.lent

  sound-now : sound sz d ≡ true
  unfolding record_ok
  sound-now = and_l (sound sz d) _ fine.record_ok_lem

  facts : Sound sz d
  facts = sound-facts sz d sound-now

  lent-now : lent_ok store_format sz u ≡ true
  unfolding buffers_ok
  lent-now = and_l (lent_ok store_format sz u) _ fine.buffers-ok

  wear-long : length u.wear ≡ sz.N
  wear-long = long-wear s fine.buffers-ok

  within : Within sz u.wear
  unfolding in_limit
  within b = by-test (ltb b (length u.wear))
      (λ e. leb-true _ _ (all-at (length u.wear) (λ b. leb (wear_at u.wear b) sz.W) fine.in_limit_lem b (ltb-true b _ e)))
      (λ e. rw (get_or-eq_default u.wear 0 {n = b} (ltb-false b _ e)) (omega arith))

  -- no bit flips, and no code is asked to match
  abbrev Any : Sizes → Cell → Type 0
  Any sz c = Unit {0}

  abbrev Same : Sizes → Cell → Cell → Type 0
  Same sz c c' = c ≡ c'

  laws : Bears store_format Any Same sz
  laws = let b = store-bears sz facts.limits.whole in record {
    cell-fits = b.cell-fits;
    page-long = b.page-long;
    page-cell = b.page-cell;
    matched-cell = λ x l. tt;
    near-self = λ c. refl;
    page-near = λ c c' f f' q e. ap (store_format.chip sz).page (sym e);
  }

  sizes-ok : sizes_ok sz ≡ true
  unfolding sound
  sizes-ok = (each _ sound-now).0

  wear-ok : wear_ok sz u ≡ true
  wear-ok = all_of sz.N (λ b. leb (get_or u.wear b 0) sz.W) (λ b l. le-leb _ _ (within b))

  opening : Accept store_format sz u
  unfolding open_store
  opening = record {
    sizes-ok = sizes-ok;
    lent_ok_lem = lent-now;
    wear-ok = wear-ok;
    cache-is = rw (sizes-ok, open_store) (rw lent-now (rw wear-ok));
  }

  first : Holds store_format Any Same sz laws u (record { cache = (open_store store_format sz u).cache; lent = u })
      (opened store_format sz u)
  first = holds_opened store_format Any Same sz laws u opening (λ n l. tt)

  abbrev chip : Chip Cell Page
  chip = store_format.chip sz

  abbrev blank : Page
  blank = zero_page sz

  abbrev m : Memory Cell Page
  m = first.memory

  abbrev seen : ℕ → Page
  seen n = read_page chip blank sz d m n

  abbrev array : List Page
  array = tab (sz.N * sz.K) seen

  array_at : (n : ℕ) → n < sz.N * sz.K → get_or array n blank ≡ seen n
  array_at n l = get_d_tab (sz.N * sz.K) seen blank n l

  seen-slot : (i : ℕ) → i < sz.P → slot_at d i < vacant → get_or m.pspace i blank ≡ seen (slot_at d i)
  unfolding read_page
  seen-slot i l v = rw (in_slots_lem sz d (slot_at d i) i l refl, read_page) (rw (own-slot sz d facts i l v) refl)

  bits_in : (f o : ℕ) → f < sz.B → bit (valid_at d f) o ≡ true → frame_at d f < sz.N
  bits_in f o fl h = elim (facts.entries.frame-in f fl) [
    | inl e ↦ clash h (ap (λ (x : ℕ). bit x o) e.1 ∙ bit-zero o)
    | inr e ↦ e.0
  ]

  seen-frame : (f o : ℕ) → f < sz.B → o < sz.K → bit (valid_at d f) o ≡ true
      → get_or m.bspace (f * sz.K + o) blank ≡ seen (frame_at d f * sz.K + o)
  unfolding read_page frame_with
  seen-frame f o fl ol h =
      let n : ℕ = frame_at d f * sz.K + o in
      let has = has-frame sz d n f (sym (page-div sz facts.limits (frame_at d f) o ol))
      (ap (bit (valid_at d f)) (page-mod sz facts.limits (frame_at d f) o ol) ∙ h) in
      let low : frame_with sz d n < sz.B = (let q = first-at sz.B (inFrame sz d n) f fl has in omega arith) in
      let here = frame_has sz d n (frame_with sz d n) (first-hit sz.B (inFrame sz d n) low) in
      let same : f ≡ frame_with sz d n = facts.entries.frames-apart f _ fl low
      (block-vacant sz facts.limits (frame_at d f) (bits_in f o fl h)) ((frame_has sz d n f has).0 ∙ sym here.0) in
      let unslotted : in_slots sz d n ≡ false = fails (in_slots sz d n) (λ e. let k = found-slot sz d n e in
      facts.entries.once (slot_of sz d n) f k.0 fl (rw k.1
      (page-vacant sz facts.limits (frame_at d f) o (bits_in f o fl h) ol)) (rw k.1 has)) in
      rw (unslotted, read_page) (rw (lt-ltb _ _ low, sym same, page-mod sz facts.limits (frame_at d f) o ol) refl)

  seen-flash : (n : ℕ) → NoSlot sz d n → NoFrame sz d n → flash_page chip blank m n ≡ seen n
  unfolding read_page frame_with
  seen-flash n np nf =
      let unslotted : in_slots sz d n ≡ false = fails (in_slots sz d n) (λ e. let k = found-slot sz d n e in np _ k.0 k.1) in
      let unframed : ltb (frame_with sz d n) sz.B ≡ false = fails (ltb (frame_with sz d n) sz.B) (λ e.
      let l = ltb-true _ sz.B e in nf _ l (first-hit sz.B (inFrame sz d n) l)) in
      rw (unslotted, read_page) (rw unframed refl)

  consistent : Consistent chip blank sz d m array
  consistent = let g = first.inv.good in record {
    numbers = facts;
    reflects = record {
      in_slot = λ i l v. seen-slot i l v ∙ sym (array_at (slot_at d i) (elim (facts.entries.slot-in i l) [
        | inl e ↦ absurd (omega arith)
        | inr e ↦ e
      ]));
      in_frame = λ f o fl ol h. seen-frame f o fl ol h
          ∙ sym (array_at _ (page-lt sz facts.limits (frame_at d f) o (bits_in f o fl h) ol));
      in_flash = λ n l np nf. seen-flash n np nf ∙ sym (array_at n l);
    };
    flash-length = g.flash-length;
    pspace-length = g.pspace-length;
    bspace-length = g.bspace-length;
    array-length = length-tab (sz.N * sz.K) seen;
  }

  abbrev put_at : ℕ → Put
  put_at n = record { page = n; bytes = seen n }

  abbrev beside : Reference
  beside = let r = opened store_format sz u in record {
    book = record { directory = d; wear = r.book.wear };
    array = array;
    log = tab (sz.N * sz.K) put_at;
    array_before = r.array_before;
    log_before = r.log_before;
    base = r.base;
    flushed = false;
  }

  accepted-all : (n : ℕ) → n < sz.N * sz.K → Accepted n (get_or array n blank) beside.log
  accepted-all n l = rw (array_at n l) (rw (get_d_tab (sz.N * sz.K) put_at (put_at 0) n l) at
      (accepted-at (tab (sz.N * sz.K) put_at) n (put_at 0) (rw (length-tab (sz.N * sz.K) put_at) l)))

  holds : Holds store_format Any Same sz laws u s.store beside
  holds = let i = first.inv in record {
    memory = m;
    store_is = λ j. record { cache = s.store.cache; lent = (first.store_is j).lent };
    inv = record {
      good = consistent;
      whole = i.whole;
      wear-length = i.wear-length;
      flash-is = i.flash-is;
      array-from = λ n l. inr (accepted-all n l);
      before-from = i.before-from;
      before-length = i.before-length;
      flushed-is = λ e. clash e refl;
      matched = i.matched;
      based = i.based;
      near = i.near;
      fresh = i.fresh;
    };
  }

  -- the entries in use are the first
  run : Run sz facts.limits sz.shelf_pages facts.limits.shelf-high (shelved s.entries) s.entries
  unfolding record_ok shelf_ok
  run = let e = each _ (and_r (sound sz d) _ fine.record_ok_lem) in let h = facts.limits.shelf-high in
      let k = leb-true (shelved s.entries) sz.shelf_pages e.1.0 in record {
        long = eqb-true (length s.entries) 8 e.0;
        k_le = k;
        used = λ i l. ltb-true _ _ (rw (lt-ltb i (shelved s.entries) l) at (all-at 8 _ e.1.1.0 i (omega arith)));
        free = λ i l q. eqb-true _ _ (rw (le-ltb i (shelved s.entries) l) at (all-at 8 _ e.1.1.0 i q));
      }

  shelf-long : length s.shelf ≡ sz.shelf_pages * sz.S
  unfolding buffers_ok
  shelf-long = eqb-true _ _ (and_r (lent_ok store_format sz u) _ fine.buffers-ok)

  abbrev Reached : ShelfStore → ShelfReference → Type 0
  Reached = Shelves store_format Any Same sz laws u facts.limits sz.shelf_pages facts.limits.shelf-high

  abbrev besides : ShelfReference
  besides = record { reference = beside; entries = s.entries; shelf = pages_of_shelf sz sz.shelf_pages s.shelf }

  reached : Reached s besides
  reached = record {
    holds = holds;
    count = shelved s.entries;
    run = run;
    entries-are = refl;
    shelf-long = shelf-long;
    shelf-are = refl;
  }

  -- what holds of every store that a list has come to
  sound-there : (s' : ShelfStore) (r : ShelfReference) → Reached s' r → record_ok s' ≡ true
  unfolding record_ok
  sound-there s' r x =
      let h = holds-sound store_format Any Same sz laws u s'.store r.reference x.holds in
      rw (h.0, x.entries-are) (and_i h.1
      (run_ok sz facts.limits sz.shelf_pages facts.limits.shelf-high x.count _ x.run))

  fits-there : (s' : ShelfStore) (r : ShelfReference) → Reached s' r → buffers_ok s' ≡ true
  unfolding buffers_ok
  fits-there s' r x =
      let h = holds-sound store_format Any Same sz laws u s'.store r.reference x.holds in
      let b = holds-borne store_format Any Same sz laws u s'.store r.reference x.holds in
      rw h.0 (and_i (lent_of store_format sz _ b.fits) (eq-eqb _ _ x.shelf-long))

  module _ (pick : Choice) (picks : Picks pick) (c : ShelfCall) where
    then : (r : ShelfReference) × Reached (store_call pick s c).store r
    then = (
      _,
      (shelf-step store_format Any Same sz laws u facts.limits sz.shelf_pages facts.limits.shelf-high s besides reached
          (record { choice = pick; call = c }) picks u.flash u.codes
          (holds-borne store_format Any Same sz laws u s.store beside holds)).then,
    )

    -- no call wears a block past W
    carried-within : (besides : ℕ → Bool) (a : Call Page) (late : ℕ) → let k = state_of s.store in
        Within sz (carried_out store_format pick s.store a besides (heeding k late (decide pick sz k (told a)))).store.lent.wear
    unfolding carried_out buffers_of
    carried-within besides a late =
        let k = state_of s.store in
        let kept = heeding-kept pick picks sz k facts wear-long late _ (decide-kept pick picks sz k facts wear-long (told a)) in
        by-test (is_refused (heeding k late (decide pick sz k (told a))).answer)
        (λ e. rw (e, carried_out) within)
        (λ e. rw (e, carried_out) (kept.within within))

    reading-within : (besides : ℕ → Bool) (a : Call Page)
        → Within sz (call_reading store_format pick besides s.store a).store.lent.wear
    unfolding call_reading
    reading-within besides a = rw (sound-now, call_reading) (rw lent-now (carried-within besides a _))

    after-within : Within sz (wear_of (store_call pick s c).store)
    unfolding record_ok buffers_ok shelf_call ordinary
    after-within = rw (fine.record_ok_lem, shelf_call) (rw fine.buffers-ok (by-test (is_back c && eqb (shelved s.entries) 0)
        (λ e. rw e within)
        (λ e. rw e (reading-within _ _))))

    pub stays-fine : Fine (store_call pick s c).store
    unfolding in_limit
    stays-fine =
        let s' : ShelfStore = (store_call pick s c).store in
        let x = then.1 in
        let z = (holds-sound store_format Any Same sz laws u s'.store then.0.reference x.holds).0 in record {
          record_ok_lem = sound-there s' then.0 x;
          buffers-ok = fits-there s' then.0 x;
          in_limit_lem = rw z (all_of (length (wear_of s')) (λ b. leb (wear_at (wear_of s') b) sz.W) (λ b l. le-leb _ _ (after-within b)));
        }
