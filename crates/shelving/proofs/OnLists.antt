-- From a call on a directory, without entries and a shelf, to one with them. The laws that end in `-is` are of the whole call;
-- those beside them are of one that may do so many operations of the chip.
use mathlib.Core.Path.{◌≡◌, refl, sym, ap, ◌∙◌, subst}
use mathlib.Core.Logic.{◌≢◌}
use mathlib.Core.Bool.{Bool, true, false, not, cond, ◌&&◌}
use mathlib.Core.List.{List, []}
use Prim.Native.Nat.{ℕ, ◌+◌, ◌-◌, ◌*◌, ◌≤◌, ◌<◌}
use native.Mathlib.Omega.{arith}
use lib.Dec.{ltb, eqb}
use lib.ListN.{length, get_or, set}
use borrow.Author.Tests.{eqb-true, eqb-false, eq-eqb, ne_eqb, lt-ltb, ltb-true, ltb-false, leb-true}
use Rattle.prelude.specs.Pages.{page_at, pages_of, flat}
use Rattle.prelude.proofs.Tests.{by-test, clash, and_i, and_l, and_r, each}
use Rattle.prelude.proofs.Scan.{first-le, all-at}
use Rattle.prelude.proofs.Pages.{in_run, flat-pages, page-at}
use Rattle.model.specs.Directory.{Directory}
use Rattle.model.specs.Sizes.{vacant}
use Rattle.model.specs.Soundness.{sound}
use Rattle.model.specs.Policy.{policy_choice}
use Rattle.model.specs.Formats.{store_format}
use Rattle.model.specs.Calls.{Answer, refused, is_refused, Call, write, step, reads_page, no_bytes, Page}
use Rattle.model.specs.Calls.{Buffers, Store, Result, lent_ok, call_reading, call, page_seen}
use Rattle.model.specs.Shelf.{shelved, shelve, shelf_ok, shelf_fits, ShelfCall, plainly, back, is_back, shelves, ShelfStore, ShelfResult}
use Rattle.model.specs.Shelf.{shelving_reads, lent_to, ordinary, store_call}
use Rattle.model.specs.CutCalls.{meant_by, CutTo}
use Rattle.model.proofs.Soundness.{sound-facts, pages-small}
use Rattle.model.proofs.Demand3.{get_d_any}
use Rattle.model.proofs.CutCalls.{below-refused}
use Rattle.model.proofs.Shelving.{shelf_beside, unfit, empty, fit, plain-call, shelving-is, shelving-call, back-call}
use Rattle.cache.specs.declared.Sizes as sizes
use Rattle.cache.specs.View.{sizes_of}
use Rattle.answer.specs.declared.Refusal.{Refusal}
use Rattle.answer.specs.Numbers.{refusal_of}
use Rattle.answer.proofs.Refusals.{why_refused}
use Rattle.checked.specs.Called.{store_with, result_with, CalledTo, Keeping, KeepingTo}
use Rattle.checked.specs.Checks.{TurnedDown}
use Rattle.checked.proofs.Carrying.{reading-record, reading-buffer, turned-to}
use Rattle.checked.proofs.Keeping.{keeping_whole}
use Rattle.shelf.specs.Shelf.{Room, Kept}
use Rattle.shelving.specs.Shelving.{store_on, result_on, ShelvedTo}

-- no more entries are in use than there are
used-few : (es : List ℕ) → shelved es ≤ 8
unfolding shelved
used-few es = first-le 8 _

-- nothing is changed by a refused call
stays : (ops : ℕ) (s : ShelfStore) (c : ShelfCall) → is_refused (store_call policy_choice s c).answer ≡ true
    → CutTo policy_choice ops s c s.store.lent
stays ops s c h = record { refused-stays = λ e. (refl, refl, refl, refl); accepted-left = λ e. clash h e }

-- ---- calls that shelve nothing

and-f : (b : Bool) → (b && false) ≡ false
and-f true = refl
and-f false = refl

-- no page is shelved
pub quiet : (h n : ℕ) → n ≡ vacant → (ltb 0 h && ltb n vacant) ≡ false
quiet h n e = rw e (and-f (ltb 0 h))

-- there is no shelf page
pub pageless : (h n : ℕ) → h ≡ 0 → (ltb 0 h && ltb n vacant) ≡ false
pageless h n e = rw e

-- a part write shelves nothing where there is no shelf page, or no byte
pub part-quiet : (h n : ℕ) (x : Page) → (not (eqb h 0) && not (eqb (length x) 0)) ≡ false
    → (ltb 0 h && ltb (cond (no_bytes x) vacant n) vacant) ≡ false
part-quiet h n x e = by-test (eqb h 0) (λ t. pageless h (cond (no_bytes x) vacant n) (eqb-true h 0 t)) (λ t. by-test (eqb
    (length x) 0) (λ b. rw b (and-f (ltb 0 h)))
    (λ b. absurd (clash (rw (t, b)) e)))

-- entries and a shelf that fit
module _ (z : sizes.Sizes) (es sb : List ℕ) (ok : shelf_fits (sizes_of z) z.shelf_pages es (length sb) ≡ true) where
  shelf-long : length sb ≡ z.shelf_pages * z.page_size
  shelf-long = eqb-true _ _ (and_r (shelf_ok (sizes_of z) z.shelf_pages es) _ ok)

  few : shelved es ≤ z.shelf_pages
  unfolding shelf_ok
  few = leb-true _ _ (each _ (and_l (shelf_ok (sizes_of z) z.shelf_pages es) _ ok)).1.0

  entries-long : length es ≡ 8
  unfolding shelf_ok
  entries-long = eqb-true _ _ (each _ (and_l (shelf_ok (sizes_of z) z.shelf_pages es) _ ok)).0

  -- of which k are in use, and some
  module _ (k : ℕ) (e : k ≡ shelved es) (some : k ≢ 0) where
    latest-lt : k - 1 < z.shelf_pages
    latest-lt = let f = few in omega arith

    -- the latest shelved page is on the shelf
    pub latest-page : (k - 1) * z.page_size + z.page_size ≤ length sb
    latest-page = in_run z.page_size z.shelf_pages sb shelf-long latest-lt

    pub latest-small : k - 1 < 8
    latest-small = let f = used-few es in omega arith

    -- and is a page of the chip
    pub latest-there : get_or es (k - 1) 0 < z.blocks * z.pages_per_block
    unfolding shelf_ok
    latest-there =
        let l = latest-small in
        let q = entries-long in
        let i : k - 1 < shelved es = omega arith in
        let each-entry = all-at 8 _ (each _ (and_l (shelf_ok (sizes_of z) z.shelf_pages es) _ ok)).1.1.0 (k - 1) l in
        rw (get_d_any es (k - 1) 0 vacant (omega arith)) (ltb-true _ _ (rw (lt-ltb (k - 1) (shelved es) i) at each-entry))

module _ (z : sizes.Sizes) (d : Directory) (es : List ℕ) (u : Buffers) (sb : List ℕ) where
  abbrev s : ShelfStore
  s = store_on z d es u sb

  abbrev fitted : Bool
  fitted = shelf_fits (sizes_of z) z.shelf_pages es (length sb)

  -- where entries or shelf do not fit, a call is refused and hands everything back
  pub turned_down-is : (c : ShelfCall) → fitted ≡ false → (why : Refusal)
      → refusal_of why ≡ refused (cond (sound (sizes_of z) d && shelf_ok (sizes_of z) z.shelf_pages es) 2 4) vacant
      → result_on (refusal_of why) 0 z d es u sb (lent_to store_format z.shelf_pages policy_choice c)
      ≡ store_call policy_choice (store_on z d es u sb) c
  turned_down-is c e why is = ap (λ (a : Answer). result_on a 0 z d es u sb (lent_to store_format z.shelf_pages policy_choice c)) is
      ∙ sym (unfit store_format z.shelf_pages policy_choice (store_with z d u) es sb c e)

  pub turned_down_lem : (ops : ℕ) (c : ShelfCall) → fitted ≡ false → (why : Refusal)
      → refusal_of why ≡ refused (cond (sound (sizes_of z) d && shelf_ok (sizes_of z) z.shelf_pages es) 2 4) vacant
      → ShelvedTo ops s c (result_on (refusal_of why) 0 z d es u sb (lent_to store_format z.shelf_pages policy_choice c))
  turned_down_lem ops c e why is = record {
    whole = λ enough. turned_down-is c e why is;
    cut = stays ops s c (ap (λ (x : ShelfResult). is_refused x.answer)
        (unfit store_format z.shelf_pages policy_choice (store_with z d u) es sb c e));
  }

  module _ (ok : fitted ≡ true) where
    -- the call below, with what the shelf has it read
    below-cut : (ops : ℕ) (c : ShelfCall) → (is_back c && eqb (shelved es) 0) ≡ false → (r : Result)
        → CalledTo policy_choice ops (shelving_reads store_format z.shelf_pages policy_choice s c) (store_with z d u) (meant_by s c) r
        → CutTo policy_choice ops s c r.store.lent
    unfolding ordinary
    below-cut ops c e r h =
        let besides : ℕ → Bool = shelving_reads store_format z.shelf_pages policy_choice s c in
        let is : (store_call policy_choice s c).answer
        ≡ (call_reading store_format policy_choice besides (store_with z d u) (meant_by s c)).answer =
        ap (λ (x : ShelfResult). x.answer) (fit store_format z.shelf_pages policy_choice (store_with z d u) es sb ok c e) in
        record {
          refused-stays = λ q. let down : is_refused
              (call_reading store_format policy_choice besides (store_with z d u) (meant_by s c)).answer
              ≡ true = ap is_refused (sym is) ∙ q in
              let same : r.store ≡ store_with z d u = ap (λ (x : Result). x.store) (h.down down)
              ∙ below-refused policy_choice besides (store_with z d u) (meant_by s c) down in (
                ap (λ (x : Store). x.lent.flash) same,
                ap (λ (x : Store). x.lent.codes) same,
                ap (λ (x : Store). x.lent.marks) same,
                ap (λ (x : Store). x.lent.wear) same,
              );
          accepted-left = λ q. h.left (ap is_refused (sym is) ∙ q);
        }

    -- nothing is read for the shelf
    nothing_read : (c : ShelfCall) → (ltb 0 z.shelf_pages && ltb (shelves c) vacant) ≡ false → (i : ℕ)
        → shelving_reads store_format z.shelf_pages policy_choice s c i ≡ false
    unfolding shelving_reads
    nothing_read c e i = by-test (ltb 0 z.shelf_pages) (λ p. by-test (ltb (shelves c) vacant)
        (λ t. clash refl (rw (p, t) at e)) (λ t. rw (p, t))) (λ p. rw p)

    plain-cut : (ops : ℕ) (c : ShelfCall) → (ltb 0 z.shelf_pages && ltb (shelves c) vacant) ≡ false
        → (is_back c && eqb (shelved es) 0) ≡ false → (r : Result)
        → CalledTo policy_choice ops (λ i. false) (store_with z d u) (meant_by s c) r → CutTo policy_choice ops s c r.store.lent
    plain-cut ops c q e r h =
        below-cut ops c e r (subst (λ (b : ℕ → Bool). CalledTo policy_choice ops b (store_with z d u) (meant_by s c) r)
        (λ j i. sym (nothing_read c q i) j) h)

    -- a call that shelves nothing is the one below
    pub plainly-is : (c : Call Page) → (ltb 0 z.shelf_pages && ltb (shelves (plainly c)) vacant) ≡ false → (a : Answer) (mends : ℕ)
        (d' : Directory) (u' : Buffers) (sb' : List ℕ) (page : Page) → sb' ≡ sb
        → result_with a mends z d' u' page ≡ call store_format policy_choice (store_with z d u) c
        → result_on a mends z d' es u' sb' page ≡ store_call policy_choice (store_on z d es u sb) (plainly c)
    plainly-is c q a mends d' u' sb' page e h = ap (shelf_beside (result_with a mends z d' u' page) es) e
        ∙ ap (λ (r : Result). shelf_beside r es sb) h
        ∙ sym (plain-call store_format z.shelf_pages policy_choice (store_with z d u) es sb ok c q)

    pub plainly-on : (ops : ℕ) (c : Call Page) → (ltb 0 z.shelf_pages && ltb (shelves (plainly c)) vacant) ≡ false
        → (a : Answer) (mends : ℕ) (d' : Directory) (u' : Buffers) (page : Page)
        → CalledTo policy_choice ops (λ i. false) (store_with z d u) c (result_with a mends z d' u' page)
        → ShelvedTo ops s (plainly c) (result_on a mends z d' es u' sb page)
    unfolding call
    plainly-on ops c q a mends d' u' page h = record {
      whole = λ enough. plainly-is c q a mends d' u' sb page refl (h.whole enough);
      cut = plain-cut ops (plainly c) q refl (result_with a mends z d' u' page) h;
    }

    module _ (some : z.shelf_pages ≢ 0) (n : ℕ) (c : Call Page) (is : shelves (plainly c) ≡ n) (a : Answer) (mends : ℕ) (d' : Directory)
        (page : Page) (kept : List ℕ) where
      positive : 0 < z.shelf_pages
      positive = omega arith

      -- what the shelf asks of an accepted write
      pub room-on : (ops : ℕ) (u' : Buffers) → KeepingTo ops z d u n c (result_with a mends z d' u' page) kept → length kept ≡ 2048
          → is_refused a ≡ false → Room (sizes_of z) es sb kept
      room-on ops u' k long e = record {
        limits = (sound-facts (sizes_of z) d (k.accepted e).0).limits;
        some = positive;
        few = few z es sb ok;
        shelf-length = shelf-long z es sb ok;
        earlier-length = long;
      }

      -- a write that shelves
      module _ (u' : Buffers) (sb' : List ℕ) (es' : List ℕ) (k : Keeping z d u n c (result_with a mends z d' u' page) kept)
          (p : Kept (sizes_of z) (is_refused a) es sb n kept es' sb') (same : length sb' ≡ length sb) where
        abbrev h : ℕ
        h = z.shelf_pages

        abbrev pages : List ℕ → List Page
        pages sb = pages_of z.page_size h sb

        -- of a page of the chip
        shelved-on : ltb n vacant ≡ true
            → result_on a mends z d' es' u' sb' page ≡ store_call policy_choice (store_on z d es u sb) (plainly c)
        shelved-on t =
            let w : ltb (shelves (plainly c)) vacant ≡ true = ap (λ (m : ℕ). ltb m vacant) is ∙ t in
            let q : ltb 0 h ≡ true = lt-ltb 0 h positive in
            let s = store_with z d u in
            shelving-call store_format h policy_choice s es sb ok c q w (result_with a mends z d' u' page)
            (k.result_is _ (λ x l i. shelving-is store_format h policy_choice s es sb ok (plainly c) q w i
            ∙ ap (λ (m : ℕ). reads_page (sizes_of z) d m i) is)) es' sb'
            (p.entries-are ∙ ap (λ (m : ℕ). cond (is_refused a) es (shelve vacant h (shelved es) es m)) (sym is)) same
            (p.pages-are ∙ by-test (is_refused a) (λ e. rw e)
            (λ e. rw e (ap (shelve [] h (shelved es) (pages sb)) (k.kept-is e ∙ ap (page_seen store_format s) (sym is)))))

        -- of none: it is refused
        unshelved-on : ltb n vacant ≡ false → result_on a mends z d' es' u' sb' page ≡ store_call policy_choice (store_on z d es u sb)
            (plainly c)
        unfolding call
        unshelved-on t =
            let w = ltb-false n vacant t in
            let down : is_refused a ≡ true = by-test (is_refused a) (λ e. e) (λ e. let f = k.accepted e in
            let l = pages-small (sizes_of z) (sound-facts (sizes_of z) d f.0).limits in let q = f.1 in absurd (omega arith)) in
            let entries : es' ≡ es = p.entries-are ∙ rw down in
            let shelf : sb' ≡ sb = sym (flat-pages z.page_size h sb' (same ∙ shelf-long z es sb ok))
            ∙ ap flat (p.pages-are ∙ rw down) ∙ flat-pages z.page_size h sb (shelf-long z es sb ok) in
            ap (λ (l : List ℕ). result_on a mends z d' l u' sb' page) entries
            ∙ plainly-is c (ap (λ (m : ℕ). ltb 0 h && ltb m vacant) is ∙ rw t (and-f (ltb 0 h))) a mends d' u' sb' page shelf
            (k.result_is (λ i. false) (λ x l i. let v = pages-small (sizes_of z) (sound-facts (sizes_of z) d x).limits in
            absurd (omega arith)))

        kept-is : result_on a mends z d' es' u' sb' page ≡ store_call policy_choice (store_on z d es u sb) (plainly c)
        kept-is = by-test (ltb n vacant) shelved-on unshelved-on

      module _ (ops : ℕ) (u' : Buffers) (sb' es' : List ℕ) (k : KeepingTo ops z d u n c (result_with a mends z d' u' page) kept)
          (p : Kept (sizes_of z) (is_refused a) es sb n kept es' sb') (same : length sb' ≡ length sb) where
        kept-cut : CutTo policy_choice ops s (plainly c) u'
        kept-cut = by-test (ltb n vacant)
            (λ t. below-cut ops (plainly c) refl (result_with a mends z d' u' page) (k.called _ (λ x l i. shelving-is store_format
            z.shelf_pages policy_choice (store_with z d u) es sb ok (plainly c) (lt-ltb 0 _ positive)
            (ap (λ (m : ℕ). ltb m vacant) is ∙ t) i ∙ ap (λ (m : ℕ). reads_page (sizes_of z) d m i) is)))
            (λ t. plain-cut ops (plainly c) (ap (λ (m : ℕ). ltb 0 z.shelf_pages && ltb m vacant) is
            ∙ rw t (and-f (ltb 0 z.shelf_pages))) refl (result_with a mends z d' u' page)
            (k.called (λ i. false) (λ x l i. let v = pages-small (sizes_of z) (sound-facts (sizes_of z) d x).limits in
            let w = ltb-false n vacant t in absurd (omega arith))))

        pub kept_on : ShelvedTo ops s (plainly c) (result_on a mends z d' es' u' sb' page)
        kept_on = record {
          whole = λ enough. kept-is u' sb' es' (keeping_whole z d u n ops c (result_with a mends z d' u' page) kept k enough) p same;
          cut = kept-cut;
        }

    -- ---- taking back

    -- no entry is in use
    nothing-back_is : (k : ℕ) → k ≡ shelved es → k ≡ 0 → (why : Refusal)
        → refusal_of why ≡ refused (cond (sound (sizes_of z) d) (cond (lent_ok store_format (sizes_of z) u) 8 2) 4) vacant
        → result_on (refusal_of why) 0 z d es u sb [] ≡ store_call policy_choice (store_on z d es u sb) back
    nothing-back_is k e q why is = ap (λ (a : Answer). result_on a 0 z d es u sb []) is
        ∙ sym (empty store_format z.shelf_pages policy_choice (store_with z d u) es sb ok
        (eq-eqb _ 0 (sym e ∙ q)))

    pub nothing-back : (ops k : ℕ) → k ≡ shelved es → k ≡ 0 → (why : Refusal)
        → refusal_of why ≡ refused (cond (sound (sizes_of z) d) (cond (lent_ok store_format (sizes_of z) u) 8 2) 4) vacant
        → ShelvedTo ops s back (result_on (refusal_of why) 0 z d es u sb [])
    nothing-back ops k e q why is = record {
      whole = λ enough. nothing-back_is k e q why is;
      cut = stays ops s back (ap (λ (x : ShelfResult). is_refused x.answer)
          (empty store_format z.shelf_pages policy_choice (store_with z d u) es sb ok (eq-eqb _ 0 (sym e ∙ q))));
    }

    module _ (k : ℕ) (e : k ≡ shelved es) (some : k ≢ 0) where
      -- the latest entry and its page
      latest : write (get_or es (k - 1) 0) (page_at z.page_size sb (k - 1)) ≡ meant_by s back
      latest i =
          let at : get_or es (k - 1) 0 ≡ get_or es (shelved es - 1) vacant = get_d_any es (k - 1) 0 vacant
          (let l = latest-small z es sb ok k e some in let q = entries-long z es sb ok in omega arith)
          ∙ ap (λ (j : ℕ). get_or es (j - 1) vacant) e in
          let page : page_at z.page_size sb (k - 1) ≡ get_or (pages_of z.page_size z.shelf_pages sb) (shelved es - 1) [] =
          sym (page-at z.page_size z.shelf_pages sb [] (k - 1) (latest-lt z es sb ok k e some))
          ∙ ap (λ (j : ℕ). get_or (pages_of z.page_size z.shelf_pages sb) (j - 1) []) e in
          write (at i) (page i)

      back_is : (a : Answer) (mends : ℕ) (d' : Directory) (u' : Buffers) (es' : List ℕ) (x : Page)
          → es' ≡ cond (is_refused a) es (set es (k - 1) vacant)
          → result_with a mends z d' u' x ≡ call store_format policy_choice (store_with z d u) (meant_by s back)
          → result_on a mends z d' es' u' sb [] ≡ store_call policy_choice s back
      back_is a mends d' u' es' x g r = back-call store_format z.shelf_pages policy_choice (store_with z d u) es sb ok
          (ne_eqb _ 0 (λ q. some (e ∙ q))) (result_with a mends z d' u' x) r es'
          (g ∙ ap (λ (j : ℕ). cond (is_refused a) es (set es (j - 1) vacant)) e)

      pub back_on : (ops : ℕ) (a : Answer) (mends : ℕ) (d' : Directory) (u' : Buffers) (es' : List ℕ) (x : Page)
          → es' ≡ cond (is_refused a) es (set es (k - 1) vacant)
          → CalledTo policy_choice ops (λ i. false) (store_with z d u) (write (get_or es (k - 1) 0) (page_at z.page_size sb (k - 1)))
          (result_with a mends z d' u' x) → ShelvedTo ops s back (result_on a mends z d' es' u' sb [])
      unfolding call
      back_on ops a mends d' u' es' x g h =
          let h' : CalledTo policy_choice ops (λ i. false) (store_with z d u) (meant_by s back) (result_with a mends z d' u' x) =
          subst (λ (c : Call Page). CalledTo policy_choice ops (λ i. false) (store_with z d u) c
          (result_with a mends z d' u' x)) latest h in
          record {
            whole = λ enough. back_is a mends d' u' es' x g (h'.whole enough);
            cut = plain-cut ops back (and-f (ltb 0 z.shelf_pages)) (ne_eqb _ 0 (λ q. some (e ∙ q))) (result_with a mends z d' u' x) h';
          }

    -- where checks 4 and 2 refuse every call, with entries or without
    pub down-back : (ops k : ℕ) → k ≡ shelved es → (why : Refusal)
        → (sound (sizes_of z) d && lent_ok store_format (sizes_of z) u) ≡ false → ((c : Call Page) → TurnedDown (store_with z d u) c why)
        → ShelvedTo ops s back (result_on (refusal_of why) 0 z d es u sb [])
    down-back ops k e why fails down = by-test (eqb k 0)
        (λ t. nothing-back ops k e (eqb-true k 0 t) why (by-test (sound (sizes_of z) d)
        (λ a. by-test (lent_ok store_format (sizes_of z) u)
        (λ b. clash (and_i a b) fails)
        (λ b. rw (a, b) (ap (λ (r : Result). r.answer) (sym (down step (λ i. false))
        ∙ reading-buffer (store_with z d u) step (λ i. false) a b))))
        (λ a. rw a (ap (λ (r : Result). r.answer) (sym (down step (λ i. false))
        ∙ reading-record (store_with z d u) step (λ i. false) a)))))
        (λ t. back_on k e (eqb-false k 0 t) ops (refusal_of why) 0 d u es _ (rw (why_refused why))
        (turned-to ops (λ i. false) (store_with z d u) _ why (down _)))
