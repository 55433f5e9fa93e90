-- Request A8 over the store of demand 3, of which only its invariant is used.
use mathlib.Core.Path.{◌≡◌, refl, sym, ap, ap₂, ◌∙◌, subst}
use mathlib.Core.Bool.{Bool, true, false, cond, ◌&&◌}
use mathlib.Core.List.{List, [], ◌∷◌}
use Prim.Native.Nat.{ℕ, zero, suc, ◌-◌, ◌*◌, ◌≤◌, ◌<◌}
use native.Mathlib.Omega.{arith}
use lib.Dec.{ltb, eqb}
use lib.ListN.{length, get_or, set, length-set, length-replicate, get_or-replicate}
use lib.Seq.{get_or-set_same, get_or-set_other, set-get_or, set-set}
use borrow.Author.Tests.{ltb-true, ltb-false, eqb-true, eqb-false, lt-ltb, le-ltb, le-leb, eq-eqb, ne_eqb}
use Rattle.prelude.specs.Scan.{first}
use Rattle.prelude.specs.Pages.{laid, pages_of, flat}
use Rattle.prelude.proofs.Tests.{by-test, clash, and_l, and_i, every_of}
use Rattle.prelude.proofs.Scan.{first-is, all_of}
use Rattle.prelude.proofs.Tab.{length-tab, get_d_tab}
use Rattle.prelude.proofs.Pages.{length-page_at, in_run, length-flat, pages-flat}
use Rattle.model.specs.Sizes.{Sizes, vacant, InLimits}
use Rattle.model.specs.Directory.{Directory}
use Rattle.model.specs.Soundness.{sound}
use Rattle.model.specs.Policy.{Choice}
use Rattle.model.specs.Calls.{refused, is_refused, Call, read, write, part, step, flush, State, Outcome, checked, decide}
use Rattle.model.specs.Calls.{heeding, Page, no_bytes, Cell, Format, Buffers, Fits, lent_ok, Store, flash_cells, told, carried_out}
use Rattle.model.specs.Calls.{call_reading}
use Rattle.model.specs.Calls.{page_seen, Result, buffers_of, open_store, open_done}
use Rattle.model.specs.Lists.{array_after, no_cell, Chosen, Picks, Reference, book_says, fed, ReadGives, flipped}
use Rattle.model.specs.Lists.{Borne, Step, Bears}
use Rattle.model.specs.Shelf.{shelved, shelve, shelf_ok, ShelfCall, plainly, back, is_back, meant, shelves, entries_after, shelf_after}
use Rattle.model.specs.Shelf.{ShelfStore, ShelfResult, pages_of_shelf, shelving_reads, ordinary, buffer_of, lent_to, shelf_call}
use Rattle.model.specs.Shelf.{ShelfReference, ShelfChosen, taken, shelf_book_says, shelf_fed, shelf_flipped, ShelfGives, ShelfStep}
use Rattle.model.specs.Shelf.{no_entries, shelf_opened, ShelfClaim}
-- the histories are checked before the proofs
use Rattle.model.proofs.AuditShelf
use Rattle.model.proofs.Soundness.{pages-small, limits_of}
use Rattle.model.proofs.Opening.{Accept, open_accepted}
use Rattle.model.proofs.Demand3.{Holds, holds_opened, holds-step, holds-refused, holds-long, holds-sound, holds-borne, holds_after}

-- ---- entries

module _ (sz : Sizes) (limits : InLimits sz) (h : ℕ) (h_le : h ≤ 8) where
  -- k entries are in use
  pub record Run (k : ℕ) (es : List ℕ) : Type 0 where
    pub long : length es ≡ 8
    pub k_le : k ≤ h
    pub used : (i : ℕ) → i < k → get_or es i vacant < sz.N * sz.K
    pub free : (i : ℕ) → k ≤ i → i < 8 → get_or es i vacant ≡ vacant

  pub run-shelved : (k : ℕ) (es : List ℕ) → Run k es → shelved es ≡ k
  unfolding shelved
  run-shelved k es r = let q = r.k_le in sym (first-is 8 (λ i. eqb (get_or es i vacant) vacant) k (omega arith)
      (λ j l. ne_eqb (get_or es j vacant) vacant
      (λ (e : get_or es j vacant ≡ vacant). let a = r.used j l in let b = pages-small sz limits in
      omega arith))
      (λ l. eq-eqb _ vacant (r.free k (omega arith) l)))

  pub run_ok : (k : ℕ) (es : List ℕ) → Run k es → shelf_ok sz h es ≡ true
  unfolding shelf_ok
  run_ok k es r = rw (run-shelved k es r) (every_of _ (
    eq-eqb _ _ r.long,
    (
      le-leb k h r.k_le,
      (
        all_of 8 _ (λ i l. by-test (ltb i k) (λ t. rw t (lt-ltb _ _ (r.used i (ltb-true i k t))))
            (λ t. rw t (eq-eqb _ vacant (r.free i (ltb-false i k t) l)))),
        tt,
      ),
    ),
  ))

  -- the latest leaves
  pub run_drop : (k : ℕ) (es : List ℕ) → Run (suc k) es → Run k (set es k vacant)
  run_drop k es r = let q = r.k_le in let g = r.long in record {
    long = length-set es k vacant ∙ r.long;
    k_le = omega arith;
    used = λ i l. rw (get_or-set_other es k i vacant vacant (λ (e : i ≡ k). omega arith)) (r.used i (omega arith));
    free = λ i a b. by-test (eqb i k)
        (λ e. rw (eqb-true i k e) (get_or-set_same es k vacant vacant (omega arith)))
        (λ e. let ne = eqb-false i k e in get_or-set_other es k i vacant vacant ne
        ∙ r.free i (by-test (ltb k i) (λ t. ltb-true k i t) (λ t. let z = ltb-false k i t in absurd (ne (omega arith)))) b);
  }

  shelve-room : {X : Type 0} (none : X) (k : ℕ) (l : List X) (x : X) → ltb k h ≡ true → shelve none h k l x ≡ set l k x
  unfolding shelve
  shelve-room none k l x t = rw t

  shelve-full : {X : Type 0} (none : X) (k : ℕ) (l : List X) (x : X) → ltb k h ≡ false → (i : ℕ) → i < length l
      → get_or (shelve none h k l x) i none ≡ cond (ltb (suc i) h) (get_or l (suc i) none) (cond (eqb (suc i) h) x (get_or l i none))
  unfolding shelve
  shelve-full none k l x t i il = rw t (get_d_tab (length l) _ none i il)

  pub shelve-long : {X : Type 0} (none : X) (k : ℕ) (l : List X) (x : X) → length (shelve none h k l x) ≡ length l
  unfolding shelve
  shelve-long none k l x = by-test (ltb k h) (λ t. rw t (length-set l k x)) (λ t. rw t (length-tab (length l) _))

  -- one more
  pub run_more : (k : ℕ) (es : List ℕ) (n : ℕ) → Run k es → n < sz.N * sz.K → ltb k h ≡ true → Run (suc k) (shelve vacant h k es n)
  run_more k es n r nl t = rw (shelve-room vacant k es n t) (let q = ltb-true k h t in let g = r.long in record {
    long = length-set es k n ∙ r.long;
    k_le = q;
    used = λ i l. by-test (eqb i k)
        (λ e. rw (eqb-true i k e, get_or-set_same es k n vacant (omega arith)) nl)
        (λ e. let ne = eqb-false i k e in rw (get_or-set_other es k i n vacant ne)
        (r.used i (by-test (ltb i k) (λ t. ltb-true i k t) (λ t. let z = ltb-false i k t in absurd (ne (omega arith))))));
    free = λ i a b. get_or-set_other es k i n vacant (λ (e : i ≡ k). omega arith) ∙ r.free i (omega arith) b;
  })

  -- the oldest leaves, or nothing is shelved
  pub run-full : (k : ℕ) (es : List ℕ) (n : ℕ) → Run k es → n < sz.N * sz.K → ltb k h ≡ false → Run k (shelve vacant h k es n)
  run-full k es n r nl t = let q = ltb-false k h t in let g = r.long in let w = r.k_le in record {
    long = shelve-long vacant k es n ∙ r.long;
    k_le = r.k_le;
    used = λ i l. rw (shelve-full vacant k es n t i (omega arith)) (by-test (ltb (suc i) h)
        (λ e. rw e (let z = ltb-true (suc i) h e in r.used (suc i) (omega arith)))
        (λ e. rw e (let z = ltb-false (suc i) h e in by-test (eqb (suc i) h) (λ v. rw v nl)
        (λ v. absurd (eqb-false (suc i) h v (omega arith))))));
    free = λ i a b. shelve-full vacant k es n t i (omega arith) ∙ rw (
      le-ltb (suc i) h (omega arith),
      ne_eqb (suc i) h (λ (e : suc i ≡ h). omega arith),
    ) (r.free i a b);
  }

-- ---- a call

-- a page that a call shelves is below N×K, if the book accepts it
module _ (sz : Sizes) (pick : Choice) (k : State) where
  accepted-lt : (n long : ℕ) (o : Outcome) → is_refused (checked sz k n long o).answer ≡ false → n < sz.N * sz.K
  unfolding checked
  accepted-lt n long o = by-test (eqb long sz.S)
      (λ e. rw (e, checked) (by-test (ltb n (sz.N * sz.K)) (λ e' q. ltb-true _ _ e') (λ e'. rw e' (λ q. clash refl q))))
      (λ e. rw (e, checked) (λ q. clash refl q))

  heeded : (late : ℕ) (o : Outcome) → is_refused (heeding k late o).answer ≡ false → is_refused o.answer ≡ false
  unfolding heeding
  heeded late o = by-test (is_refused o.answer) (λ e. rw (e, heeding) (λ q. absurd (clash e q))) (λ e q. e)

  pub shelved-lt : (es : List ℕ) (ps : List Page) (c : ShelfCall) (late : ℕ)
      → is_refused (heeding k late (decide pick sz k (told (meant es ps c)))).answer ≡ false → ltb (shelves c) vacant ≡ true
      → shelves c < sz.N * sz.K
  unfolding decide
  shelved-lt es ps (plainly (read n x)) late q t = clash t refl
  shelved-lt es ps (plainly (write n x)) late q t = accepted-lt n (length x) _ (heeded late _ q)
  shelved-lt es ps (plainly (part n f x page)) late q t = let l = accepted-lt n (length page) _ (heeded late _ q) in
      by-test (no_bytes x) (λ e. clash (rw e at t) refl) (λ e. rw e l)
  shelved-lt es ps (plainly step) late q t = clash t refl
  shelved-lt es ps (plainly flush) late q t = clash t refl
  shelved-lt es ps back late q t = clash t refl

abbrev pub AllShelfPick : List ShelfChosen → Type 0
AllShelfPick [] = Unit {0}
AllShelfPick (t ∷ cs) = Picks t.choice × AllShelfPick cs

-- the buffers' lengths, as the test
pub lent_of : (fmt : Format) (sz : Sizes) (u : Buffers) → Fits fmt sz u → lent_ok fmt sz u ≡ true
unfolding lent_ok
lent_of fmt sz u f = every_of _ (
  eq-eqb _ _ f.flash-length,
  (
    eq-eqb _ _ f.codes-length,
    (eq-eqb _ _ f.marks-length, (eq-eqb _ _ f.wear-length, (eq-eqb _ _ f.pspace-length, (eq-eqb _ _ f.bspace-length, tt)))),
  ),
)

module _ (sz : Sizes) (limits : InLimits sz) (h : ℕ) (h_le : h ≤ 8) where
  -- the entries stay sound
  run-after : (k : ℕ) (es : List ℕ) → Run sz limits h h_le k es → (c : ShelfCall) (down : Bool)
      → (down ≡ false → ltb (shelves c) vacant ≡ true → shelves c < sz.N * sz.K) → (is_back c && eqb (shelved es) 0) ≡ false
      → (k' : ℕ) × Run sz limits h h_le k' (entries_after h es c down)
  unfolding entries_after
  run-after k es r c true lt e = (k, r)
  run-after k es r c false lt e = by-test (is_back c)
      (λ b. let kz : eqb (shelved es) 0 ≡ false = (rw b at e) in let ks = run-shelved sz limits h h_le k es r in
      rw b (dropped k r ks (eqb-false _ 0 kz)))
      (λ b. rw b (by-test (ltb (shelves c) vacant)
      (λ t. rw (t, run-shelved sz limits h h_le k es r) (by-test (ltb k h)
      (λ w. (suc k, run_more sz limits h h_le k es (shelves c) r (lt refl t) w))
      (λ w. (k, run-full sz limits h h_le k es (shelves c) r (lt refl t) w))))
      (λ t. rw t (k, r))))
    where
      dropped : (k : ℕ) → Run sz limits h h_le k es → shelved es ≡ k → (shelved es ≡ 0 → ⊥)
          → (k' : ℕ) × Run sz limits h h_le k' (set es (shelved es - 1) vacant)
      dropped zero r e ne = absurd (ne e)
      dropped (suc k) r e ne = let q : shelved es - 1 ≡ k = omega arith in (k, rw q (run_drop sz limits h h_le k es r))

  -- the shelf keeps its pages' number and lengths
  module _ (es : List ℕ) (ps : List Page) (pl : length ps ≡ h) (each_long : (i : ℕ) → i < h → length (get_or ps i []) ≡ sz.S)
      (c : ShelfCall) (x : Page) where
    after-long : (down : Bool) → length (shelf_after h es ps c x down) ≡ h
    unfolding shelf_after
    after-long true = pl
    after-long false = by-test (ltb (shelves c) vacant) (λ t. rw t (shelve-long sz limits h h_le [] (shelved es) ps x ∙ pl)) (λ t. rw t pl)

    after-each : (down : Bool) → (down ≡ false → ltb (shelves c) vacant ≡ true → length x ≡ sz.S) → (i : ℕ) → i < h
        → length (get_or (shelf_after h es ps c x down) i []) ≡ sz.S
    unfolding shelf_after
    after-each true xl i il = each_long i il
    after-each false xl i il = by-test (ltb (shelves c) vacant)
        (λ t. rw t (by-test (ltb (shelved es) h)
        (λ w. rw (shelve-room sz limits h h_le [] (shelved es) ps x w) (by-test (eqb i (shelved es))
        (λ e. rw (eqb-true i _ e, get_or-set_same ps (shelved es) x [] (let q = ltb-true _ h w in omega arith)) (xl refl t))
        (λ e. rw (get_or-set_other ps (shelved es) i x [] (eqb-false i _ e)) (each_long i il))))
        (λ w. rw (shelve-full sz limits h h_le [] (shelved es) ps x w i (omega arith)) (by-test (ltb (suc i) h)
        (λ e. rw e (each_long (suc i) (ltb-true _ h e)))
        (λ e. rw e (by-test (eqb (suc i) h) (λ v. rw v (xl refl t)) (λ v. rw v (each_long i il))))))))
        (λ t. rw t (each_long i il))

  -- what is shelved does not matter where nothing is
  after_same : (es : List ℕ) (ps : List Page) (c : ShelfCall) (x y : Page) (down : Bool)
      → (down ≡ false → ltb (shelves c) vacant ≡ true → x ≡ y) → shelf_after h es ps c x down ≡ shelf_after h es ps c y down
  unfolding shelf_after
  after_same es ps c x y true e = refl
  after_same es ps c x y false e = by-test (ltb (shelves c) vacant) (λ t. rw (t, e refl t)) (λ t. rw t)

module _ (fmt : Format) (Matched : Sizes → Cell → Type 0) (Near : Sizes → Cell → Cell → Type 0) (sz : Sizes)
    (laws : Bears fmt Matched Near sz) (u : Buffers) (limits : InLimits sz) (h : ℕ) (h_le : h ≤ 8) where
  -- what holds of store and reference, each with its shelf, at every point of a list
  pub record Shelves (s : ShelfStore) (r : ShelfReference) : Type 0 where
    pub holds : Holds fmt Matched Near sz laws u s.store r.reference
    pub count : ℕ
    pub run : Run sz limits h h_le count r.entries
    pub entries-are : s.entries ≡ r.entries
    pub shelf-long : length s.shelf ≡ h * sz.S
    pub shelf-are : pages_of_shelf sz h s.shelf ≡ r.shelf

  empty-gives : (a : List Page) (c : ShelfCall) (R : ShelfResult) → is_back c ≡ true → ShelfGives a c R
  empty-gives a (plainly c) R e = clash e refl
  empty-gives a back R e = tt

  -- an accepted read gives the array's page
  gives : (pick : Choice) (a : List Page) (es : List ℕ) (ps : List Page) (c : ShelfCall) (R : Result) (es' sb' : List ℕ)
      → ReadGives a (meant es ps c) R
      → ShelfGives a c (record {
        answer = R.answer;
        mends = R.mends;
        store = record { store = R.store; entries = es'; shelf = sb' };
        page = buffer_of fmt h pick c R.page;
      })
  gives pick a es ps (plainly c) R es' sb' q = q
  gives pick a es ps back R es' sb' q = tt

  module _ (dir : Directory) (lent : Buffers) (ref : Reference) (es sb : List ℕ)
      (x : Holds fmt Matched Near sz laws u (record { cache = record { sizes = sz; directory = dir }; lent = lent }) ref)
      (k : ℕ) (run : Run sz limits h h_le k es) (long : length sb ≡ h * sz.S)
      (t : ShelfChosen) (p : Picks t.choice) (fl cd : List ℕ) (b : Borne fmt Near sz ref
      (flipped (record { cache = record { sizes = sz; directory = dir }; lent = lent }) fl cd).lent) where
    abbrev store : Store
    store = record { cache = record { sizes = sz; directory = dir }; lent = lent }

    abbrev now : ShelfStore
    now = record { store = flipped store fl cd; entries = es; shelf = sb }

    abbrev pages : List Page
    pages = pages_of_shelf sz h sb

    abbrev beside : ShelfReference
    beside = record { reference = ref; entries = es; shelf = pages }

    sound-now : (sound sz dir && shelf_ok sz h es) ≡ true
    sound-now = and_i (holds-sound fmt Matched Near sz laws u store ref x).1 (run_ok sz limits h h_le k es run)

    lent-now : (lent_ok fmt sz now.store.lent && eqb (length sb) (h * sz.S)) ≡ true
    lent-now = and_i (lent_of fmt sz _ b.fits) (eq-eqb _ _ long)

    abbrev ordinarily : Result
    ordinarily = ordinary fmt h t.choice now t.call

    call-is : (is_back t.call && eqb (shelved es) 0) ≡ false → shelf_call fmt h t.choice now t.call ≡ record {
      answer = ordinarily.answer;
      mends = ordinarily.mends;
      store = record {
        store = ordinarily.store;
        entries = entries_after h es t.call (is_refused ordinarily.answer);
        shelf = flat (shelf_after h es pages t.call (page_seen fmt now.store (shelves t.call)) (is_refused ordinarily.answer));
      };
      page = buffer_of fmt h t.choice t.call ordinarily.page;
    }
    unfolding shelf_call
    call-is e = rw (sound-now, shelf_call) (rw lent-now (rw e))

    call-empty : (is_back t.call && eqb (shelved es) 0) ≡ true → shelf_call fmt h t.choice now t.call
        ≡ record { answer = refused 8 vacant; mends = 0; store = now; page = lent_to fmt h t.choice t.call }
    unfolding shelf_call
    call-empty e = rw (sound-now, shelf_call) (rw lent-now (rw e))

    -- the call of the store below, and what demand 3 says of it
    abbrev below : Chosen
    below = record { choice = t.choice; besides = shelving_reads fmt h t.choice now t.call; call = meant es pages t.call }

    says : Step fmt Near sz u (flipped store fl cd) ref below (Holds fmt Matched Near sz laws u)
    says = holds-step fmt Matched Near sz laws u store ref x below p fl cd b

    -- what a call shelves
    found_lt : is_refused ordinarily.answer ≡ false → ltb (shelves t.call) vacant ≡ true → shelves t.call < sz.N * sz.K
    unfolding ordinary
    found_lt q l = shelved-lt sz t.choice ref.book es pages t.call _ (ap is_refused (sym says.answers) ∙ q) l

    found : is_refused ordinarily.answer ≡ false → ltb (shelves t.call) vacant ≡ true
        → page_seen fmt now.store (shelves t.call) ≡ get_or ref.array (shelves t.call) []
    found q l = says.shows (shelves t.call) (found_lt q l)

    pages-length : length pages ≡ h
    unfolding pages_of
    pages-length = length-tab h _

    pages-long : (i : ℕ) → i < h → length (get_or pages i []) ≡ sz.S
    unfolding pages_of
    pages-long i l = ap length (get_d_tab h _ [] i l) ∙ length-page_at sz.S sb i (in_run sz.S h sb long l)

    abbrev shelf-then : List Page
    shelf-then = shelf_after h es pages t.call (page_seen fmt now.store (shelves t.call)) (is_refused ordinarily.answer)

    then-length : length shelf-then ≡ h
    then-length = after-long sz limits h h_le es pages pages-length pages-long t.call _ (is_refused ordinarily.answer)

    then-each : (i : ℕ) → i < h → length (get_or shelf-then i []) ≡ sz.S
    then-each = after-each sz limits h h_le es pages pages-length pages-long t.call _ (is_refused ordinarily.answer)
        (λ q l. ap length (found q l) ∙ holds-long fmt Matched Near sz laws u store ref x (shelves t.call) (found_lt q l))

    normal : (is_back t.call && eqb (shelved es) 0) ≡ false → ShelfStep fmt Near sz h u now beside t Shelves
    unfolding shelf_fed ordinary shelf_book_says
    normal e =
        let st = says in
        let same : is_refused ordinarily.answer ≡ is_refused (book_says sz ref (taken sz h beside t) ordinarily.answer).answer = ap
        is_refused st.answers in
        let ra = run-after sz limits h h_le k es run t.call (is_refused
        (book_says sz ref (taken sz h beside t) ordinarily.answer).answer) (λ q l. found_lt (same ∙ q) l) e in
        rw (call-is e) (rw (e, shelf_book_says) (record {
          answers = st.answers;
          shows = st.shows;
          borne = st.borne;
          reads = gives t.choice ref.array es pages t.call ordinarily _ _ st.reads;
          then = record {
            holds = st.then;
            count = ra.0;
            run = ra.1;
            entries-are = ap (entries_after h es t.call) same;
            shelf-long = length-flat sz.S shelf-then [] (λ i l. then-each i (rw then-length at l))
                ∙ ap (λ (n : ℕ). n * sz.S) then-length;
            shelf-are = ap (λ (n : ℕ). pages_of sz.S n (flat shelf-then)) (sym then-length)
                ∙ pages-flat sz.S shelf-then [] (λ i l. then-each i (rw then-length at l))
                ∙ after_same sz limits h h_le es pages t.call _ _ (is_refused ordinarily.answer) found
                ∙ ap (shelf_after h es pages t.call (get_or ref.array (shelves t.call) [])) same;
          };
        }))

    nothing : (is_back t.call && eqb (shelved es) 0) ≡ true → ShelfStep fmt Near sz h u now beside t Shelves
    unfolding shelf_fed entries_after shelf_after shelf_book_says
    nothing e = rw (call-empty e) (rw (e, shelf_book_says) (record {
      answers = refl;
      shows = says.shows;
      borne = holds-borne fmt Matched Near sz laws u _ _ (holds-refused fmt Matched Near sz laws u store ref x (meant es pages t.call) 8
          vacant fl cd b);
      reads = empty-gives ref.array t.call _ (and_l (is_back t.call) _ e);
      then = record {
        holds = holds-refused fmt Matched Near sz laws u store ref x (meant es pages t.call) 8 vacant fl cd b;
        count = k;
        run = run;
        entries-are = refl;
        shelf-long = long;
        shelf-are = refl;
      };
    }))

    either : ShelfStep fmt Near sz h u now beside t Shelves
    either = by-test (is_back t.call && eqb (shelved es) 0) nothing normal

  pub shelf-step : (s : ShelfStore) (r : ShelfReference) → Shelves s r → (t : ShelfChosen) → Picks t.choice → (fl cd : List ℕ)
      → Borne fmt Near sz r.reference (flipped s.store fl cd).lent
      → ShelfStep fmt Near sz h u (shelf_flipped s fl cd) r t Shelves
  shelf-step s r x t p fl cd =
      let g = x.holds in
      let dir : Directory = r.reference.book.directory in let lent : Buffers = buffers_of g.memory r.reference.book.wear in
      let se : s ≡ record {
        store = record { cache = record { sizes = sz; directory = dir }; lent = lent };
        entries = r.entries;
        shelf = s.shelf;
      } = (λ i. record { store = g.store_is i; entries = x.entries-are i; shelf = s.shelf }) in
      let re : r ≡ record { reference = r.reference; entries = r.entries; shelf = pages_of_shelf sz h s.shelf } =
      (λ i. record { reference = r.reference; entries = r.entries; shelf = sym x.shelf-are i }) in
      subst (λ (v : ShelfStore × ShelfReference). Borne fmt Near sz v.1.reference (flipped v.0.store fl cd).lent
      → ShelfStep fmt Near sz h u (shelf_flipped v.0 fl cd) v.1 t Shelves)
      (sym (λ i. (se i, re i)))
      (λ b. either dir lent r.reference r.entries s.shelf (record { memory = g.memory; store_is = refl; inv = g.inv })
      x.count x.run x.shelf-long t p fl cd b)

  -- demand 3 with the shelf
  pub shelf-claim : (cs : List ShelfChosen) → AllShelfPick cs → (s : ShelfStore) (r : ShelfReference) → Shelves s r
      → ShelfClaim fmt Near sz h u cs s r
  shelf-claim [] p s r x = λ fl cd b. holds_after fmt Matched Near sz laws u s.store r.reference x.holds fl cd b
  shelf-claim (t ∷ cs) p s r x = λ fl cd b. let st = shelf-step s r x t p.0 fl cd b in
      record { answers = st.answers; shows = st.shows; reads = st.reads; borne = st.borne; then = shelf-claim cs p.1 _ _ st.then }

-- ---- the sizes that an opening set stay

module _ (fmt : Format) (pick : Choice) where
  carried-sizes : (besides : ℕ → Bool) (s : Store) (c : Call Page) (o : Outcome)
      → (carried_out fmt pick s c besides o).store.cache.sizes ≡ s.cache.sizes
  unfolding carried_out
  carried-sizes besides s c o = by-test (is_refused o.answer) (λ e. rw (e, carried_out)) (λ e. rw (e, carried_out))

  below-sizes : (besides : ℕ → Bool) (s : Store) (c : Call Page) → (call_reading fmt pick besides s c).store.cache.sizes ≡ s.cache.sizes
  unfolding call_reading
  below-sizes besides s c = by-test (sound s.cache.sizes s.cache.directory)
      (λ a. rw (a, call_reading) (by-test (lent_ok fmt s.cache.sizes s.lent)
      (λ b. rw b (carried-sizes besides s c _)) (λ b. rw b)))
      (λ a. rw (a, call_reading))

  pub sizes-stay : (h : ℕ) (s : ShelfStore) (c : ShelfCall) → (shelf_call fmt h pick s c).store.store.cache.sizes ≡ s.store.cache.sizes
  unfolding shelf_call ordinary
  sizes-stay h s c = by-test (sound s.store.cache.sizes s.store.cache.directory && shelf_ok s.store.cache.sizes h
      s.entries)
      (λ a. rw (a, shelf_call) (by-test (lent_ok fmt s.store.cache.sizes s.store.lent
      && eqb (length s.shelf) (h * s.store.cache.sizes.S))
      (λ b. rw b (by-test (is_back c && eqb (shelved s.entries) 0) (λ e. rw e) (λ e. rw e (below-sizes _ s.store _))))
      (λ b. rw b)))
      (λ a. rw (a, shelf_call))

-- ---- after an accepted write and its accepted taking back the page array is as before the write

module _ (sz : Sizes) (limits : InLimits sz) (h : ℕ) (h_le : h ≤ 8) (h-pos : 0 < h) where
  -- the latest is what was shelved last
  shelve-latest : {X : Type 0} (none : X) (k : ℕ) (l : List X) (x : X) → k ≤ h → h ≤ length l
      → get_or (shelve none h k l x) (cond (ltb k h) (suc k) k - 1) none ≡ x
  shelve-latest none k l x kl ll = by-test (ltb k h)
      (λ t. rw (t, shelve-room sz limits h h_le none k l x t) (let q = ltb-true k h t in let e : suc k - 1 ≡ k = omega arith in
      rw e (get_or-set_same l k x none (omega arith))))
      (λ t. rw t (let q = ltb-false k h t in let e : suc (k - 1) ≡ h = omega arith in
      shelve-full sz limits h h_le none k l x t (k - 1) (omega arith)
      ∙ rw (le-ltb (suc (k - 1)) h (omega arith), eq-eqb (suc (k - 1)) h e)))

  -- the page that a call which shelves puts into the array
  abbrev put_by : List Page → ShelfCall → Page
  put_by a (plainly (read n x)) = []
  put_by a (plainly (write n x)) = x
  put_by a (plainly (part n first x page)) = laid first x (get_or a n [])
  put_by a (plainly step) = []
  put_by a (plainly flush) = []
  put_by a back = []

  puts : (a : List Page) (es : List ℕ) (ps : List Page) (c : ShelfCall) → ltb (shelves c) vacant ≡ true
      → array_after a (meant es ps c) false ≡ set a (shelves c) (put_by a c)
  unfolding array_after
  puts a es ps (plainly (read n x)) t = clash t refl
  puts a es ps (plainly (write n x)) t = refl
  puts a es ps (plainly (part n first x page)) t = by-test (no_bytes x) (λ e. clash (rw e at t) refl) (λ e. rw e)
  puts a es ps (plainly step) t = clash t refl
  puts a es ps (plainly flush) t = clash t refl
  puts a es ps back t = clash t refl

  not_back : (c : ShelfCall) → ltb (shelves c) vacant ≡ true → is_back c ≡ false
  not_back (plainly c) t = refl
  not_back back t = clash t refl

  -- c is a write, or a part write with bytes
  module _ (r : ShelfReference) (k : ℕ) (run : Run sz limits h h_le k r.entries) (shelf-is : length r.shelf ≡ h) (c : ShelfCall)
      (n-lt : shelves c < sz.N * sz.K)
      (pick pick' : Choice) (o o' : Outcome) (ok : is_refused o.answer ≡ false) (ok' : is_refused o'.answer ≡ false)
      (cs cs' : List Cell) where
    abbrev n : ℕ
    n = shelves c

    abbrev wrote : ShelfReference
    wrote = shelf_fed sz h r (record { choice = pick; call = c }) o cs

    abbrev undone : ShelfReference
    undone = shelf_fed sz h wrote (record { choice = pick'; call = back }) o' cs'

    writes : ltb (shelves c) vacant ≡ true
    writes = let s = pages-small sz limits in lt-ltb (shelves c) vacant (omega arith)

    after_run : Run sz limits h h_le (cond (ltb k h) (suc k) k) (shelve vacant h k r.entries n)
    after_run = by-test (ltb k h) (λ t. rw t (run_more sz limits h h_le k r.entries n run n-lt t))
        (λ t. rw t (run-full sz limits h h_le k r.entries n run n-lt t))

    entries-wrote : wrote.entries ≡ shelve vacant h k r.entries n
    unfolding shelf_fed entries_after
    entries-wrote = rw (ok, not_back c writes, writes, run-shelved sz limits h h_le k r.entries run)

    shelf-wrote : wrote.shelf ≡ shelve [] h k r.shelf (get_or r.reference.array n [])
    unfolding shelf_fed shelf_after
    shelf-wrote = rw (ok, writes, run-shelved sz limits h h_le k r.entries run)

    array-then : wrote.reference.array ≡ set r.reference.array n (put_by r.reference.array c)
    unfolding shelf_fed fed
    array-then = rw ok (puts r.reference.array r.entries r.shelf c writes)

    -- taking back is the write of what was there
    back_is : meant wrote.entries wrote.shelf back ≡ write n (get_or r.reference.array n [])
    back_is = let g = run.long in let q = run.k_le in
        rw (entries-wrote, shelf-wrote, run-shelved sz limits h h_le _ _ after_run)
        (ap₂ (λ (a : ℕ) (b : Page). write a b) (shelve-latest vacant k r.entries n q (omega arith))
        (shelve-latest [] k r.shelf _ q (omega arith)))

    pub taken_back : undone.reference.array ≡ r.reference.array
    unfolding shelf_fed fed array_after
    taken_back = ap (λ (c : Call Page). array_after wrote.reference.array c (is_refused o'.answer)) back_is
        ∙ rw (ok', array-then) (set-set r.reference.array n (put_by r.reference.array c) (get_or r.reference.array n [])
        ∙ set-get_or r.reference.array n [])

-- ---- demand 3 with the shelf, from an accepted opening; h is 0 to 8

-- what holds as a list begins
pub shelves-opened : (fmt : Format) (Matched : Sizes → Cell → Type 0) (Near : Sizes → Cell → Cell → Type 0) (sz : Sizes)
    (laws : Bears fmt Matched Near sz) (u : Buffers) (limits : InLimits sz) (h : ℕ) (h_le : h ≤ 8) → Accept fmt sz u
    → ((n : ℕ) → n < sz.N * sz.K → Matched sz (get_or (flash_cells fmt sz u) n no_cell)) → (shelf : List ℕ) → length shelf ≡ h * sz.S
    → Shelves fmt Matched Near sz laws u limits h h_le (record {
      store = record { cache = (open_store fmt sz u).cache; lent = u };
      entries = no_entries;
      shelf = shelf;
    }) (shelf_opened fmt sz h u shelf)
shelves-opened fmt Matched Near sz laws u limits h h_le a ok shelf sl = record {
  holds = holds_opened fmt Matched Near sz laws u a ok;
  count = 0;
  run = record {
    long = length-replicate 8 vacant;
    k_le = omega arith;
    used = λ i l. absurd (omega arith);
    free = λ i l q. get_or-replicate 8 i vacant vacant q;
  };
  entries-are = refl;
  shelf-long = sl;
  shelf-are = refl;
}

pub demand_3_shelf : (fmt : Format) (Matched : Sizes → Cell → Type 0) (Near : Sizes → Cell → Cell → Type 0) (sz : Sizes)
    → Bears fmt Matched Near sz → (u : Buffers) → (open_store fmt sz u).answer ≡ open_done
    → ((n : ℕ) → n < sz.N * sz.K → Matched sz (get_or (flash_cells fmt sz u) n no_cell))
    → (h : ℕ) → h ≤ 8 → (shelf : List ℕ) → length shelf ≡ h * sz.S → (cs : List ShelfChosen) → AllShelfPick cs
    → ShelfClaim fmt Near sz h u cs (record {
      store = record { cache = (open_store fmt sz u).cache; lent = u };
      entries = no_entries;
      shelf = shelf;
    })
    (shelf_opened fmt sz h u shelf)
demand_3_shelf fmt Matched Near sz laws u acc ok h hl shelf sl cs p = let a = open_accepted fmt sz u acc in
    let limits = limits_of sz a.sizes-ok in
    shelf-claim fmt Matched Near sz laws u limits h hl cs p _ _ (shelves-opened fmt Matched Near sz laws u limits h hl a ok shelf sl)
