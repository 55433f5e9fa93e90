-- One call of a catalogue, at a point of a list where demand 3's invariant holds: the list of the array's sheets says the same.
use mathlib.Core.Path.{◌≡◌, refl, sym, ap, ◌∙◌, subst}
use mathlib.Core.Logic.{inl, inr}
use mathlib.Core.Bool.{Bool, true, false, cond, ◌&&◌}
use mathlib.Core.List.{List, [], ◌∷◌}
use Prim.Native.Nat.{ℕ, ◌*◌, ◌≤◌, ◌<◌}
use native.Mathlib.Omega.{arith}
use lib.Dec.{ltb, eqb}
use lib.ListN.{length, get_or, set, length-set}
use lib.Seq.{get_or-set_same, get_or-set_other, ext_get_or}
use borrow.Author.Tests.{ltb-true, eqb-true, eqb-false, eq-eqb}
use Rattle.prelude.specs.Scan.{first}
use Rattle.prelude.proofs.Tests.{by-test, and_i, and_r, fails}
use Rattle.prelude.proofs.Scan.{first-hit}
use Rattle.prelude.proofs.Tab.{length-tab, get_d_tab, tab-ext}
use Rattle.model.specs.Sizes.{Sizes, vacant, InLimits}
use Rattle.model.specs.Directory.{Directory}
use Rattle.model.specs.Soundness.{sound}
use Rattle.model.specs.Policy.{Choice, policy_choice}
use Rattle.model.specs.Calls.{Answer, refused, is_refused, Call, read, write, step, Page, Cell, Buffers, Store, Outcome, buffers_of}
use Rattle.model.specs.Calls.{lent_ok, flash_cells}
use Rattle.model.specs.Calls.{some_page, fault_met, mends_met, page_seen}
use Rattle.model.specs.Formats.{store_format, StoreMatches, StoreNear}
use Rattle.model.specs.Lists.{Picks, Reference, Bears, Borne, added_cause, array_after, fed, flipped}
use Rattle.model.specs.Legible.{AsProgrammed}
use Rattle.model.specs.Shelf.{shelf_ok, plainly, ShelfStore, ShelfReference, ShelfChosen, pages_of_shelf, ordinary, shelf_call}
use Rattle.model.specs.Shelf.{shelf_book_says}
use Rattle.model.specs.Shelf.{shelf_fed, shelf_flipped, ShelfStep}
use Rattle.model.proofs.Plan.{policy_choice-picks}
use Rattle.model.proofs.Plain.{nothing}
use Rattle.model.proofs.Formats.{store-bears}
use Rattle.model.proofs.Demand3.{Holds, holds-sound}
use Rattle.model.proofs.RulesCalls.{keeps-page_rule}
use Rattle.model.proofs.Shelf.{Run, run_ok, lent_of, Shelves, shelf-step}
use Rattle.model.proofs.Legible.{reading-readable, shelf-readable, cell-readable, cell-mendless}
use Rattle.runs.specs.Sheet.{Sheet, no_sheet, sheet_of, page_of, Words}
use Rattle.runs.specs.Runs.{sheet_at}
use Rattle.runs.specs.Roles.{Operation, add, look, list, replace, mark, allowed}
use Rattle.runs.specs.Roles as roles
use Rattle.runs.specs.Verdict.{Verdict, refuse, show, tell, fetch, put, verdict, Check, passed, stopped, Judged, outside, decided}
use Rattle.runs.specs.Verdict.{in_order, judged}
use Rattle.runs.specs.RulesEnds.{AnyOf, Shows, Tells, Fetches, Puts, Ends, OperationWords}
use Rattle.runs.proofs.Sheet.{page-words, page_of-byte, read_back}
use Rattle.runs.proofs.RulesEnds.{ends-rule}
use Rattle.over.specs.Catalogue.{Asked, down, fetched, wrote, Out, sizes_fit, asking, entering, fault_at, lowest_refused}
use Rattle.over.specs.Catalogue.{sheets_check, outside_of, stored, mends_from, turned_down, last_step, catalogue_call}
use Rattle.over.specs.Mixed.{sheets_in, sheet_told, Listed, by_choice, list_step, list_outside, list_call, AllBytes, NotUnreadable}
use Rattle.over.specs.Mixed.{list_says}
use Rattle.over.proofs.Checks.{asked-on, asked-off, Fit, fit-facts, met-cause, sheets-pass, sheets-stop, lowest-fault}
use Rattle.over.proofs.Bytes.{fed-array, fed-shelf}

-- ---- what a verdict asks

-- a refusal is none that the store's requests add, a page to read is one of the pages, and a sheet to write has 32-bit numbers and is one
-- of the first c
abbrev pub Sane : ℕ → ℕ → Verdict → Type 0
Sane c pages (refuse n) = added_cause (refused n vacant) ≡ 0
Sane c pages (show s q) = Unit {0}
Sane c pages (tell r) = Unit {0}
Sane c pages (fetch n) = n < pages
Sane c pages (put i s) = (i < c) × Words s

abbrev AllQuiet : List ℕ → Type 0
AllQuiet [] = Unit {0}
AllQuiet (a ∷ l) = (added_cause (refused a vacant) ≡ 0) × AllQuiet l

any-quiet : (ns : List ℕ) (n : ℕ) → AllQuiet ns → AnyOf ns n → added_cause (refused n vacant) ≡ 0
any-quiet [] n q h = absurd h
any-quiet (a ∷ l) n q (inl e) = ap (λ (m : ℕ). added_cause (refused m vacant)) e ∙ q.0
any-quiet (a ∷ l) n q (inr h) = any-quiet l n q.1 h

module _ (c pages : ℕ) (ns : List ℕ) (q : AllQuiet ns) where
  sane-shows : (v : Verdict) → Shows ns v → Sane c pages v
  sane-shows (refuse n) h = any-quiet ns n q h
  sane-shows (show s r) h = tt
  sane-shows (tell r) h = absurd h
  sane-shows (fetch n) h = absurd h
  sane-shows (put i s) h = absurd h

  sane-tells : (v : Verdict) → Tells ns v → Sane c pages v
  sane-tells (refuse n) h = any-quiet ns n q h
  sane-tells (show s r) h = absurd h
  sane-tells (tell r) h = tt
  sane-tells (fetch n) h = absurd h
  sane-tells (put i s) h = absurd h

  sane-fetches : (v : Verdict) → Fetches c pages ns v → Sane c pages v
  sane-fetches (refuse n) h = any-quiet ns n q h
  sane-fetches (show s r) h = absurd h
  sane-fetches (tell r) h = absurd h
  sane-fetches (fetch n) h = h.1
  sane-fetches (put i s) h = absurd h

  sane-puts : (v : Verdict) → Puts c ns v → Sane c pages v
  sane-puts (refuse n) h = any-quiet ns n q h
  sane-puts (show s r) h = absurd h
  sane-puts (tell r) h = absurd h
  sane-puts (fetch n) h = absurd h
  sane-puts (put i s) h = h

sane-ends : (c pages : ℕ) (o : Operation) (v : Verdict) → Ends c pages o v → Sane c pages v
sane-ends c pages (add s f n) v h = sane-puts c pages (9 ∷ 11 ∷ []) (refl, (refl, tt)) v h
sane-ends c pages (look r) v h = sane-shows c pages (10 ∷ []) (refl, tt) v h
sane-ends c pages (list p) v h = sane-tells c pages (10 ∷ []) (refl, tt) v h
sane-ends c pages (roles.read r x) v h = sane-fetches c pages (10 ∷ 11 ∷ []) (refl, (refl, tt)) v h
sane-ends c pages (replace r s f n) v h = sane-puts c pages (9 ∷ 10 ∷ 13 ∷ 11 ∷ []) (refl, (refl, (refl, (refl, tt)))) v h
sane-ends c pages (mark r m) v h = sane-puts c pages (10 ∷ 13 ∷ 11 ∷ []) (refl, (refl, (refl, tt))) v h

-- ---- sheets of an array

pub sheets-same : (c : ℕ) (a a' : List Page) → ((i : ℕ) → i < c → get_or a' i [] ≡ get_or a i []) → sheets_in c a ≡ sheets_in c a'
unfolding sheets_in
sheets-same c a a' h =
    tab-ext no_sheet c (λ i. sheet_of (get_or a i [])) (λ i. sheet_of (get_or a' i [])) (λ i l. ap sheet_of (sym (h i l)))

sheets-set : (c S : ℕ) → 28 ≤ S → (a : List Page) (i : ℕ) (s : Sheet) → i < c → i < length a → Words s
    → set (sheets_in c a) i s ≡ sheets_in c (set a i (page_of S s))
unfolding sheets_in
sheets-set c S wide a i s il inside w =
    let long : length (sheets_in c a) ≡ c = length-tab c _ in
    ext_get_or no_sheet (set (sheets_in c a) i s) (sheets_in c (set a i (page_of S s)))
    (length-set (sheets_in c a) i s ∙ long ∙ sym (length-tab c _))
    (λ j jl. let jc : j < c = (let q = length-set (sheets_in c a) i s in omega arith) in
    by-test (eqb j i)
    (λ t. rw (eqb-true j i t) (get_or-set_same (sheets_in c a) i s no_sheet (omega arith)
    ∙ sym (get_d_tab c (λ n. sheet_of (get_or (set a i (page_of S s)) n [])) no_sheet i il
    ∙ ap sheet_of (get_or-set_same a i (page_of S s) [] inside) ∙ read_back S s wide w)))
    (λ t. let ne = eqb-false j i t in get_or-set_other (sheets_in c a) i j s no_sheet ne
    ∙ get_d_tab c (λ n. sheet_of (get_or a n [])) no_sheet j jc
    ∙ sym (get_d_tab c (λ n. sheet_of (get_or (set a i (page_of S s)) n [])) no_sheet j jc
    ∙ ap sheet_of (get_or-set_other a i j (page_of S s) [] ne))))

words_in : (c : ℕ) (a : List Page) → AllBytes a → (i : ℕ) → i < c → Words (sheet_at (sheets_in c a) i)
unfolding sheets_in
words_in c a h i l = rw (get_d_tab c (λ n. sheet_of (get_or a n [])) no_sheet i l) (page-words (get_or a i []) (h i))

-- ---- what is met in flash

none-seven : (sz : Sizes) (fault : ℕ → ℕ) (reads : ℕ → Bool) → ((n : ℕ) → n < sz.N * sz.K → fault n ≡ 7 → ⊥)
    → some_page sz (λ i. reads i && eqb (fault i) 7) ≡ false
unfolding some_page
none-seven sz fault reads good = fails _ (λ t. let l = ltb-true (first (sz.N * sz.K) (λ i. reads i && eqb (fault i) 7)) _ t in
    good _ l (eqb-true _ 7 (and_r (reads (first (sz.N * sz.K) (λ i. reads i && eqb (fault i) 7))) _
    (first-hit (sz.N * sz.K) (λ i. reads i && eqb (fault i) 7) l))))

met-no_seven : (sz : Sizes) (fault : ℕ → ℕ) (reads : ℕ → Bool) → ((n : ℕ) → n < sz.N * sz.K → fault n ≡ 7 → ⊥)
    → fault_met sz fault reads ≡ 7 → ⊥
unfolding fault_met
met-no_seven sz fault reads good h = let z = none-seven sz fault reads good in
    by-test (some_page sz (λ i. reads i && eqb (fault i) 14))
    (λ t. let e : fault_met sz fault reads ≡ 14 = rw (z, t) in omega arith)
    (λ t. let e : fault_met sz fault reads ≡ 0 = rw (z, t) in omega arith)

-- a refused read of the store with its shelf hands the page buffer back
pub shelf-kept : (h : ℕ) (pick : Choice) (s : ShelfStore) (n : ℕ) (x : Page)
    → is_refused (shelf_call store_format h pick s (plainly (read n x))).answer ≡ true
    → (shelf_call store_format h pick s (plainly (read n x))).page ≡ x
unfolding shelf_call ordinary
shelf-kept h pick s n x = let sz = s.store.cache.sizes in
    by-test (sound sz s.store.cache.directory && shelf_ok sz h s.entries)
    (λ a. rw (a, shelf_call) (by-test (lent_ok store_format sz s.store.lent && eqb (length s.shelf) (h * sz.S))
    (λ f. rw f (keeps-page_rule store_format pick _ s.store n 0 x []).0)
    (λ f. rw f (λ e. refl))))
    (λ a. rw (a, shelf_call) (λ e. refl))

-- what is shown of a call that came out so, where the list of sheets says l; T is what holds afterwards
pub record Agrees (sz : Sizes) (ref : Reference) (lent : Buffers) (T : ShelfStore → ShelfReference → List Sheet
    → Type 0) (out : Out) (l : Listed) : Type 0 where
  pub answers : out.says ≡ l.says
  pub buffer : out.page ≡ l.page
  pub readable : NotUnreadable out.says
  pub mendless : AsProgrammed store_format sz ref lent → out.mends ≡ 0
  pub borne : Borne store_format StoreNear sz l.reference.reference out.store.store.lent
  pub then : T out.store l.reference l.sheets

-- ---- the invariant

module _ (sz : Sizes) (limits : InLimits sz) (u : Buffers) (h_le : sz.shelf_pages ≤ 8) where
  abbrev bears : Bears store_format StoreMatches StoreNear sz
  bears = store-bears sz limits.whole

  abbrev pub Here : ShelfStore → ShelfReference → Type 0
  Here s r = Shelves store_format StoreMatches StoreNear sz bears u limits sz.shelf_pages h_le s r

  -- demand 3's invariant, and every page of array and shelf is bytes
  pub record Stands (s : ShelfStore) (r : ShelfReference) : Type 0 where
    pub here : Here s r
    pub array : AllBytes r.reference.array
    pub shelf : AllBytes r.shelf

  -- after a call of the store
  pub stands-step : (s : ShelfStore) (r : ShelfReference) → Stands s r → (t : ShelfChosen) → Picks t.choice → (fl cd : List ℕ)
      → Borne store_format StoreNear sz r.reference (flipped s.store fl cd).lent
      → ShelfStep store_format StoreNear sz sz.shelf_pages u (shelf_flipped s fl cd) r t Here
  stands-step s r g t p fl cd b = shelf-step store_format StoreMatches StoreNear sz bears u limits sz.shelf_pages h_le s r
      g.here t p fl cd b

  module _ (dir : Directory) (lent : Buffers) (ref : Reference) (es sb : List ℕ)
      (x : Holds store_format StoreMatches StoreNear sz bears u
      (record { cache = record { sizes = sz; directory = dir }; lent = lent }) ref)
      (k : ℕ) (run : Run sz limits sz.shelf_pages h_le k es) (long : length sb ≡ sz.shelf_pages * sz.S) (bytes : AllBytes ref.array)
      (shelf : AllBytes (pages_of_shelf sz sz.shelf_pages sb)) (fl cd : List ℕ)
      (b : Borne store_format StoreNear sz ref (flipped (record { cache = record { sizes = sz; directory = dir }; lent = lent }) fl cd
      ).lent)
    where
      abbrev h : ℕ
      h = sz.shelf_pages

      abbrev store : Store
      store = record { cache = record { sizes = sz; directory = dir }; lent = lent }

      abbrev s : ShelfStore
      s = record { store = store; entries = es; shelf = sb }

      abbrev now : ShelfStore
      now = shelf_flipped s fl cd

      abbrev r : ShelfReference
      r = record { reference = ref; entries = es; shelf = pages_of_shelf sz h sb }

      here : Here s r
      here = record { holds = x; count = k; run = run; entries-are = refl; shelf-long = long; shelf-are = refl }

      step-at : (t : ShelfChosen) → Picks t.choice → ShelfStep store_format StoreNear sz h u now r t Here
      step-at t p = shelf-step store_format StoreMatches StoreNear sz bears u limits h h_le s r here t p fl cd b

      shows : (n : ℕ) → n < sz.N * sz.K → page_seen store_format now.store n ≡ get_or ref.array n []
      shows = (step-at (by_choice policy_choice step) policy_choice-picks).shows

      -- record and buffers pass
      entered : (y : Page) (c : Check Answer) → entering now y c ≡ asking (eqb (length y) sz.S) 2 c
      unfolding entering
      entered y c = asked-on _ 4 _ (and_i (holds-sound store_format StoreMatches StoreNear sz bears u store ref x).1
          (run_ok sz limits h h_le k es run)) ∙ asked-on _ 2 _ (and_i (lent_of store_format sz _ b.fits) (eq-eqb _ _ long))

      -- the sheets that the store holds are the array's
      stored_is : (c : ℕ) → c < sz.N * sz.K → stored now c ≡ sheets_in c ref.array
      unfolding stored sheets_in
      stored_is c l = tab-ext no_sheet c (λ i. sheet_of (page_seen store_format now.store i)) (λ i. sheet_of (get_or ref.array i []))
          (λ i il. ap sheet_of (shows i (omega arith)))

      -- nothing is unreadable, and an undisturbed store mends nothing
      readable-now : (pick : Choice) (c : Call Page) (n : ℕ) → (shelf_call store_format h pick now (plainly c)).answer ≡ refused 7 n → ⊥
      readable-now pick c = shelf-readable store_format h pick now (plainly c) (λ besides j. reading-readable store_format pick besides
          now.store j (cell-readable sz limits u store r x fl cd b))

      fault-readable : (n : ℕ) → fault_at now n ≡ 7 → ⊥
      unfolding fault_at
      fault-readable n = met-no_seven sz _ _ (cell-readable sz limits u store r x fl cd b)

      mendless-now : AsProgrammed store_format sz ref now.store.lent → (reads : ℕ → Bool) → mends_from now reads ≡ 0
      unfolding mends_from mends_met
      mendless-now same reads = nothing sz (sz.N * sz.K) _ (λ i l. by-test (reads i)
          (λ t. rw t (cell-mendless sz limits u store r x fl cd b same i l)) (λ t. rw t))

      module _ (pick : Choice) (p : Picks pick) (c : ℕ) (q : Asked) (T : ShelfStore → ShelfReference → List Sheet → Type 0)
          (next : (s' : ShelfStore) (r' : ShelfReference) (ss : List Sheet) → Stands s' r' → ss ≡ sheets_in c r'.reference.array
          → T s' r' ss)
          (stay : T now r (sheets_in c ref.array)) where
        abbrev ss : List Sheet
        ss = sheets_in c ref.array

        abbrev listed-as : Out → Verdict → Listed
        listed-as out v = list_step sz h pick c ss r q out.says (flash_cells store_format sz out.store.store.lent) v

        abbrev Agreed : Out → Listed → Type 0
        Agreed out l = Agrees sz ref now.store.lent T out l

        refused-seven : (n m : ℕ) → (n ≡ 7 → ⊥) → refused n vacant ≡ refused 7 m → ⊥
        refused-seven n m e i = e (cc)

        -- a call that is turned down by this answer
        abbrev held_back : Answer → Listed
        held_back a = record { says = down a; reference = r; sheets = ss; page = q.page }

        turned : (n : ℕ) → (n ≡ 7 → ⊥) → Agreed (turned_down now q.page (refused n vacant)) (held_back (refused n vacant))
        turned n ne = record {
          answers = refl;
          buffer = refl;
          readable = λ m. refused-seven n m ne;
          mendless = λ same. refl;
          borne = b;
          then = stay;
        }

        -- the array after a write, by whether it is refused
        written-array : (a : List Page) (i : ℕ) (y : Page) (down : Bool) → array_after a (write i y) down ≡ cond down a (set a i y)
        unfolding array_after
        written-array a i y true = refl
        written-array a i y false = refl

        -- the sheets after a read, and after a write
        kept-sheets : (n : ℕ) (o : Outcome) (cs : List Cell) → ss
            ≡ sheets_in c (shelf_fed sz h r (by_choice pick (read n q.page)) o cs).reference.array
        unfolding shelf_fed fed array_after
        kept-sheets n o cs = refl

        put-sheets : Fit sz c → (i : ℕ) (sh : Sheet) → (i < c) × Words sh → (o : Outcome) (cs : List Cell)
            → cond (is_refused o.answer) ss (set ss i sh)
            ≡ sheets_in c (shelf_fed sz h r (by_choice pick (write i (page_of sz.S sh))) o cs).reference.array
        unfolding shelf_fed fed
        put-sheets f i sh g o cs = by-test (is_refused o.answer)
            (λ e. rw (e, written-array ref.array i (page_of sz.S sh) true))
            (λ e. rw (e, written-array ref.array i (page_of sz.S sh) false) (sheets-set c sz.S f.wide ref.array i sh g.0
            (let q = x.inv.good.array-length in let z = f.below in let w = g.0 in omega arith) g.1))

        -- the last step, where the checks before it passed
        agreed-step : Fit sz c → (v : Verdict) → Sane c (sz.N * sz.K) v
            → Agreed (last_step pick c now q.page v) (listed-as (last_step pick c now q.page v) v)
        unfolding last_step list_step
        agreed-step f (refuse n) g = record {
          answers = refl;
          buffer = refl;
          readable = λ m. refused-seven n m (λ e. let z : ◌≡◌ {A = ℕ} 7 0 = ap (λ (j : ℕ). added_cause (refused j vacant)) (sym e) ∙ g in
              omega arith);
          mendless = λ same. refl;
          borne = b;
          then = stay;
        }
        agreed-step f (show sh y) g = record {
          answers = refl;
          buffer = refl;
          readable = tt;
          mendless = λ same. mendless-now same _;
          borne = b;
          then = stay;
        }
        agreed-step f (tell y) g = record {
          answers = refl;
          buffer = refl;
          readable = tt;
          mendless = λ same. mendless-now same _;
          borne = b;
          then = stay;
        }
        agreed-step f (fetch n) g =
            let t = by_choice pick (read n q.page) in
            let st = step-at t p in
            let a = (shelf_call store_format h pick now (plainly (read n q.page))).answer in
            record {
              answers = ap fetched st.answers;
              buffer = by-test (is_refused a)
                  (λ e. shelf-kept h pick now n q.page e ∙ sym (ap (λ (d : Bool). cond d q.page (get_or ref.array n []))
                  (ap is_refused (sym st.answers) ∙ e)))
                  (λ e. st.reads e ∙ sym (ap (λ (d : Bool). cond d q.page (get_or ref.array n []))
                  (ap is_refused (sym st.answers) ∙ e)));
              readable = readable-now pick (read n q.page);
              mendless = λ same. by-test (is_refused a) (λ e. rw e) (λ e. rw e (mendless-now same _));
              borne = st.borne;
              then = next _ _ ss (record {
                here = st.then;
                array = fed-array sz h r bytes shelf t tt _ _;
                shelf = fed-shelf sz h r bytes shelf t tt _ _;
              }) (kept-sheets n (shelf_book_says sz h r t a) _);
            }
        agreed-step f (put i sh) g =
            let y = page_of sz.S sh in
            let t = by_choice pick (write i y) in
            let st = step-at t p in
            let a = (shelf_call store_format h pick now (plainly (write i y))).answer in
            record {
              answers = ap (wrote sh.run) st.answers;
              buffer = ap (λ (o : Answer). cond (is_refused o) q.page y) st.answers;
              readable = readable-now pick (write i y);
              mendless = λ same. by-test (is_refused a) (λ e. rw e) (λ e. rw e (mendless-now same _));
              borne = st.borne;
              then = next _ _ _ (record {
                here = st.then;
                array = fed-array sz h r bytes shelf t (λ j. page_of-byte sz.S sh j) _ _;
                shelf = fed-shelf sz h r bytes shelf t (λ j. page_of-byte sz.S sh j) _ _;
              }) (put-sheets f i sh g (shelf_book_says sz h r t a) _);
            }

        -- ---- the whole call

        abbrev out_by : Judged Answer → Out
        out_by (outside a) = turned_down now q.page a
        out_by (decided v) = last_step pick c now q.page v

        abbrev list_by : Out → Judged Answer → Listed
        list_by out (outside a) = held_back a
        list_by out (decided v) = listed-as out v

        abbrev judges : List Sheet → Check Answer → Judged Answer
        judges l k = judged c (sz.N * sz.K) l q.caller q.operation k

        abbrev told : Out → Check Answer
        told out = list_outside sz h pick c ss r q out.says (flash_cells store_format sz out.store.store.lent)

        call-out : (j : Judged Answer) → judges (stored now c) (outside_of now c q.page) ≡ j → catalogue_call pick c now q ≡ out_by j
        unfolding catalogue_call
        call-out (outside a) e = rw (e, catalogue_call)
        call-out (decided v) e = rw (e, catalogue_call)

        call-listed : (out : Out) (j : Judged Answer) → judges ss (told out) ≡ j → list_says sz pick c ss r q out ≡ list_by out j
        unfolding list_call
        call-listed out (outside a) e = rw (e, list_call)
        call-listed out (decided v) e = rw (e, list_call)

        settled : (j : Judged Answer) → judges (stored now c) (outside_of now c q.page) ≡ j → judges ss (told (out_by j)) ≡ j
            → Agreed (out_by j) (list_by (out_by j) j) → Agreed (catalogue_call pick c now q) (list_says sz pick c ss r q
            (catalogue_call pick c now q))
        settled j e e' g = rw (call-out j e, call-listed (out_by j) j e') g

        module _ (l : List Sheet) (check : Check Answer) where
          by-role : allowed q.caller.role q.operation ≡ false → judges l check ≡ decided (refuse 12)
          unfolding judged in_order
          by-role e = rw e

          by-stop : allowed q.caller.role q.operation ≡ true → (a : Answer) → check ≡ stopped a → judges l check ≡ outside a
          unfolding judged in_order
          by-stop e a s = rw (e, s)

          by-sheets : allowed q.caller.role q.operation ≡ true → check ≡ passed
              → judges l check ≡ decided (verdict c (sz.N * sz.K) l q.caller q.operation)
          unfolding judged in_order
          by-sheets e s = rw (e, s)

        -- what comes from outside, in the store and in the list
        outside-is : outside_of now c q.page ≡ asking (eqb (length q.page) sz.S) 2 (asking (sizes_fit sz c) 1 (sheets_check now c))
        unfolding outside_of
        outside-is = entered q.page _

        told_is : (out : Out) → told out ≡ asking (eqb (length q.page) sz.S) 2 (asking (sizes_fit sz c) 1 (sheet_told out.says))
        unfolding list_outside
        told_is out = refl

        -- a refused sheet is told
        sheet-told : (f : ℕ) → added_cause (refused f vacant) ≡ f → (f ≡ 0 → ⊥)
            → sheet_told (down (refused f vacant)) ≡ stopped (refused f vacant)
        sheet-told f e ne = by-test (eqb (added_cause (refused f vacant)) 0)
            (λ t. absurd (ne (sym e ∙ eqb-true _ 0 t)))
            (λ t. rw t)

        quiet_told : (v : Verdict) → Sane c (sz.N * sz.K) v → sheet_told (last_step pick c now q.page v).says ≡ passed
        unfolding last_step
        quiet_told (refuse n) g = rw (eq-eqb (added_cause (refused n vacant)) 0 g)
        quiet_told (show sh y) g = refl
        quiet_told (tell y) g = refl
        quiet_told (fetch n) g = refl
        quiet_told (put i sh) g = refl

        refused-twelve : Agreed (last_step pick c now q.page (refuse 12)) (listed-as (last_step pick c now q.page (refuse 12))
            (refuse 12))
        unfolding last_step list_step
        refused-twelve = turned 12 (λ z. omega arith)

        caused : (n : ℕ) → added_cause (refused (fault_at now n) vacant) ≡ fault_at now n
        unfolding fault_at
        caused n = met-cause sz _ _

        module _ (number : q.caller.number < 4294967296) (words : OperationWords q.operation) where
          abbrev v : Verdict
          v = verdict c (sz.N * sz.K) ss q.caller q.operation

          sane : Sane c (sz.N * sz.K) v
          sane = sane-ends c (sz.N * sz.K) q.operation v (ends-rule c (sz.N * sz.K) ss (words_in c ref.array bytes)
              q.caller number
              q.operation words)

          abbrev Whole : Type 0
          Whole = Agreed (catalogue_call pick c now q) (list_says sz pick c ss r q (catalogue_call pick c now q))

          -- a check that is the same in both stops the call
          stops : allowed q.caller.role q.operation ≡ true → (n : ℕ) → (n ≡ 7 → ⊥)
              → outside_of now c q.page ≡ stopped (refused n vacant)
              → told (out_by (outside (refused n vacant))) ≡ stopped (refused n vacant) → Whole
          stops e n ne a a' = settled (outside (refused n vacant)) (by-stop (stored now c) _ e _ a) (by-stop ss _ e _ a') (turned n ne)

          pub agreed : Whole
          agreed = by-test (allowed q.caller.role q.operation)
              (λ e0. by-test (eqb (length q.page) sz.S)
              (λ e1. by-test (sizes_fit sz c)
              (λ e2. let on : (k : Check Answer) → asking (eqb (length q.page) sz.S) 2 (asking (sizes_fit sz c) 1 k) ≡ k =
              (λ k. asked-on _ 2 _ e1 ∙ asked-on _ 1 k e2) in
              by-test (ltb (lowest_refused now c) c)
              (λ e3. let f : ℕ = fault_at now (lowest_refused now c) in
              stops e0 f (fault-readable (lowest_refused now c)) (outside-is ∙ on _ ∙ sheets-stop now c e3)
              (told_is (out_by (outside (refused f vacant))) ∙ on _ ∙ sheet-told f (caused (lowest_refused now c)) (lowest-fault now c e3)))
              (λ e3. let i = fit-facts sz c e2 in
              settled (decided v)
              (by-sheets (stored now c) _ e0 (outside-is ∙ on _ ∙ sheets-pass now c e3)
              ∙ ap (λ (l : List Sheet). decided (verdict c (sz.N * sz.K) l q.caller q.operation)) (stored_is c i.below))
              (by-sheets ss _ e0 (told_is (out_by (decided v)) ∙ on _ ∙ quiet_told v sane)) (agreed-step i v sane)))
              (λ e2. let off : (k : Check Answer) → asking (eqb (length q.page) sz.S) 2 (asking (sizes_fit sz c) 1 k)
              ≡ stopped (refused 1 vacant) =
              (λ k. asked-on _ 2 _ e1 ∙ asked-off _ 1 k e2) in
              stops e0 1 (λ z. omega arith) (outside-is ∙ off _) (told_is (out_by (outside (refused 1 vacant))) ∙ off _)))
              (λ e1. let off : (k : Check Answer) → asking (eqb (length q.page) sz.S) 2 (asking (sizes_fit sz c) 1 k)
              ≡ stopped (refused 2 vacant) =
              (λ k. asked-off _ 2 _ e1) in
              stops e0 2 (λ z. omega arith) (outside-is ∙ off _) (told_is (out_by (outside (refused 2 vacant))) ∙ off _)))
              (λ e0. settled (decided (refuse 12)) (by-role (stored now c) _ e0) (by-role ss _ e0) refused-twelve)

  -- the same of any store and reference of which the invariant holds
  pub agrees : (s : ShelfStore) (r : ShelfReference) → Stands s r → (pick : Choice) → Picks pick → (c : ℕ) (q : Asked)
      → q.caller.number < 4294967296 → OperationWords q.operation → (T : ShelfStore → ShelfReference → List Sheet → Type 0)
      → ((s' : ShelfStore) (r' : ShelfReference) (ss : List Sheet) → Stands s' r' → ss ≡ sheets_in c r'.reference.array → T s' r' ss)
      → (fl cd : List ℕ) → Borne store_format StoreNear sz r.reference (flipped s.store fl cd).lent
      → T (shelf_flipped s fl cd) r (sheets_in c r.reference.array)
      → Agrees sz r.reference (flipped s.store fl cd).lent T (catalogue_call pick c (shelf_flipped s fl cd) q)
      (list_says sz pick c (sheets_in c r.reference.array) r q (catalogue_call pick c (shelf_flipped s fl cd) q))
  agrees s r g pick p c q number words T next fl cd =
      let x = g.here in
      let dir : Directory = r.reference.book.directory in
      let lent : Buffers = buffers_of x.holds.memory r.reference.book.wear in
      let se : s ≡ record {
        store = record { cache = record { sizes = sz; directory = dir }; lent = lent };
        entries = r.entries;
        shelf = s.shelf;
      } = (λ i. record { store = x.holds.store_is i; entries = x.entries-are i; shelf = s.shelf }) in
      let re : r ≡ record { reference = r.reference; entries = r.entries; shelf = pages_of_shelf sz sz.shelf_pages s.shelf } =
      (λ i. record { reference = r.reference; entries = r.entries; shelf = sym x.shelf-are i }) in
      subst (λ (v : ShelfStore × ShelfReference). Borne store_format StoreNear sz v.1.reference (flipped v.0.store fl cd).lent
      → T (shelf_flipped v.0 fl cd) v.1 (sheets_in c v.1.reference.array)
      → Agrees sz v.1.reference (flipped v.0.store fl cd).lent T (catalogue_call pick c (shelf_flipped v.0 fl cd) q)
      (list_says sz pick c (sheets_in c v.1.reference.array) v.1 q (catalogue_call pick c (shelf_flipped v.0 fl cd) q)))
      (sym (λ i. (se i, re i)))
      (λ b stay. agreed dir lent r.reference r.entries s.shelf
      (record { memory = x.holds.memory; store_is = refl; inv = x.holds.inv }) x.count x.run x.shelf-long g.array
      (subst AllBytes (sym x.shelf-are) g.shelf) fl cd b pick p c q T next stay number words)
