-- Request A10 over the store: two stores alike but for others' trainee numbers and marks give a trainee the same looks and lists.
use mathlib.Core.Path.{◌≡◌, refl, sym, ap, ◌∙◌, subst}
use mathlib.Core.Logic.{inl}
use mathlib.Core.Bool.{Bool, true, false, not, cond, ◌&&◌}
use mathlib.Core.List.{List}
use Prim.Native.Nat.{ℕ, ◌*◌, ◌/◌, ◌≤◌, ◌<◌}
use lib.Dec.{ltb, eqb}
use lib.ListN.{length, get_or}
use borrow.Author.Tests.{ltb-true, ltb-false}
use Rattle.prelude.specs.Scan.{first}
use Rattle.prelude.specs.Pages.{page_at}
use Rattle.prelude.proofs.Tests.{by-test}
use Rattle.prelude.proofs.Tab.{length-tab, get_d_tab, get_d_past}
use Rattle.model.specs.Sizes.{Sizes, vacant, InLimits, is_coded, is_marked}
use Rattle.model.specs.Directory.{Cache}
use Rattle.model.specs.Policy.{Choice}
use Rattle.model.specs.Moves.{cell_at}
use Rattle.model.specs.Calls.{Answer, refused, Page, Cell, Buffers, zero_page, flash_cells, fault_met, mends_met, reads_page, page_seen}
use Rattle.model.specs.Formats.{code_for, mark_long, format_of, torn, chip_for, store_format, StoreMatches, StoreNear}
use Rattle.model.specs.Lists.{no_cell}
use Rattle.model.specs.Shelf.{ShelfStore}
use Rattle.model.proofs.Soundness.{sound-facts}
use Rattle.model.proofs.Plain.{nothing}
use Rattle.model.proofs.Buffers.{cells-length, fits-of}
use Rattle.model.proofs.Formats.{page-legible, own-page_mends, store-bears}
use Rattle.model.proofs.Demand3.{get_d_any, cells_fit}
use Rattle.runs.specs.Sheet.{Sheet, no_sheet, sheet_of}
use Rattle.runs.specs.Runs.{sheet_at, known, position}
use Rattle.runs.specs.Roles.{Operation, Caller, allowed, trainee}
use Rattle.runs.specs.RulesRoles.{Alike, Looks, looks, lists}
use Rattle.runs.specs.Verdict.{Verdict, refuse, show, tell, fetch, put, unless, verdict, looking, listing, Check, passed, stopped}
use Rattle.runs.specs.Verdict.{Judged, outside}
use Rattle.runs.specs.Verdict.{decided, in_order, judged}
use Rattle.runs.proofs.RulesRoles.{unseen_rule}
use Rattle.over.specs.Catalogue.{Asked, Out, sizes_fit, asking, sizes_in, directory_in, entering, fault_at, lowest_refused, sheets_check}
use Rattle.over.specs.Catalogue.{outside_of, stored, mends_from, turned_down, last_step, catalogue_call}
use Rattle.over.specs.Unseen.{Undisturbed, Twins, SameLooks}
use Rattle.over.proofs.Checks.{by-check, not_stopped, Enters, enters_on, enters_off}

-- ---- a cell whose code matches

legible-own : (coded : Bool) (sz : Sizes) → (coded ≡ true → sz.S / 256 * 256 ≡ sz.S) → (x : Page) → length x ≡ sz.S
    → (code_for coded).unreadable sz x ((code_for coded).code_of sz x) ≡ false
legible-own true sz whole x l = page-legible sz (whole refl) x x _ l l (inl (refl, refl))
legible-own false sz whole x l = refl

mendless-own : (coded : Bool) (sz : Sizes) → (coded ≡ true → sz.S / 256 * 256 ≡ sz.S) → (x : Page) → length x ≡ sz.S
    → (code_for coded).mends sz x ((code_for coded).code_of sz x) ≡ 0
mendless-own true sz whole x l = own-page_mends sz (whole refl) x l
mendless-own false sz whole x l = refl

module _ (s : ShelfStore) (x : Page) (e : Enters s x) (calm : Undisturbed s) where
  abbrev sz : Sizes
  sz = sizes_in s

  abbrev cells : List Cell
  cells = flash_cells store_format sz s.store.lent

  abbrev cell : ℕ → Cell
  cell i = cell_at (chip_for sz) (zero_page sz) cells i

  limits : InLimits sz
  limits = (sound-facts sz (directory_in s) e.sounds).limits

  cell-is : (n : ℕ) → n < sz.N * sz.K → cell n ≡ get_or cells n no_cell
  unfolding cell_at
  cell-is n l = get_d_any cells n _ no_cell (rw (cells-length store_format sz s.store.lent) l)

  long : (n : ℕ) → n < sz.N * sz.K → length (get_or cells n no_cell).bytes ≡ sz.S
  long n l = (cells_fit store_format StoreMatches StoreNear sz (store-bears sz limits.whole) s.store.lent
      (fits-of store_format sz s.store.lent e.lends) n l).0

  mark-is : (n : ℕ) → n < sz.N * sz.K → (get_or cells n no_cell).mark ≡ page_at (mark_long sz) s.store.lent.marks n
  unfolding flash_cells
  mark-is n l = ap (λ (c : Cell). c.mark) (get_d_tab (sz.N * sz.K) _ no_cell n l)

  -- it can be read unless it is torn, and is not mended
  pub calm-fault : (n : ℕ) → n < sz.N * sz.K → (chip_for sz).fault (cell n)
      ≡ cond (is_marked sz && not (eqb (get_or (page_at (mark_long sz) s.store.lent.marks n) 0 0) 0)) 14 0
  unfolding format_of torn
  calm-fault n l = rw (cell-is n l, calm n l, legible-own (is_coded sz) sz limits.whole _ (long n l), mark-is n l)

  pub calm-mends : (n : ℕ) → n < sz.N * sz.K → (chip_for sz).mends (cell n) ≡ 0
  unfolding format_of
  calm-mends n l = rw (cell-is n l, calm n l) (mendless-own (is_coded sz) sz limits.whole _ (long n l))

  past-cell : (n : ℕ) → sz.N * sz.K ≤ n → cell n ≡ (chip_for sz).cell (zero_page sz)
  unfolding cell_at
  past-cell n l = get_d_past _ cells n (rw (cells-length store_format sz s.store.lent) l)

  pub calm-mended : (reads : ℕ → Bool) → mends_from s reads ≡ 0
  unfolding mends_from mends_met
  calm-mended reads = nothing sz (sz.N * sz.K) _ (λ i l. by-test (reads i) (λ t. rw t (calm-mends i l)) (λ t. rw t))

-- ---- two stores with the same record

-- a verdict that asks the store for nothing
abbrev Quiet : Verdict → Type 0
Quiet (refuse n) = Unit {0}
Quiet (show sh r) = Unit {0}
Quiet (tell r) = Unit {0}
Quiet (fetch n) = ⊥
Quiet (put i sh) = ⊥

quiet-unless : (b : Bool) (n : ℕ) (v : Verdict) → Quiet v → Quiet (unless b n v)
unfolding unless
quiet-unless true n v h = tt
quiet-unless false n v h = h

quiet-looks : (c pages : ℕ) (ss : List Sheet) (w : Caller) (p : Operation) → Looks p → Quiet (verdict c pages ss w p)
unfolding verdict looking listing
quiet-looks c pages ss w p (looks r) = quiet-unless (not (known c ss r)) 10 _ tt
quiet-looks c pages ss w p (lists n) = quiet-unless (not (ltb (position c ss n) c)) 10 _ tt

module _ (c : ℕ) (k : Cache) (l l' : Buffers) (es es' sb sb' : List ℕ) (q : Asked) (role : q.caller.role ≡ trainee)
    (o : Looks q.operation) where
  abbrev one : ShelfStore
  one = record { store = record { cache = k; lent = l }; entries = es; shelf = sb }

  abbrev two : ShelfStore
  two = record { store = record { cache = k; lent = l' }; entries = es'; shelf = sb' }

  module _ (t : Twins c q.caller.number q.page one two) where
    abbrev pages : ℕ
    pages = k.sizes.N * k.sizes.K

    -- the sheets are refused alike
    module _ (e : Enters one q.page) (e' : Enters two q.page) where
      same-fault : (i : ℕ) → (chip_for k.sizes).fault (cell_at (chip_for k.sizes) (zero_page k.sizes) (flash_cells store_format
          k.sizes l) i)
          ≡ (chip_for k.sizes).fault (cell_at (chip_for k.sizes) (zero_page k.sizes) (flash_cells store_format k.sizes l') i)
      same-fault i = by-test (ltb i pages)
          (λ h. let n = ltb-true i pages h in calm-fault one q.page e t.undisturbed i n
          ∙ ap (λ (m : List ℕ). cond (is_marked k.sizes && not (eqb (get_or (page_at (mark_long k.sizes) m i) 0 0) 0)) 14 0)
          t.same-marks
          ∙ sym (calm-fault two q.page e' t.undisturbed' i n))
          (λ h. let n = ltb-false i pages h in ap (chip_for k.sizes).fault (past-cell one q.page e t.undisturbed i n
          ∙ sym (past-cell two q.page e' t.undisturbed' i n)))

      same-sheets : sheets_check one c ≡ sheets_check two c
      unfolding sheets_check lowest_refused fault_at
      same-sheets = λ j. sheets_by (λ i. same-fault i j)
        where
          sheets_by : (ℕ → ℕ) → Check Answer
          sheets_by f = elim (ltb (first c (λ i. not (eqb (fault_met k.sizes f (reads_page k.sizes k.directory i)) 0))) c) [
            | true ↦ stopped (refused (fault_met k.sizes f (reads_page k.sizes k.directory
                (first c (λ i. not (eqb (fault_met k.sizes f (reads_page k.sizes k.directory i)) 0))))) vacant)
            | false ↦ passed
          ]

    same-outside : outside_of one c q.page ≡ outside_of two c q.page
    unfolding outside_of
    same-outside = by-check (entering two q.page passed)
        (λ h. let a = enters_on one q.page (t.same-entry ∙ h) in let b = enters_on two q.page h in
        a.0 _ ∙ ap (asking (sizes_fit k.sizes c) 1) (same-sheets a.1 b.1) ∙ sym (b.0 _))
        (λ a h. enters_off one q.page a (t.same-entry ∙ h) _ ∙ sym (enters_off two q.page a h _))

    alike : (i : ℕ) → i < c → Alike q.caller.number (sheet_at (stored one c) i) (sheet_at (stored two c) i)
    unfolding stored
    alike i n = rw (
      get_d_tab c (λ j. sheet_of (page_seen store_format one.store j)) no_sheet i n,
      get_d_tab c (λ j. sheet_of (page_seen store_format two.store j)) no_sheet i n,
    ) (t.alike i n)

    stored-long : (s : ShelfStore) → length (stored s c) ≡ c
    unfolding stored
    stored-long s = length-tab c _

    abbrev judged_in : ShelfStore → Check Answer → Judged Answer
    judged_in s check = judged c pages (stored s c) q.caller q.operation check

    same-judged : judged_in one (outside_of one c q.page) ≡ judged_in two (outside_of two c q.page)
    same-judged = ap (judged_in one) same-outside ∙ unseen_rule Answer c pages (stored one c) (stored two c) q.caller role
        (stored-long one) (stored-long two) alike q.operation o (outside_of two c q.page)

    abbrev out_by : Choice → ShelfStore → Judged Answer → Out
    out_by pick s (outside a) = turned_down s q.page a
    out_by pick s (decided v) = last_step pick c s q.page v

    call_by : (pick : Choice) (s : ShelfStore) (j : Judged Answer)
        → judged c ((sizes_in s).N * (sizes_in s).K) (stored s c) q.caller q.operation (outside_of s c q.page) ≡ j
        → catalogue_call pick c s q ≡ out_by pick s j
    unfolding catalogue_call
    call_by pick s (outside a) h = rw (h, catalogue_call)
    call_by pick s (decided v) h = rw (h, catalogue_call)

    abbrev Same : Out → Out → Type 0
    Same x y = (x.says ≡ y.says) × (x.mends ≡ y.mends)

    quiet_same : (pick : Choice) (v : Verdict) → Quiet v → ((reads : ℕ → Bool) → mends_from one reads ≡ 0)
        → ((reads : ℕ → Bool) → mends_from two reads ≡ 0) → Same (last_step pick c one q.page v) (last_step pick c two q.page v)
    unfolding last_step
    quiet_same pick (refuse n) g m m' = (refl, refl)
    quiet_same pick (show sh r) g m m' = (refl, m _ ∙ sym (m' _))
    quiet_same pick (tell r) g m m' = (refl, m _ ∙ sym (m' _))
    quiet_same pick (fetch n) g m m' = absurd g
    quiet_same pick (put i sh) g m m' = absurd g

    module _ (check : Check Answer) where
      by-role : allowed q.caller.role q.operation ≡ false → judged_in two check ≡ decided (refuse 12)
      unfolding judged in_order
      by-role e = rw e

      by-stop : allowed q.caller.role q.operation ≡ true → (a : Answer) → check ≡ stopped a → judged_in two check ≡ outside a
      unfolding judged in_order
      by-stop e a h = rw (e, h)

      by-sheets : allowed q.caller.role q.operation ≡ true → check ≡ passed
          → judged_in two check ≡ decided (verdict c pages (stored two c) q.caller q.operation)
      unfolding judged in_order
      by-sheets e h = rw (e, h)

    settled : (pick : Choice) (j : Judged Answer) → judged_in two (outside_of two c q.page) ≡ j
        → Same (out_by pick one j) (out_by pick two j)
        → Same (catalogue_call pick c one q) (catalogue_call pick c two q)
    settled pick j h g = rw (call_by pick one j (same-judged ∙ h), call_by pick two j h) g

    twelve : (pick : Choice) → Same (last_step pick c one q.page (refuse 12)) (last_step pick c two q.page (refuse 12))
    unfolding last_step
    twelve pick = (refl, refl)

    passed_entry : outside_of two c q.page ≡ passed → entering two q.page passed ≡ passed
    unfolding outside_of
    passed_entry h = by-check (entering two q.page passed)
        (λ e. e)
        (λ a e. not_stopped a (sym (enters_off two q.page a e _) ∙ h))

    same-one : (pick : Choice) → Same (catalogue_call pick c one q) (catalogue_call pick c two q)
    same-one pick = by-test (allowed q.caller.role q.operation)
        (λ e. by-check (outside_of two c q.page)
        (λ h. let on = passed_entry h in
        let a = (enters_on one q.page (t.same-entry ∙ on)).1 in let b = (enters_on two q.page on).1 in
        let v = verdict c pages (stored two c) q.caller q.operation in
        settled pick (decided v) (by-sheets _ e h) (quiet_same pick v (quiet-looks c pages (stored two c) q.caller q.operation o)
        (calm-mended one q.page a t.undisturbed) (calm-mended two q.page b t.undisturbed')))
        (λ a h. settled pick (outside a) (by-stop _ e a h) (refl, refl)))
        (λ e. settled pick (decided (refuse 12)) (by-role _ e) (twelve pick))

pub same-looks : SameLooks
same-looks pick c s s' q role o t = subst (λ (k : Cache).
    let two : ShelfStore = record { store = record { cache = k; lent = s'.store.lent }; entries = s'.entries; shelf = s'.shelf } in
    Twins c q.caller.number q.page s two
    → ((catalogue_call pick c s q).says ≡ (catalogue_call pick c two q).says) × ((catalogue_call pick c s q).mends
    ≡ (catalogue_call pick c two q).mends))
    t.same-cache
    (λ w. same-one c s.store.cache s.store.lent s'.store.lent s.entries s'.entries s.shelf
    s'.shelf q role o w pick) t
