-- A catalogue's call by its checks, each operation's verdict by its kind, and the sheets as the code reads them.
use mathlib.Core.Path.{◌≡◌, refl, sym, ap, ◌∙◌, subst}
use mathlib.Core.Bool.{Bool, true, false, not, cond}
use mathlib.Core.List.{List, [], ◌∷◌}
use Prim.Native.Nat.{ℕ, ◌+◌, ◌*◌}
use native.Mathlib.Omega.{arith}
use lib.Dec.{leb, ltb}
use lib.ListN.{length, take}
use Rattle.std.proofs.lemmas.List.{length-map}
use Rattle.prelude.proofs.Tab.{length-tab}
use borrow.Author.Tests.{leb-true, ltb-true}
use Rattle.prelude.proofs.Tests.{by-test, each, and_l, not_f}
use Rattle.model.specs.Sizes.{Sizes, vacant, InLimits}
use Rattle.model.specs.Directory.{Directory}
use Rattle.model.specs.Soundness.{sound}
use Rattle.model.specs.Formats.{store_format}
use Rattle.model.specs.Calls.{Answer, refused, Page, lent_ok, Fits, memory_of, flash_cells, page_seen}
use Rattle.model.specs.Shelf.{ShelfStore}
use Rattle.model.proofs.Soundness.{sound-facts}
use Rattle.model.proofs.Buffers.{fits-of}
use Rattle.cache.specs.View.{sizes_of, directory_of}
use Rattle.chip.specs.Chip as chip
use Rattle.chip.proofs.Cells.{lent_of}
use Rattle.chip.proofs.Cells.{number-some}
use Rattle.answer.specs.declared.fault.Fault.{Fault}
use Rattle.answer.specs.Numbers.{refusal_of, refusal_for}
use Rattle.answer.proofs.Refusals.{fault_refused}
use Rattle.store.specs.declared.Cache.{Cache}
use Rattle.store.specs.View.{Lent, store_of}
use Rattle.runs.specs.Sheet.{Sheet}
use Rattle.runs.specs.Runs.{sheet_at, known, find, first_empty, largest, full, position}
use Rattle.runs.specs.Ranges.{range_ok, index_ok}
use Rattle.runs.specs.Roles as roles
use Rattle.runs.specs.Roles.{Operation, add, look, list, read, replace, mark, allowed}
use Rattle.runs.specs.Current.{replaced}
use Rattle.runs.specs.Verdict.{Verdict, refuse, fetch, put, unless, placing, adding, looking, listing, reading, replacing}
use Rattle.runs.specs.Verdict.{marking, verdict, passed, stopped, in_order, judged}
use Rattle.over.specs.Catalogue.{sizes_fit, asking, sizes_in, entering, fault_at, lowest_refused, sheets_check, outside_of, stored}
use Rattle.over.specs.Catalogue.{mends_from, turned_down, last_step, catalogue_call}
use Rattle.over.proofs.Checks.{by-check, not_stopped, asked-on, asked-off, fit-facts, enters_on, enters_off, sheets-pass, sheets-stop}
use Rattle.over.proofs.Checks.{lowest-fault}
use Rattle.sheets.specs.declared.Sheet as code
use Rattle.sheets.specs.declared.verdict.Verdict as judged
use Rattle.sheets.specs.declared.roles.Caller.{Caller}
use Rattle.sheets.specs.View.{fields_of, sheets_of, caller_of, cause_of, decided_of}
use Rattle.gather.specs.Gather.{Gatherable, fault_met_first, Gathered}
use Rattle.std.specs.Prelude.{Some, Result, Ok, Err}
use Rattle.catalogue.specs.declared.Turned.{Turned}
use Rattle.catalogue.specs.declared.Turned.TheVariants.{Denied, Stopped}
use Rattle.catalogue.specs.View.{called, stepped, gate_of}
use Rattle.catalogue.specs.Kinds.{LookKind, ListKind, FetchKind, PutKind, Kind, Ready, Mended, Decides, Judges}

-- ---- each operation's verdict is of its kind

module _ (P : Verdict → Type 0) (t : (n : ℕ) → P (refuse n)) where
  unless-kind : (b : Bool) (n : ℕ) (v : Verdict) → (b ≡ false → P v) → P (unless b n v)
  unfolding unless
  unless-kind true n v h = t n
  unless-kind false n v h = h refl

module _ (s : ShelfStore) (c : ℕ) (ss : List Sheet) (w : roles.Caller) where
  abbrev many : ℕ
  many = (sizes_in s).N * (sizes_in s).K

  placing-kind : full c ss ≡ false → (sh : Sheet) → PutKind c (placing c ss many sh)
  unfolding placing full
  placing-kind h sh = unless-kind (PutKind c) (λ n. tt) (not (range_ok c ss many sh.first sh.count)) 11 (put (first_empty c ss) sh)
      (λ e. ltb-true (first_empty c ss) c (and_l (ltb (first_empty c ss) c) (ltb (largest c ss) 4294967294) (not_f h)))

  index_in : (sh : Sheet) (x : ℕ) → not (index_ok c many sh x) ≡ false → FetchKind s c (fetch (sh.first + x))
  unfolding index_ok
  index_in sh x h = let e = each (ltb x sh.count ∷ leb c (sh.first + x) ∷ ltb (sh.first + x) many ∷ []) (not_f h) in
      (leb-true c (sh.first + x) e.1.0, ltb-true (sh.first + x) many e.1.1.0)

  pub verdict-kind : (o : Operation) → Kind s c o (verdict c many ss w o)
  unfolding verdict adding looking listing reading replacing marking
  verdict-kind (add a f n) = unless-kind (PutKind c) (λ n. tt) (full c ss) 9 _ (λ e. placing-kind e _)
  verdict-kind (look r) = unless-kind LookKind (λ n. tt) (not (known c ss r)) 10 _ (λ e. tt)
  verdict-kind (list p) = unless-kind ListKind (λ n. tt) (not (ltb (position c ss p) c)) 10 _ (λ e. tt)
  verdict-kind (read r x) = unless-kind (FetchKind s c) (λ n. tt) (not (known c ss r)) 10 _
      (λ e. unless-kind (FetchKind s c) (λ n. tt) (not (index_ok c many (sheet_at ss (find c ss r)) x)) 11 _ (λ d. index_in _ x d))
  verdict-kind (replace r a f n) = unless-kind (PutKind c) (λ n. tt) (full c ss) 9 _
      (λ e. unless-kind (PutKind c) (λ n. tt) (not (known c ss r)) 10 _
      (λ d. unless-kind (PutKind c) (λ n. tt) (replaced c ss r) 13 _ (λ g. placing-kind e _)))
  verdict-kind (mark r m) = unless-kind (PutKind c) (λ n. tt) (not (known c ss r)) 10 _
      (λ e. unless-kind (PutKind c) (λ n. tt) (replaced c ss r) 13 _
      (λ d. unless-kind (PutKind c) (λ n. tt) (ltb 100 m) 11 _ (λ g. ltb-true (find c ss r) c (not_f e))))

-- ---- the call by its checks

module _ (cache : Cache) (u : Lent) (c : ℕ) (w : Caller) (op : Operation) (page : Page) where
  abbrev s : ShelfStore
  s = store_of cache u

  abbrev verdicts : Verdict
  verdicts = verdict c ((sizes_in s).N * (sizes_in s).K) (stored s c) (caller_of w) op

  pub by-role : allowed (caller_of w).role op ≡ false → turned_down s page (refused 12 vacant) ≡ called cache u c w op page
  unfolding catalogue_call judged in_order last_step
  by-role e = rw (e, catalogue_call)

  pub by-outside : allowed (caller_of w).role op ≡ true → (a : Answer) → outside_of s c page ≡ stopped a
      → turned_down s page a ≡ called cache u c w op page
  unfolding catalogue_call judged in_order
  by-outside e a h = rw (e, h, catalogue_call)

  pub by-sheets : allowed (caller_of w).role op ≡ true → outside_of s c page ≡ passed → (v : Verdict) → v ≡ verdicts
      → stepped cache u c page v ≡ called cache u c w op page
  unfolding catalogue_call judged in_order
  by-sheets e h v is = rw (e, h, catalogue_call) (ap (stepped cache u c page) is)

  module _ (g : Result Unit Turned) (h : gate_of g ≡ entering s page (asking (sizes_fit (sizes_in s) c) 1 passed)) where
    -- what the gate stops, it stops
    pub gate_out : (a : Answer) → gate_of g ≡ stopped a → outside_of s c page ≡ stopped a
    unfolding outside_of
    gate_out a e = by-check (entering s page passed)
        (λ k. let on = (enters_on s page k).0 in by-test (sizes_fit (sizes_in s) c)
        (λ f. not_stopped a (sym (sym h ∙ e) ∙ on _ ∙ asked-on _ 1 passed f))
        (λ f. on _ ∙ asked-off _ 1 _ f ∙ sym (asked-off _ 1 passed f) ∙ sym (on _) ∙ sym h ∙ e))
        (λ b k. enters_off s page b k _ ∙ sym (enters_off s page b k _) ∙ sym h ∙ e)

    pub gate_in : gate_of g ≡ passed → Ready s c × (length page ≡ (sizes_in s).S) × (outside_of s c page ≡ sheets_check s c)
    unfolding outside_of
    gate_in e = by-check (entering s page passed)
        (λ k. let on = (enters_on s page k).0 in let n = (enters_on s page k).1 in by-test (sizes_fit (sizes_in s) c)
        (λ f. let q = fit-facts (sizes_in s) c f in (
          record { sounds = n.record_ok_lem; lends = n.buffers-ok; wide = q.wide; few = q.high; fewer = q.below },
          n.page-length,
          on _ ∙ asked-on _ 1 _ f,
        ))
        (λ f. not_stopped _ (sym (on _ ∙ asked-off _ 1 passed f) ∙ sym h ∙ e)))
        (λ b k. not_stopped b (sym (enters_off s page b k _) ∙ sym h ∙ e))

-- ---- the sheets read by the code

module _ (cache : Cache) (u : Lent) (c : ℕ) where
  abbrev store : ShelfStore
  store = store_of cache u

  abbrev sz : Sizes
  sz = sizes_of cache.sizes

  abbrev d : Directory
  d = directory_of cache.directory

  abbrev low : ℕ
  low = lowest_refused store c

  same-lowest : fault_met_first sz d u.below.flash u.below.codes u.below.marks c ≡ cond (ltb low c) (fault_at store low) 0
  unfolding lowest_refused fault_at flash_cells
  same-lowest = refl

  module _ (t : List code.Sheet) (m : List ℕ) where
    abbrev With : Result Unit Fault → Type 0
    With r = Gathered sz d u.below.flash u.below.codes u.below.marks u.below.pspace u.below.bspace c r t m

    pub refused_sheet : (fault : Fault) → With (Err fault) → stopped (refusal_of (refusal_for fault)) ≡ sheets_check store c
    refused_sheet fault g = let e = g.fault-is ∙ same-lowest in by-test (ltb low c)
        (λ q. ap stopped (fault_refused fault ∙ ap (λ (x : ℕ). refused x vacant)
        (e ∙ ap (λ (b : Bool). cond b (fault_at store low) 0) q)) ∙ sym (sheets-stop store c q))
        (λ q. absurd (number-some (Some fault) refl (e ∙ ap (λ (b : Bool). cond b (fault_at store low) 0) q)))

    module _ (g : With (Ok tt)) where
      pub passed_sheets : passed ≡ sheets_check store c
      passed_sheets = sym (sheets-pass store c (by-test (ltb low c)
          (λ q. absurd (lowest-fault store c q (sym (g.fault-is ∙ same-lowest ∙ ap (λ (b : Bool). cond b (fault_at store low) 0) q))))
          (λ q. q)))

      same-sheets : sheets_of (take c t) ≡ stored store c
      unfolding stored page_seen memory_of flash_cells
      same-sheets = g.sheets-are

      long : length (take c t) ≡ c
      long = sym (length-map (take c t) fields_of) ∙ ap length g.sheets-are ∙ length-tab c _

      pub decided_sheets : (w : Caller) (op : Operation) (v : Verdict)
          → v ≡ verdict (length (take c t)) (sz.N * sz.K) (sheets_of (take c t)) (caller_of w) op
          → v ≡ verdict c (sz.N * sz.K) (stored store c) (caller_of w) op
      decided_sheets w op v e = e ∙ (λ k. verdict (long k) (sz.N * sz.K) (same-sheets k) (caller_of w) op)

      pub mended_sheets : Mended store c m
      unfolding mends_from flash_cells
      mended_sheets i l = g.mends-are i l

-- what reading asks
module _ (cache : Cache) (u : Lent) (c : ℕ) (r : Ready (store_of cache u) c) where
  pub ready-limits : InLimits (sizes_of cache.sizes)
  ready-limits = (sound-facts (sizes_of cache.sizes) (directory_of cache.directory)
      (and_l (sound (sizes_of cache.sizes) (directory_of cache.directory)) _ r.sounds)).limits

  ready-fits : Fits store_format (sizes_of cache.sizes) u.below
  ready-fits = fits-of store_format (sizes_of cache.sizes) u.below (and_l (lent_ok store_format (sizes_of cache.sizes) u.below) _
      r.lends)

  pub ready_chip : chip.Lent (sizes_of cache.sizes) u.below.flash u.below.codes u.below.marks
  ready_chip = lent_of (sizes_of cache.sizes) u.below ready-limits ready-fits

  pub gatherable : (whole : List ℕ) → length whole ≡ (sizes_of cache.sizes).S
      → Gatherable (sizes_of cache.sizes) u.below.pspace u.below.bspace whole c
  gatherable whole wl = let q = r.fewer in record {
    pspace-length = ready-fits.pspace-length;
    bspace-length = ready-fits.bspace-length;
    whole_length = wl;
    wide = r.wide;
    few = r.few;
    sheets-fit = omega arith;
  }

-- ---- once the checks have passed

module _ (cache : Cache) (u : Lent) (c : ℕ) (w : Caller) (op : Operation) (page : Page) (may : allowed (caller_of w).role op ≡ true)
    (g : Result Unit Turned)
    (h : gate_of g ≡ entering (store_of cache u) page (asking (sizes_fit (sizes_in (store_of cache u)) c) 1 passed)) (e : gate_of g ≡ passed) where
  pub judged_rest : (j : Result judged.Verdict Turned) (m : List ℕ) → Decides (store_of cache u) c w op j m
      → Judges cache u c w op page j m
  unfolding last_step
  judged_rest (Ok v) m d = let k = gate_in cache u c w op page g h e in record {
    call-is = by-sheets cache u c w op page may (k.2 ∙ sym d.0) (decided_of v) d.1;
    kind_is = (
      subst (Kind (store_of cache u) c op) (sym d.1) (verdict-kind (store_of cache u) c (stored (store_of cache u) c) (caller_of w) op),
      record { ready = k.0; page-length = k.1; mended = d.2 },
    );
  }
  judged_rest (Err (Denied why)) m d = let k = gate_in cache u c w op page g h e in record {
    call-is = by-sheets cache u c w op page may (k.2 ∙ sym d.0) (refuse (cause_of why)) d.1;
    kind_is = tt;
  }
  judged_rest (Err (Stopped why)) m d = let k = gate_in cache u c w op page g h e in record {
    call-is = by-outside cache u c w op page may (refusal_of why) (k.2 ∙ sym d);
    kind_is = tt;
  }
