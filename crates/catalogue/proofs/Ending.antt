-- What is left of a judged call, case by case, and the last steps.
use mathlib.Core.Path.{◌≡◌, sym, ap, ◌∙◌, subst}
use mathlib.Core.Bool.{cond}
use mathlib.Core.List.{List}
use Prim.Native.Nat.{ℕ, ◌+◌, ◌≤◌, ◌<◌}
use Rattle.prelude.proofs.Tests.{by-test}
use Rattle.model.specs.Sizes.{vacant}
use Rattle.model.specs.Policy.{policy_choice}
use Rattle.model.specs.Calls as calls
use Rattle.model.specs.Calls.{Answer, is_refused, Page}
use Rattle.model.specs.Shelf.{plainly, ShelfStore, ShelfResult, store_call}
use Rattle.cache.specs.View.{sizes_of}
use Rattle.chip.specs.Chip.{most_mends}
use Rattle.std.specs.Prelude.{Result, Ok}
use Rattle.answer.specs.declared.Refusal.{Refusal}
use Rattle.answer.specs.declared.Read.{Read}
use Rattle.answer.specs.declared.Write.{Write}
use Rattle.answer.specs.Numbers.{read_of, write_of, mends_of_read, mends_of_write}
use Rattle.store.specs.declared.Cache.{Cache}
use Rattle.store.specs.View.{Lent, ReadOut, WriteOut, store_of, read_result, write_result}
use Rattle.runs.specs.Sheet as sheet
use Rattle.runs.specs.Sheet.{page_of}
use Rattle.runs.specs.Roles.{Operation}
use Rattle.runs.specs.Verdict as model
use Rattle.over.specs.Catalogue.{shown, listed, fetched, wrote, mends_from, sheet_reads, whole_reads, last_step}
use Rattle.sheets.specs.declared.Sheet.{Sheet}
use Rattle.sheets.specs.declared.roles.Caller.{Caller}
use Rattle.sheets.specs.declared.verdict.Verdict.{Verdict}
use Rattle.sheets.specs.declared.verdict.Verdict.TheVariants as verdicts
use Rattle.sheets.specs.View.{fields_of, decided_of}
use Rattle.catalogue.specs.declared.Turned.{Turned}
use Rattle.catalogue.specs.View.{out_with, called, stepped}
use Rattle.catalogue.specs.Kinds.{FetchKind, PutKind, Settled, Judges, Few, left_mends, erased_in, skipped}
use Rattle.catalogue.proofs.Stepping.{called-mends, called-low, wrote-answer}
use Rattle.catalogue.proofs.Totals.{ReadWith, WriteWith}
use Rattle.catalogue.proofs.Counting.{k_pos, few-mends, all-counted, read-counted, write-counted, last}

-- ---- a call that is judged, with the page buffer as it was

module _ (cache : Cache) (u : Lent) (c : ℕ) (w : Caller) (op : Operation) (page page' : Page) (m : List ℕ) where
  abbrev Judged : Result Verdict Turned → Type 0
  Judged j = Judges cache u c w op page j m × (page' ≡ page)

  module _ (v : Verdict) (h : Judged (Ok v)) where
    pub was_decided : stepped cache u c page' (decided_of v) ≡ called cache u c w op page
    was_decided = ap (λ (x : Page). stepped cache u c x (decided_of v)) h.1 ∙ h.0.call-is

    pub settled : Settled (store_of cache u) c page' m
    settled = subst (λ (x : Page). Settled (store_of cache u) c x m) (sym h.1) h.0.kind_is.1

    pub few_left : Few c m × (0 < cache.sizes.pages_per_block)
    few_left = (few-mends (store_of cache u) c page' m settled, k_pos (store_of cache u) c page' m settled)

    -- a look and a listing
    counted : (mends : ℕ) → mends ≡ left_mends c cache.sizes.pages_per_block vacant vacant m
        → mends ≡ mends_from (store_of cache u) (sheet_reads (store_of cache u) c)
    counted mends l = l ∙ all-counted (store_of cache u) c page' m settled cache.sizes.pages_per_block few_left.1

  pub look_done : (sh : Sheet) (q : ℕ) → Judged (Ok (verdicts.Show sh q)) → (mends : ℕ)
      → mends ≡ left_mends c cache.sizes.pages_per_block vacant vacant m
      → out_with (shown (fields_of sh) q) mends (store_of cache u) page' ≡ called cache u c w op page
  unfolding last_step
  look_done sh q h mends l = ap (λ (n : ℕ). out_with (shown (fields_of sh) q) n (store_of cache u) page') (counted _ h mends l)
      ∙ was_decided _ h

  pub list_done : (r : ℕ) → Judged (Ok (verdicts.Tell r)) → (mends : ℕ) → mends ≡ left_mends c cache.sizes.pages_per_block vacant vacant m
      → out_with (listed r) mends (store_of cache u) page' ≡ called cache u c w op page
  unfolding last_step
  list_done r h mends l = ap (λ (n : ℕ). out_with (listed r) n (store_of cache u) page') (counted _ h mends l) ∙ was_decided _ h

-- an operation's verdict is of its own kind

-- ---- the last step of a read

module _ (cache : Cache) (u : Lent) (c : ℕ) (page : Page) (m : List ℕ) (st : Settled (store_of cache u) c page m) where
  abbrev s : ShelfStore
  s = store_of cache u

  pub few : Few c m
  few = few-mends s c page m st

  pub positive : 0 < cache.sizes.pages_per_block
  positive = k_pos s c page m st

  module _ (n : ℕ) (f : FetchKind (store_of cache u) c (model.fetch n)) (r : ReadOut) (page' : Page)
      (h : read_result r u page' ≡ store_call policy_choice (store_of cache u) (plainly (calls.read n page))) where
    abbrev ran : ShelfResult
    ran = store_call policy_choice (store_of cache u) (plainly (calls.read n page))

    pub read_low : mends_of_read r.answer ≤ most_mends
    read_low = rw (ap (λ (x : ShelfResult). x.mends) h) (called-low s page (calls.read n page) st.ready.sounds st.ready.lends)

    whole-mends : (more : ℕ) → more ≡ left_mends c cache.sizes.pages_per_block vacant vacant m
        → cond (is_refused (read_of r.answer)) 0 (mends_of_read r.answer + more)
        ≡ cond (is_refused ran.answer) 0 (mends_from s (whole_reads policy_choice c s page (calls.read n page)))
    whole-mends more e = let a = ap (λ (x : ShelfResult). x.answer) h in let b = ap (λ (x : ShelfResult). x.mends) h in
        by-test (is_refused ran.answer)
        (λ t. rw (a, t))
        (λ t. rw (a, t) (ap (λ (y : ℕ). y + more) (b ∙ called-mends s page (calls.read n page) st.ready.sounds st.ready.lends t)
        ∙ ap (λ (y : ℕ). mends_from s (last s c page m st (calls.read n page)) + y) e ∙ sym (read-counted s c page m st n page f.0)))

    pub fetch-done : (more : ℕ) → more ≡ left_mends c cache.sizes.pages_per_block vacant vacant m → (whole : Result Read Refusal)
        → ReadWith r.answer more whole
        → out_with (fetched (read_of whole)) (mends_of_read whole) (store_of r.cache u) page' ≡ stepped cache u c page (model.fetch n)
    unfolding last_step
    fetch-done more e whole w = λ i. record {
      says = fetched ((w.0 ∙ ap (λ (x : ShelfResult). x.answer) h) i);
      mends = (w.1 ∙ whole-mends more e) i;
      store = (h i).store;
      page = (h i).page;
    }

-- ---- the last step of a write

module _ (cache : Cache) (u : Lent) (c : ℕ) (page : Page) (m : List ℕ) (st : Settled (store_of cache u) c page m) (n : ℕ) (sh : sheet.Sheet)
    (f : PutKind c (model.put n sh)) (whole : Page) (is : whole
    ≡ page_of cache.sizes.page_size sh) (r : WriteOut) (u' : Lent)
    (h : write_result r u' whole ≡ store_call policy_choice (store_of cache u) (plainly (calls.write n whole))) where
  abbrev store : ShelfStore
  store = store_of cache u

  abbrev wrote_as : ShelfResult
  wrote_as = store_call policy_choice store (plainly (calls.write n whole))

  answer-is : write_of r.answer ≡ wrote_as.answer
  answer-is = ap (λ (x : ShelfResult). x.answer) h

  pub write_low : mends_of_write r.answer ≤ most_mends
  write_low = rw (ap (λ (x : ShelfResult). x.mends) h) (called-low store page (calls.write n whole) st.ready.sounds st.ready.lends)

  abbrev left-of : ℕ → ℕ
  left-of b = left_mends c cache.sizes.pages_per_block b (skipped (sizes_of cache.sizes) n) m

  total-mends : cond (is_refused (write_of r.answer)) 0 (mends_of_write r.answer + left-of (erased_in (write_of r.answer)))
      ≡ cond (is_refused wrote_as.answer) 0 (mends_from store (whole_reads policy_choice c store page (calls.write n whole)))
  total-mends = let b = ap (λ (x : ShelfResult). x.mends) h in
      by-test (is_refused wrote_as.answer)
      (λ t. rw (answer-is, t))
      (λ t. let a = wrote-answer store n whole page st.ready.sounds st.ready.lends t in
      rw (answer-is, t) (ap (λ (y : ℕ). y + left-of (erased_in wrote_as.answer))
      (b ∙ called-mends store page (calls.write n whole) st.ready.sounds st.ready.lends t)
      ∙ ap (λ (y : Answer). mends_from store (last store c page m st (calls.write n whole)) + left-of (erased_in y)) a
      ∙ sym (write-counted store c page m st n whole f)))

  pub put-done : (total : Result Write Refusal) → WriteWith r.answer left-of total → (page' : Page)
      → page' ≡ cond (is_refused (write_of r.answer)) page whole
      → out_with (wrote sh.run (write_of total)) (mends_of_write total) (store_of r.cache u') page'
      ≡ stepped cache u c page (model.put n sh)
  unfolding last_step
  put-done total w page' p = (λ i. record {
    says = wrote sh.run ((w.0 ∙ answer-is) i);
    mends = (w.1 ∙ total-mends) i;
    store = (h i).store;
    page = (p ∙ ap (λ (a : Answer). cond (is_refused a) page whole) answer-is) i;
  }) ∙ ap (λ (y : Page). let q = store_call policy_choice store (plainly (calls.write n y)) in out_with (wrote sh.run q.answer)
      (cond (is_refused q.answer) 0 (mends_from store (whole_reads policy_choice c store page (calls.write n y)))) q.store
      (cond (is_refused q.answer) page y)) is

  -- the page that is skipped, as the code names it
  pub put-done_at : (at : ℕ) → at ≡ skipped (sizes_of cache.sizes) n → (total : Result Write Refusal)
      → WriteWith r.answer (λ b. left_mends c cache.sizes.pages_per_block b at m) total → (page' : Page)
      → page' ≡ cond (is_refused (write_of r.answer)) page whole
      → out_with (wrote sh.run (write_of total)) (mends_of_write total) (store_of r.cache u') page'
      ≡ stepped cache u c page (model.put n sh)
  put-done_at at e total w = put-done total (subst (λ (a : ℕ). WriteWith r.answer
      (λ b. left_mends c cache.sizes.pages_per_block b a m) total) e w)
