-- The store's calls that a catalogue makes: a read of no page, and the last step, with its answer and its mends.
use mathlib.Core.Path.{◌≡◌, refl, sym, ap, ◌∙◌}
use mathlib.Core.Bool.{Bool, true, false}
use Prim.Native.Nat.{ℕ, ◌*◌, ◌≤◌}
use native.Mathlib.Omega.{arith}
use lib.Dec.{ltb, eqb}
use lib.ListN.{length}
use borrow.Author.Tests.{eqb-true, le-ltb}
use Rattle.prelude.proofs.Tests.{by-test, clash, and_l}
use Rattle.model.specs.Sizes.{Sizes, vacant, InLimits}
use Rattle.model.specs.Soundness.{sound, Sound}
use Rattle.model.specs.Policy.{policy_choice, Plan, plan, way_of, erased_by, is_worn}
use Rattle.model.specs.Moves.{merged_by}
use Rattle.model.specs.Formats.{store_format}
use Rattle.model.specs.Calls.{write_done, refused, is_refused, Call, read, write, Outcome, turned_down, checked}
use Rattle.model.specs.Calls.{write_outcome, decide, heeding, Page, lent_ok, Store, Result, flash_cells, memory_of, state_of}
use Rattle.model.specs.Calls.{told, mends_of, fault_of, reads_all, carried_out, call_reading}
use Rattle.model.specs.Shelf.{plainly, ShelfStore, ShelfResult, shelving_reads, ordinary, shelf_call, store_call}
use Rattle.model.proofs.Soundness.{sound-facts, pages-small}
use Rattle.model.proofs.RulesCalls.{heeds-rule}
use Rattle.chip.specs.Chip.{most_mends}
use Rattle.chip.proofs.Looking.{mends-few}
use Rattle.runs.specs.Verdict.{passed}
use Rattle.over.specs.Catalogue.{sizes_in, directory_in, entering, mends_from}
use Rattle.over.proofs.Checks.{record_ok, buffers_ok, entry-4, entry-2, entry-page, entry-on}
use Rattle.over.proofs.Agreeing.{shelf-kept}
use Rattle.catalogue.specs.View.{past_entry}

-- ---- a call of the store below the shelf, for a sound record and right buffers

module _ (besides : ℕ → Bool) (s : Store) (c : Call Page) (a : sound s.cache.sizes s.cache.directory ≡ true)
    (b : lent_ok store_format s.cache.sizes s.lent ≡ true) where
  abbrev sz : Sizes
  sz = s.cache.sizes

  abbrev reading : ℕ → Bool
  reading = reads_all store_format policy_choice sz (state_of s) c besides

  abbrev late : ℕ
  late = fault_of store_format policy_choice sz (memory_of store_format sz s.lent).flash reading

  abbrev says : Outcome
  says = decide policy_choice sz (state_of s) (told c)

  abbrev heeds : Outcome
  heeds = heeding (state_of s) late says

  abbrev out : Result
  out = call_reading store_format policy_choice besides s c

  carried : out ≡ carried_out store_format policy_choice s c besides heeds
  unfolding call_reading
  carried = rw (a, call_reading) (rw b)

  carried-answer : (o : Outcome) → (carried_out store_format policy_choice s c besides o).answer ≡ o.answer
  unfolding carried_out
  carried-answer o = by-test (is_refused o.answer) (λ e. rw (e, carried_out)) (λ e. rw (e, carried_out))

  pub out-answer : out.answer ≡ heeds.answer
  out-answer = ap (λ (r : Result). r.answer) carried ∙ carried-answer heeds

  pub out-down : (n m : ℕ) → says ≡ turned_down (state_of s) n m → out.answer ≡ refused n m
  out-down n m e = out-answer ∙ ap (λ (o : Outcome). o.answer) ((heeds-rule (state_of s) late says).0
      (ap (λ (o : Outcome). is_refused o.answer) e) ∙ e)

  -- an accepted one answers as it was decided
  pub out-says : is_refused out.answer ≡ false → (is_refused says.answer ≡ false) × (out.answer ≡ says.answer)
  unfolding heeding
  out-says h = let q : is_refused heeds.answer ≡ false = ap is_refused (sym out-answer) ∙ h in
      by-test (is_refused says.answer)
      (λ e. absurd (clash (ap (λ (o : Outcome). is_refused o.answer) ((heeds-rule (state_of s) late says).0 e) ∙ e) q))
      (λ e. by-test (eqb late 0)
      (λ t. (e, out-answer ∙ ap (λ (o : Outcome). o.answer) ((heeds-rule (state_of s) late says).2 e (eqb-true late 0 t))))
      (λ t. absurd (clash (let w : is_refused heeds.answer ≡ true = rw (e, heeding) (rw t) in w) q)))

  -- and reports the mends of the pages that it reads
  pub out-mends : is_refused out.answer ≡ false → out.mends
      ≡ mends_of store_format policy_choice sz (flash_cells store_format sz s.lent) reading
  unfolding carried_out memory_of
  out-mends h = let q : is_refused heeds.answer ≡ false = ap is_refused (sym out-answer) ∙ h in
      ap (λ (r : Result). r.mends) carried ∙ rw (q, carried_out)

  pub out_none : is_refused out.answer ≡ true → out.mends ≡ 0
  unfolding carried_out
  out_none h = let q : is_refused heeds.answer ≡ true = ap is_refused (sym out-answer) ∙ h in
      ap (λ (r : Result). r.mends) carried ∙ rw (q, carried_out)

-- ---- the store with its shelf

module _ (s : ShelfStore) (x : Page) (c : Call Page) (a : record_ok s x ≡ true) (b : buffers_ok s x ≡ true) where
  abbrev besides : ℕ → Bool
  besides = shelving_reads store_format (sizes_in s).shelf_pages policy_choice s (plainly c)

  sounds : sound (sizes_in s) (directory_in s) ≡ true
  sounds = and_l (sound (sizes_in s) (directory_in s)) _ a

  lends : lent_ok store_format (sizes_in s) s.store.lent ≡ true
  lends = and_l (lent_ok store_format (sizes_in s) s.store.lent) _ b

  abbrev called : ShelfResult
  called = store_call policy_choice s (plainly c)

  abbrev under : Result
  under = call_reading store_format policy_choice besides s.store c

  called_is : (called.answer ≡ under.answer) × (called.mends ≡ under.mends)
  unfolding shelf_call ordinary
  called_is = rw (a, shelf_call) (rw b (refl, refl))

  pub limits-now : InLimits (sizes_in s)
  limits-now = (sound-facts (sizes_in s) (directory_in s) sounds).limits

  pub sound-now : Sound (sizes_in s) (directory_in s)
  sound-now = sound-facts (sizes_in s) (directory_in s) sounds

  pub called-down : (n m : ℕ) → decide policy_choice (sizes_in s) (state_of s.store) (told c) ≡ turned_down (state_of s.store) n m
      → called.answer ≡ refused n m
  called-down n m e = called_is.0 ∙ out-down besides s.store c sounds lends n m e

  pub called-says : is_refused called.answer ≡ false
      → (is_refused (decide policy_choice (sizes_in s) (state_of s.store) (told c)).answer ≡ false)
      × (called.answer ≡ (decide policy_choice (sizes_in s) (state_of s.store) (told c)).answer)
  called-says h = let k = out-says besides s.store c sounds lends (ap is_refused (sym called_is.0) ∙ h) in (k.0, called_is.0 ∙ k.1)

  pub called-mends : is_refused called.answer ≡ false
      → called.mends ≡ mends_from s (reads_all store_format policy_choice (sizes_in s) (state_of s.store) c besides)
  unfolding mends_from mends_of
  called-mends h = called_is.1 ∙ out-mends besides s.store c sounds lends (ap is_refused (sym called_is.0) ∙ h)

  -- however many
  pub mends-low : (reads : ℕ → Bool) → mends_from s reads ≤ most_mends
  unfolding mends_from flash_cells
  mends-low reads = mends-few (sizes_in s) limits-now s.store.lent.flash s.store.lent.codes s.store.lent.marks reads

  pub called-low : called.mends ≤ most_mends
  called-low = by-test (is_refused called.answer)
      (λ e. let z = called_is.1 ∙ out_none besides s.store c sounds lends (ap is_refused (sym called_is.0) ∙ e) in omega arith)
      (λ e. rw (called-mends e) (mends-low _))

-- ---- a read of no page

module _ (s : ShelfStore) (x : Page) where
  abbrev no_page : ShelfResult
  no_page = store_call policy_choice s (plainly (read vacant x))

  no_page-4 : record_ok s x ≡ false → no_page.answer ≡ refused 4 vacant
  unfolding shelf_call
  no_page-4 a = rw (a, shelf_call)

  no_page-2 : record_ok s x ≡ true → buffers_ok s x ≡ false → no_page.answer ≡ refused 2 vacant
  unfolding shelf_call
  no_page-2 a b = rw (a, shelf_call) (rw b)

  abbrev decided : Outcome
  decided = decide policy_choice (sizes_in s) (state_of s.store) (read vacant (length x))

  decided-2 : eqb (length x) (sizes_in s).S ≡ false → decided ≡ turned_down (state_of s.store) 2 vacant
  unfolding decide checked
  decided-2 e = rw (e, checked)

  decided-5 : InLimits (sizes_in s) → eqb (length x) (sizes_in s).S ≡ true → decided ≡ turned_down (state_of s.store) 5 vacant
  unfolding decide checked
  decided-5 l e = let q = pages-small (sizes_in s) l in rw (e, checked) (rw (le-ltb vacant ((sizes_in s).N * (sizes_in s).K) (omega arith)))

  -- it says how the checks went before its number
  pub no-page : (is_refused no_page.answer ≡ true) × (past_entry no_page.answer ≡ entering s x passed)
  no-page = by-test (record_ok s x)
      (λ a. by-test (buffers_ok s x)
      (λ b. by-test (eqb (length x) (sizes_in s).S)
      (λ e. let l = limits-now s x (read vacant x) a b in
      rw (called-down s x (read vacant x) a b 5 vacant (decided-5 l e), entry-on s x passed a b e) (refl, refl))
      (λ e. rw (called-down s x (read vacant x) a b 2 vacant (decided-2 e), entry-page s x passed a b e) (refl, refl)))
      (λ b. rw (no_page-2 a b, entry-2 s x passed a b) (refl, refl)))
      (λ a. rw (no_page-4 a, entry-4 s x passed a) (refl, refl))

  pub no_page-kept : no_page.page ≡ x
  no_page-kept = shelf-kept (sizes_in s).shelf_pages policy_choice s vacant x no-page.0

-- ---- an accepted write

module _ (s : ShelfStore) (n : ℕ) (y : Page) where
  abbrev planned : Plan
  planned = plan policy_choice (sizes_in s) (directory_in s) s.store.lent.wear n

  wrote-checked : is_refused (decide policy_choice (sizes_in s) (state_of s.store) (write n (length y))).answer ≡ false
      → (decide policy_choice (sizes_in s) (state_of s.store) (write n (length y))).answer
      ≡ write_done (way_of planned) (erased_by (directory_in s) planned) (merged_by (sizes_in s) (directory_in s) planned)
  unfolding decide checked write_outcome
  wrote-checked = by-test (eqb (length y) (sizes_in s).S)
      (λ e. rw (e, checked) (by-test (ltb n ((sizes_in s).N * (sizes_in s).K))
      (λ t. rw t (by-test (is_worn (sizes_in s) s.store.lent.wear (erased_by (directory_in s) planned))
      (λ w. rw (w, write_outcome) (λ h. clash refl h))
      (λ w. rw (w, write_outcome) (λ h. refl))))
      (λ t. rw t (λ h. clash refl h))))
      (λ e. rw (e, checked) (λ h. clash refl h))

  pub wrote-answer : (x : Page) → record_ok s x ≡ true → buffers_ok s x ≡ true
      → is_refused (store_call policy_choice s (plainly (write n y))).answer ≡ false
      → (store_call policy_choice s (plainly (write n y))).answer
      ≡ write_done (way_of planned) (erased_by (directory_in s) planned) (merged_by (sizes_in s) (directory_in s) planned)
  wrote-answer x a b h = let k = called-says s x (write n y) a b h in k.1 ∙ wrote-checked k.0
