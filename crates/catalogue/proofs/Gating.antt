-- The checks before the sheets are read, as the code makes them.
use mathlib.Core.Path.{◌≡◌, sym, ap, ◌∙◌}
use mathlib.Core.Bool.{Bool, true, false}
use Rattle.prelude.proofs.Tests.{clash}
use Rattle.model.specs.Sizes.{vacant, InLimits}
use Rattle.model.specs.Policy.{policy_choice}
use Rattle.model.specs.Calls.{Answer, refused, is_refused, read, Page}
use Rattle.model.specs.Shelf.{plainly, ShelfResult, ShelfStore, store_call}
use Rattle.model.proofs.Soundness.{sound-facts}
use Rattle.answer.specs.declared.Refusal.{Refusal}
use Rattle.answer.specs.declared.Read.{Read}
use Rattle.answer.specs.declared.Refusal.TheVariants as whys
use Rattle.answer.specs.Numbers.{refusal_of, read_of}
use Rattle.store.specs.declared.Cache.{Cache}
use Rattle.store.specs.View.{Lent, ReadOut, store_of, read_result}
use Rattle.runs.specs.Verdict.{Check, passed, stopped}
use Rattle.over.specs.Catalogue.{asking, sizes_in, directory_in, entering}
use Rattle.over.proofs.Checks.{asked-on, asked-off, Enters, enters_on, enters_off}
use Rattle.std.specs.Prelude.{Result, Ok, Err}
use Rattle.catalogue.specs.declared.Turned.{Turned}
use Rattle.catalogue.specs.View.{gate_of, past_entry}
use Rattle.catalogue.proofs.Stepping.{no-page, no_page-kept}

-- a read of no page, by its contract
module _ (cache : Cache) (u : Lent) (page page' : Page) (out : ReadOut)
    (h : read_result out u page' ≡ store_call policy_choice (store_of cache u) (plainly (read vacant page))) where
  pub never_read : (done : Read) → out.answer ≡ Ok done → ⊥
  never_read done e = clash (ap (λ (r : ShelfResult). is_refused r.answer) h ∙ (no-page (store_of cache u) page).0)
      (ap (λ (r : Result Read Refusal). is_refused (read_of r)) e)

  pub entry_gate : (why : Refusal) → out.answer ≡ Err why → (g : Result Unit Turned) → gate_of g ≡ past_entry (refusal_of why)
      → (gate_of g ≡ entering (store_of cache u) page passed) × (page' ≡ page)
  entry_gate why e g k = (
    k ∙ sym (ap (λ (r : Result Read Refusal). past_entry (read_of r)) e) ∙ ap (λ (r : ShelfResult). past_entry r.answer) h
        ∙ (no-page (store_of cache u) page).1,
    ap (λ (r : ShelfResult). r.page) h ∙ no_page-kept (store_of cache u) page,
  )

-- where the store's checks stop a call, and where they pass
module _ (s : ShelfStore) (x : Page) (g : Result Unit Turned) (h : gate_of g ≡ entering s x passed) where
  pub gate_stops : (a : Answer) → gate_of g ≡ stopped a → (k : Check Answer) → stopped a ≡ entering s x k
  gate_stops a e k = sym (enters_off s x a (sym h ∙ e) k)

  pub gate_passes : gate_of g ≡ passed → ((k : Check Answer) → entering s x k ≡ k) × Enters s x
  gate_passes e = enters_on s x (sym h ∙ e)

  pub gate_limits : gate_of g ≡ passed → InLimits (sizes_in s)
  gate_limits e = (sound-facts (sizes_in s) (directory_in s) (gate_passes e).1.sounds).limits

  -- 1 after them
  pub size_stops : gate_of g ≡ passed → (b : Bool) → b ≡ false → (k : Check Answer)
      → stopped (refused 1 vacant) ≡ entering s x (asking b 1 k)
  size_stops e b f k = sym ((gate_passes e).0 _ ∙ asked-off b 1 k f)

  pub size_passes : gate_of g ≡ passed → (b : Bool) → b ≡ true → (k : Check Answer) → k ≡ entering s x (asking b 1 k)
  size_passes e b f k = sym ((gate_passes e).0 _ ∙ asked-on b 1 k f)
