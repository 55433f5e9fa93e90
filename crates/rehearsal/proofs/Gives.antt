-- A bench's call, from the contracts of the store's calls.
use mathlib.Core.Path.{◌≡◌, sym, ap, ◌∙◌}
use mathlib.Core.List.{List}
use Prim.Native.Nat.{ℕ}
use lib.ListN.{length, replicate}
use Rattle.address.specs.declared.PageNo.{PageNo}
use Rattle.model.specs.Policy.{policy_choice}
use Rattle.model.specs.Calls.{Page, read, write}
use Rattle.model.specs.Shelf.{plainly, ShelfStore, ShelfResult, store_call}
use Rattle.store.specs.View.{ReadOut, WriteOut, Lent, lent, plain_lent, read_result, write_result}
use Rattle.perform.proofs.Carrying.{none_left}
use Rattle.tally.specs.declared.Answered.TheVariants as answers
use Rattle.turns.specs.declared.Call.TheVariants as asks
use Rattle.rehearsal.specs.Class.{Gave, served, gave_of}

-- of a result, the answer and the store
abbrev part : ShelfResult → Gave
part r = record { answer = r.answer; store = r.store }

module _ (s : ShelfStore) (n : PageNo) (long : ℕ) (page : Page) (u : Lent) where
  pub read-gives : page ≡ replicate long 0 → (r : ReadOut) (page' : Page)
      → read_result r u page' ≡ store_call policy_choice s (plainly (read n.0 page))
      → gave_of (record { cache = r.cache; answered = answers.Read r.answer }) u ≡ served long s (asks.Read n)
  unfolding served
  read-gives f r page' e = ap part (e ∙ ap (λ (x : Page). store_call policy_choice s (plainly (read n.0 x))) f)

-- no codes, no marks and no shelf are left where none were lent
pub write-gives : (s : ShelfStore) (n : PageNo) (b long : ℕ) (page flash codes marks wear pspace bspace shelf : List ℕ)
    → length codes ≡ 0 → length marks ≡ 0 → length shelf ≡ 0 → page ≡ replicate long b → (r : WriteOut)
    → write_result r (lent flash codes marks wear pspace bspace shelf) page ≡ store_call policy_choice s (plainly (write n.0 page))
    → gave_of (record { cache = r.cache; answered = answers.Write r.answer }) (plain_lent flash wear pspace bspace)
    ≡ served long s (asks.Write n b)
unfolding served
write-gives s n b long page flash codes marks wear pspace bspace shelf nc nm ns f r e =
    ap (λ (w : Lent). gave_of (record { cache = r.cache; answered = answers.Write r.answer }) w)
    (sym (none_left flash codes marks wear pspace bspace shelf nc nm ns))
    ∙ ap part (e ∙ ap (λ (x : Page). store_call policy_choice s (plainly (write n.0 x))) f)
