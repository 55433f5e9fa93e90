-- A call by its role's number, with its answer in numbers.
use mathlib.Core.Path.{◌≡◌, ap, ◌∙◌}
use Prim.Native.Nat.{ℕ, ◌≤◌, ◌<◌}
use native.Mathlib.Omega.{arith}
use borrow.Author.Tests.{lt-ltb, le-ltb}
use Rattle.model.specs.Sizes.{vacant}
use Rattle.model.specs.Calls.{refused, Page}
use Rattle.store.specs.declared.Cache.{Cache}
use Rattle.store.specs.View.{Lent, store_of}
use Rattle.runs.specs.Roles as roles
use Rattle.runs.specs.Roles.{Operation}
use Rattle.over.specs.Catalogue.{down, Out}
use Rattle.sheets.specs.declared.roles.Caller.{Caller}
use Rattle.sheets.specs.View.{caller_of}
use Rattle.catalogue.specs.View.{called}
use Rattle.model.specs.Policy.{policy_choice}
use Rattle.over.specs.Catalogue.{catalogue_call}
use Rattle.catalogue_c.specs.declared.RunAnswer.{RunAnswer}
use Rattle.callers.specs.Callers.{caller_at, called_by}
use Rattle.catalogue_c.specs.Numbers.{run_numbers, numbered}

module _ (c : Cache) (u : Lent) (n role t : ℕ) (op : Operation) (page : Page) where
  -- another role
  pub went-away : 2 < role → (a : RunAnswer) → a ≡ run_numbers (down (refused 12 vacant)) 0
      → record { answer = a; store = store_of c u; page = page } ≡ numbered (called_by c u n role t op page)
  unfolding called_by
  went-away l a e = rw (le-ltb role 3 l, called_by) (λ i. record { answer = e i; store = store_of c u; page = page })

  -- the catalogue's call, by its contract
  pub went_on : role ≤ 2 → (w : Caller) → caller_of w ≡ caller_at role t → (o : Out) → o ≡ called c u n w op page → (a : RunAnswer)
      → a ≡ run_numbers o.says o.mends
      → record { answer = a; store = o.store; page = o.page } ≡ numbered (called_by c u n role t op page)
  unfolding called_by
  went_on l w is o h a e = rw (lt-ltb role 3 (omega arith), called_by) ((λ i. record { answer = e i; store = o.store; page = o.page })
      ∙ ap numbered (h ∙ ap (λ (k : roles.Caller). catalogue_call policy_choice n (store_of c u)
      (record { caller = k; operation = op; page = page })) is))
