-- Request A10 for the code, from the model's.
use mathlib.Core.Path.{◌≡◌, sym, ap, ◌∙◌}
use Prim.Native.Nat.{ℕ}
use Rattle.model.specs.Policy.{policy_choice}
use Rattle.model.specs.Calls.{Page}
use Rattle.runs.specs.Roles as roles
use Rattle.runs.specs.Roles.{trainee}
use Rattle.runs.specs.RulesRoles.{Looks, looks, lists}
use Rattle.store.specs.declared.Cache.{Cache}
use Rattle.store.specs.View.{Lent, store_of}
use Rattle.over.specs.Catalogue.{Out}
use Rattle.over.specs.Unseen.{Twins}
use Rattle.over.proofs.Unseen as model
use Rattle.sheets.specs.declared.roles.Caller.{Caller}
use Rattle.sheets.specs.View.{caller_of}
use Rattle.catalogue.specs.View.{asked_by, called}
use Rattle.catalogue.specs.Unseen.{SameLooks, SameLists}

-- what two calls hand back, by their contracts
same : (c c' : Cache) (u u' : Lent) (n : ℕ) (w : Caller) (page : Page) → (caller_of w).role ≡ trainee
    → Twins n w.number page (store_of c u) (store_of c' u') → (op : roles.Operation) → Looks op → (o o' : Out)
    → o ≡ called c u n w op page → o' ≡ called c' u' n w op page → (o.says ≡ o'.says) × (o.mends ≡ o'.mends)
same c c' u u' n w page role t op l o o' h h' =
    let k = model.same-looks policy_choice n (store_of c u) (store_of c' u') (asked_by w op page) role l t in (
      ap (λ (x : Out). x.says) h ∙ k.0 ∙ sym (ap (λ (x : Out). x.says) h'),
      ap (λ (x : Out). x.mends) h ∙ k.1 ∙ sym (ap (λ (x : Out). x.mends) h'),
    )

pub same-looks : SameLooks
same-looks c c' u u' n w page role t run r r' x x' h h' = same c c' u u' n w page role t (roles.look run) (looks run) _ _ h h'

pub same_lists : SameLists
same_lists c c' u u' n w page role t position r r' x x' h h' = same c c' u u' n w page role t (roles.list position)
    (lists position) _ _ h h'
