-- Request A10 for the code: what a trainee can tell apart.
use Rattle.std.specs.Prelude.{◌≡◌, ℕ}
use Rattle.model.specs.Calls.{Page}
use Rattle.runs.specs.Roles.{trainee}
use Rattle.store.specs.declared.Cache.{Cache}
use Rattle.store.specs.View.{Lent, store_of}
use Rattle.over.specs.Unseen.{Twins}
use Rattle.sheets.specs.declared.roles.Caller.{Caller}
use Rattle.sheets.specs.View.{caller_of}
use Rattle.catalogue.specs.View.{Looked, Listed, look_says, look_mends, list_says, list_mends}
use Rattle.catalogue.specs.Histories.{Contract, look, list}

-- Two stores alike but for others' trainee numbers and marks, and the codes of those sheets, give a trainee the same looks, refusals and
-- mends included, so long as those others stay others, and in either all codes match and no bit has flipped.
abbrev pub SameLooks : Type 0
SameLooks = (c c' : Cache) (u u' : Lent) (n : ℕ) (w : Caller) (page : Page) → (caller_of w).role ≡ trainee
    → Twins n w.number page (store_of c u) (store_of c' u') → (run : ℕ) (r r' : Looked) (x x' : Page)
    → Contract c u n w page (look run r x) → Contract c' u' n w page (look run r' x')
    → (look_says r ≡ look_says r') × (look_mends r ≡ look_mends r')

-- and the same lists
abbrev pub SameLists : Type 0
SameLists = (c c' : Cache) (u u' : Lent) (n : ℕ) (w : Caller) (page : Page) → (caller_of w).role ≡ trainee
    → Twins n w.number page (store_of c u) (store_of c' u') → (position : ℕ) (r r' : Listed) (x x' : Page)
    → Contract c u n w page (list position r x) → Contract c' u' n w page (list position r' x')
    → (list_says r ≡ list_says r') × (list_mends r ≡ list_mends r')
