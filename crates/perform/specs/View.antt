-- What the code hands back for a line.
use Rattle.std.specs.Prelude.{◌≡◌, List, ℕ, ◌≤◌, take}
use Rattle.print.specs.Print.{wear_room}
use Rattle.store.specs.View.{Lent, store_of}
use Rattle.perform.specs.declared.Lined.{Lined}
use Rattle.perform.specs.Effects.{Effect}

-- the record with the buffers u, and the first bytes of out
abbrev pub effect_of : Lined → Lent → List ℕ → Effect
effect_of r u out = record { store = store_of r.cache u; printed = take r.printed out }

-- the code did what e says
pub record Carries (e : Effect) (r : Lined) (u : Lent) (out : List ℕ) : Type 0 where
  pub effect : effect_of r u out ≡ e
  pub within : r.printed ≤ wear_room 4096
