-- What a flush step is due to do.
use mathlib.Core.Path.{◌≡◌}
use mathlib.Core.Bool.{true}
use Prim.Native.Nat.{◌<◌}
use lib.Dec.{ltb}
use borrow.Author.Tests.{ltb-true}
use Rattle.std.proofs.lemmas.Bool.Decides.{nat_tests}
use Rattle.prelude.specs.Scan.{first}
use Rattle.prelude.proofs.Scan.{first-hit}
use Rattle.model.specs.Sizes.{Sizes}
use Rattle.model.specs.Directory.{Directory}
use Rattle.model.specs.Policy.{policy_choice, occupied}
use Rattle.model.proofs.Plan.{policy_choice-picks}
use Rattle.cache.proofs.View.{frame-of}
use Rattle.policy.specs.Views.{DueOf}
use Rattle.policy.proofs.Uses.{listed_due}

-- the frame that the policy takes of the occupied ones is one of the frames
pub taken_lt : (sz : Sizes) (d : Directory) → DueOf sz d.slots d.frames d.recency d.uses → ltb (first sz.B (occupied d)) sz.B ≡ true
    → policy_choice sz d (occupied d) < sz.B
taken_lt sz d s t = let l = ltb-true (first sz.B (occupied d)) sz.B t in
    (policy_choice-picks sz d (occupied d) (first sz.B (occupied d)) (listed_due sz d s) l (first-hit sz.B (occupied d) l)).0

pub ruleset steps = (taken_lt, frame-of, nat_tests)
