use native.Mathlib.Omega.{arith}
use mathlib.Core.Path.{refl, sym, ap, subst, ◌∙◌}
use Prim.Native.Nat.{◌%◌}
use lib.ListN.{get_or}
use Rattle.store.specs.View.{plain_lent, store_of}
use Rattle.tally.specs.Count.{Ranged}
use Rattle.turns.specs.Turns.{turn_of}
use Rattle.rehearsal.specs.Class.{Gave, scene}
use Rattle.rehearsal.proofs.Seats.{served-ranged, turn_is}
use Rattle.rehearsal.proofs.course.turn.Goals as goal

-- `before`: as the turn began
pub seated-requires : goal.seated-requires
seated-requires c =
    let a = c.args in
    let before = scene a.class.now (store_of a.cache (plain_lent a.flash.now a.wear.now a.pspace.now a.bspace.now)) in
    let r = c.requires.0 in (
      omega arith,
      record {
        ranged = subst (λ (g : Gave). Ranged g.answer) (sym c.serve-served.ensures)
            (served-ranged _ before.store c.take-u.result.call c.requires.2);
        few = c.requires.1.within;
      },
    )

pub returns : goal.returns
returns c =
    let a = c.args in
    let before = scene a.class.now (store_of a.cache (plain_lent a.flash.now a.wear.now a.pspace.now a.bspace.now)) in
    turn_is a.z a.t before (a.t % a.z.benches) _ c.take-u.result _ c.seated.result refl
    (c.take-u.ensures ∙ ap (turn_of a.class.now.state (get_or a.class.now.last (a.t % a.z.benches) 0)) c.rates.ensures)
    c.requires.3 c.serve-served.ensures c.seated.ensures
