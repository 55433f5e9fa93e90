use native.Mathlib.Omega.{arith}
use mathlib.Core.Path.{refl, ap, ◌∙◌}
use Rattle.store.specs.View.{plain_lent, store_of}
use Rattle.rehearsal.specs.declared.course.Class.{Class}
use Rattle.rehearsal.specs.Class.{scene}
use Rattle.rehearsal.proofs.Seats.{seated_few, again, no-turn}
use Rattle.rehearsal.proofs.course.run.Goals as goal

-- `opened`: the store as the turns began; `here`: class and store as this turn begins
pub loop-t-init : goal.loop-t-init
loop-t-init c =
    let a = c.args in
    let opened = store_of a.k (plain_lent a.flash.now a.wear.now a.pspace.now a.bspace.now) in (
      record { flash = refl; wear = refl; pspace = refl; bspace = refl; page = refl },
      ap (λ (y : Class). scene y opened) c.blank-class.ensures ∙ no-turn a.z _,
    )

pub turn-cache-requires : goal.turn-cache-requires
turn-cache-requires c =
    let a = c.args in
    let opened = store_of a.k (plain_lent a.flash.now a.wear.now a.pspace.now a.bspace.now) in
    let q = c.requires in
    let l = c.loop-t in
    let here = scene l.class (store_of l.cache (plain_lent l.flash l.wear l.pspace l.bspace)) in
    let few = seated_few a.z l.t opened here q.0 q.1 (omega arith) l.invariant.1 in
    (q.0, few.0, few.1, l.invariant.0.page ∙ q.2)

pub loop-t-preserved : goal.loop-t-preserved
loop-t-preserved c =
    let a = c.args in
    let opened = store_of a.k (plain_lent a.flash.now a.wear.now a.pspace.now a.bspace.now) in
    let l = c.loop-t in
    let here = scene l.class (store_of l.cache (plain_lent l.flash l.wear l.pspace l.bspace)) in
    let k = c.turn-cache.auto in
    let s = l.invariant.0 in (
      record {
        flash = omega (arith, k, s);
        wear = omega (arith, k, s);
        pspace = omega (arith, k, s);
        bspace = omega (arith, k, s);
        page = omega (arith, k, s);
      },
      again a.z l.t (scene _ opened) here _ l.invariant.1 c.turn-cache.ensures,
    )
