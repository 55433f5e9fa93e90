use native.Mathlib.Omega.{arith}
use mathlib.Core.Path.{◌≡◌, ap, ◌∙◌}
use Rattle.policy.specs.declared.decision.Plan.TheVariants.{MakeRoom}
use Rattle.policy.specs.declared.decision.Room.TheVariants.{Join, Fill, Exchange}
use Rattle.policy.specs.Views.{plan_of}
use Rattle.writes.proofs.Listed.{placed}
use Rattle.writes.proofs.Entering.{join-enters, join-entered, exchange-enters, exchange-entered}
use Rattle.writes.proofs.Ways.{way-1, way-2, way-3, way-4, way-5, way-6, shown-carries, by-shown}
use Rattle.writes.proofs.carry_out.Goals as goal
use Rattle.writes.proofs.carry_out.Goals.{In-MakeRoom-Join, In-MakeRoom-Fill, In-MakeRoom-Exchange}

-- ---- ways 1 to 3

pub used-requires : goal.used-requires
used-requires c =
    let limits = c.requires.ready.sound.limits in
    let l = (shown-carries plan_of c.in-FrameHit.is c.requires).holds in
    let h = limits.B_high in
    (limits, omega arith)

pub returns-in-SlotHit-clause-carried : goal.returns-in-SlotHit-clause-carried
returns-in-SlotHit-clause-carried c =
    rw c.done.ensures (by-shown plan_of c.in-SlotHit.is (way-1 _ _ c.over_slot.ensures))

pub returns-in-FrameHit-clause-carried : goal.returns-in-FrameHit-clause-carried
returns-in-FrameHit-clause-carried c =
    rw c.done-in-FrameHit.ensures (by-shown plan_of c.in-FrameHit.is (way-2 _ _ c.used.ensures c.over_frame_page.ensures))

pub returns-in-FreeSlot-clause-carried : goal.returns-in-FreeSlot-clause-carried
returns-in-FreeSlot-clause-carried c =
    rw c.done-in-FreeSlot.ensures (by-shown plan_of c.in-FreeSlot.is
    (way-3 _ _ (placed c.args.directory.now _ c.args.n) c.over_slot-in-FreeSlot.ensures))

-- ---- way 4

joins : (c : In-MakeRoom-Join) → c.args.outlook.plan ≡ MakeRoom (Join c.in-MakeRoom-Join.v c.in-MakeRoom-Join.f)
joins c = c.in-MakeRoom-Join.is ∙ ap MakeRoom (rw c.in-MakeRoom-Join.is at c.in-MakeRoom-Join.field-0-is)

pub enter-requires : goal.enter-requires
enter-requires c =
    let q = c.requires in
    join-enters q.ready.sound (shown-carries plan_of (joins (goal.at.enter-requires c).In-MakeRoom-Join) q).holds
    q.ready.fits.pspace-length q.page-length c.join.ensures.directory

pub returns-in-MakeRoom-Join-clause-carried : goal.returns-in-MakeRoom-Join-clause-carried
returns-in-MakeRoom-Join-clause-carried c =
    let at = (goal.at.returns-in-MakeRoom-Join-clause-carried c).In-MakeRoom-Join in
    rw c.done-in-MakeRoom-Join.ensures (by-shown plan_of (joins at) (way-4 _ _ _ _
    (join-entered c.requires.ready.sound c.join.ensures c.enter.ensures)))

-- ---- way 5

fills : (c : In-MakeRoom-Fill) → c.args.outlook.plan ≡ MakeRoom (Fill c.in-MakeRoom-Fill.v c.in-MakeRoom-Fill.f)
fills c = c.in-MakeRoom-Fill.is ∙ ap MakeRoom (rw c.in-MakeRoom-Fill.is at c.in-MakeRoom-Fill.field-0-is)

pub enter-requires-in-MakeRoom-Fill : goal.enter-requires-in-MakeRoom-Fill
enter-requires-in-MakeRoom-Fill c =
    let q = c.requires in
    join-enters q.ready.sound (shown-carries plan_of (fills (goal.at.enter-requires-in-MakeRoom-Fill c).In-MakeRoom-Fill) q).holds
    q.ready.fits.pspace-length q.page-length c.join-in-MakeRoom-Fill.ensures.directory

pub returns-in-MakeRoom-Fill-clause-carried : goal.returns-in-MakeRoom-Fill-clause-carried
returns-in-MakeRoom-Fill-clause-carried c =
    let at = (goal.at.returns-in-MakeRoom-Fill-clause-carried c).In-MakeRoom-Fill in
    rw c.done-in-MakeRoom-Fill.ensures (by-shown plan_of (fills at) (way-5 _ _ _ _
    (join-entered c.requires.ready.sound c.join-in-MakeRoom-Fill.ensures c.enter-in-MakeRoom-Fill.ensures)))

-- ---- way 6

exchanges : (c : In-MakeRoom-Exchange) → c.args.outlook.plan ≡ MakeRoom (Exchange c.in-MakeRoom-Exchange.v c.in-MakeRoom-Exchange.f)
exchanges c = c.in-MakeRoom-Exchange.is ∙ ap MakeRoom (rw c.in-MakeRoom-Exchange.is at c.in-MakeRoom-Exchange.field-0-is)

pub enter-requires-in-MakeRoom-Exchange : goal.enter-requires-in-MakeRoom-Exchange
enter-requires-in-MakeRoom-Exchange c =
    let q = c.requires in
    let g = (shown-carries plan_of (exchanges (goal.at.enter-requires-in-MakeRoom-Exchange c).In-MakeRoom-Exchange) q).holds in
    exchange-enters q.ready.sound g.0 g.1 q.page-length c.exchange.ensures.directory (omega (arith, c.exchange.auto, q.ready.fits))

pub returns-in-MakeRoom-Exchange-clause-carried : goal.returns-in-MakeRoom-Exchange-clause-carried
returns-in-MakeRoom-Exchange-clause-carried c =
    let at = (goal.at.returns-in-MakeRoom-Exchange-clause-carried c).In-MakeRoom-Exchange in
    rw c.done-in-MakeRoom-Exchange.ensures (by-shown plan_of (exchanges at) (way-6 _ _ _ _
    (exchange-entered c.requires.ready.sound c.exchange.ensures c.enter-in-MakeRoom-Exchange.ensures)))
