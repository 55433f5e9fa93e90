use native.Mathlib.Omega.{arith}
use Prim.Native.Nat.{◌-◌}
use mathlib.Core.Path.{sym, ap, ◌∙◌, subst}
use lib.ListN.{length}
use Rattle.script.specs.Walk.{item_of}
use Rattle.walk.proofs.Rest.{Stands, item_stands}
use Rattle.walk.proofs.Onward.{left-room, onward-line}
use Rattle.walk.proofs.advance.Goals as goal

pub returns-in_default-clause-advances : goal.returns-in_default-clause-advances
returns-in_default-clause-advances c =
    let s = subst (Stands _ _ _) (sym c.form_at.ensures ∙ ap item_of c.in_default.is)
    (item_stands c.args.script.now c.args.w.at c.args.w.number) in
    let m = c.requires.more.line in
    absurd (omega arith)

pub line-r-requires : goal.line-r-requires
line-r-requires c =
    let s = subst (Stands _ _ _) (sym c.form_at.ensures ∙ ap item_of c.in-Some.is)
    (item_stands c.args.script.now c.args.w.at c.args.w.number) in
    record {
      memory = c.requires.memory;
      room = left-room c.args.w.printed 45063 c.args.out.now c.requires.more.room;
      held = c.requires.ready.held;
      sized = s.0;
    }

pub overflow_add-result : goal.overflow_add-result
overflow_add-result c =
    let s = subst (Stands _ _ _) (sym c.form_at.ensures ∙ ap item_of c.in-Some.is)
    (item_stands c.args.script.now c.args.w.at c.args.w.number) in
    let e = s.1.0 in
    let q = c.requires.ready.number-le in
    let m = c.requires.more.line in
    let l = c.requires.ready.short m in
    omega arith

pub returns-clause-onward : goal.returns-clause-onward
returns-clause-onward c =
    let k = c.line-r.ensures.carries.within in
    let m = left-room c.args.w.printed 45063 c.args.out.now c.requires.more.room in
    (onward-line c.args.script.now c.args.w _ c.args.out.now c.requires.ready c.requires.more _ _ _
    (sym c.form_at.ensures ∙ ap item_of c.in-Some.is) c.line-r.result _ _ _ _ _
    c.line-r.ensures (length c.args.out.now - c.args.w.printed) (omega (arith, c.line-r.auto)) (omega (arith, c.line-r.auto))).0

pub returns-clause-advances : goal.returns-clause-advances
returns-clause-advances c =
    let s = subst (Stands _ _ _) (sym c.form_at.ensures ∙ ap item_of c.in-Some.is)
    (item_stands c.args.script.now c.args.w.at c.args.w.number) in
    s.1.1.0
