use native.Mathlib.Omega.{arith}
use Rattle.script.specs.View.{meant}
use Rattle.interpret.proofs.Front.{held-as, front-le, front_long, parts_within, lent-parts, line-carried}
use Rattle.interpret.proofs.line.Goals as goal

pub lengths-p-requires : goal.lengths-p-requires
lengths-p-requires c =
    held-as _ _ (meant c.args.form) c.sizes_after-z.ensures c.requires.held c.requires.sized

pub slice_bounds-carry-end : goal.slice_bounds-carry-end
slice_bounds-carry-end c =
    front-le _ _ c.args.flash.now c.requires.memory.flash-length
    (parts_within _ _ c.lengths-p.ensures (held-as _ _ (meant c.args.form) c.sizes_after-z.ensures
    c.requires.held c.requires.sized)).flash-within

pub slice_bounds-carry-end-2 : goal.slice_bounds-carry-end-2
slice_bounds-carry-end-2 c =
    front_long _ _ c.args.flash.now c.requires.memory.flash-length
    (parts_within _ _ c.lengths-p.ensures (held-as _ _ (meant c.args.form)
    c.sizes_after-z.ensures c.requires.held c.requires.sized)).flash-within

pub slice_bounds-carry-end-3 : goal.slice_bounds-carry-end-3
slice_bounds-carry-end-3 c =
    front-le _ _ c.args.wear.now c.requires.memory.wear-length
    (parts_within _ _ c.lengths-p.ensures (held-as _ _ (meant c.args.form)
    c.sizes_after-z.ensures c.requires.held c.requires.sized)).wear-within

pub slice_bounds-carry-end-4 : goal.slice_bounds-carry-end-4
slice_bounds-carry-end-4 c =
    front_long _ _ c.args.wear.now c.requires.memory.wear-length
    (parts_within _ _ c.lengths-p.ensures (held-as _ _ (meant c.args.form)
    c.sizes_after-z.ensures c.requires.held c.requires.sized)).wear-within

pub slice_bounds-carry-end-5 : goal.slice_bounds-carry-end-5
slice_bounds-carry-end-5 c =
    front-le _ _ c.args.pspace.now c.requires.memory.pspace-length
    (parts_within _ _ c.lengths-p.ensures (held-as _ _ (meant c.args.form)
    c.sizes_after-z.ensures c.requires.held c.requires.sized)).pspace-within

pub slice_bounds-carry-end-6 : goal.slice_bounds-carry-end-6
slice_bounds-carry-end-6 c =
    front_long _ _ c.args.pspace.now c.requires.memory.pspace-length
    (parts_within _ _ c.lengths-p.ensures (held-as _ _ (meant c.args.form)
    c.sizes_after-z.ensures c.requires.held c.requires.sized)).pspace-within

pub slice_bounds-carry-end-7 : goal.slice_bounds-carry-end-7
slice_bounds-carry-end-7 c =
    front-le _ _ c.args.bspace.now c.requires.memory.bspace-length
    (parts_within _ _ c.lengths-p.ensures (held-as _ _ (meant c.args.form)
    c.sizes_after-z.ensures c.requires.held c.requires.sized)).bspace-within

pub slice_bounds-carry-end-8 : goal.slice_bounds-carry-end-8
slice_bounds-carry-end-8 c =
    front_long _ _ c.args.bspace.now c.requires.memory.bspace-length
    (parts_within _ _ c.lengths-p.ensures (held-as _ _ (meant c.args.form)
    c.sizes_after-z.ensures c.requires.held c.requires.sized)).bspace-within

pub slice_bounds-carry-end-9 : goal.slice_bounds-carry-end-9
slice_bounds-carry-end-9 c =
    front-le _ _ c.args.page.now c.requires.memory.page-length
    (parts_within _ _ c.lengths-p.ensures (held-as _ _ (meant c.args.form)
    c.sizes_after-z.ensures c.requires.held c.requires.sized)).page-within

pub slice_bounds-carry-end-10 : goal.slice_bounds-carry-end-10
slice_bounds-carry-end-10 c =
    front_long _ _ c.args.page.now c.requires.memory.page-length
    (parts_within _ _ c.lengths-p.ensures (held-as _ _ (meant c.args.form)
    c.sizes_after-z.ensures c.requires.held c.requires.sized)).page-within

pub carry-requires : goal.carry-requires
carry-requires c =
    let q = c.requires in
    let a = c.args in
    let held = held-as _ _ (meant c.args.form) c.sizes_after-z.ensures c.requires.held c.requires.sized in
    lent-parts _ _ c.lengths-p.ensures a.flash.now a.wear.now a.pspace.now a.bspace.now _
    c.sizes_after-z.ensures a.page.now a.out.now held
    (parts_within _ _ c.lengths-p.ensures held) q.memory.flash-length
    q.memory.wear-length q.memory.pspace-length q.memory.bspace-length q.memory.page-length q.room

pub returns : goal.returns
returns c =
    let q = c.requires in
    let a = c.args in
    let k = c.carry.auto in
    let w = (parts_within _ _ c.lengths-p.ensures (held-as _ _ (meant c.args.form)
    c.sizes_after-z.ensures c.requires.held c.requires.sized)) in
    line-carried _ _ c.lengths-p.ensures a.flash.now a.wear.now a.pspace.now a.bspace.now _ _ _ _
    (omega (arith, k, front_long _ _ a.flash.now q.memory.flash-length w.flash-within))
    (omega (arith, k, front_long _ _ a.wear.now q.memory.wear-length w.wear-within))
    (omega (arith, k, front_long _ _ a.pspace.now q.memory.pspace-length w.pspace-within))
    (omega (arith, k, front_long _ _ a.bspace.now q.memory.bspace-length w.bspace-within))
    a.c (meant a.form) _ c.requires.sized c.sizes_after-z.ensures
    (held-as _ _ (meant c.args.form) c.sizes_after-z.ensures c.requires.held c.requires.sized) _ _ _ _
    _ _ c.carry.ensures
