use Rattle.std.proofs.Common.{ℕ, ◌%◌, sym, ap, ◌∙◌, arith}
use Rattle.prelude.specs.Bits.{with_bit}
use Rattle.cache.proofs.View.{slot-of}
use Rattle.moves.proofs.Offset.{gathered-with, gathered-next, gathered-all, apart_of, own_range}
use Rattle.moves.proofs.join.offsets.Goals as goal

pub offset_in-o-requires : goal.offset_in-o-requires
offset_in-o-requires c =
    let l = c.loop-i in
    let q = c.requires.0 in
    let s = apart_of _ _ _ q in
    let g = gathered-next _ _ s _ c.args.old q.block-lt _ _ _ l.invariant.0 l.invariant.1 c.in-Some.ensures.next in
    rw (sym (slot-of c.args.directory.now c.in-Some.i)) (own_range _ s.limits _ _ _ (g.0.own c.in-Some.ensures.range.1))

pub loop-i-preserved : goal.loop-i-preserved
loop-i-preserved c =
    let l = c.loop-i in
    let q = c.requires.0 in
    let s = apart_of _ _ _ q in
    let i = c.in-Some.i in
    let high = c.in-Some.ensures.range.1 in
    let g = gathered-next _ _ s _ c.args.old q.block-lt _ _ _ l.invariant.0 l.invariant.1 c.in-Some.ensures.next in
    let o = c.offset_in-o.ensures.value ∙ ap (λ (n : ℕ). n % c.args.z.pages_per_block) (sym (slot-of c.args.directory.now i)) in
    (omega arith, rw (c.with-v.ensures ∙ ap (with_bit l.v) o) (gathered-with _ _ s _ _ i l.v high (g.0.own high) g.1))

pub returns : goal.returns
returns c =
    let l = c.loop-i in
    let q = c.requires.0 in
    let s = apart_of _ _ _ q in
    let g = gathered-next _ _ s _ c.args.old q.block-lt _ _ _ l.invariant.0 l.invariant.1 c.in_default.ensures.next in
    gathered-all _ _ s _ _ l.v g.1
