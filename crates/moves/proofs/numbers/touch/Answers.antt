use Rattle.std.proofs.Common.{◌≡◌, suc, ◌+◌, ◌-◌, eqb, get_or, set, ap, ◌∙◌, arith, eqb-true, List, ℕ}
use Rattle.prelude.proofs.Scan.{first-hit}
use Rattle.model.specs.Directory.{Directory, recency_at}
use Rattle.cache.specs.View.{sizes_of, directory_of}
use Rattle.moves.proofs.Recency.{shifted_more, shifted_end}
use Rattle.moves.proofs.numbers.touch.Goals as goal

pub loop-j-preserved : goal.loop-j-preserved
loop-j-preserved c =
    let l = c.loop-j in
    let k = c.requires.B_high in
    let e : l.j + 1 - 1 ≡ suc (l.j - 1) = omega arith in
    let q : l.j ≡ suc (l.j - 1) = omega arith in
    rw (e, ap (λ (x : ℕ). get_or l.order x 0) q) (shifted_more _ _ (l.j - 1) _ l.invariant (omega arith) (omega arith))

pub returns-after-loop-j : goal.returns-after-loop-j
unfolding directory_of
returns-after-loop-j c =
    let d : Directory = directory_of c.args.directory.now in
    let l = c.loop-j in
    let f = c.args.f in
    let last = c.args.z.frames - 1 in
    let e = c.in-Some.ensures.at in
    let low = c.in-Some.ensures.low in
    let end : c.args.z.frames - 1 ≡ l.j - 1 = omega arith in
    let x : get_or d.recency c.in-Some.at 0 ≡ f = ap (recency_at d) e
    ∙ eqb-true _ f (first-hit c.args.z.frames (λ i. eqb (recency_at d i) f) (omega arith)) in
    ap (λ (r : List ℕ). record d { recency = r }) (ap (set l.order last) x
    ∙ shifted_end (sizes_of c.args.z) d f _ last l.order (rw end l.invariant) e (omega arith) (omega arith) c.requires.B_high)
