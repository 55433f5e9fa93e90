use Rattle.std.proofs.Common.{sym, refl, mul-le-mul, arith}
use Rattle.wear.proofs.Pass.{Ended, pass_none, pass_more, pass_end, pass_fails}
use Rattle.wear.proofs.measure.Goals as goal
use Rattle.wear.proofs.measure.Goals.{Else-largest-limit}

-- the loop ends at the list's end
ended : (c : Else-largest-limit) → Ended c.args.wear.now c.args.limit c.loop-x.total c.loop-x.squares c.loop-x.largest
ended c = pass_end _ _ _ _ _ c.loop-x.x-index c.loop-x.invariant (omega arith) c.requires.wear_len_bound c.requires.limit_bound
    (omega arith)

pub loop-x-init : goal.loop-x-init
loop-x-init c = pass_none _

pub loop-x-preserved : goal.loop-x-preserved
loop-x-preserved c = pass_more _ _ _ _ _ c.from-w.result _ _ c.loop-x.invariant (omega arith) c.from-w.ensures
    (omega arith) refl c.max-largest.ensures

pub returns-then-largest-limit : goal.returns-then-largest-limit
returns-then-largest-limit c = sym (pass_fails _ _ _ _ _ c.loop-x.x-index c.loop-x.invariant (omega arith) c.if-largest-limit.true)

pub overflow_mul-result : goal.overflow_mul-result
overflow_mul-result c =
    let m = mul-le-mul c.requires.wear_len_bound (ended c).q_high in
    record { fits = omega arith }

pub overflow_mul-result-2 : goal.overflow_mul-result-2
overflow_mul-result-2 c =
    let m = mul-le-mul (ended c).t_high (ended c).t_high in
    record { fits = omega arith }

pub overflow_sub-result : goal.overflow_sub-result
overflow_sub-result c = (ended c).least

pub returns : goal.returns
returns c = sym (ended c).figures
