use Rattle.std.proofs.Common.{length-set, arith}
use Rattle.std.proofs.lemmas.Result.{err_from_is_err_and}
use Rattle.gather.proofs.Laws.{so_far_more, met_first, none_met}
use Rattle.gather.proofs.gather.Goals as goal

pub returns-in_err-met : goal.returns-in_err-met
returns-in_err-met c =
    let l = c.loop-i in
    let p = err_from_is_err_and c.from_residual.result c.from_residual.ensures.1 in
    rw (p.1, p.2) (met_first _ _ _ _ _ _ _ _ l.i _ _ l.invariant.so_far c.loop-i-test.true _ c.in_err-met.ensures.fault-is)

pub loop-i-preserved : goal.loop-i-preserved
loop-i-preserved c = let l = c.loop-i in let k = c.in_ok-met.ensures in record {
  long = simp length-set l.invariant.long;
  mends-long = simp length-set l.invariant.mends-long;
  so_far = so_far_more _ _ _ _ _ _ _ l.i _ _ _ _ (omega arith) (omega arith) l.invariant.so_far k.fault-is k.sheet-is k.mends-are;
}

pub returns : goal.returns
returns c = let l = c.loop-i in none_met _ _ _ _ _ _ _ _ l.i _ _ l.invariant.so_far (omega arith) (omega arith)
