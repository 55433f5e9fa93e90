use native.Mathlib.Omega.{arith}
use Rattle.std.proofs.lemmas.Result.{err_from_is_err_and}
use Rattle.chip.specs.Loan.{buffers_of}
use Rattle.answer.proofs.Refusals.{why_refused}
use Rattle.parts.proofs.Parts.{accepted, few-met, part-wrote}
use Rattle.parts.proofs.write_combined.Goals as goal

pub write-requires : goal.write-requires
write-requires c = let p = c.requires.0 in let u = buffers_of c.args.chip.now c.args.pspace.now c.args.bspace.now in record {
  ready = p.ready;
  page-lt = p.page-lt;
  page-length = omega (arith, c.combine-seen.auto);
  few = few-met _ _ u _ _ _ _ _ c.combine-seen.ensures p.ready.sound.limits;
}

pub returns-in_err-answer-clause-wrote : goal.returns-in_err-answer-clause-wrote
returns-in_err-answer-clause-wrote c =
    let p = err_from_is_err_and c.from_residual.result c.from_residual.ensures.1 in
    rw (p.1, p.2) (part-wrote _ _ _ _ _ _ _ _ c.combine-seen.ensures _ _ _ _ _ _ _ c.in_err-answer.ensures.wrote
    (rw why_refused))

pub returns-clause-wrote : goal.returns-clause-wrote
returns-clause-wrote c =
    part-wrote _ _ _ _ _ _ _ _ c.combine-seen.ensures _ _ _ _ _ _ _ c.in_ok-answer.ensures.wrote
    (rw accepted c.copy_from_slice.ensures.after)
