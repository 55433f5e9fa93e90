use Rattle.std.proofs.lemmas.Result.{err_from_is_err_and}
use Rattle.model.proofs.Plan.{policy_choice-picks}
use Rattle.model.specs.Policy.{policy_choice}
use Rattle.writes.proofs.Ways.{plan-holds}
use Rattle.writes.proofs.Deciding.{may-carry, goes-wrote}
use Rattle.writes.proofs.write.Goals as goal

pub returns-in_err-outlook-clause-wrote : goal.returns-in_err-outlook-clause-wrote
returns-in_err-outlook-clause-wrote c =
    let p = err_from_is_err_and c.from_residual.result c.from_residual.ensures.1 in
    rw (p.1, p.2) (c.in_err-outlook.ensures.refused _ _ _ _)

pub carry_out-requires : goal.carry_out-requires
carry_out-requires c =
    may-carry c.requires (plan-holds policy_choice policy_choice-picks _ _ c.requires.ready.sound _ _) c.in_ok-outlook.ensures.foreseen

pub returns-clause-wrote : goal.returns-clause-wrote
returns-clause-wrote c =
    goes-wrote c.requires (plan-holds policy_choice policy_choice-picks _ _ c.requires.ready.sound _ _) c.in_ok-outlook.ensures.foreseen
    c.carry_out.ensures.carried
