use Rattle.std.proofs.Common.{◌∙◌}
use Rattle.script.proofs.Words.{same_is}
use Rattle.script.proofs.is_word.Goals as goal

pub returns : goal.returns
returns c = c.eq.ensures ∙ same_is c.args.w.now c.args.word.now
