use mathlib.Core.Path.{sym, ◌∙◌}
use Rattle.model.proofs.Soundness.{limits_of}
use Rattle.script.specs.Forms.{opening}
use Rattle.script.proofs.opening.Goals as goal

pub buffers_fit-requires : goal.buffers_fit-requires
buffers_fit-requires c =
    limits_of _ (sym c.ok.ensures ∙ c.if-ok.true)

pub returns-then-not-buffers_fit : goal.returns-then-not-buffers_fit
unfolding opening
returns-then-not-buffers_fit c =
    rw (sym c.ok.ensures ∙ c.if-ok.true, sym c.buffers_fit.ensures ∙ c.if-not-buffers_fit.true)

pub returns-else-not-buffers_fit : goal.returns-else-not-buffers_fit
unfolding opening
returns-else-not-buffers_fit c =
    rw (sym c.ok.ensures ∙ c.if-ok.true, sym c.buffers_fit.ensures ∙ c.if-not-buffers_fit.false)

pub returns-else-ok : goal.returns-else-ok
unfolding opening
returns-else-ok c =
    rw (sym c.ok.ensures ∙ c.if-ok.false)
