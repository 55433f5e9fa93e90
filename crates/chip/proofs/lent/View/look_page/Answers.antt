use mathlib.Core.Path.{sym, ◌∙◌}
use Rattle.chip.proofs.Cells.{looked-bad, looked-torn, looked-good}
use Rattle.chip.proofs.lent.View.look_page.Goals as goal

pub returns-then-is_some : goal.returns-then-is_some
returns-then-is_some c = looked-bad _ _ _ _ _ c.requires _ c.look_code-seen.ensures (sym c.is_some.ensures ∙ c.if-is_some.true)

pub returns-then-is_torn : goal.returns-then-is_torn
returns-then-is_torn c =
    looked-torn _ _ _ _ _ c.requires _ c.look_code-seen.ensures (sym c.is_some.ensures ∙ c.if-is_some.false)
    (sym c.is_torn.ensures ∙ c.if-is_torn.true)

pub returns : goal.returns
returns c =
    looked-good _ _ _ _ _ c.requires _ c.look_code-seen.ensures (sym c.is_some.ensures ∙ c.if-is_some.false)
    (sym c.is_torn.ensures ∙ c.if-is_torn.false)
