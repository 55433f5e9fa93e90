use mathlib.Core.Path.{sym, ◌∙◌}
use Rattle.script.proofs.With.{short-bare, not-bracketed, is-bracketed, bad-form, inside-form}
use Rattle.script.proofs.parse.Goals as goal

pub returns-then-n-lt2 : goal.returns-then-n-lt2
returns-then-n-lt2 c = sym (bad-form _ (short-bare _ c.if-n-lt2.true))

pub returns-then-line-last : goal.returns-then-line-last
returns-then-line-last c =
    sym (bad-form _ (not-bracketed _ c.if-n-lt2.false c.if-line-last.true))

pub returns : goal.returns
returns c =
    c.form_of.ensures ∙ sym (inside-form _ (is-bracketed _ c.if-n-lt2.false c.if-line-last.false) c.if-n-lt2.false)
