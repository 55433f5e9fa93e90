use mathlib.Core.Path.{sym, ◌∙◌}
use Rattle.script.proofs.With.{short-bare, not-bracketed, is-bracketed}
use Rattle.rehearsals.proofs.Reading.{bad-line, inside-line}
use Rattle.rehearsals.proofs.parse.line_of.Goals as goal

pub returns-then-n-lt2 : goal.returns-then-n-lt2
returns-then-n-lt2 c = sym (bad-line _ (short-bare _ c.if-n-lt2.true))

pub returns-then-line-last : goal.returns-then-line-last
returns-then-line-last c =
    sym (bad-line _ (not-bracketed _ c.if-n-lt2.false c.if-line-last.true))

pub returns : goal.returns
returns c =
    c.inside.ensures ∙ sym (inside-line _ (is-bracketed _ c.if-n-lt2.false c.if-line-last.false) c.if-n-lt2.false)
