use mathlib.Core.Path.{sym, ap, ◌∙◌}
use mathlib.Core.Bool.{Bool, ◌&&◌}
use lib.Dec.{eqb}
use Rattle.std.specs.Prelude.{Some}
use Rattle.rehearsals.proofs.Reading.{with-eleven, with-other}
use Rattle.rehearsals.proofs.parse.with.Goals as goal

pub returns-then-is_word-a : goal.returns-then-is_word-a
returns-then-is_word-a c =
    let a = c.args.a in
    ap Some c.setting.ensures
    ∙ sym (with-eleven c.args.w.now a.values a.count c.requires.1 c.requires.0
    (ap (λ (b : Bool). b && eqb a.count 11) (sym c.is_word.ensures) ∙ c.if-is_word-a.true))

pub returns : goal.returns
returns c =
    let a = c.args.a in
    sym (with-other c.args.w.now a.values a.count c.requires.1 c.requires.0
    (ap (λ (b : Bool). b && eqb a.count 11) (sym c.is_word.ensures) ∙ c.if-is_word-a.false))
