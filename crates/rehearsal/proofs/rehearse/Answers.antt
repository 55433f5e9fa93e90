use mathlib.Core.Path.{◌≡◌, refl, sym, ap, ◌∙◌}
use mathlib.Core.Bool.{true}
use Rattle.std.specs.Prelude.{Ok}
use Rattle.tally.specs.declared.Tallies.{Tallies}
use Rattle.rehearsal.specs.Class.{setting_ok, rehearsal_of}
use Rattle.rehearsal.proofs.Beginning.{roomy}
use Rattle.rehearsal.proofs.rehearse.Goals as goal

pub returns-then-not-ok : goal.returns-then-not-ok
unfolding rehearsal_of
returns-then-not-ok c = rw (sym c.ok.ensures ∙ c.if-not-ok.true, c.none.ensures) refl

pub lengths-p-requires : goal.lengths-p-requires
lengths-p-requires c = roomy _ (sym c.ok.ensures ∙ c.if-not-ok.false)

pub returns : goal.returns
unfolding rehearsal_of
returns c =
    let passed : setting_ok c.args.z ≡ true = sym c.ok.ensures ∙ c.if-not-ok.false in
    rw passed (ap (λ (t : Tallies). record { answer = Ok (record { torn = 0 }); tallies = t }) c.held-tallies.ensures)
