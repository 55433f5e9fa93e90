use Rattle.std.proofs.Common.{refl, sym, ◌∙◌}
use Rattle.std.proofs.lemmas.Result.{err_from_is_err_and}
use Rattle.std.specs.Prelude.{Ok, Err}
use Rattle.catalogue.proofs.Gating.{gate_stops, gate_limits, size_stops, size_passes}
use Rattle.catalogue.proofs.gate.passes.Goals as goal

pub returns-in_err-entry : goal.returns-in_err-entry
returns-in_err-entry c =
    let p = err_from_is_err_and c.from_residual.result c.from_residual.ensures.1 in
    let h = c.in_err-entry.ensures in
    rw (p.1, p.2) (gate_stops _ _ (Err c.in_err-entry.field-0.0) h.0 _ refl _, h.1)

pub sizes_fit-requires : goal.sizes_fit-requires
sizes_fit-requires c = gate_limits _ _ (Ok tt) c.in_ok-entry.ensures.0 refl

pub returns-then-not-sizes_fit : goal.returns-then-not-sizes_fit
returns-then-not-sizes_fit c = let h = c.in_ok-entry.ensures in
    (size_stops _ _ (Ok tt) h.0 refl _ (sym c.sizes_fit.ensures ∙ c.if-not-sizes_fit.true) _, h.1)

pub returns : goal.returns
returns c = let h = c.in_ok-entry.ensures in
    (size_passes _ _ (Ok tt) h.0 refl _ (sym c.sizes_fit.ensures ∙ c.if-not-sizes_fit.false) _, h.1)
