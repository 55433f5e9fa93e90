use Rattle.std.proofs.Common.{refl, sym, ◌∙◌}
use Rattle.std.proofs.lemmas.Result.{err_from_is_err_and}
use Rattle.std.specs.Prelude.{Ok, Err}
use Rattle.sheets.specs.View.{operation_of}
use Rattle.catalogue.specs.View.{lent_seen}
use Rattle.catalogue.proofs.Judging.{by-role, by-outside, gate_out, gate_in, judged_rest}
use Rattle.catalogue.proofs.judge.judge.Goals as goal

pub returns-then-not-allows : goal.returns-then-not-allows
returns-then-not-allows c =
    let a = c.args in
    let call = by-role a.cache (lent_seen a.lent a.shelf.now) a.sheets a.caller (operation_of a.op) a.page.now
    (sym c.allows.ensures ∙ c.if-not-allows.true) in
    (record { call-is = call; kind_is = tt }, refl)

pub returns-in_err-passes : goal.returns-in_err-passes
returns-in_err-passes c =
    let a = c.args in
    let p = err_from_is_err_and c.from_residual.result c.from_residual.ensures.1 in
    let h = c.in_err-passes.ensures in
    let may = sym c.allows.ensures ∙ c.if-not-allows.false in
    let stopped = gate_out a.cache (lent_seen a.lent a.shelf.now) a.sheets a.caller (operation_of a.op) a.page.now
    (Err c.in_err-passes.field-0.0) h.0 _ refl in
    let call = by-outside a.cache (lent_seen a.lent a.shelf.now) a.sheets a.caller (operation_of a.op) a.page.now may _ stopped in
    rw (p.1, p.2) (record { call-is = call; kind_is = tt }, h.1)

pub decide-requires : goal.decide-requires
decide-requires c =
    let a = c.args in
    (gate_in a.cache (lent_seen a.lent a.shelf.now) a.sheets a.caller (operation_of a.op) a.page.now (Ok tt)
    c.in_ok-passes.ensures.0 refl).0

pub returns : goal.returns
returns c =
    let a = c.args in
    let h = c.in_ok-passes.ensures in
    let may = sym c.allows.ensures ∙ c.if-not-allows.false in (
      judged_rest a.cache (lent_seen a.lent a.shelf.now) a.sheets a.caller (operation_of a.op) a.page.now may (Ok tt) h.0 refl
          c.decide.result _ c.decide.ensures,
      h.1,
    )
