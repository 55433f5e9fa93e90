use Rattle.std.proofs.Common.{◌≡◌, subst}
use Rattle.model.specs.Calls.{Buffers}
use Rattle.store.specs.View.{Lent}
use Rattle.runs.specs.Verdict.{put}
use Rattle.sheets.specs.View.{fields_of, operation_of}
use Rattle.catalogue.specs.View.{called, stepped, lent_seen, lent_to}
use Rattle.catalogue.proofs.Judging.{ready-limits}
use Rattle.catalogue.proofs.PowerLoss.{put_cut}
use Rattle.catalogue.proofs.cut.put_off.Goals as goal

pub put_apart-requires : goal.put_apart-requires
put_apart-requires c =
    let a = c.args in
    (ready-limits a.cache (lent_seen c.view.result a.shelf.now) a.sheets c.in-Ok.ensures.0.2.ready).S_high

pub returns-in-Ok-clause-cut : goal.returns-in-Ok-clause-cut
returns-in-Ok-clause-cut c =
    let a = c.args in
    let op = operation_of a.op in
    let with = λ (b : Buffers). let u : Lent = record { below = b; shelf = a.shelf.now } in
    stepped a.cache u a.sheets a.page.now (put c.in-Ok.n.0 (fields_of c.in-Ok.sheet)) ≡ called a.cache u a.sheets a.caller op a.page.now in
    put_cut a.cache (lent_to a.lent.now a.pspace.now a.shelf.now) a.sheets a.caller op a.page.now a.ops _ _ _
    (subst with c.view.ensures c.in-Ok.ensures.0.0) _ c.put_apart.ensures.cut
