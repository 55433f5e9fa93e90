use Rattle.std.proofs.Common.{ℕ, ap, ◌∙◌}
use Rattle.runs.specs.Sheet.{page_of}
use Rattle.sheets.specs.View.{fields_of}
use Rattle.catalogue.specs.View.{lent_to}
use Rattle.catalogue.proofs.Ending.{few, positive, write_low, put-done_at}
use Rattle.catalogue.proofs.write.put_sheet.Goals as goal

pub with_write-answer-requires : goal.with_write-answer-requires
with_write-answer-requires c =
    let a = c.args in
    let u = lent_to a.lent.now a.pspace.now a.shelf.now in
    let st = c.requires.1.0 in
    let is = c.encode.ensures ∙ ap (λ (n : ℕ). page_of n (fields_of a.sheet)) c.requires.1.1 in (
      write_low a.cache u a.sheets _ _ st _ _ c.requires.0 _ is c.write-out.result _ c.write-out.ensures,
      (few a.cache u a.sheets _ _ st, positive a.cache u a.sheets _ _ st),
    )

pub returns-clause-stepped : goal.returns-clause-stepped
returns-clause-stepped c =
    let a = c.args in
    let is = c.encode.ensures ∙ ap (λ (n : ℕ). page_of n (fields_of a.sheet)) c.requires.1.1 in
    put-done_at a.cache (lent_to a.lent.now a.pspace.now a.shelf.now) a.sheets _ _ c.requires.1.0 _ _ c.requires.0 _ is
    c.write-out.result _ c.write-out.ensures _ c.shelving-at.ensures c.with_write-answer.result c.with_write-answer.ensures _
    c.deliver.ensures
