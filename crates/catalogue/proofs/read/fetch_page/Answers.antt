use Rattle.catalogue.specs.View.{lent_seen}
use Rattle.catalogue.proofs.Ending.{few, positive, read_low, fetch-done}
use Rattle.catalogue.proofs.read.fetch_page.Goals as goal

pub left-more-requires : goal.left-more-requires
left-more-requires c =
    let a = c.args in
    let u = lent_seen a.lent a.shelf.now in
    (few a.cache u a.sheets _ _ c.requires.1, positive a.cache u a.sheets _ _ c.requires.1)

pub with_read-requires : goal.with_read-requires
with_read-requires c =
    let a = c.args in (
      read_low a.cache (lent_seen a.lent a.shelf.now) a.sheets _ _ c.requires.1 _ c.requires.0 c.read-out.result _ c.read-out.ensures,
      c.left-more.ensures.1,
    )

pub returns : goal.returns
returns c =
    let a = c.args in
    fetch-done a.cache (lent_seen a.lent a.shelf.now) a.sheets _ _ c.requires.1 _ c.requires.0 c.read-out.result _ c.read-out.ensures _
    c.left-more.ensures.0 c.with_read.result c.with_read.ensures
