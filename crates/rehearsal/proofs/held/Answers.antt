use mathlib.Core.Path.{◌≡◌}
use Rattle.store.specs.View.{plain_lent, store_of}
use Rattle.rehearsal.specs.Class.{store_sizes, opened_store}
use Rattle.rehearsal.proofs.Beginning.{ready, filled, opened-on, opened-few, tallied}
use Rattle.rehearsal.proofs.held.Goals as goal

-- `s`: the store that the opening leaves
pub run-requires : goal.run-requires
run-requires c =
    let a = c.args in
    let u = plain_lent c.fill.new.items c.fill-2.new.items c.fill-3.new.items c.fill-4.new.items in
    let s : store_of c.open-opened.result.cache u ≡ opened_store (store_sizes a.z) = opened-on a.z c.requires.accepted u
    (filled a.z c.requires.accepted a.flash.now a.wear.now a.pspace.now a.bspace.now a.page.now c.requires.lengths _ _ _ _
    c.fill.ensures c.fill-2.ensures c.fill-3.ensures c.fill-4.ensures)
    _ c.sizes.ensures c.open-opened.result c.open-opened.ensures in
    (ready a.z c.requires.accepted, opened-few a.z c.requires.accepted _ s, c.requires.lengths.page-is)

pub returns : goal.returns
returns c =
    let a = c.args in
    let u = plain_lent c.fill.new.items c.fill-2.new.items c.fill-3.new.items c.fill-4.new.items in
    let s : store_of c.open-opened.result.cache u ≡ opened_store (store_sizes a.z) = opened-on a.z c.requires.accepted u
    (filled a.z c.requires.accepted a.flash.now a.wear.now a.pspace.now a.bspace.now a.page.now c.requires.lengths _ _ _ _
    c.fill.ensures c.fill-2.ensures c.fill-3.ensures c.fill-4.ensures)
    _ c.sizes.ensures c.open-opened.result c.open-opened.ensures in
    tallied a.z c.requires.accepted _ _ c.run.ensures s
