use lib.ListN.{length}
use borrow.Author.Rules.{rules}
use Rattle.store.specs.View.{plain_lent, store_of}
use Rattle.rehearsal.proofs.Gives.{write-gives}
use Rattle.rehearsal.proofs.serve.serve_write.Goals as goal

-- none are left where none were lent
pub returns : goal.returns
returns c =
    let a = c.args in
    let l = c.write-r.new in
    write-gives (store_of a.c (plain_lent a.flash.now a.wear.now a.pspace.now a.bspace.now)) a.n a.byte
    (length a.page.now) c.fill.new.items l.flash l.codes l.marks l.wear l.pspace l.bspace l.shelf
    (search rules) (search rules) (search rules) c.fill.ensures c.write-r.result c.write-r.ensures
