use Rattle.cache.specs.View.{sizes_of, directory_of}
use Rattle.cache.proofs.View.{slot-of}
use Rattle.sound.proofs.Parts.{slot-compared}
use Rattle.sound.proofs.slot_ok.Goals as goal

pub returns : goal.returns
returns c =
    let a = c.args in
    rw (c.slot_new.ensures, c.outside.ensures, ← slot-of a.directory.now a.j)
    (slot-compared (sizes_of a.sizes) (directory_of a.directory.now) a.j)
