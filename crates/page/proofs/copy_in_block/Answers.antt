use Rattle.page.proofs.Part.{put_in}
use Rattle.page.proofs.copy_in_block.Goals as goal

pub returns : goal.returns
returns c =
    let a = c.args in
    let p = c.requires in
    put_in a.s a.k a.run.now a.f a.o p.0 p.1 _ _ c.copy_page.ensures
