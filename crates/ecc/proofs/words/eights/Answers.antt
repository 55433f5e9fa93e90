use Rattle.ecc.proofs.ByWords.{eights-of}
use Rattle.ecc.proofs.words.eights.Goals as goal

pub returns : goal.returns
returns c =
    eights-of c.args.s.now c.args.i _ _ _ _ _ _ _ _ c.word-a.ensures c.word-b.ensures
    c.word-c.ensures
    c.word-d.ensures c.word-e.ensures c.word-f.ensures c.word-g.ensures
    c.word-h.ensures
