use Rattle.std.proofs.Common.{rules, ◌*◌, ap, ◌∙◌, arith}
use Rattle.page.proofs.Part.{got, put}
use Rattle.cache.specs.View.{sizes_of, directory_of}
use Rattle.moves.specs.Spaces.{spaces}
use Rattle.moves.proofs.Offset.{block_in}
use Rattle.moves.proofs.Stretch.{stretch-fills}
use Rattle.moves.proofs.Swap.{exchanged-stretch}
use Rattle.moves.proofs.exchange.exchange.Goals as goal

pub offsets-new-requires : goal.offsets-new-requires
offsets-new-requires c = let j = c.requires.joins in (block_in _ _ _ j.sound j.block-lt, search rules)

pub returns : goal.returns
returns c =
    let sz = sizes_of c.args.z in
    let d = directory_of c.args.directory.now in
    let ps = c.args.pspace.now in
    let bs = c.args.bspace.now in
    let b = c.args.b.0 in
    let f = c.args.f in
    let w = c.swap in
    let fills = stretch-fills sz d b f ps bs c.requires.joins in
    record {
      directory = w.ensures.directory;
      pages = ap (spaces sz _) (put _ _ _ _)
          ∙ exchanged-stretch sz d b f ps bs c.requires.joins _ _ _ (omega (arith, w.auto, fills))
          (rw (got (sz.K * sz.S) bs f) at w.ensures);
    }
