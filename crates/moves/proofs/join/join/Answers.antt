use Rattle.std.proofs.Common.{ℕ, ◌*◌, List, ap, ◌∙◌, arith}
use Rattle.page.proofs.Part.{got, put}
use Rattle.prelude.specs.Scan.{tab}
use Rattle.model.specs.Calls.{slot_pages, frame_pages}
use Rattle.cache.specs.View.{sizes_of, directory_of}
use Rattle.moves.specs.Spaces.{stretch_pages, filled_page}
use Rattle.moves.proofs.Stretch.{stretch-fills, filled-stretch}
use Rattle.moves.proofs.join.join.Goals as goal

pub returns : goal.returns
returns c =
    let sz = sizes_of c.args.z in
    let d = directory_of c.args.directory.now in
    let bs = c.args.bspace.now in
    let ps = c.args.pspace.now in
    let b = c.args.b.0 in
    let f = c.args.f in
    let w = c.take in
    let fills = stretch-fills sz d b f ps bs c.requires in
    record {
      directory = w.ensures.directory;
      pages = ap (frame_pages sz) (put _ _ _ _)
          ∙ filled-stretch sz d b f ps bs c.requires _ (omega (arith, w.auto, fills))
          (w.ensures.stretch ∙ ap (λ (x : List ℕ). tab sz.K (filled_page sz d (slot_pages sz ps) (stretch_pages sz x) b))
          (got (sz.K * sz.S) bs f));
    }
