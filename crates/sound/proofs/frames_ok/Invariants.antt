use mathlib.Core.Path.{◌≡◌}
use mathlib.Core.Bool.{true}
use lib.ListN.{length}
use Rattle.prelude.specs.Scan.{all}
use Rattle.model.specs.Soundness.{frame_ok}
use Rattle.cache.specs.View.{sizes_of, directory_of}
use Rattle.sound.specs.Soundness.{Laid}
use Rattle.sound.proofs.frames_ok.Given as goal

-- the frames before f are as they should be, and the filter has their valid pages
abbrev pub invariant-loop-f : goal.invariant-loop-f
invariant-loop-f l =
    let sz = sizes_of l.fn.sizes in
    let d = directory_of l.directory in
    record {
      long : length l.seen ≡ 64;
      good : all l.f (frame_ok sz d) ≡ true;
      laid : Laid sz d l.f l.seen;
    }
