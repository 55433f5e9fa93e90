use Rattle.std.proofs.Common.{◌≡◌, length}
use Rattle.cache.specs.View.{sizes_of, directory_of}
use Rattle.gather.proofs.Laws.{SoFar}
use Rattle.gather.proofs.gather.Given as goal

-- the pages below i were not refused, and their sheets and mends stand in the tables
abbrev pub invariant-loop-i : goal.invariant-loop-i
invariant-loop-i l = record {
  long : length l.t ≡ 256;
  mends-long : length l.mends ≡ 256;
  so_far : SoFar (sizes_of l.view.sizes) (directory_of l.directory) l.view.flash.now l.view.codes.now l.view.marks.now l.pspace l.bspace
      l.i l.t l.mends;
}
