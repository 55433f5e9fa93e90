use Rattle.cache.specs.View.{sizes_of, directory_of}
use Rattle.flushes.proofs.Checking.{steps_left, Ahead}
use Rattle.flushes.proofs.ahead.look_all.Given as goal

-- what has been looked at and what the steps left merge are together what the flush merges
abbrev pub invariant-loop-due : goal.invariant-loop-due
invariant-loop-due l =
    Ahead (sizes_of l.view.sizes) (directory_of l.directory) l.view.flash.now l.view.codes.now l.view.marks.now (directory_of l.rest)
    l.fault l.mends

abbrev pub decreases-loop-due : goal.decreases-loop-due
decreases-loop-due l = steps_left (sizes_of l.view.sizes) (directory_of l.rest)
