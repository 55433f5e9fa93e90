use Rattle.cache.specs.View.{directory_of}
use Rattle.sound.proofs.Parts.{Compared}
use Rattle.sound.proofs.frames_apart.Given as goal

-- the frames before f are compared, with ok as the answer, and met has the remainders of their blocks
abbrev pub invariant-loop-f : goal.invariant-loop-f
invariant-loop-f l = Compared (directory_of l.directory).frames l.f l.met l.ok
