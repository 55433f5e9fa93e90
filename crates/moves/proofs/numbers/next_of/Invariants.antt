use Rattle.std.proofs.Common.{◌≡◌, ℕ, ◌<◌, ◌≤◌, false}
use Rattle.model.specs.Policy.{in_block}
use Rattle.cache.specs.View.{sizes_of, directory_of}
use Rattle.moves.proofs.numbers.next_of.Given as goal

-- no slot from at on, before i, has a page of block b
abbrev pub invariant-loop-i : goal.invariant-loop-i
invariant-loop-i l = (j : ℕ) → l.at ≤ j → j < l.i → in_block (sizes_of l.z) (directory_of l.directory) l.b.0 j ≡ false
