use native.Mathlib.Omega.{arith}
use Rattle.cache.specs.View.{directory_of}
use Rattle.cache.proofs.Entries.{pages_length, blocks_length}
use Rattle.sound.proofs.shaped.Goals as goal

pub returns : goal.returns
unfolding directory_of
returns c = record {
  slots_length = simp pages_length (omega arith);
  frames-length = simp blocks_length (omega arith);
  valid-length = omega arith;
  recency-length = omega arith;
  uses-length = omega arith;
}
