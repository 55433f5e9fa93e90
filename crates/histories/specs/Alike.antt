-- Two texts that begin alike.
use Rattle.std.specs.Prelude.{◌≡◌, ℕ, ◌<◌, ◌≤◌, List, length, take, ◌≢◌, slice_index}

-- a and b have the same first n bytes, and differ in the next or have none
pub record Alike (a b : List ℕ) (n : ℕ) : Type 0 where
  pub left : n ≤ length a
  pub right : n ≤ length b
  pub same : take n a ≡ take n b
  pub differ : n < length a → n < length b → slice_index a n ≢ slice_index b n
