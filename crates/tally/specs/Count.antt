-- The tallies after a call (request A13): accepted reads and accepted writes, each by way, erasures, merge reads, refused calls.
use Rattle.std.specs.Prelude.{cond, List, ℕ, ◌+◌, ◌*◌, ◌<◌, ◌≤◌, ltb, get_or, set, replicate}
use Rattle.model.specs.Sizes.{vacant}
use Rattle.model.specs.Calls.{Answer, open_done, read_done, write_done, step_done, step_clean, flush_done, refused}
use Rattle.answer.specs.Numbers.{read_of, write_of}
use Rattle.answer.specs.ByNumber.{numbered_read, numbered_write}
use Rattle.tally.specs.declared.Tallies.{Tallies}
use Rattle.tally.specs.declared.Answered.{Answered}
use Rattle.tally.specs.declared.Answered.TheVariants as answers
use Rattle.tally.specs.declared.numbers.Answered as numbers
use Rattle.tally.specs.declared.numbers.Answered.TheVariants as numbered

-- the model's answer, for each case of the code's
abbrev pub answer_of : Answered → Answer
answer_of (answers.Read r) = read_of r
answer_of (answers.Write w) = write_of w

abbrev pub numbered_answer : numbers.Answered → Answer
numbered_answer (numbered.Read r) = numbered_read r
numbered_answer (numbered.Write w) = numbered_write w

-- nothing is counted yet
abbrev pub no_tallies : Tallies
no_tallies = record { reads = replicate 4 0; writes = replicate 8 0; erased = 0; merged = 0; refused = 0 }

-- the entry of a way, one more
abbrev pub oneMore : List ℕ → ℕ → List ℕ
oneMore l way = set l way (get_or l way 0 + 1)

-- a block that is named has been erased once
abbrev pub erasures : ℕ → ℕ
erasures b = cond (ltb b vacant) 1 0

-- a refused call is counted as such, and by no way
abbrev pub one_refused : Tallies → Tallies
one_refused t = record { reads = t.reads; writes = t.writes; erased = t.erased; merged = t.merged; refused = t.refused + 1 }

-- the tallies after an answer; openings, steps and flushes are no calls of a rehearsal
abbrev pub counted : Tallies → Answer → Tallies
counted t open_done = t
counted t (read_done way) = record {
  reads = oneMore t.reads way;
  writes = t.writes;
  erased = t.erased;
  merged = t.merged;
  refused = t.refused;
}
counted t (write_done way b m) = record {
  reads = t.reads;
  writes = oneMore t.writes way;
  erased = t.erased + erasures b;
  merged = t.merged + m;
  refused = t.refused;
}
counted t (step_done b m) = t
counted t step_clean = t
counted t (flush_done r m) = t
counted t (refused n b) = one_refused t

-- ---- what may be counted, in 32 bits

-- no tally is above c, and there are at most 64 merge reads a call
pub record Within (t : Tallies) (c : ℕ) : Type 0 where
  pub reads : (i : ℕ) → get_or t.reads i 0 ≤ c
  pub writes : (i : ℕ) → get_or t.writes i 0 ≤ c
  pub erased : t.erased ≤ c
  pub merged : t.merged ≤ c * 64
  pub refused : t.refused ≤ c

-- an answer to a read or a write, with its numbers in their ranges
abbrev pub Ranged : Answer → Type 0
Ranged open_done = ⊥
Ranged (read_done way) = way < 4
Ranged (write_done way b m) = (way < 8) × (m ≤ 64)
Ranged (step_done b m) = ⊥
Ranged step_clean = ⊥
Ranged (flush_done r m) = ⊥
Ranged (refused n b) = Unit {0}

-- fewer than 1,024 calls have been counted
abbrev pub Few : Tallies → Type 0
Few t = Within t 1023

-- one more answer may be counted
pub record May (t : Tallies) (a : Answer) : Type 0 where
  pub ranged : Ranged a
  pub few : Few t
