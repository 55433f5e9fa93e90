-- An answer of the model in numbers.
use Rattle.std.specs.Prelude.{ℕ}
use Rattle.model.specs.Sizes.{vacant}
use Rattle.model.specs.Calls as calls
use Rattle.model.specs.Calls.{open_done, read_done, write_done, step_done, step_clean, flush_done, refused}
use Rattle.replies.specs.declared.Answer.{Answer}

-- every field of an accepted call: 0 where the call does not answer it, and vacant where no block is meant
abbrev pub accepted : ℕ → ℕ → ℕ → ℕ → ℕ → ℕ → Answer
accepted way block rewrites merged mended torn = record {
  refusal = 0;
  way = way;
  block = block;
  rewrites = rewrites;
  merged = merged;
  mended = mended;
  torn = torn;
}

-- every field of a refused one: its number, and the block that refusal 6 names
abbrev pub turned_down : ℕ → ℕ → Answer
turned_down number block = record { refusal = number; way = 0; block = block; rewrites = 0; merged = 0; mended = 0; torn = 0 }

-- an answer, and beside it the chunks mended and the torn blocks of an opening; a step that rewrote a block says so by 1 rewrite, one that
-- found the store clean by 0
abbrev pub answer_numbers : calls.Answer → ℕ → ℕ → Answer
answer_numbers open_done mended torn = accepted 0 vacant 0 0 mended torn
answer_numbers (read_done way) mended torn = accepted way vacant 0 0 mended torn
answer_numbers (write_done way erased merged) mended torn = accepted way erased 0 merged mended torn
answer_numbers (step_done block merged) mended torn = accepted 0 block 1 merged mended torn
answer_numbers step_clean mended torn = accepted 0 vacant 0 0 mended torn
answer_numbers (flush_done rewrites merged) mended torn = accepted 0 vacant rewrites merged mended torn
answer_numbers (refused number block) mended torn = turned_down number block

-- the same of a call that opens nothing
abbrev pub numbers_of : calls.Answer → ℕ → Answer
numbers_of a mended = answer_numbers a mended 0
