-- The answers of reads and writes whose ways are numbers.
use Rattle.std.specs.Prelude.{ℕ, Result, Ok, Err}
use Rattle.model.specs.Calls.{Answer, read_done, write_done}
use Rattle.answer.specs.declared.Refusal.{Refusal}
use Rattle.answer.specs.declared.numbers.Read.{Read}
use Rattle.answer.specs.declared.numbers.Write.{Write}
use Rattle.answer.specs.Numbers.{refusal_of}

abbrev pub numbered_read : Result Read Refusal → Answer
numbered_read (Ok done) = read_done done.way
numbered_read (Err why) = refusal_of why

abbrev pub numbered_write : Result Write Refusal → Answer
numbered_write (Ok done) = write_done done.way done.block.0 done.merged
numbered_write (Err why) = refusal_of why

-- the chunks mended; a refused call reports none
abbrev pub mends_of_numbered_read : Result Read Refusal → ℕ
mends_of_numbered_read (Ok done) = done.mends
mends_of_numbered_read (Err why) = 0

abbrev pub mends_of_numbered_write : Result Write Refusal → ℕ
mends_of_numbered_write (Ok done) = done.mends
mends_of_numbered_write (Err why) = 0
