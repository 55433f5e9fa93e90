-- Document 01's number and values for each answer, and the chunks mended (request A7) for each that can read flash.
use Rattle.std.specs.Prelude.{ℕ, Option, None, Some, Result, Ok, Err}
use Rattle.model.specs.Sizes.{vacant}
use Rattle.model.specs.Calls.{Answer, open_done, read_done, write_done, step_done, step_clean, flush_done, refused}
use Rattle.answer.specs.declared.fault.Fault.{Fault}
use Rattle.answer.specs.declared.fault.Fault.TheVariants as faults
use Rattle.answer.specs.declared.Refusal.{Refusal}
use Rattle.answer.specs.declared.Refusal.TheVariants as refusals
use Rattle.answer.specs.declared.Opening.{Opening}
use Rattle.answer.specs.declared.Read.{Read}
use Rattle.answer.specs.declared.Write.{Write}
use Rattle.answer.specs.declared.Write.TheVariants as writes
use Rattle.answer.specs.declared.Step.{Step}
use Rattle.answer.specs.declared.Flush.{Flush}
use Rattle.answer.specs.Ways.{read_way, write_way}

abbrev pub refusal_of : Refusal → Answer
refusal_of refusals.Size = refused 1 vacant
refusal_of refusals.Buffer = refused 2 vacant
refusal_of refusals.Overworn = refused 3 vacant
refusal_of refusals.Record = refused 4 vacant
refusal_of refusals.Page = refused 5 vacant
refusal_of (refusals.Worn b) = refused 6 b.0
refusal_of refusals.Unreadable = refused 7 vacant
refusal_of refusals.Empty = refused 8 vacant
refusal_of refusals.Torn = refused 14 vacant

-- the refusal for a fault that is met, and a fault's number, 0 for none
abbrev pub refusal_for : Fault → Refusal
refusal_for faults.Unreadable = refusals.Unreadable
refusal_for faults.Torn = refusals.Torn

abbrev pub fault_number : Option Fault → ℕ
fault_number None = 0
fault_number (Some faults.Unreadable) = 7
fault_number (Some faults.Torn) = 14

abbrev pub opening_of : Result Opening Refusal → Answer
opening_of (Ok done) = open_done
opening_of (Err why) = refusal_of why

-- the torn blocks; a refused opening answers none
abbrev pub torn_of : Result Opening Refusal → ℕ
torn_of (Ok done) = done.torn
torn_of (Err why) = 0

abbrev pub read_of : Result Read Refusal → Answer
read_of (Ok done) = read_done (read_way done.way)
read_of (Err why) = refusal_of why

abbrev pub write_of : Result Write Refusal → Answer
write_of (Ok (writes.Done way mends)) = write_done (write_way way) vacant 0
write_of (Ok (writes.Rewrote block merged mends)) = write_done 7 block.0 merged
write_of (Err why) = refusal_of why

abbrev pub step_of : Result (Option Step) Refusal → Answer
step_of (Ok (Some done)) = step_done done.block.0 done.merged
step_of (Ok None) = step_clean
step_of (Err why) = refusal_of why

abbrev pub flush_of : Result Flush Refusal → Answer
flush_of (Ok done) = flush_done done.rewrites done.merged
flush_of (Err why) = refusal_of why

-- ---- the chunks mended; a refused call reports none

abbrev pub mends_of_read : Result Read Refusal → ℕ
mends_of_read (Ok done) = done.mends
mends_of_read (Err why) = 0

abbrev pub mends_of_write : Result Write Refusal → ℕ
mends_of_write (Ok (writes.Done way mends)) = mends
mends_of_write (Ok (writes.Rewrote block merged mends)) = mends
mends_of_write (Err why) = 0

abbrev pub mends_of_step : Result (Option Step) Refusal → ℕ
mends_of_step (Ok (Some done)) = done.mends
mends_of_step (Ok None) = 0
mends_of_step (Err why) = 0

abbrev pub mends_of_flush : Result Flush Refusal → ℕ
mends_of_flush (Ok done) = done.mends
mends_of_flush (Err why) = 0
