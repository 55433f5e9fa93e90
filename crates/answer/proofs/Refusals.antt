-- A write that is turned down is refused, whatever the cause.
use mathlib.Core.Path.{◌≡◌, refl}
use mathlib.Core.Bool.{true, not}
use Rattle.std.specs.Prelude.{Some, Result, Ok, Err}
use Rattle.std.specs.Result.{is_ok}
use Rattle.model.specs.Sizes.{vacant}
use Rattle.model.specs.Calls.{refused, is_refused}
use Rattle.answer.specs.declared.Refusal.{Refusal}
use Rattle.answer.specs.declared.Refusal.TheVariants as why
use Rattle.answer.specs.declared.fault.Fault.{Fault}
use Rattle.answer.specs.declared.fault.Fault.TheVariants as faults
use Rattle.answer.specs.declared.Write.{Write}
use Rattle.answer.specs.declared.Write.TheVariants as writes
use Rattle.answer.specs.declared.numbers.Write as numbers
use Rattle.answer.specs.Numbers.{refusal_of, refusal_for, fault_number, write_of}
use Rattle.answer.specs.ByNumber.{numbered_write}

pub why_refused : (why : Refusal) → is_refused (refusal_of why) ≡ true
why_refused why.Size = refl
why_refused why.Buffer = refl
why_refused why.Overworn = refl
why_refused why.Record = refl
why_refused why.Page = refl
why_refused (why.Worn b) = refl
why_refused why.Unreadable = refl
why_refused why.Empty = refl
why_refused why.Torn = refl

-- the refusal for a fault has the fault's number
pub fault_refused : (f : Fault) → refusal_of (refusal_for f) ≡ refused (fault_number (Some f)) vacant
fault_refused faults.Unreadable = refl
fault_refused faults.Torn = refl

-- a write is refused where it answers an error
pub write_refused : (a : Result Write Refusal) → is_refused (write_of a) ≡ not (is_ok a)
write_refused (Ok (writes.Done way mends)) = refl
write_refused (Ok (writes.Rewrote block merged mends)) = refl
write_refused (Err why) = why_refused why

pub numbered_write_refused : (a : Result numbers.Write Refusal) → is_refused (numbered_write a) ≡ not (is_ok a)
numbered_write_refused (Ok done) = refl
numbered_write_refused (Err why) = why_refused why
