-- A rehearsal in numbers.
use Rattle.answer.specs.Numbers.{opening_of, torn_of}
use Rattle.replies.specs.Numbers.{answer_numbers}
use Rattle.rehearsal.specs.declared.Rehearsed.{Rehearsed}
use Rattle.rehearsal_c.specs.declared.Rehearsal.{Rehearsal}

-- the number of its refusal, 0 where it is held, and the tallies
abbrev pub in_numbers : Rehearsed → Rehearsal
in_numbers r = record { refusal = (answer_numbers (opening_of r.answer) 0 (torn_of r.answer)).refusal; tallies = r.tallies }
