use Rattle.std.proofs.Common.{length}
use Rattle.prelude.proofs.Tab.{Done}
use Rattle.runs.specs.Sheet.{sheet_byte}
use Rattle.sheets.specs.View.{fields_of}
use Rattle.sheets.proofs.bytes.encode.Given as goal

-- the first j bytes are the sheet's, the others as they were
abbrev pub invariant-loop-j : goal.invariant-loop-j
invariant-loop-j l = Done 0 (length l.initial.page) (sheet_byte (fields_of l.s)) l.initial.page l.j l.page
