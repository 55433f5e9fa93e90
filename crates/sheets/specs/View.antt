-- The code's sheets, table, roles, operations and verdicts as `runs` has them.
use Rattle.std.specs.Prelude.{List, ℕ, map, Result, Ok, Err}
use Rattle.runs.specs.Sheet as runs
use Rattle.runs.specs.Roles as roles
use Rattle.runs.specs.Verdict as verdict
use Rattle.sheets.specs.declared.Sheet.{Sheet}
use Rattle.sheets.specs.declared.roles.Caller.{Caller}
use Rattle.sheets.specs.declared.roles.Role.{Role}
use Rattle.sheets.specs.declared.roles.Role.TheVariants as rows
use Rattle.sheets.specs.declared.roles.Operation.{Operation}
use Rattle.sheets.specs.declared.roles.Operation.TheVariants as operations
use Rattle.sheets.specs.declared.verdict.Verdict.{Verdict}
use Rattle.sheets.specs.declared.verdict.Verdict.TheVariants as verdicts
use Rattle.sheets.specs.declared.verdict.Cause.{Cause}
use Rattle.sheets.specs.declared.verdict.Cause.TheVariants as causes

abbrev pub fields_of : Sheet → runs.Sheet
fields_of s = record {
  run = s.run;
  trainee = s.trainee;
  sample = s.sample;
  first = s.first;
  count = s.count;
  mark = s.mark;
  replaces = s.replaces;
}

-- the sheets of a table
abbrev pub sheets_of : List Sheet → List runs.Sheet
sheets_of t = map fields_of t

abbrev pub role_of : Role → roles.Role
role_of rows.Trainee = roles.trainee
role_of rows.Tutor = roles.tutor
role_of rows.Examiner = roles.examiner

abbrev pub caller_of : Caller → roles.Caller
caller_of w = record { role = role_of w.role; number = w.number }

abbrev pub operation_of : Operation → roles.Operation
operation_of (operations.Add new) = roles.add new.sample new.first new.count
operation_of (operations.Look run) = roles.look run
operation_of (operations.List position) = roles.list position
operation_of (operations.Read run index) = roles.read run index
operation_of (operations.Replace run new) = roles.replace run new.sample new.first new.count
operation_of (operations.Mark run mark) = roles.mark run mark

-- the papers' number of a refusal
abbrev pub cause_of : Cause → ℕ
cause_of causes.Size = 1
cause_of causes.Full = 9
cause_of causes.Unknown = 10
cause_of causes.Pages = 11
cause_of causes.Role = 12
cause_of causes.Replaced = 13

-- what the sheets decide: a verdict, or a cause to turn the call down
abbrev pub decided_of : Verdict → verdict.Verdict
decided_of (verdicts.Show sheet current) = verdict.show (fields_of sheet) current
decided_of (verdicts.Tell run) = verdict.tell run
decided_of (verdicts.Fetch page) = verdict.fetch page
decided_of (verdicts.Put at sheet) = verdict.put at (fields_of sheet)

abbrev pub verdict_of : Result Verdict Cause → verdict.Verdict
verdict_of (Ok v) = decided_of v
verdict_of (Err why) = verdict.refuse (cause_of why)
