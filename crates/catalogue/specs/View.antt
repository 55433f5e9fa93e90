-- What the catalogue's calls hand back, as `over` has it.
use Rattle.std.specs.Prelude.{true, false, List, ℕ, eqb, Result, Ok, Err}
use Rattle.model.specs.Sizes.{vacant}
use Rattle.model.specs.Policy.{policy_choice}
use Rattle.model.specs.Calls.{Answer, open_done, read_done, write_done, step_done, step_clean, flush_done, refused, Page}
use Rattle.model.specs.Shelf.{ShelfStore}
use Rattle.answer.specs.declared.fault.Fault.{Fault}
use Rattle.answer.specs.declared.Refusal.{Refusal}
use Rattle.answer.specs.declared.Read.{Read}
use Rattle.answer.specs.Numbers.{refusal_of, refusal_for, read_of, write_of, mends_of_read, mends_of_write}
use Rattle.store.specs.declared.Cache.{Cache}
use Rattle.store.specs.View.{Lent, store_of}
use Rattle.runs.specs.Roles as roles
use Rattle.runs.specs.Verdict as verdicts
use Rattle.runs.specs.Verdict.{Check, passed, stopped}
use Rattle.over.specs.Catalogue.{Asked, Says, down, shown, listed, fetched, wrote, Out, turned_down, last_step, catalogue_call}
use Rattle.sheets.specs.declared.roles.Caller.{Caller}
use Rattle.sheets.specs.View.{fields_of, caller_of, cause_of, decided_of}
use Rattle.lent.specs.declared.Lent as code
use Rattle.lent.specs.declared.LentView.{LentView}
use Rattle.lent.specs.Loan.{buffers_of, buffers_seen}
use Rattle.sheets.specs.declared.verdict.Verdict.{Verdict}
use Rattle.sheets.specs.declared.verdict.Cause.{Cause}
use Rattle.store.specs.declared.Out as store
use Rattle.catalogue.specs.declared.Turned.{Turned}
use Rattle.catalogue.specs.declared.Turned.TheVariants as turned
use Rattle.catalogue.specs.declared.Shown.{Shown}
use Rattle.catalogue.specs.declared.Told.{Told}
use Rattle.catalogue.specs.declared.Wrote.{Wrote}

-- ---- what a call hands back

abbrev pub Looked : Type 0
Looked = Result Shown Turned

abbrev pub Listed : Type 0
Listed = Result Told Turned

abbrev pub Fetched : Type 0
Fetched = Result (Result Read Refusal) Turned

abbrev pub Written : Type 0
Written = Result Wrote Turned

abbrev pub ReadOut : Type 0
ReadOut = store.Out Fetched

abbrev pub WriteOut : Type 0
WriteOut = store.Out Written

-- ---- why a call is turned down

abbrev pub denied : Cause → Turned
denied why = turned.Denied why

abbrev pub met : Fault → Turned
met fault = turned.Stopped (refusal_for fault)

abbrev pub turned_of : Turned → Answer
turned_of (turned.Denied why) = refused (cause_of why) vacant
turned_of (turned.Stopped why) = refusal_of why

-- ---- the answers, and the mends with them; a refused call reports none

abbrev pub look_says : Looked → Says
look_says (Ok done) = shown (fields_of done.sheet) done.current
look_says (Err why) = down (turned_of why)

abbrev pub look_mends : Looked → ℕ
look_mends (Ok done) = done.mends
look_mends (Err why) = 0

abbrev pub list_says : Listed → Says
list_says (Ok done) = listed done.run
list_says (Err why) = down (turned_of why)

abbrev pub list_mends : Listed → ℕ
list_mends (Ok done) = done.mends
list_mends (Err why) = 0

abbrev pub fetch_says : Fetched → Says
fetch_says (Ok answer) = fetched (read_of answer)
fetch_says (Err why) = down (turned_of why)

abbrev pub fetch_mends : Fetched → ℕ
fetch_mends (Ok answer) = mends_of_read answer
fetch_mends (Err why) = 0

abbrev pub write_says : Written → Says
write_says (Ok done) = wrote done.run (write_of done.answer)
write_says (Err why) = down (turned_of why)

abbrev pub write_mends : Written → ℕ
write_mends (Ok done) = mends_of_write done.answer
write_mends (Err why) = 0

-- ---- what is lent, and the shelf with it

abbrev pub lent_seen : LentView → List ℕ → Lent
lent_seen l shelf = record { below = buffers_seen l; shelf = shelf }

abbrev pub lent_to : code.Lent → List ℕ → List ℕ → Lent
lent_to l pspace shelf = record { below = buffers_of l pspace; shelf = shelf }

-- ---- the calls

-- what a call says, its mends, the store after it, and the page buffer after it
abbrev pub out_with : Says → ℕ → ShelfStore → Page → Out
out_with says mends s page = record { says = says; mends = mends; store = s; page = page }

-- a call by this caller, lent this page buffer
abbrev pub asked_by : Caller → roles.Operation → Page → Asked
asked_by w op page = record { caller = caller_of w; operation = op; page = page }

-- the call of a catalogue of c sheets over the store of this record and these buffers
abbrev pub called : Cache → Lent → ℕ → Caller → roles.Operation → Page → Out
called cache u c w op page = catalogue_call policy_choice c (store_of cache u) (asked_by w op page)

-- its last step
abbrev pub stepped : Cache → Lent → ℕ → Page → verdicts.Verdict → Out
stepped cache u c page v = last_step policy_choice c (store_of cache u) page v

-- ---- the checks before the sheets are read

abbrev pub gate_of : Result Unit Turned → Check Answer
gate_of (Ok done) = passed
gate_of (Err why) = stopped (turned_of why)

-- what a read of no page says of the checks before its number
abbrev pub past_entry : Answer → Check Answer
past_entry open_done = passed
past_entry (read_done way) = passed
past_entry (write_done way b m) = passed
past_entry (step_done b m) = passed
past_entry step_clean = passed
past_entry (flush_done r m) = passed
past_entry (refused n b) = elim (eqb n 5) [ true ↦ passed | false ↦ stopped (refused n b) ]

-- what is left of a call once it is judged
abbrev pub resumed : Cache → Lent → ℕ → Page → Result Verdict Turned → Out
resumed cache u c page (Ok v) = stepped cache u c page (decided_of v)
resumed cache u c page (Err why) = turned_down (store_of cache u) page (turned_of why)
