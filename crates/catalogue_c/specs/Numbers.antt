-- The answers of the catalogue's calls in numbers, as C has them.
use Rattle.std.specs.Prelude.{ℕ}
use Rattle.model.specs.Sizes.{vacant}
use Rattle.model.specs.Calls.{Page}
use Rattle.model.specs.Shelf.{ShelfStore}
use Rattle.replies.specs.declared.Answer.{Answer}
use Rattle.replies.specs.Numbers.{accepted, numbers_of}
use Rattle.store.specs.View.{Lent, store_of}
use Rattle.runs.specs.Sheet.{Sheet}
use Rattle.over.specs.Catalogue.{Says, down, shown, listed, fetched, wrote, Out}
use Rattle.catalogue_c.specs.declared.RunSheet.{RunSheet}
use Rattle.catalogue_c.specs.declared.RunAnswer.{RunAnswer}
use Rattle.catalogue_c.specs.declared.RunReply.{RunReply}

abbrev pub sheet_numbers : Sheet → RunSheet
sheet_numbers s = record {
  run = s.run;
  trainee = s.trainee;
  sample = s.sample;
  first = s.first;
  count = s.count;
  mark = s.mark;
  replaces = s.replaces;
}

-- an answer with a run, and nothing more
abbrev pub plain_run : Answer → ℕ → RunAnswer
plain_run a r = record {
  answer = a;
  run = r;
  current = 0;
  sheet = record { run = 0; trainee = 0; sample = 0; first = 0; count = 0; mark = 0; replaces = 0 };
}

-- what a catalogue says, and the mends, in numbers
abbrev pub run_numbers : Says → ℕ → RunAnswer
run_numbers (down a) m = plain_run (numbers_of a 0) 0
run_numbers (shown sh q) m = record { answer = accepted 0 vacant 0 0 m 0; run = sh.run; current = q; sheet = sheet_numbers sh }
run_numbers (listed r) m = plain_run (accepted 0 vacant 0 0 m 0) r
run_numbers (fetched a) m = plain_run (numbers_of a m) 0
run_numbers (wrote r a) m = plain_run (numbers_of a m) r

-- what a call leaves: its answer, the store, the page buffer
pub record Left : Type 0 where
  pub answer : RunAnswer
  pub store : ShelfStore
  pub page : Page

abbrev pub reply_of : RunReply → Lent → Page → Left
reply_of r u page = record { answer = r.answer; store = store_of r.cache u; page = page }

abbrev pub numbered : Out → Left
numbered o = record { answer = run_numbers o.says o.mends; store = o.store; page = o.page }
