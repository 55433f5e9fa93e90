-- Who calls a catalogue: a role by its number.
use Rattle.std.specs.Prelude.{true, false, ℕ, zero, suc, ltb}
use Rattle.model.specs.Sizes.{vacant}
use Rattle.model.specs.Policy.{policy_choice}
use Rattle.model.specs.Calls.{refused, Page}
use Rattle.store.specs.declared.Cache.{Cache}
use Rattle.store.specs.View.{Lent, store_of}
use Rattle.runs.specs.Roles.{Role, trainee, tutor, examiner, Operation, Caller}
use Rattle.over.specs.Catalogue.{Out, turned_down, catalogue_call}

-- 0 trainee, 1 tutor, 2 examiner
unfoldable pub role_at : ℕ → Role
role_at zero = trainee
role_at (suc zero) = tutor
role_at (suc (suc n)) = examiner

abbrev pub caller_at : ℕ → ℕ → Caller
caller_at role number = record { role = role_at role; number = number }

-- the call of a catalogue by a role of this number; another number than 0, 1 and 2 is refused 12
unfoldable pub called_by : Cache → Lent → ℕ → ℕ → ℕ → Operation → Page → Out
called_by c u n role number op page = elim (ltb role 3) [
  | false ↦ turned_down (store_of c u) page (refused 12 vacant)
  | true ↦ catalogue_call policy_choice n (store_of c u) (record { caller = caller_at role number; operation = op; page = page })
]
