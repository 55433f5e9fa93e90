use Rattle.std.proofs.Common.{◌≡◌, ◌-◌, length}
use Rattle.runs.specs.Current.{follow, current}
use Rattle.sheets.specs.View.{sheets_of}
use Rattle.sheets.proofs.current.current.Given as goal

-- from the run reached, as many steps as are left lead where the first run's lead
abbrev pub invariant-loop-step : goal.invariant-loop-step
invariant-loop-step l =
    follow (length l.t) (sheets_of l.t) (length l.t - l._step) l.at ≡ current (length l.t) (sheets_of l.t) l.run
