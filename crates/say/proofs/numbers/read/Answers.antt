use mathlib.Core.List.{List, ◌∷◌}
use Prim.Native.Nat.{ℕ}
use Rattle.print.specs.Text.{decimal}
use Rattle.print.specs.Print.{line}
use Rattle.say.proofs.Said.{refused-line}
use Rattle.say.proofs.numbers.read.Goals as goal

pub returns-in-Err : goal.returns-in-Err
returns-in-Err c =
    rw c.in-Err.is (refused-line (λ (l : List (List ℕ)). line "read" (decimal c.args.n.0 ∷ l))
    c.in-Err.why _ 0 c.args.byte c.number.ensures c.put_read_refused.ensures)
