use Rattle.std.proofs.Common.{◌≡◌, ◌*◌, map, length, take}
use Rattle.print.specs.Text.{decimal}
use Rattle.print.specs.Print.{Printed, spaced}
use Rattle.print.proofs.put_numbers.Given as goal

-- the numbers so far are printed, each after a space, and next is the place after them
abbrev pub invariant-loop-n : goal.invariant-loop-n
invariant-loop-n l = (length l.out ≡ length l.initial.out)
    × Printed (11 * l.n-index) (spaced (map decimal (take l.n-index l.numbers))) l.initial.out l.at l.out l.next
