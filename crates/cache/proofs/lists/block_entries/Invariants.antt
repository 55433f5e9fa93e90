use Rattle.std.proofs.Common.{get_or}
use Rattle.prelude.proofs.Tab.{Done}
use Rattle.cache.specs.View.{block_no}
use Rattle.cache.proofs.lists.block_entries.Given as goal

-- the entries before f are the list's numbers as block numbers, the rest as at the start
abbrev pub invariant-loop-f : goal.invariant-loop-f
invariant-loop-f l = Done (block_no 0) 8 (λ j. block_no (get_or l.numbers j 0)) l.initial.entries l.f l.entries
