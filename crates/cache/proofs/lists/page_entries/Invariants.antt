use Rattle.std.proofs.Common.{get_or, ◌*◌}
use Rattle.prelude.proofs.Tab.{Done}
use Rattle.cache.specs.View.{page_no}
use Rattle.cache.proofs.lists.page_entries.Given as goal

-- the entries before 2 i are the list's numbers as page numbers, the rest as at the start
abbrev pub invariant-loop-i : goal.invariant-loop-i
invariant-loop-i l = Done (page_no 0) 128 (λ j. page_no (get_or l.numbers j 0)) l.initial.entries (2 * l.i) l.entries
