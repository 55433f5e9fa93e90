use lib.ListN.{get_or}
use Rattle.sound.proofs.Order.{Entered}
use Rattle.sound.proofs.order_ok.Given as goal

-- listed has the first i entries of the order and nothing else, all of them below B
abbrev pub invariant-loop-i : goal.invariant-loop-i
invariant-loop-i l = Entered l.fn.sizes.frames (λ e. get_or l.directory.recency e 0) l.i l.listed
