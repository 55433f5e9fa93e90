use Rattle.std.proofs.Common.{◌≡◌, take, replicate}
use Rattle.page.proofs.fill.Given as goal

abbrev pub invariant-loop-p : goal.invariant-loop-p
invariant-loop-p l = take l.p-index l.dst ≡ replicate l.p-index l.b
