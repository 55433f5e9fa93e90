use Rattle.std.proofs.Common.{arith}
use Rattle.prelude.proofs.Tab.{done_all}
use Rattle.runs.specs.Sheet.{page_of}
use Rattle.sheets.proofs.bytes.encode.Goals as goal

pub returns : goal.returns
unfolding page_of
returns c = done_all 0 _ _ _ c.loop-j.j c.loop-j.page c.loop-j.invariant (omega arith)
