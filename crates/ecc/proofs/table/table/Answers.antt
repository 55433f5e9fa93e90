use mathlib.Core.Path.{refl}
use Rattle.prelude.specs.Scan.{count, tab, tab_from}
use Rattle.prelude.specs.Bits.{bit}
use Rattle.codes.specs.Code.{odd}
use Rattle.codes.specs.Table.{positions, entry_of, entries}
use Rattle.ecc.proofs.table.table.Goals as goal

-- The one test of the table: all 256 entries of the rule, computed.
pub returns : goal.returns
unfolding entries tab tab_from entry_of odd count bit positions
returns c = refl
