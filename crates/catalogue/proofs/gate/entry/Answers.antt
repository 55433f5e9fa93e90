use Rattle.catalogue.proofs.Gating.{never_read, entry_gate}
use Rattle.catalogue.proofs.gate.entry.Goals as goal

pub unreachable-requires : goal.unreachable-requires
unreachable-requires c = never_read _ _ _ _ _ c.read-out.ensures _ c.in-Ok.is

pub returns : goal.returns
returns c = entry_gate _ _ _ _ _ c.read-out.ensures _ c.in-Err.is c.past_entry.result c.past_entry.ensures
