use mathlib.Core.Path.{sym, ◌∙◌}
use Rattle.prelude.specs.Tests.{every}
use Rattle.model.specs.Soundness.{sound}
use Rattle.model.proofs.Soundness.{limits_of}
use Rattle.sound.proofs.directory_sound.Goals as goal

pub entries_sound-requires : goal.entries_sound-requires
entries_sound-requires c = limits_of _ (sym c.ok.ensures ∙ c.if-ok.true)

pub returns-else-ok : goal.returns-else-ok
unfolding sound every
returns-else-ok c = rw (c.if-ok.false, sym c.ok.ensures ∙ c.if-ok.false)
