-- Lent buffers as the model's, and what a function that is lent them keeps.
use Rattle.std.specs.Prelude.{◌≡◌, List, ℕ, length}
use Rattle.model.specs.Calls.{Buffers}
use Rattle.answer.specs.Carried.{buffers}
use Rattle.lent.specs.declared.Lent.{Lent}
use Rattle.lent.specs.declared.LentView.{LentView}

-- the buffers that a call may write, and p-space
abbrev pub buffers_of : Lent → List ℕ → Buffers
buffers_of l pspace = buffers l.flash.now l.codes.now l.marks.now l.wear.now pspace l.bspace.now

-- the buffers that a call reads
abbrev pub buffers_seen : LentView → Buffers
buffers_seen v = buffers v.flash.now v.codes.now v.marks.now v.wear.now v.pspace.now v.bspace.now

-- the fields are still the same references, to as many bytes
pub record IsSameLent (old new : Lent) : Type 0 where
  pub flash : new.flash.ghost_name ≡ old.flash.ghost_name
  pub codes : new.codes.ghost_name ≡ old.codes.ghost_name
  pub marks : new.marks.ghost_name ≡ old.marks.ghost_name
  pub wear : new.wear.ghost_name ≡ old.wear.ghost_name
  pub bspace : new.bspace.ghost_name ≡ old.bspace.ghost_name
  pub flash-long : length new.flash.now ≡ length old.flash.now
  pub codes-long : length new.codes.now ≡ length old.codes.now
  pub marks-long : length new.marks.now ≡ length old.marks.now
  pub wear-long : length new.wear.now ≡ length old.wear.now
  pub bspace-long : length new.bspace.now ≡ length old.bspace.now
