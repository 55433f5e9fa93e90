-- What a failed read or write leaves of the bytes that a reader has left and a writer holds, where those are known.
use Rattle.std.specs.Prelude.{ℕ, List, take}
use Rattle.std.specs.declared.option.Option.{Option}
use Rattle.std.specs.Io.KnownBytes.{Appends, Consumes}

-- known bytes grow by some of the first bytes of bs, maybe by none or by all
abbrev pub AppendsFirst : Option (List ℕ) → Option (List ℕ) → List ℕ → Type 0
AppendsFirst old new bs = (n : ℕ) × Appends old new (take n bs)

-- known bytes lose some of their first bytes, maybe none
abbrev pub ConsumesFirst : Option (List ℕ) → Option (List ℕ) → Type 0
ConsumesFirst old new = (bs : List ℕ) × Consumes old new bs
