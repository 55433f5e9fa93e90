-- What holds of the tallies of every rehearsal that is not refused (request A13).
use Rattle.std.specs.Prelude.{◌≡◌, true, ◌+◌, get_or}
use Rattle.wear.specs.Figures.{total}
use Rattle.rehearsal.specs.declared.Setting.{Setting}
use Rattle.rehearsal.specs.Class.{setting_ok, begun, rehearsed, rehearsal_of}

-- Accepted reads, accepted writes and refused calls are as many as turns.
abbrev pub AllCountedRule : Type 0
AllCountedRule = (z : Setting) → setting_ok z ≡ true → let t = (rehearsal_of z).tallies in
    total t.reads + total t.writes + t.refused ≡ z.turns

-- Erasures are the writes by way 7.
abbrev pub ErasuresRule : Type 0
ErasuresRule = (z : Setting) → setting_ok z ≡ true → let t = (rehearsal_of z).tallies in t.erased ≡ get_or t.writes 7 0

-- Erasures are the sum of the wear at the end, which is 0 at first.
abbrev pub WornRule : Type 0
WornRule = (z : Setting) → setting_ok z ≡ true
    → (rehearsal_of z).tallies.erased ≡ total (rehearsed z z.turns (begun z)).store.store.lent.wear
