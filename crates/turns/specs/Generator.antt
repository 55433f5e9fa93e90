-- The generator of a rehearsal (request A13).
use Rattle.std.specs.Prelude.{ℕ, ◌+◌, ◌*◌, ◌%◌}

-- a 32-bit state advances as state × 1,664,525 + 1,013,904,223, modulo 4,294,967,296
unfoldable pub advanced : ℕ → ℕ
advanced s = (s * 1664525 + 1013904223) % 4294967296

-- three advances make a turn: the first state of a turn that begins in state s, the second, the third
abbrev pub first : ℕ → ℕ
first s = advanced s

abbrev pub second : ℕ → ℕ
second s = advanced (first s)

abbrev pub third : ℕ → ℕ
third s = advanced (second s)
