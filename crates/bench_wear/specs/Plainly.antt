-- The figures as plain numbers.
use Rattle.std.specs.Prelude.{Option, Some, None}
use Rattle.wear.specs.declared.Figures as wear
use Rattle.bench_wear.specs.declared.Figures.{Figures}

abbrev pub plainly : Option wear.Figures → Figures
plainly (Some f) = record { accepted = 1; largest = f.largest; total = f.total; spread = f.spread }
plainly None = record { accepted = 0; largest = 0; total = 0; spread = 0 }
