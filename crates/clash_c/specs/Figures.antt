-- A report of the wear in numbers (request A14).
use Rattle.wear.specs.Report.{Reported, figures, turned_down}
use Rattle.store.specs.declared.Cache.{Cache}
use Rattle.clash_c.specs.declared.figures.WearReport.{WearReport}

-- the figures with refusal 0, or the number of the refusal and no figures
abbrev pub wear_reply : Cache → Reported → WearReport
wear_reply c (figures total largest spread) = record { cache = c; refusal = 0; largest = largest; total = total; spread = spread }
wear_reply c (turned_down n) = record { cache = c; refusal = n; largest = 0; total = 0; spread = 0 }
