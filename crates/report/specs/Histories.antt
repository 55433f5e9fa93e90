-- Lists of calls with reports among them, and demand 3 about them.
use Rattle.std.specs.Prelude.{◌≡◌, List, [], ◌∷◌, ℕ}
use Rattle.model.specs.Sizes as sizes
use Rattle.model.specs.Calls.{open_done}
use Rattle.model.specs.Shelf.{ShelfReference}
use Rattle.cache.specs.declared.Sizes.{Sizes}
use Rattle.cache.specs.View.{sizes_of}
use Rattle.wear.specs.Figures.{total, largest, spread}
use Rattle.wear.specs.Report.{figures}
use Rattle.store.specs.declared.Cache.{Cache}
use Rattle.store.specs.View.{Opened, Lent, opened_of}
use Rattle.store.specs.Histories.{cache_after, lent_after, Contract, Turn, flipped_to, lent_to, fed_by, StillNear, Claim, OpeningContract}
use Rattle.store.specs.Histories.{CodesMatch, begun}
use Rattle.report.specs.Contract.{ReportOut, reported_of, ReportContract}

-- a call of the store; or a report, before which bits of flash and codes may have flipped: flash and codes as it finds them
pub data Item : Type 0 where
  called : Turn → Item
  asked : List ℕ → List ℕ → ReportOut → Item

-- each was made on the record and the buffers that the one before it left, but for flips, and its outcome is as its contract says
abbrev pub AllContracted : Cache → Lent → List Item → Type 0
AllContracted c u [] = Unit {0}
AllContracted c u (called t ∷ is) = Contract c (lent_to u t) t.made
    × AllContracted (cache_after t.made) (lent_after (lent_to u t) t.made) is
AllContracted c u (asked flash codes x ∷ is) = ReportContract c (flipped_to u flash codes) x
    × AllContracted x.cache (flipped_to u flash codes) is

-- the calls of the store alone
abbrev pub calls_of : List Item → List Turn
calls_of [] = []
calls_of (called t ∷ is) = t ∷ calls_of is
calls_of (asked flash codes x ∷ is) = calls_of is

-- Of every report of the list, as long as no more bits flip than the store has to bear: it is accepted, and its figures are those of the
-- book's wear as it stands there. Book and page array are fed the calls and no report.
abbrev pub ReportsBook : sizes.Sizes → Lent → ShelfReference → List Item → Type 0
ReportsBook sz u r [] = Unit {0}
ReportsBook sz u r (called t ∷ is) = StillNear sz r (lent_to u t)
    → ReportsBook sz (lent_after (lent_to u t) t.made) (fed_by sz r (lent_to u t) t.made) is
ReportsBook sz u r (asked flash codes x ∷ is) = StillNear sz r (flipped_to u flash codes) → let w = r.reference.book.wear in
    (reported_of x.answer ≡ figures (total w) (largest w) (spread w)) × ReportsBook sz (flipped_to u flash codes) r is

-- Demand 3 with reports in the list: what it claims holds of the calls, which no report disturbs, and every report is the book's.
abbrev pub Demand3WithReports : Type 0
Demand3WithReports = (z : Sizes) (u : Lent) (o : Opened) → OpeningContract z u o → (opened_of o).answer ≡ open_done
    → CodesMatch (sizes_of z) u
    → (is : List Item) → AllContracted o.cache u is
    → Claim (sizes_of z) u o.cache u (begun (sizes_of z) u) (calls_of is) × ReportsBook (sizes_of z) u (begun (sizes_of z) u) is
