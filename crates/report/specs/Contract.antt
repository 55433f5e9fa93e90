-- The contract of a report, and reports before and after a call of the code.
use Rattle.std.specs.Prelude.{◌≡◌, ◌⊎◌, ℕ, Option, Some, None, Result, Ok, Err}
use Rattle.model.specs.Calls.{Answer, open_done, read_done, write_done, step_done, step_clean, flush_done, refused}
use Rattle.answer.specs.declared.Refusal.{Refusal}
use Rattle.answer.specs.Numbers.{refusal_of}
use Rattle.wear.specs.Figures.{wear_at, total, largest, spread}
use Rattle.wear.specs.Report.{Reported, figures, turned_down, reported}
use Rattle.wear.specs.Wearing.{ErasedOnceMore}
use Rattle.wear.specs.declared.Figures.{Figures}
use Rattle.store.specs.declared.Cache.{Cache}
use Rattle.store.specs.declared.Out.{Out}
use Rattle.store.specs.View.{Lent, store_of}
use Rattle.store.specs.Histories.{Made, cache_after, lent_after, result_of, Contract}

-- the number of a refusal, 0 for any other answer
abbrev pub number_in : Answer → ℕ
number_in open_done = 0
number_in (read_done way) = 0
number_in (write_done way b m) = 0
number_in (step_done b m) = 0
number_in step_clean = 0
number_in (flush_done r m) = 0
number_in (refused n b) = n

-- what a report hands back
abbrev pub ReportOut : Type 0
ReportOut = Out (Result Figures Refusal)

-- the figures, or document 01's number of the refusal
abbrev pub reported_of : Result Figures Refusal → Reported
reported_of (Ok f) = figures f.total f.largest f.spread
reported_of (Err why) = turned_down (number_in (refusal_of why))

-- the figures of a list of wear as a report has them
abbrev pub measured_as : Option Figures → Reported
measured_as (Some f) = figures f.total f.largest f.spread
measured_as None = turned_down 3

-- A report on record c and buffers u answers as the definition says, and hands the record back as it was; that no buffer changes is said by
-- its parameters, which are lent to be read.
abbrev pub ReportContract : Cache → Lent → ReportOut → Type 0
ReportContract c u r = (reported_of r.answer ≡ reported (store_of c u)) × (r.cache ≡ c)

-- Of every call m of the code on record c and buffers u, with a report x before it that is accepted, and a report y after it, on the record
-- and the buffers that it left: y is accepted too, and has the figures of the wear then;
abbrev pub StaysAccepted : Type 0
StaysAccepted = (c : Cache) (u : Lent) (m : Made) → Contract c u m
    → (x y : ReportOut) → ReportContract c u x → ReportContract (cache_after m) (lent_after u m) y
    → (t l v : ℕ) → reported_of x.answer ≡ figures t l v
    → let w = (lent_after u m).below.wear in reported_of y.answer ≡ figures (total w) (largest w) (spread w)

-- where m is an accepted write by way 7, of a page, of part of one or taking one back, or an accepted step, the spread changes by
-- N×(2c+1) - (2T+1), hence by at most N×(2L+1) either way, with c the wear of the block named;
abbrev pub ReportChanges : Type 0
ReportChanges = (c : Cache) (u : Lent) (m : Made) → Contract c u m
    → (b g : ℕ) → ((result_of u m).answer ≡ write_done 7 b g) ⊎ ((result_of u m).answer ≡ step_done b g)
    → (x y : ReportOut) → ReportContract c u x → ReportContract (cache_after m) (lent_after u m) y
    → (t l v : ℕ) → reported_of x.answer ≡ figures t l v
    → ErasedOnceMore c.sizes.blocks (wear_at u.below.wear b) t l v (reported_of y.answer)

-- where it is an accepted read, or a write by another way, the report is the same.
abbrev pub ReportStays : Type 0
ReportStays = (c : Cache) (u : Lent) (m : Made) → Contract c u m
    → (way b g : ℕ) → ((result_of u m).answer ≡ read_done way) ⊎ (((result_of u m).answer ≡ write_done way b g) × (way ≡ 7 → ⊥))
    → (x y : ReportOut) → ReportContract c u x → ReportContract (cache_after m) (lent_after u m) y
    → (t l v : ℕ) → reported_of x.answer ≡ figures t l v → reported_of y.answer ≡ figures t l v
