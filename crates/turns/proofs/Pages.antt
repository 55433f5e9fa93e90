-- A turn's page is a page.
use Rattle.std.proofs.Common.{ℕ, ◌+◌, ◌/◌, ◌<◌, ◌≤◌, ltb, mod-lt}
use Rattle.prelude.proofs.Tests.{by-test}
use Rattle.turns.specs.declared.Rates.{Rates}
use Rattle.turns.specs.Generator.{second, third}
use Rattle.turns.specs.Turns.{page_of, turn_page}

pub page-in : (s last : ℕ) (z : Rates) → 1 ≤ z.pages → turn_page s last z < z.pages
unfolding turn_page page_of
page-in s last z h = by-test (ltb (second s / 16777216) z.run)
    (λ e. rw e (mod-lt (last + 1) h))
    (λ e. rw e (mod-lt (third s / 65536) h))
