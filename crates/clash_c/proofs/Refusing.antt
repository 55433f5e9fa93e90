-- The number of a refusal, in a report as in the other answers.
use mathlib.Core.Path.{◌≡◌, refl, ap, ◌∙◌}
use Rattle.model.specs.Calls as calls
use Rattle.model.specs.Calls.{open_done, read_done, write_done, step_done, step_clean, flush_done, refused}
use Prim.Native.Nat.{ℕ}
use Rattle.std.specs.Prelude.{Result, Err}
use Rattle.answer.specs.declared.Refusal.{Refusal}
use Rattle.wear.specs.declared.Figures.{Figures}
use Rattle.answer.specs.Numbers.{refusal_of}
use Rattle.replies.specs.Numbers.{numbers_of}
use Rattle.wear.specs.Report.{turned_down}
use Rattle.store.specs.declared.Cache.{Cache}
use Rattle.report.specs.Contract.{number_in, reported_of}
use Rattle.clash_c.specs.Figures.{wear_reply}

number_same : (a : calls.Answer) → (numbers_of a 0).refusal ≡ number_in a
number_same open_done = refl
number_same (read_done way) = refl
number_same (write_done way b m) = refl
number_same (step_done b m) = refl
number_same step_clean = refl
number_same (flush_done r m) = refl
number_same (refused n b) = refl

-- a refused report in numbers
pub refused_reply : (c : Cache) (a : Result Figures Refusal) (why : Refusal) (n : ℕ) → a ≡ Err why
    → n ≡ (numbers_of (refusal_of why) 0).refusal
    → record { cache = c; refusal = n; largest = 0; total = 0; spread = 0 } ≡ wear_reply c (reported_of a)
refused_reply c a why n e s = rw e (ap (λ (m : ℕ). wear_reply c (turned_down m)) (s ∙ number_same (refusal_of why)))
