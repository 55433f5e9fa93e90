-- What checks 4, 2 and 5 answer of a call.
use Rattle.std.specs.Prelude.{◌≡◌, Bool, true, false, ◌&&◌, Result, Ok, Err, ℕ, ◌*◌, ◌<◌, length}
use Rattle.model.specs.Soundness.{sound}
use Rattle.model.specs.Policy.{policy_choice}
use Rattle.model.specs.Formats.{store_format}
use Rattle.model.specs.Calls.{Call, read, write, part, step, flush, Page, Store, lent_ok, unaltered, call_reading}
use Rattle.answer.specs.declared.Refusal.{Refusal}
use Rattle.answer.specs.Numbers.{refusal_of}

-- the call is refused, whatever pages it reads besides, and all is handed back
abbrev pub TurnedDown : Store → Call Page → Refusal → Type 0
TurnedDown s c why = (besides : ℕ → Bool) → call_reading store_format policy_choice besides s c ≡ unaltered (refusal_of why) s c

-- checks 4 and 2: the record is sound and the buffers have their lengths, or they do not and every call is refused for this
abbrev pub Checked : Store → {A : Type 0} → Result A Refusal → Type 0
Checked s (Ok done) = (sound s.cache.sizes s.cache.directory ≡ true) × (lent_ok store_format s.cache.sizes s.lent ≡ true)
Checked s (Err why) = ((sound s.cache.sizes s.cache.directory && lent_ok store_format s.cache.sizes s.lent) ≡ false)
    × ((c : Call Page) → TurnedDown s c why)

-- a call on page n with a page buffer of so many bytes
abbrev pub OnPage : ℕ → ℕ → Call Page → Type 0
OnPage n long (read m x) = (m ≡ n) × (length x ≡ long)
OnPage n long (write m x) = (m ≡ n) × (length x ≡ long)
OnPage n long (part m first x page) = (m ≡ n) × (length page ≡ long)
OnPage n long step = ⊥
OnPage n long flush = ⊥

-- checks 4, 2 and 5 were passed
abbrev pub Passed : Store → ℕ → ℕ → Type 0
Passed s n long = (sound s.cache.sizes s.cache.directory ≡ true) × (lent_ok store_format s.cache.sizes s.lent ≡ true)
    × (long ≡ s.cache.sizes.S) × (n < s.cache.sizes.N * s.cache.sizes.K)

-- or every such call is refused for this
abbrev pub PageChecked : Store → ℕ → ℕ → {A : Type 0} → Result A Refusal → Type 0
PageChecked s n long (Ok done) = Passed s n long
PageChecked s n long (Err why) = (c : Call Page) → OnPage n long c → TurnedDown s c why
