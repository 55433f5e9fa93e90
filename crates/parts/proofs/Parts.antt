-- What a part write lays in and hands back.
use mathlib.Core.Path.{◌≡◌, refl, sym, ap, ◌∙◌}
use mathlib.Core.Bool.{false, cond}
use Prim.Native.Nat.{ℕ, ◌≤◌}
use Rattle.prelude.proofs.Tests.{by-test}
use Rattle.model.specs.Formats.{store_format, chip_for}
use Rattle.model.specs.Calls.{Answer, is_refused, Outcome, write_outcome, write_merges, reads_page, Page, Cell, Buffers}
use Rattle.model.specs.Calls.{zero_page}
use Rattle.model.specs.Calls.{flash_cells, memory_of}
use Rattle.model.specs.Sizes.{Sizes, InLimits}
use Rattle.model.specs.Directory.{Directory}
use Rattle.model.specs.Policy.{policy_choice, Plan, plan}
use Rattle.model.specs.Moves.{Memory, written_pages}
use Rattle.chip.specs.declared.Seen.{Seen}
use Rattle.chip.specs.Chip.{fault_on, most_mends}
use Rattle.chip.proofs.Looking.{none-either, mends-few}
use Rattle.writes.specs.Writes.{Beside, state, write_heeding, Wrote}
use Rattle.parts.specs.Parts.{combined_of, Combined, PartWrote}
use Rattle.std.specs.Prelude.{Ok}
use Rattle.answer.specs.declared.Write.{Write}
use Rattle.answer.specs.declared.Write.TheVariants as writes
use Rattle.answer.specs.Numbers.{fault_number, write_of}
use Rattle.answer.proofs.Heeding.{met-nothing}

-- a write that is done is not refused
pub accepted : (done : Write) → is_refused (write_of (Ok done)) ≡ false
accepted (writes.Done way mends) = refl
accepted (writes.Rewrote block merged mends) = refl

-- ---- from what a part write's read and its write leave to what it leaves

-- the combined page is read
module _ (sz : Sizes) (d : Directory) (u : Buffers) (n first : ℕ) (x whole : Page) (seen : Seen)
    (c : Combined sz d u.flash u.codes u.marks u.pspace u.bspace n first x seen whole) where
  -- what was met is met on page n, if it is read from flash
  pub part-beside : Beside sz d u n (reads_page sz d n) seen
  part-beside = record { within = λ i h. h; fault-is = c.fault-is; mends-are = c.mends-are }

  combined-is : fault_number seen.fault ≡ 0 → whole ≡ combined_of sz d u n first x
  unfolding memory_of flash_cells
  combined-is z = c.whole_is z

  pub few-met : InLimits sz → seen.mends ≤ most_mends
  few-met l = rw c.mends-are (mends-few sz l u.flash u.codes u.marks (reads_page sz d n))

  module _ (page page' : Page) (ops : ℕ) (answer : Answer) (mended : ℕ) (d' : Directory) (u' : Buffers)
      (w : Wrote sz d u n whole (plan policy_choice sz d u.wear n) seen ops answer mended d' u') where
    abbrev p : Plan
    p = plan policy_choice sz d u.wear n

    abbrev says : Outcome
    says = write_heeding sz d u n p (reads_page sz d n)

    -- an accepted write met nothing, so that the page was read
    whole-then : is_refused says.answer ≡ false → whole ≡ combined_of sz d u n first x
    whole-then a = combined-is (part-beside.fault-is ∙ (none-either sz (fault_on sz u.flash u.codes u.marks) (write_merges sz d p)
        (reads_page sz d n) (met-nothing (state d u) _ (write_outcome sz (state d u) n p) a)).1)

    abbrev so : Page → Memory Cell Page
    so y = written_pages (chip_for sz) (zero_page sz) sz d (memory_of store_format sz u) n y p

    pages-so : cond (is_refused says.answer) (memory_of store_format sz u) (so whole)
        ≡ cond (is_refused says.answer) (memory_of store_format sz u) (so (combined_of sz d u n first x))
    pages-so = by-test (is_refused says.answer) (λ a. rw a) (λ a. rw a (ap so (whole-then a)))

    buffer-so : cond (is_refused answer) page whole ≡ cond (is_refused answer) page (combined_of sz d u n first x)
    buffer-so = by-test (is_refused answer) (λ a. rw a)
        (λ a. rw a (whole-then (sym (w (reads_page sz d n) part-beside).refused-is ∙ a)))

    pub part-wrote : page' ≡ cond (is_refused answer) page whole → PartWrote sz d u n first x page ops answer mended d' u' page'
    part-wrote e = let h = w (reads_page sz d n) part-beside in record {
      wrote = record {
        refused-is = h.refused-is;
        left_is = h.left_is;
        whole = λ l. let k = h.whole l in record {
          answer-is = k.answer-is;
          mends-are = k.mends-are;
          directory-is = k.directory-is;
          wear-is = k.wear-is;
          pages-are = k.pages-are ∙ pages-so;
        };
        down = λ l. let k = h.down l in record {
          answer-is = k.answer-is;
          mends-are = k.mends-are;
          directory-is = k.directory-is;
          wear-is = k.wear-is;
          pages-are = k.pages-are ∙ pages-so;
        };
      };
      page-is = e ∙ buffer-so;
    }
