-- A write that keeps page n as it was: from the checks and from what the inner call leaves to what the model's call gives.
use mathlib.Core.Path.{◌≡◌, sym, subst, ◌∙◌}
use mathlib.Core.Bool.{true, false}
use mathlib.Core.List.{List, ◌++◌}
use Prim.Native.Nat.{ℕ, ◌+◌, ◌≤◌}
use native.Mathlib.Nat.{zero-mul}
use lib.Dec.{leb}
use lib.ListN.{length}
use lib.Seq.{take_at}
use Rattle.prelude.specs.Pages.{page_at}
use Rattle.prelude.proofs.Tests.{clash}
use Rattle.model.specs.Sizes.{InLimits}
use Rattle.model.specs.Cut.{operations}
use Rattle.model.specs.Directory.{Directory}
use Rattle.model.specs.Formats.{store_format}
use Rattle.model.specs.Calls.{Answer, is_refused, Call, write, part, reads_page, no_bytes, Page, Buffers, Fits}
use Rattle.model.specs.Calls.{lent_buffer}
use Rattle.model.specs.Calls.{Result, page_seen}
use Rattle.cache.specs.declared.Sizes as sizes
use Rattle.cache.specs.View.{sizes_of}
use Rattle.answer.specs.declared.Refusal.{Refusal}
use Rattle.answer.specs.Numbers.{refusal_of}
use Rattle.answer.proofs.Refusals.{why_refused}
use Rattle.keeping.specs.Keeping.{KeptPage, KeptWrite, KeptPart}
use Rattle.checked.specs.Called.{store_with, result_with, Keeping, KeepingTo}
use Rattle.checked.specs.Checks.{TurnedDown, Passed}
use Rattle.checked.proofs.Carrying.{turned-to, write-reading, part-reading}

-- a page in front of what was there
pub front-page : (s : ℕ) (x y : List ℕ) → length x ≡ s → page_at s (x ++ y) 0 ≡ x
unfolding page_at
front-page s x y e = rw (zero-mul s) (take_at x y s e)

module _ (z : sizes.Sizes) (d : Directory) (u : Buffers) (n : ℕ) where
  -- a refused call keeps nothing
  pub refused-keeps : (ops : ℕ) (c : Call Page) (why : Refusal) (kept : List ℕ) → TurnedDown (store_with z d u) c why
      → KeepingTo ops z d u n c (result_with (refusal_of why) 0 z d u (lent_buffer c)) kept
  refused-keeps ops c why kept h = record {
    accepted = λ e. clash (why_refused why) e;
    called = λ besides same. turned-to ops besides (store_with z d u) c why h;
    kept-is = λ e. clash (why_refused why) e;
  }

  -- with as many operations as the call has
  pub keeping_whole : (ops : ℕ) (c : Call Page) (r : Result) (kept : List ℕ) → KeepingTo ops z d u n c r kept
      → (InLimits (sizes_of z) → operations (sizes_of z) c ≤ ops) → Keeping z d u n c r kept
  keeping_whole ops c r kept h enough = record {
    accepted = h.accepted;
    result_is = λ besides same. (h.called besides same).whole enough;
    kept-is = h.kept-is;
  }

  -- the same buffers, by other names
  pub keeping-as : {ops : ℕ} {c : Call Page} {answer : Answer} {mends : ℕ} {d' : Directory} {page : Page} {kept : List ℕ} {w w' : Buffers}
      → w ≡ w' → KeepingTo ops z d u n c (result_with answer mends z d' w' page) kept
      → KeepingTo ops z d u n c (result_with answer mends z d' w page) kept
  keeping-as {ops} {c} {answer} {mends} {d'} {page} {kept} e h =
      subst (λ (x : Buffers). KeepingTo ops z d u n c (result_with answer mends z d' x page) kept) (sym e) h

  module _ (u' : Buffers) (f' : Fits store_format (sizes_of z) u') (answer : Answer) (mended : ℕ) (d' : Directory) (ops : ℕ)
      (kept kept' : List ℕ) (front : page_at z.page_size kept 0 ≡ kept') where
    page-kept : KeptPage (sizes_of z) d u n answer kept' → is_refused answer ≡ false
        → page_at z.page_size kept 0 ≡ page_seen store_format (store_with z d u) n
    unfolding page_seen
    page-kept h e = front ∙ h e

    pub write_keeps : (x : Page) → Passed (store_with z d u) n (length x) → KeptWrite (sizes_of z) d u n x ops answer mended d' u' kept'
        → KeepingTo ops z d u n (write n x) (result_with answer mended z d' u' x) kept
    write_keeps x p h = record {
      accepted = λ q. (p.0, p.3);
      called = λ besides same. write-reading (store_with z d u) n x p u' f' answer mended d' ops besides (reads_page (sizes_of z) d n)
          (same p.0 p.3) h.wrote;
      kept-is = page-kept h.kept-is;
    }

    pub part-keeps : (first : ℕ) (x page page' : Page) → Passed (store_with z d u) n (length page)
        → leb (first + length x) z.page_size ≡ true → no_bytes x ≡ false
        → KeptPart (sizes_of z) d u n first x page ops answer mended d' u' page' kept'
        → KeepingTo ops z d u n (part n first x page) (result_with answer mended z d' u' page') kept
    part-keeps first x page page' p r q h = record {
      accepted = λ t. (p.0, p.3);
      called = λ besides same. part-reading (store_with z d u) n first x page p r q u' f' answer mended d' page' ops h.wrote besides
          (same p.0 p.3);
      kept-is = page-kept h.kept-is;
    }
