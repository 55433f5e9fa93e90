use native.Mathlib.Omega.{arith}
use lib.Seq.{ext_get_or}
use Rattle.std.proofs.Common.{◌≡◌, refl, ap, ◌∙◌, ◌+◌, ◌*◌, ◌<◌, length, lt-ltb}
use Rattle.prelude.proofs.Tab.{done-put}
use Rattle.cache.specs.View.{page_no, page_numbers}
use Rattle.cache.proofs.Entries.{pages_get, pages_length}
use Rattle.cache.proofs.lists.page_entries.Goals as goal

pub loop-i-preserved : goal.loop-i-preserved
loop-i-preserved c =
    let i = c.loop-i.i in
    let e : 2 * (i + 1) ≡ 2 * i + 1 + 1 = omega arith in
    rw e (done-put _ _ _ _ (2 * i + 1) _ _ (done-put _ _ _ _ (2 * i) _ _ c.loop-i.invariant (omega arith) refl) (omega arith) refl)

pub returns : goal.returns
returns c =
    let l = c.loop-i in
    let long = l.invariant.long in
    ext_get_or 0 (page_numbers l.entries) c.args.numbers (simp pages_length (omega arith)) (λ j h.
    let k : j < length l.entries = rw pages_length at h in
    pages_get l.entries j (page_no 0) (omega arith)
    ∙ ap (λ n. n.0) (l.invariant.each j (omega arith) ∙ rw (lt-ltb j (2 * l.i) (omega arith)) refl))
