use Rattle.std.proofs.Common.{ℕ, ◌+◌, ◌*◌, ◌<◌, ◌≤◌, List, sym, ap, ◌∙◌, arith, lt-ltb}
use Rattle.prelude.specs.Pages.{page_at, put_page}
use Rattle.prelude.proofs.Pages.{ends-before, page-put_other, length-page_at}
use Rattle.moves.proofs.exchange.swap_one.Goals as goal
use Rattle.moves.proofs.exchange.swap_one.Goals.{Start}

inside : (s k o n : ℕ) → o < k → k * s ≤ n → o * s + s ≤ n
inside s k o n h l = omega (arith, ends-before s h)

pub returns-then-t-k : goal.returns-then-t-k
returns-then-t-k c =
    let s : Start = search in
    let a = s.args in
    let p = s.requires in
    let e = c.copy_page.ensures in
    record {
      stretch = e;
      pspace = rw (lt-ltb a.t a.k c.if-t-k.true) (c.copy_page-then-t-k.ensures
          ∙ ap (put_page a.s a.pspace.now a.i) (ap (λ (x : List ℕ). page_at a.s x a.t) e
          ∙ page-put_other a.s a.frame.now a.o (page_at a.s a.pspace.now a.i)
          (inside a.s a.k a.o _ p.0 p.1) (length-page_at a.s a.pspace.now a.i p.2) a.t
          (λ q. c.if-t-o.false (sym q))));
    }
