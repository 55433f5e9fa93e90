use Rattle.std.proofs.Common.{◌≡◌, ◌+◌, not, get_or}
use Rattle.prelude.specs.Scan.{all}
use Rattle.cache.specs.Among.{among}
use Rattle.cache.specs.View.{page_numbers}
use Rattle.cache.proofs.search.without.Given as goal

-- ok says whether none of the first j entries is one of the numbers looked for
abbrev pub invariant-loop-j : goal.invariant-loop-j
invariant-loop-j l = l.ok ≡ all l.j (λ e. not (among l.x l.k (get_or (page_numbers l.slots) (l.i + e) 0)))
