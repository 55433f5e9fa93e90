use Rattle.std.proofs.Common.{◌≡◌, ℕ, ◌<◌, Bool, arith}
use Rattle.prelude.specs.Scan.{first}
use Rattle.prelude.specs.Bits.{bit}
use Rattle.prelude.proofs.Scan.{first-hit, first-miss}
use Rattle.model.specs.Directory.{recency_at}
use Rattle.model.proofs.Plan.{least-used}
use Rattle.cache.specs.View.{sizes_of, directory_of}
use Rattle.policy.proofs.Uses.{fewest-first}
use Rattle.policy.proofs.choice.least_used.Goals as goal

pub loop-i-init : goal.loop-i-init
loop-i-init c =
    let d = directory_of c.args.directory.now in
    let found = c.first_open-best.ensures.found in
    let l = c.first_open-best.ensures.within in
    let n = c.args.z.frames in
    let t : ℕ → Bool = λ j. bit c.args.among (recency_at d j) in
    let first_lt : first n t < n = omega arith in
    rw found (fewest-first d (bit c.args.among) (first n t) (first-miss n t) (first-hit n t first_lt))

pub returns : goal.returns
unfolding directory_of
returns c =
    let l = c.loop-i in
    let e : l.i ≡ c.args.z.frames = omega arith in
    least-used (sizes_of c.args.z) (directory_of c.args.directory.now) (bit c.args.among) l.best c.requires.listed
    (rw e at l.invariant)
