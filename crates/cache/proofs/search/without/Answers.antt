use Rattle.std.proofs.Common.{◌≡◌, ◌+◌, ◌-◌, ◌%◌, ◌<◌, ◌^◌, Bool, ◌&&◌, not, sym, ap, ◌∙◌, arith, rules, get_or}
use Rattle.prelude.proofs.Scan.{all_none, all_more}
use Rattle.cache.specs.Among.{among}
use Rattle.cache.specs.View.{page_no}
use Rattle.cache.proofs.Among.{among-wrapped}
use Rattle.cache.proofs.Entries.{pages_get}
use Rattle.cache.proofs.search.without.Goals as goal

pub loop-j-init : goal.loop-j-init
loop-j-init c = sym (all_none _)

pub loop-j-preserved : goal.loop-j-preserved
loop-j-preserved c =
    let l = c.loop-j in
    let n = (get_or c.args.slots.now (c.args.i + l.j) (page_no 0)).0 in
    let n_lt : n < 2 ^ 32 = search rules in
    let o = (n + (4294967296 - c.args.x)) % 4294967296 in
    let h : (o + c.args.x) % 2 ^ 32 ≡ n = omega arith in
    let e = among-wrapped c.args.x c.args.k n o c.requires.0 (omega arith) h in
    let g = pages_get c.args.slots.now (c.args.i + l.j) (page_no 0) (search rules) in
    let q = e ∙ ap (λ m. not (among c.args.x c.args.k m)) (sym g) in
    all_more _ l.j l.invariant (ap (λ (t : Bool). l.ok && t) q)
