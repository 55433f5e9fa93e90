use native.Mathlib.Omega.{arith}
use Rattle.ecc.proofs.Fold.{joined-low, joined-all, joined-eight, joined-sixteen}
use Rattle.ecc.proofs.words.totals.Goals as goal

pub returns : goal.returns
returns c =
    let d = c.args.s.now in
    let h0 = c.eights-a.ensures in
    let h1 = c.eights-b.ensures in
    let h2 = c.eights-c.ensures in
    let h3 = c.eights-d.ensures in
    record {
      all = joined-all d _ _ _ _ h0.all h1.all h2.all h3.all;
      one = joined-low d 0 (omega arith) _ _ _ _ h0.one h1.one h2.one h3.one;
      two = joined-low d 1 (omega arith) _ _ _ _ h0.two h1.two h2.two h3.two;
      four = joined-low d 2 (omega arith) _ _ _ _ h0.four h1.four h2.four h3.four;
      eight = joined-eight d _ _ h1.all h3.all;
      sixteen = joined-sixteen d _ _ h2.all h3.all;
    }
