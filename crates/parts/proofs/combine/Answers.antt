use mathlib.Core.Path.{◌∙◌, ap}
use Rattle.prelude.specs.Pages.{laid}
use Rattle.model.specs.Calls.{combined}
use Rattle.parts.proofs.combine.Goals as goal

pub returns : goal.returns
unfolding combined
returns c =
    let v = c.view.ensures in
    let k = rw (v.sizes, v.flash, v.codes, v.marks) at c.peek-given.ensures.gave in
    rw c.from.ensures (record {
      fault-is = k.fault-is;
      mends-are = k.mends-are;
      whole_is = λ z. c.lay.ensures ∙ ap (laid c.args.first c.args.bytes.now) (k.page-is ∙ rw z);
    })
