use mathlib.Core.Path.{◌≡◌, sym, ap, subst, ◌∙◌}
use mathlib.Core.Bool.{true}
use Rattle.model.specs.Sizes as model
use Rattle.model.specs.Sizes.{sizes_ok, InLimits}
use Rattle.model.proofs.Soundness.{limits_of}
use Rattle.script.specs.Forms.{five}
use Rattle.script.proofs.Limits.{five-in}
use Rattle.rehearsal.specs.Class.{store_sizes}
use Rattle.rehearsal.proofs.Setting.ok.Goals as goal

pub buffers_fit-requires : goal.buffers_fit-requires
buffers_fit-requires c =
    let fit : sizes_ok (store_sizes c.args.self) ≡ true = ap sizes_ok (sym c.sizes-sizes.ensures) ∙ sym c.ok.ensures ∙ c.if-ok.true in
    subst (λ (sz : model.Sizes). InLimits (five sz)) (sym c.sizes-sizes.ensures) (five-in _ (limits_of _ fit))
