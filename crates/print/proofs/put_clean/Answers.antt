use mathlib.Core.Path.{refl}
use native.Mathlib.Omega.{arith}
use Rattle.print.specs.Text.{form, items}
use Rattle.print.specs.Print.{line, said}
use Rattle.print.proofs.Put.{printed-as}
use Rattle.print.proofs.put_clean.Goals as goal

pub returns : goal.returns
unfolding form items line said
returns c =
    printed-as (omega arith) refl c.put_bytes.ensures
