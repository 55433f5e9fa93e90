use mathlib.Core.Path.{ap, ap₂, ◌∙◌}
use lib.Bits.{bit_xor, xor_lt}
use Rattle.page.proofs.Part.{got}
use Rattle.codes.specs.Code.{code_of}
use Rattle.codes.specs.Reading.{difference}
use Rattle.codes.proofs.CodeBits.{code_lt}
use Rattle.ecc.proofs.chunk.differing.Goals as goal

pub returns : goal.returns
unfolding difference
returns c =
    let a = c.args in
    let e = c.code_of-c.ensures in (
      ap₂ bit_xor (e ∙ ap code_of (got 256 a.page.now a.i)) c.code_at-d.ensures.0,
      xor_lt 24 c.code_of-c.result c.code_at-d.result (rw e (code_lt _)) c.code_at-d.ensures.1,
    )
