-- The lengths of lent buffers.
use Rattle.std.specs.Prelude.{Bool, ◌&&◌, ℕ, ◌*◌, eqb}
use Rattle.model.specs.Sizes.{Sizes}
use Rattle.model.specs.Formats.{code_long, mark_long}

-- the lengths that the sizes and the options ask for
unfoldable pub lengths_ok : Sizes → ℕ → ℕ → ℕ → ℕ → ℕ → ℕ → Bool
lengths_ok sz flash codes marks wear pspace bspace =
    eqb flash (sz.N * sz.K * sz.S)
    && (eqb codes (sz.N * sz.K * code_long sz)
    && (eqb marks (sz.N * sz.K * mark_long sz)
    && (eqb wear sz.N && (eqb pspace (sz.P * sz.S) && eqb bspace (sz.B * sz.K * sz.S)))))
