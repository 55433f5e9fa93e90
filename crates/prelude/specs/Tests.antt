-- A conjunction of tests is written as a list, so that each test keeps its place.
use Rattle.std.specs.Prelude.{Bool, true, ◌&&◌, List, [], ◌∷◌}

-- every test of the list passes
unfoldable pub every : List Bool → Bool
every [] = true
every (b ∷ l) = b && every l
