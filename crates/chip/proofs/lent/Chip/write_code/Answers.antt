use mathlib.Core.Path.{sym, ◌∙◌}
use Rattle.chip.proofs.Leaves.{has-raw, has_code}
use Rattle.chip.proofs.lent.Chip.write_code.Goals as goal

pub encode_page-requires : goal.encode_page-requires
encode_page-requires c = let h = c.args.self.now.lent.codes-lent in let q = sym c.has_codes.ensures ∙ c.if-has_codes.true in
    (has_code _ _ _ _ h c.requires q, has-raw _ _ _ _ h c.requires q)
