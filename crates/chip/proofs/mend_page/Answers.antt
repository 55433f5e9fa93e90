use Rattle.chip.proofs.Leaves.{has-raw, has_code, mended-is}
use Rattle.chip.proofs.mend_page.Goals as goal

pub decode_page-requires : goal.decode_page-requires
decode_page-requires c =
    let q = c.requires.0 in (
      rw (q.codes-lent.whole q.coded) c.requires.1,
      has-raw _ _ _ _ q.codes-lent q.page-lt q.coded,
      has_code _ _ _ _ q.codes-lent q.page-lt q.coded,
    )

pub returns : goal.returns
returns c =
    let q = c.requires.0 in
    mended-is _ _ _ _ q.codes-lent q.page-lt q.coded q.readable _ _ _ _ c.decode_page.ensures
