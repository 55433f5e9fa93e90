use Rattle.std.proofs.Common.{rules}
use Rattle.script.proofs.Words.{end-le}
use Rattle.histories.proofs.report.line.Goals as goal

pub slice_bounds-write_all-end : goal.slice_bounds-write_all-end
slice_bounds-write_all-end g c =
    let e = c.end_of-e.ensures in
    let h = end-le 10 c.args.s.now c.args.at c.requires in
    search rules
