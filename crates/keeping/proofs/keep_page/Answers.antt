use Rattle.keeping.proofs.keep_page.Goals as goal

pub returns : goal.returns
returns c = let v = c.view.ensures in rw (v.sizes, v.flash, v.codes, v.marks) at c.peek.ensures.gave
