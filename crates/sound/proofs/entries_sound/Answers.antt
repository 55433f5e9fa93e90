use mathlib.Core.Path.{◌≡◌, sym, ◌∙◌}
use mathlib.Core.Bool.{Bool, ◌&&◌}
use Rattle.prelude.specs.Scan.{all}
use Rattle.model.specs.Soundness.{sound, frame_ok}
use Rattle.model.proofs.Soundness.{limits-test}
use Rattle.cache.specs.View.{sizes_of, directory_of}
use Rattle.sound.specs.Soundness.{slot_good}
use Rattle.sound.proofs.Whole.{shape-ok, whole}
use Rattle.sound.proofs.entries_sound.Goals as goal
use Rattle.sound.proofs.entries_sound.Goals.{After-uses_ok}

-- the tests that do without the filter, and the rest, are the model's test
rest : (c : After-uses_ok) {others : Bool}
    → ((((c.frames_apart.result && c.order_ok.result) && c.frames_past.result) && c.slots_past.result) && c.uses_ok.result) ≡ others
    → let sz = sizes_of c.args.sizes in let d = directory_of c.args.directory.now in
    ((others && all sz.B (frame_ok sz d)) && all sz.P (slot_good sz d)) ≡ sound sz d
rest c e =
    let sz = sizes_of c.args.sizes in
    let d = directory_of c.args.directory.now in
    rw (← c.frames_apart.ensures, ← c.order_ok.ensures, ← c.frames_past.ensures, ← c.slots_past.ensures, ← c.uses_ok.ensures, e)
    at (whole sz d (limits-test sz c.requires) (shape-ok d c.shaped.ensures))

pub returns-then-not-others : goal.returns-then-not-others
returns-then-not-others c = let s : After-uses_ok = search in rest s c.if-not-others.true

pub returns-then-frames_ok : goal.returns-then-frames_ok
returns-then-frames_ok c = let s : After-uses_ok = search in
    rw (← c.slots_ok.ensures, sym c.frames_ok.ensures.answer ∙ c.if-frames_ok.true) at (rest s c.if-not-others.false)

pub returns-else-frames_ok : goal.returns-else-frames_ok
returns-else-frames_ok c = let s : After-uses_ok = search in
    c.if-frames_ok.false ∙ rw (sym c.frames_ok.ensures.answer ∙ c.if-frames_ok.false) at (rest s c.if-not-others.false)
