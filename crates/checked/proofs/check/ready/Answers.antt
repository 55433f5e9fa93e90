use mathlib.Core.Path.{sym, ◌∙◌}
use Rattle.model.proofs.Soundness.{sound-facts}
use Rattle.checked.proofs.Carrying.{reading-record, reading-buffer}
use Rattle.checked.proofs.check.ready.Goals as goal

pub returns-then-not-directory_sound : goal.returns-then-not-directory_sound
returns-then-not-directory_sound c =
    let e = sym c.directory_sound.ensures ∙ c.if-not-directory_sound.true in
    (rw e, λ d besides. reading-record _ d besides e)

pub fits-requires : goal.fits-requires
fits-requires c = (sound-facts _ _ (sym c.directory_sound.ensures ∙ c.if-not-directory_sound.false)).limits

pub returns-then-not-fits : goal.returns-then-not-fits
returns-then-not-fits c =
    let a = sym c.directory_sound.ensures ∙ c.if-not-directory_sound.false in
    let e = sym c.fits.ensures.lent ∙ c.if-not-fits.true in
    (rw (a, e), λ d besides. reading-buffer _ d besides a e)
