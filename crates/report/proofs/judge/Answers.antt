use native.Mathlib.Omega.{arith}
use mathlib.Core.Path.{sym, ap, ◌∙◌}
use Rattle.model.specs.Formats.{store_format}
use Rattle.model.proofs.Soundness.{sound-facts}
use Rattle.model.proofs.Buffers.{fits-of}
use Rattle.report.specs.Contract.{reported_of}
use Rattle.report.proofs.Judging.{unsound, unshelved, unfit, shelf-unfit, judged, measured-as}
use Rattle.report.proofs.judge.Goals as goal
use Rattle.report.proofs.judge.Goals.{then-not-directory_sound-via-then-not-directory_sound}
use Rattle.report.proofs.judge.Goals.{then-not-directory_sound-via-else-not-directory_sound+then-not-sound}
use Rattle.report.proofs.judge.Goals.{then-not-fits-via-then-not-fits, then-not-fits-via-else-not-fits+then-not-fitting}

pub returns-then-not-directory_sound : goal.returns-then-not-directory_sound
returns-then-not-directory_sound c = elim c.then-not-directory_sound.branch [
  | then-not-directory_sound-via-then-not-directory_sound w ↦ unsound _ (sym c.directory_sound.ensures ∙ w.if-not-directory_sound.true)
  | then-not-directory_sound-via-else-not-directory_sound+then-not-sound w ↦ unshelved _
      (sym c.directory_sound.ensures ∙ w.if-not-directory_sound.false) (sym w.sound.ensures ∙ w.if-not-sound.true)
]

pub fits-requires : goal.fits-requires
fits-requires c = (sound-facts _ _ (sym c.directory_sound.ensures ∙ c.if-not-directory_sound.false)).limits

pub returns-then-not-fits : goal.returns-then-not-fits
returns-then-not-fits c =
    let d = sym c.directory_sound.ensures ∙ c.if-not-directory_sound.false in
    let s = sym c.sound.ensures ∙ c.if-not-sound.false in
    elim c.then-not-fits.branch [
      | then-not-fits-via-then-not-fits w ↦ unfit _ d s (sym c.fits.ensures.lent ∙ w.if-not-fits.true)
      | then-not-fits-via-else-not-fits+then-not-fitting w ↦ shelf-unfit _ d s (sym c.fits.ensures.lent ∙ w.if-not-fits.false)
          (sym w.fitting.ensures ∙ w.if-not-fitting.true)
    ]

pub measure-requires-clause-wear_len_bound : goal.measure-requires-clause-wear_len_bound
measure-requires-clause-wear_len_bound c =
    let n = (sound-facts _ _ (sym c.directory_sound.ensures ∙ c.if-not-directory_sound.false)).limits.N_high in
    let w = (fits-of store_format _ _ (sym c.fits.ensures.lent ∙ c.if-not-fits.false)).wear-length in
    omega arith

pub measure-requires-clause-limit_bound : goal.measure-requires-clause-limit_bound
measure-requires-clause-limit_bound c =
    (sound-facts _ _ (sym c.directory_sound.ensures ∙ c.if-not-directory_sound.false)).limits.W_high

pub returns : goal.returns
returns c =
    let d = sym c.directory_sound.ensures ∙ c.if-not-directory_sound.false in
    let s = sym c.sound.ensures ∙ c.if-not-sound.false in
    ap reported_of c.ok_or.ensures.value ∙ measured-as _ _ c.measure.ensures
    ∙ judged _ d s (sym c.fits.ensures.lent ∙ c.if-not-fits.false) (sym c.fitting.ensures ∙ c.if-not-fitting.false)
