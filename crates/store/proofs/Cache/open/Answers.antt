use mathlib.Core.Path.{sym, ◌∙◌}
use Rattle.model.specs.Calls.{open_done}
use Rattle.model.specs.Formats.{store_format}
use Rattle.model.specs.Shelf.{no_entries}
use Rattle.model.proofs.Soundness.{limits_of}
use Rattle.model.proofs.Buffers.{fits-of}
use Rattle.cache.specs.View.{sizes_of}
use Rattle.store.proofs.Opening.{open_size, open_buffer, open_shelf_lem, open_overworn, open_done_lem}
use Rattle.store.proofs.Cache.open.Goals as goal

pub returns-then-not-ok : goal.returns-then-not-ok
returns-then-not-ok c = c.refused.ensures ∙ sym (open_size _ _ _ (sym c.ok.ensures ∙ c.if-not-ok.true))

pub fits-requires : goal.fits-requires
fits-requires c = limits_of _ (sym c.ok.ensures ∙ c.if-not-ok.false)

pub returns-then-not-fits : goal.returns-then-not-fits
returns-then-not-fits c =
    let sized = sym c.ok.ensures ∙ c.if-not-ok.false in
    c.refused-then-not-fits.ensures ∙ sym (open_buffer _ _ _ sized (sym c.fits.ensures.lent ∙ c.if-not-fits.true))

pub returns-then-shelf-long : goal.returns-then-shelf-long
returns-then-shelf-long c =
    let sized = sym c.ok.ensures ∙ c.if-not-ok.false in
    c.refused-then-shelf-long.ensures ∙ sym (open_shelf_lem _ _ _ sized c.if-shelf-long.true)

pub returns-then-not-wear_ok : goal.returns-then-not-wear_ok
returns-then-not-wear_ok c =
    let sized = sym c.ok.ensures ∙ c.if-not-ok.false in
    let fitted = sym c.fits.ensures.lent ∙ c.if-not-fits.false in
    c.refused-then-not-wear_ok.ensures ∙ sym (open_overworn _ _ _ sized fitted c.if-shelf-long.false
    (sym c.wear_ok.ensures ∙ c.if-not-wear_ok.true))

pub count-torn-requires : goal.count-torn-requires
count-torn-requires c =
    let sized = sym c.ok.ensures ∙ c.if-not-ok.false in
    let fitted = sym c.fits.ensures.lent ∙ c.if-not-fits.false in
    (limits_of _ sized, (fits-of store_format _ _ fitted).marks-length)

pub returns : goal.returns
returns c =
    let sized = sym c.ok.ensures ∙ c.if-not-ok.false in
    let fitted = sym c.fits.ensures.lent ∙ c.if-not-fits.false in
    (λ i. record {
      answer = open_done;
      torn = c.count-torn.ensures i;
      cache = record { sizes = sizes_of c.args.sizes; directory = c.vacant.ensures i };
      entries = no_entries;
    })
    ∙ sym (open_done_lem _ _ _ sized fitted c.if-shelf-long.false (sym c.wear_ok.ensures ∙ c.if-not-wear_ok.false))
