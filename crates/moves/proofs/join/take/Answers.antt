use Rattle.std.proofs.Common.{◌≡◌, ℕ, ◌%◌, set, sym, refl, ap, ◌∙◌, arith, get_or}
use Rattle.cache.specs.declared.Directory as code
use Rattle.prelude.specs.Bits.{with_bit}
use Rattle.prelude.specs.Pages.{page_at, put_page}
use Rattle.prelude.proofs.Pages.{in_run, pages-length, page-at, length-page_at}
use Rattle.model.specs.Sizes.{vacant}
use Rattle.model.specs.Directory.{slot_at, valid_at}
use Rattle.model.specs.Calls.{zero_page, slot_pages}
use Rattle.model.proofs.Plan.{valid-low}
use Rattle.cache.specs.View.{sizes_of, page_no, directory_of}
use Rattle.cache.proofs.Entries.{pages_set}
use Rattle.cache.proofs.View.{slot-of}
use Rattle.moves.specs.Spaces.{stretch_pages}
use Rattle.moves.proofs.Offset.{apart, own_range, gathered_none, gathered-with}
use Rattle.moves.proofs.Passed.{passed_none, passed-page, passed-all}
use Rattle.moves.proofs.Regiven.{Came, regiven-none, regiven-put}
use Rattle.moves.proofs.Taking.{Taking, taking-next, joined-is}
use Rattle.moves.proofs.join.take.Goals as goal
use Rattle.moves.proofs.join.take.Goals.{In-Some, After-offset_in-o}

-- the slot that the search found
came : (c : In-Some) → Came (sizes_of c.args.z) (directory_of c.args.directory.now) (directory_of c.loop-i.directory) c.args.b.0 c.loop-i.at
    c.in-Some.i (λ j. Taking (sizes_of c.args.z) (directory_of c.args.directory.now) c.args.pspace.now c.args.frame.now c.args.b.0
    (valid_at (directory_of c.args.directory.now) c.args.f) j c.loop-i.frame c.loop-i.v (directory_of c.loop-i.directory).slots)
unfolding directory_of
came c = let l = c.loop-i in let q = c.requires.0 in
    taking-next _ _ (apart _ _ q.sound) _ _ _ _ q.block-lt _ _ _ _ (directory_of l.directory) l.invariant.0 l.invariant.2
    c.in-Some.ensures.next

-- its page, and the page's offset
page_found : (c : In-Some)
    → (get_or c.loop-i.directory.slots c.in-Some.i (page_no 0)).0 ≡ slot_at (directory_of c.args.directory.now) c.in-Some.i
page_found c = sym (slot-of c.loop-i.directory c.in-Some.i) ∙ (came c).same c.in-Some.ensures.range.1

offset_found : (c : After-offset_in-o)
    → (get_or c.loop-i.directory.slots c.in-Some.i (page_no 0)).0 ≡ slot_at (directory_of c.args.directory.now) c.in-Some.i
    → c.offset_in-o.result ≡ slot_at (directory_of c.args.directory.now) c.in-Some.i % c.args.z.pages_per_block
offset_found c e = c.offset_in-o.ensures.value ∙ ap (λ (n : ℕ). n % c.args.z.pages_per_block) e

pub loop-i-init : goal.loop-i-init
unfolding directory_of
loop-i-init c =
    let sz = sizes_of c.args.z in
    let d = directory_of c.args.directory.now in
    let fr = c.args.frame.now in
    let so = c.requires.0.sound in
    let s = apart sz d so in
    let b = c.args.b.0 in (
      omega arith,
      refl,
      record {
        filling = passed_none sz d s (slot_pages sz c.args.pspace.now) (stretch_pages sz fr) b (pages-length sz.S sz.K fr);
        gathered = gathered_none sz d s b _ (valid-low sz d so c.args.f c.requires.1);
        regiven = regiven-none sz d s b (λ j. vacant);
      },
      refl,
    )

pub offset_in-o-requires : goal.offset_in-o-requires
offset_in-o-requires c = let found = (goal.at.offset_in-o-requires c).In-Some in
    rw (page_found found) (own_range _ c.requires.0.sound.limits _ _ _ ((came found).next.own c.in-Some.ensures.range.1))

pub loop-i-preserved : goal.loop-i-preserved
unfolding directory_of
loop-i-preserved c =
    let at = goal.at.loop-i-preserved c in
    let l = c.loop-i in
    let sz = sizes_of c.args.z in
    let d = directory_of c.args.directory.now in
    let b = c.args.b.0 in
    let i = c.in-Some.i in
    let ps = c.args.pspace.now in
    let fr = c.args.frame.now in
    let s = apart sz d c.requires.0.sound in
    let il = c.in-Some.ensures.range.1 in
    let p = s.limits.P_high in
    let k = came at.In-Some in
    let h = k.next.own il in
    let e = offset_found at.After-offset_in-o (page_found at.In-Some) in (
      omega arith,
      c.copy_page.auto.dst ∙ l.invariant.1,
      record {
        filling = rw (c.copy_page.ensures ∙ ap (λ (x : ℕ). put_page sz.S l.frame x (page_at sz.S ps i)) e)
            (passed-page sz d s (slot_pages sz ps) (stretch_pages sz fr) b i l.frame (page_at sz.S ps i) il h
            (l.invariant.1 ∙ c.requires.0.stretch-long)
            (length-page_at sz.S ps i (in_run sz.S sz.P ps c.requires.0.pspace-long il))
            (sym (page-at sz.S sz.P ps (zero_page sz) i il)) k.has.filling);
        gathered = rw (c.with-v.ensures ∙ ap (with_bit l.v) e) (gathered-with sz d s b _ i l.v il h k.has.gathered);
        regiven = rw (pages_set l.directory.slots i (page_no vacant))
            (regiven-put sz d s b (λ j. vacant) i _ vacant (omega arith) h refl k.has.regiven);
      },
      ap (λ (x : code.Directory). record x { slots = set x.slots i (page_no vacant) }) l.invariant.3,
    )

pub returns : goal.returns
unfolding directory_of
returns c =
    let l = c.loop-i in
    let sz = sizes_of c.args.z in
    let d = directory_of c.args.directory.now in
    let q = c.requires.0 in
    let s = apart sz d q.sound in
    let k = taking-next _ _ s _ _ _ _ q.block-lt _ _ _ _ (directory_of l.directory) l.invariant.0 l.invariant.2
    c.in_default.ensures.next in
    record {
      directory = joined-is sz _ l.directory s _ _ _ _ l.invariant.3 k.has.regiven k.has.gathered c.max.ensures;
      stretch = passed-all sz d s (slot_pages sz c.args.pspace.now) (stretch_pages sz c.args.frame.now) _ (stretch_pages sz l.frame)
          k.has.filling;
    }
