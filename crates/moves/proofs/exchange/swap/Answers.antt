use Rattle.std.proofs.Common.{◌≡◌, ℕ, ◌+◌, ◌*◌, ◌%◌, Bool, cond, ltb, length, set, sym, refl, ap, ◌∙◌, arith, get_or}
use Rattle.cache.specs.declared.Directory as code
use Rattle.prelude.specs.Bits.{bit}
use Rattle.prelude.specs.Pages.{page_at, put_page}
use Rattle.prelude.proofs.Tab.{done_none, done_all}
use Rattle.prelude.proofs.Pages.{pages-length}
use Rattle.model.specs.Sizes.{Sizes, vacant}
use Rattle.model.specs.Directory.{Directory, slot_at, frame_at, valid_at}
use Rattle.model.specs.Moves.{taken, given_slot}
use Rattle.model.specs.Calls.{zero_page, slot_pages}
use Rattle.model.proofs.Lookup.{page-vacant}
use Rattle.cache.specs.View.{sizes_of, page_no, directory_of}
use Rattle.cache.proofs.Entries.{pages_set}
use Rattle.cache.proofs.View.{slot-of, frame-of}
use Rattle.moves.specs.Spaces.{stretch_pages}
use Rattle.moves.proofs.Offset.{apart, own_range}
use Rattle.moves.proofs.Passed.{passed_none, passed-all}
use Rattle.moves.proofs.Regiven.{Came, regiven-none, regiven-put}
use Rattle.moves.proofs.Swap.{Swapping, swapping-next, turn-stretch, turn-pspace, exchanged-is}
use Rattle.moves.proofs.Taken.{Cursor, cursor-none, cursor-skip, cursor-le, cursor-next, cursor-taken, left_is, taken-met, spare-met}
use Rattle.moves.proofs.Taken.{spare-not}
use Rattle.moves.proofs.exchange.swap.Goals as goal
use Rattle.moves.proofs.exchange.swap.Goals.{In-Some, After-offset_in-o, then-not-has, else-not-has}

-- the slot that the search found
came : (c : In-Some) → Came (sizes_of c.args.z) (directory_of c.args.directory.now) (directory_of c.loop-i.directory) c.args.b.0 c.loop-i.at
    c.in-Some.i (λ j. Swapping (sizes_of c.args.z) (directory_of c.args.directory.now) c.args.pspace.now c.args.frame.now c.args.b.0
    c.args.f j c.loop-i.pspace c.loop-i.frame c.loop-i.from (directory_of c.loop-i.directory).slots)
came c = let l = c.loop-i in let q = c.requires.fills in
    swapping-next _ _ (apart _ _ q.sound) _ _ _ _ q.block-lt _ _ _ _ _ (directory_of l.directory) l.invariant.0 l.invariant.3
    c.in-Some.ensures.next

-- its page, and the page's offset
page_found : (c : In-Some)
    → (get_or c.loop-i.directory.slots c.in-Some.i (page_no 0)).0 ≡ slot_at (directory_of c.args.directory.now) c.in-Some.i
page_found c = sym (slot-of c.loop-i.directory c.in-Some.i) ∙ (came c).same c.in-Some.ensures.range.1

offset_found : (c : After-offset_in-o)
    → (get_or c.loop-i.directory.slots c.in-Some.i (page_no 0)).0 ≡ slot_at (directory_of c.args.directory.now) c.in-Some.i
    → c.offset_in-o.result ≡ slot_at (directory_of c.args.directory.now) c.in-Some.i % c.args.z.pages_per_block
offset_found c e = c.offset_in-o.ensures.value ∙ ap (λ (n : ℕ). n % c.args.z.pages_per_block) e

met : (d : Directory) (f o n : ℕ) (u t : Bool) → u ≡ bit (valid_at d f) o → o ≡ n → u ≡ t → bit (valid_at d f) n ≡ t
met d f o n u t e q h = ap (bit (valid_at d f)) (sym q) ∙ sym e ∙ h

-- the number that a slot takes
gives : (sz : Sizes) (d : Directory) (b f i n x : ℕ) → n ≡ taken sz d b f i → x ≡ cond (ltb n sz.K) (frame_at d f * sz.K + n) vacant
    → x ≡ given_slot sz d b f i
unfolding given_slot
gives sz d b f i n x en ex = ex ∙ rw en

pub loop-i-init : goal.loop-i-init
unfolding directory_of
loop-i-init c =
    let sz = sizes_of c.args.z in
    let d = directory_of c.args.directory.now in
    let s = apart sz d c.requires.fills.sound in
    let b = c.args.b.0 in
    let f = c.args.f in
    let ps = c.args.pspace.now in
    let fr = c.args.frame.now in (
      omega arith,
      refl,
      refl,
      record {
        taking = done_none (zero_page sz) sz.P _ (slot_pages sz ps) (pages-length sz.S sz.P ps);
        filling = passed_none sz d s (slot_pages sz ps) (stretch_pages sz fr) b (pages-length sz.S sz.K fr);
        cursor = cursor-none sz d b f;
        regiven = regiven-none sz d s b (given_slot sz d b f);
      },
      refl,
    )

pub offset_in-o-requires : goal.offset_in-o-requires
offset_in-o-requires c = let found = (goal.at.offset_in-o-requires c).In-Some in
    rw (page_found found) (own_range _ c.requires.fills.sound.limits _ _ _ ((came found).next.own c.in-Some.ensures.range.1))

pub overflow_add-n : goal.overflow_add-n
unfolding directory_of
overflow_add-n c =
    let l = c.loop-i in
    let cursor = l.invariant.3.cursor in
    let k = c.requires.fills.sound.limits.K_high in
    let h = cursor-le (sizes_of c.args.z) (directory_of c.args.directory.now) _ _ l.from l.at c.next-n.result cursor
    (c.next-n.ensures ∙ left_is _ _ _ _ _ l.from c.requires.new_is cursor.low) in
    record { fits = omega arith }

pub page_or_vacant-requires : goal.page_or_vacant-requires
page_or_vacant-requires c = λ h. let q = rw (frame-of c.args.directory.now c.args.f) at c.requires.old_lt in
    let v = page-vacant (sizes_of c.args.z) c.requires.fills.sound.limits _ _ q h in omega arith

pub loop-i-preserved : goal.loop-i-preserved
unfolding directory_of
loop-i-preserved c =
    let at = goal.at.loop-i-preserved c in
    let x = c.swap_one in
    let l = c.loop-i in
    let sz = sizes_of c.args.z in
    let d = directory_of c.args.directory.now in
    let b = c.args.b.0 in
    let f = c.args.f in
    let i = c.in-Some.i in
    let ps = c.args.pspace.now in
    let fr = c.args.frame.now in
    let s = apart sz d c.requires.fills.sound in
    let il = c.in-Some.ensures.range.1 in
    let p = s.limits.P_high in
    let k = came at.In-Some in
    let h = k.next.own il in
    let e = offset_found at.After-offset_in-o (page_found at.In-Some) in
    let t : (c.if-not-has.n ≡ taken sz d b f i) × Cursor sz d b f c.if-not-has.from (i + 1) = elim c.if-not-has.branch [
      | then-not-has v ↦ let m = met d f c.offset_in-o.result (slot_at d i % sz.K) _ _ c.has.ensures e v.if-not-has.true in
          let n = v.next-n.ensures ∙ left_is sz d b f c.args.new l.from c.requires.new_is k.has.cursor.low in (
            v.n-is ∙ cursor-taken sz d b f l.from i _ k.has.cursor n h m,
            rw v.from-is (cursor-next sz d b f l.from i _ k.has.cursor n _ (spare-not sz d b f i h m) v.min-from.ensures),
          )
      | else-not-has v ↦ let m = met d f c.offset_in-o.result (slot_at d i % sz.K) _ _ c.has.ensures e v.if-not-has.false in (
        v.n-is ∙ e ∙ sym (taken-met sz d b f i h m),
        rw v.from-is (cursor-skip sz d b f l.from i (spare-met sz d b f i h m) k.has.cursor),
      )
    ] in
    let psl : length l.pspace ≡ sz.P * sz.S = l.invariant.1 ∙ c.requires.fills.pspace-long in
    let frl : length l.frame ≡ sz.K * sz.S = l.invariant.2 ∙ c.requires.fills.stretch-long in (
      omega arith,
      omega (arith, x.auto, l.invariant),
      omega (arith, x.auto, l.invariant),
      record {
        taking = rw (x.ensures.pspace ∙ ap (λ (y : ℕ). cond (ltb y sz.K) (put_page sz.S l.pspace i (page_at sz.S l.frame y))
            l.pspace) t.0)
            (turn-pspace sz d s ps fr b f i il h l.pspace l.frame psl frl k.has.taking k.has.filling);
        filling = rw (x.ensures.stretch ∙ ap (λ (y : ℕ). put_page sz.S l.frame y (page_at sz.S l.pspace i)) e)
            (turn-stretch sz d s ps fr b f i il h l.pspace l.frame psl frl k.has.taking k.has.filling);
        cursor = t.1;
        regiven = rw (pages_set l.directory.slots i c.page_or_vacant.result)
            (regiven-put sz d s b (given_slot sz d b f) i _ _ (omega arith) h
            (gives sz d b f i _ _ t.0 (rw (sym (frame-of c.args.directory.now f)) at c.page_or_vacant.ensures)) k.has.regiven);
      },
      ap (λ (z : code.Directory). record z { slots = set z.slots i c.page_or_vacant.result }) l.invariant.4,
    )

pub returns : goal.returns
unfolding directory_of
returns c =
    let l = c.loop-i in
    let sz = sizes_of c.args.z in
    let d = directory_of c.args.directory.now in
    let q = c.requires.fills in
    let s = apart sz d q.sound in
    let ps = c.args.pspace.now in
    let fr = c.args.frame.now in
    let k = swapping-next _ _ s _ _ _ _ q.block-lt _ _ _ _ _ (directory_of l.directory) l.invariant.0 l.invariant.3
    c.in_default.ensures.next in
    record {
      directory = exchanged-is sz _ l.directory s _ _ _ l.invariant.4 k.has.regiven c.requires.new_is;
      pspace = done_all (zero_page sz) sz.P _ (slot_pages sz ps) sz.P (slot_pages sz l.pspace) k.has.taking (omega arith);
      stretch = passed-all sz d s (slot_pages sz ps) (stretch_pages sz fr) _ (stretch_pages sz l.frame) k.has.filling;
    }
