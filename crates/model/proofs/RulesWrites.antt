-- The laws of what a read gives and a write leaves hold: the definitions' own records in between are those that a law asks for.
use mathlib.Core.Path.{◌≡◌, refl, sym, ap, ◌∙◌}
use mathlib.Core.Bool.{Bool, true, false}
use Prim.Native.Nat.{ℕ, ◌+◌, ◌-◌, ◌*◌, ◌%◌, ◌<◌}
use native.Mathlib.Omega.{arith}
use lib.Dec.{eqb}
use lib.Arith.{digits_lt}
use lib.ListN.{length, get_or, length-set}
use lib.Seq.{get_or-set_same, get_or-set_other}
use borrow.Author.Tests.{lt-ltb, le-ltb, eq-eqb, ne_eqb}
use Rattle.prelude.proofs.Scan.{first-is}
use Rattle.prelude.proofs.Tab.{length-tab}
use Rattle.model.specs.Sizes.{Sizes, vacant}
use Rattle.model.specs.Directory.{Directory, slot_at, frame_at}
use Rattle.model.specs.Soundness.{sound, Sound}
use Rattle.model.specs.Policy.{slot_of, in_slots, frame_with, read_way, due}
use Rattle.model.specs.Moves.{Memory, touched, put_slot, entered, put_slot_page, put_frame_page, joined, joined_pages, exchanged}
use Rattle.model.specs.Moves.{exchanged_pages, stepped, stepped_pages, read_directory, written, read_page, written_pages}
use Rattle.model.specs.RulesWords.{FirstVacant}
use Rattle.model.specs.RulesMoves.{Used, Filled}
use Rattle.model.specs.RulesWrites.{Read1Rule, Read2Rule, Read3Rule, Entered, EnteredPages, PutInSlot, Writes1Rule, Writes2Rule}
use Rattle.model.specs.RulesWrites.{Writes3Rule, Writes4Rule, Writes4PagesRule, Writes5Rule, Writes5PagesRule, Writes6Rule}
use Rattle.model.specs.RulesWrites.{Writes6PagesRule, Writes7Rule, Writes7PagesRule}
use Rattle.model.proofs.Soundness.{sound-facts, facts-sound}
use Rattle.model.proofs.Lookup.{page-mod, block-vacant, in_slots_lem}
use Rattle.model.proofs.Steps.{ready-frame, stepped-sound}
use Rattle.model.proofs.RulesWords.{absent, frame_found, unfound, slot-found}
use Rattle.model.proofs.RulesMoves.{is-used, is-filled, used-rule, joined-rule, joined_pages-rule, exchanged-rule}
use Rattle.model.proofs.RulesMoves.{exchanged_pages-rule}
use Rattle.model.proofs.RulesMoves.{stepped-rule, stepped_pages-rule}

-- ---- read n

pub read-1_rule : Read1Rule
unfolding read_way read_directory read_page
read-1_rule sz d n ok n-lt C A chip filler m i l e = let t = in_slots_lem sz d n i l e in (
  rw (t, read_way),
  rw (t, read_directory, read_way),
  rw (t, read_page) (ap (λ (k : ℕ). get_or m.pspace k filler) (slot-found sz d ok n i l n-lt e)),
)

pub read-2_rule : Read2Rule
unfolding read_way read_directory read_page in_slots
read-2_rule sz d n ok n-lt C A chip filler m np f o l ol e h =
    let a = le-ltb _ sz.P (absent sz d ok n np) in let q = frame_found sz d ok n f l n-lt (o, ol, e, h) in
    let b = lt-ltb (frame_with sz d n) sz.B (omega arith) in
    let w : n % sz.K ≡ o = ap (λ (x : ℕ). x % sz.K) (sym e) ∙ page-mod sz (sound-facts sz d ok).limits (frame_at d f) o ol in
    let u = used-rule sz d ok f l in (
      rw (a, read_way) (rw b),
      rw (a, read_directory, read_way) (rw b (rw q u.0)),
      rw (a, read_directory, read_way) (rw b (rw q u.1)),
      rw (a, read_page) (rw b (rw (q, w))),
    )

pub read-3_rule : Read3Rule
unfolding read_way read_directory read_page in_slots
read-3_rule sz d n ok C A chip filler m (np, nf) = let a = le-ltb _ sz.P (absent sz d ok n np) in
    let b = le-ltb _ sz.B (unfound sz d ok n nf) in
    (rw (a, read_way) (rw b), rw (a, read_directory, read_way) (rw b), rw (a, read_page) (rw b))

-- ---- page n goes into the first vacant slot

first-vacant : (sz : Sizes) (e : Directory) (i : ℕ) → FirstVacant sz e i → slot_of sz e vacant ≡ i
unfolding slot_of
first-vacant sz e i (l, q, h) =
    sym (first-is sz.P (λ j. eqb (slot_at e j) vacant) i (omega arith) (λ j k. ne_eqb _ vacant (h j k)) (λ k. eq-eqb _ vacant q))

-- e is d with pages moved: its order is d's; then frame f is used, or was filled, and n enters
module _ (sz : Sizes) (d e : Directory) (ok : sound sz d ≡ true) (same : e.recency ≡ d.recency) (long : length e.slots ≡ 128)
    (many : length e.uses ≡ 8) (n f : ℕ) (f_lt : f < sz.B) where
  abbrev s : Sound sz d
  s = sound-facts sz d ok

  enter : (t : Bool) → Entered sz e (entered sz (touched sz t e f) n) n
  unfolding entered put_slot touched slot_of
  enter t = record {
    slot = λ i h. let p = s.limits.P_high in let il = h.0 in
        rw (first-vacant sz e i h) (get_or-set_same e.slots i n 0 (omega arith), λ j ne. get_or-set_other e.slots i j n 0 ne);
    frames-stay = (refl, refl);
  }

  enter-used : Used sz e (entered sz (touched sz false e f) n) f
  unfolding entered put_slot touched
  enter-used = let u = is-used sz e s.limits.B_low s.limits.B_high (ap length same ∙ s.shape.recency-length)
      (λ g l. rw same (s.listed.recency-has g l)) many f f_lt in record {
        recent = λ h. record { front = (u.recent h).front; past = (u.recent h).past };
        fifo = u.fifo;
        more = u.more;
        held = u.held;
        others = u.others;
      }

  enter-filled : Filled sz e (entered sz (touched sz true e f) n) f
  unfolding entered put_slot touched
  enter-filled = let u = is-filled sz e s.limits.B_low s.limits.B_high (ap length same ∙ s.shape.recency-length)
      (λ g l. rw same (s.listed.recency-has g l)) many f f_lt in
      record { recent = record { front = u.recent.front; past = u.recent.past }; uses-stay = refl }

put_in-slot : {C A : Type 0} (filler : A) (m : Memory C A) (i : ℕ) (x : A) → i < length m.pspace
    → PutInSlot filler m (put_slot_page m i x) i x
unfolding put_slot_page
put_in-slot filler m i x l = record {
  page-is = get_or-set_same m.pspace i x filler l;
  others = λ j ne. get_or-set_other m.pspace i j x filler ne;
  flash-stays = refl;
  bspace-stays = refl;
}

enter-pages : {C A : Type 0} (filler : A) (sz : Sizes) (e : Directory) (m : Memory C A) (x : A) → length m.pspace ≡ sz.P
    → EnteredPages filler sz e m (put_slot_page m (slot_of sz e vacant) x) x
unfolding put_slot_page
enter-pages filler sz e m x long = record {
  slot = λ i h. let il = h.0 in let p = put_in-slot filler m i x (omega arith) in rw (first-vacant sz e i h) (p.page-is, p.others);
  flash-stays = refl;
  bspace-stays = refl;
}

joined-uses : (sz : Sizes) (d : Directory) → sound sz d ≡ true → (b f : ℕ) → length (joined sz d b f).uses ≡ 8
unfolding joined
joined-uses sz d ok b f = length-set d.uses f _ ∙ (sound-facts sz d ok).shape.uses-length

-- ---- write n with the page x

pub writes-1_rule : Writes1Rule
unfolding written written_pages
writes-1_rule sz d n C A chip filler m x long i l = (refl, put_in-slot filler m i x (omega arith))

pub writes-2_rule : Writes2Rule
unfolding written written_pages put_frame_page
writes-2_rule sz d n ok C A chip filler m x long f o l ol e =
    let w : n % sz.K ≡ o = ap (λ (y : ℕ). y % sz.K) (sym e) ∙ page-mod sz (sound-facts sz d ok).limits (frame_at d f) o ol in
    let u = used-rule sz d ok f l in let h : f * sz.K + o < sz.B * sz.K = digits_lt l ol in rw w (
      u.0,
      u.1,
      get_or-set_same m.bspace (f * sz.K + o) x filler (omega arith),
      (λ k ne. get_or-set_other m.bspace (f * sz.K + o) k x filler ne),
      refl,
      refl,
    )

pub writes-3_rule : Writes3Rule
unfolding written written_pages put_slot
writes-3_rule sz d n ok C A chip filler m x long i l = let u = sound-facts sz d ok in let p = u.limits.P_high in
    let k = u.shape.slots_length in (
      get_or-set_same d.slots i n 0 (omega arith),
      (λ j ne. get_or-set_other d.slots i j n 0 ne),
      refl,
      refl,
      refl,
      refl,
      put_in-slot filler m i x (omega arith),
    )

pub writes-4_rule : Writes4Rule
unfolding written joined
writes-4_rule sz d n ok v f v-lt f_lt = let e = joined sz d v f in let many = joined-uses sz d ok v f in (
  e,
  joined-rule sz d ok v f v-lt f_lt,
  enter sz d e ok refl (length-tab 128 _) many n f f_lt false,
  enter-used sz d e ok refl (length-tab 128 _) many n f f_lt,
)

pub writes-4_pages_rule : Writes4PagesRule
unfolding written_pages joined_pages
writes-4_pages_rule sz d n ok v f v-lt f_lt C A chip filler m x long = let q = joined_pages filler sz d m v f in (
  joined sz d v f,
  joined-rule sz d ok v f v-lt f_lt,
  (q, joined_pages-rule sz d ok v f v-lt f_lt C A filler m, enter-pages filler sz (joined sz d v f) q x long),
)

pub writes-5_rule : Writes5Rule
unfolding written joined
writes-5_rule sz d n ok v f v-lt f_lt = let e = joined sz d v f in let many = joined-uses sz d ok v f in (
  e,
  joined-rule sz d ok v f v-lt f_lt,
  enter sz d e ok refl (length-tab 128 _) many n f f_lt true,
  enter-filled sz d e ok refl (length-tab 128 _) many n f f_lt,
)

pub writes-5_pages_rule : Writes5PagesRule
unfolding written_pages
writes-5_pages_rule sz d n v f C A chip filler m x = refl

pub writes-6_rule : Writes6Rule
unfolding written exchanged
writes-6_rule sz d n ok v f v-lt f_lt a_lt fewer = let e = exchanged sz d v f in
    let many = length-set d.uses f 1 ∙ (sound-facts sz d ok).shape.uses-length in (
      e,
      exchanged-rule sz d ok v f v-lt f_lt a_lt fewer,
      enter sz d e ok refl (length-tab 128 _) many n f f_lt true,
      enter-filled sz d e ok refl (length-tab 128 _) many n f f_lt,
    )

pub writes-6_pages_rule : Writes6PagesRule
unfolding written_pages
writes-6_pages_rule sz d n ok v f v-lt f_lt a_lt fewer C A chip filler m x = let e = exchanged sz d v f in
    let q = exchanged_pages filler sz d m v f in
    let r = exchanged_pages-rule sz d ok v f v-lt f_lt a_lt fewer C A filler m in
    (e, exchanged-rule sz d ok v f v-lt f_lt a_lt fewer, (q, r, enter-pages filler sz e q x r.pspace-long))

-- the record after the flush step with which way 7 begins is sound
sound-then : (sz : Sizes) (d : Directory) → sound sz d ≡ true → (f : ℕ) → f < sz.B → frame_at d f < sz.N
    → sound sz (stepped sz d (due (frame_at d f) f)) ≡ true
sound-then sz d ok f f_lt a_lt = let u = sound-facts sz d ok in
    facts-sound sz _ (stepped-sound sz d u (frame_at d f) f (ready-frame sz d u f f_lt (block-vacant sz u.limits (frame_at d f) a_lt)))

pub writes-7_rule : Writes7Rule
unfolding written joined
writes-7_rule sz d n ok v f v-lt f_lt a_lt = let c = stepped sz d (due (frame_at d f) f) in let t = sound-then sz d ok f f_lt a_lt in
    let e = joined sz c v f in let many = joined-uses sz c t v f in (
      c,
      stepped-rule sz d ok (frame_at d f) f a_lt f_lt,
      (
        e,
        joined-rule sz c t v f v-lt f_lt,
        enter sz c e t refl (length-tab 128 _) many n f f_lt true,
        enter-filled sz c e t refl (length-tab 128 _) many n f f_lt,
      ),
    )

pub writes-7_pages_rule : Writes7PagesRule
unfolding written_pages joined_pages
writes-7_pages_rule sz d n ok v f v-lt f_lt a_lt C A chip filler m x long =
    let c = stepped sz d (due (frame_at d f) f) in let p = stepped_pages chip filler sz d m (due (frame_at d f) f) in
    let t = sound-then sz d ok f f_lt a_lt in let r = stepped_pages-rule sz d ok (frame_at d f) f a_lt f_lt C A chip filler m in
    let e = joined sz c v f in let q = joined_pages filler sz c p v f in
    let in_slot = enter-pages filler sz e q x (ap length r.pspace-stays ∙ long) in (
      p,
      r,
      (
        c,
        e,
        stepped-rule sz d ok (frame_at d f) f a_lt f_lt,
        joined-rule sz c t v f v-lt f_lt,
        (q, joined_pages-rule sz c t v f v-lt f_lt C A filler p, in_slot),
      ),
    )
