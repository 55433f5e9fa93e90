-- A sound record whose readers see the page array, and how each move and the write keep it so.
use mathlib.Core.Path.{◌≡◌, refl, sym, ap, ◌∙◌}
use mathlib.Core.Logic.{◌⊎◌, inl, inr}
use mathlib.Core.Bool.{Bool, true, false, ◌||◌}
use mathlib.Core.List.{List}
use Prim.Native.Nat.{ℕ, ◌+◌, ◌-◌, ◌*◌, ◌%◌, ◌<◌}
use native.Mathlib.Omega.{arith}
use lib.ListN.{length, set, length-set}
use lib.Seq.{set-get_or}
use borrow.Author.Tests.{lt-ltb}
use Rattle.prelude.specs.Bits.{bit}
use Rattle.prelude.proofs.Scan.{first-hit}
use Rattle.prelude.proofs.Tab.{length-tab}
use Rattle.model.specs.Sizes.{Sizes, vacant}
use Rattle.model.specs.Directory.{Directory, slot_at, frame_at, valid_at, inFrame}
use Rattle.model.specs.Soundness.{Sound}
use Rattle.model.specs.Policy.{slot_of, in_slots, frame_with, frame_of, valid_count, slot_count, Choice, victim, Plan, frame_hit, exchange}
use Rattle.model.specs.Policy.{evict, eviction_plan, plan, due}
use Rattle.model.specs.Moves.{Chip, Memory, programmed, touched, put_slot, entered, put_slot_page, put_frame_page, joined}
use Rattle.model.specs.Moves.{filled, joined_pages, exchanged, exchanged_pages, vacated, rewritten_pages, stepped, written, stepped_pages}
use Rattle.model.specs.Moves.{written_pages}
use Rattle.model.specs.Lists.{Picks}
use Rattle.model.proofs.Soundness.{pages-small}
use Rattle.model.proofs.Lookup.{NoSlot, NoFrame, block-vacant, block-lt, found-slot, not-in_slots, frame_has, frame_is, no-frame}
use Rattle.model.proofs.Lookup.{no-frame_with}
use Rattle.model.proofs.Reflects.{Own, OwnAll, Reflects, joined-frame, joined-reflects, exchanged-frame, exchanged-reflects}
use Rattle.model.proofs.Reflects.{rewritten-reflects, put_slot-reflects, put-frame_reflects}
use Rattle.model.proofs.Kept.{exchanged-vacant, enough, held, with-held, touched-sound, joined-sound, exchanged-sound, vacated-sound}
use Rattle.model.proofs.Kept.{put-sound, joined-absent, exchanged-absent}
use Rattle.model.proofs.Plan.{victim-lt, victim-pos, some-bit, joined-vacant, sole-own, occupied-all, vacant-bits, fewest-pick}
use Rattle.model.proofs.Plan.{evict-pick, eviction_elim, plan-elim}
use Rattle.model.proofs.Steps.{Ready, ready-frame, stepped-frame', stepped-bits, stepped-count, stepped-absent}

put_same : (d : Directory) (i n : ℕ) → slot_at d i ≡ n → put_slot d i n ≡ d
unfolding put_slot
put_same d i n e = with-slots (ap (set d.slots i) (sym e) ∙ set-get_or d.slots i 0)
  where
    with-slots : {l : List ℕ} → l ≡ d.slots → ◌≡◌ {A = Directory}
        (record { slots = l; frames = d.frames; valid = d.valid; recency = d.recency; uses = d.uses }) d
    with-slots p = λ i. record { slots = p i; frames = d.frames; valid = d.valid; recency = d.recency; uses = d.uses }

module _ {C A : Type 0} (chip : Chip C A) (filler : A) where
  -- directory d and pages m hold the page array v
  pub record Consistent (sz : Sizes) (d : Directory) (m : Memory C A) (v : List A) : Type 0 where
    pub numbers : Sound sz d
    pub reflects : Reflects chip filler sz d m v
    pub flash-length : length m.flash ≡ sz.N * sz.K
    pub pspace-length : length m.pspace ≡ sz.P
    pub bspace-length : length m.bspace ≡ sz.B * sz.K
    pub array-length : length v ≡ sz.N * sz.K

  module _ (sz : Sizes) (d : Directory) (m : Memory C A) (v : List A) (g : Consistent sz d m v) where
    pub touched-good : (t : Bool) (f : ℕ) → f < sz.B → (frame_at d f ≡ vacant → ⊥) → Consistent sz (touched sz t d f) m v
    unfolding touched inFrame
    touched-good t f l o = record {
      numbers = touched-sound sz d g.numbers t f l o;
      reflects = record { in_slot = g.reflects.in_slot; in_frame = g.reflects.in_frame; in_flash = g.reflects.in_flash };
      flash-length = g.flash-length;
      pspace-length = g.pspace-length;
      bspace-length = g.bspace-length;
      array-length = g.array-length;
    }

    joined-good : (b f : ℕ) → f < sz.B → b < sz.N → ((frame_at d f ≡ b) ⊎ (valid_at d f ≡ 0))
        → ((h : ℕ) → h < sz.B → (h ≡ f → ⊥) → frame_at d h ≡ b → ⊥)
        → ((o : ℕ) × (o < sz.K) × ((bit (valid_at d f) o || in_slots sz d (b * sz.K + o)) ≡ true))
        → Consistent sz (joined sz d b f) (joined_pages filler sz d m b f) v
    unfolding joined_pages filled
    joined-good b f fl bl own sole some = let u = g.numbers in record {
      numbers = joined-sound sz d u b f fl bl sole some;
      reflects = joined-reflects sz u.limits d u.shape b f fl filler m chip v g.reflects bl own;
      flash-length = g.flash-length;
      pspace-length = g.pspace-length;
      bspace-length = length-tab (sz.B * sz.K) _;
      array-length = g.array-length;
    }

    exchanged-good : (b f : ℕ) → f < sz.B → b < sz.N → valid_count sz d f < slot_count sz d b → frame_at d f < sz.N
        → ((h : ℕ) → h < sz.B → frame_at d h ≡ b → ⊥)
        → Consistent sz (exchanged sz d b f) (exchanged_pages filler sz d m b f) v
    unfolding exchanged_pages filled
    exchanged-good b f fl bl more al sole = let u = g.numbers in
        let en = enough sz u.limits d u.shape u.entries b f fl bl more in record {
          numbers = exchanged-sound sz d u b f fl bl more al sole;
          reflects = exchanged-reflects sz u.limits d u.shape b f fl (omega arith) bl chip filler m v g.reflects;
          flash-length = g.flash-length;
          pspace-length = length-tab sz.P _;
          bspace-length = length-tab (sz.B * sz.K) _;
          array-length = g.array-length;
        }

    -- frame f of block b is rewritten and vacated
    rewritten-good : (b f : ℕ) → Own chip filler sz d m b f → f < sz.B → frame_at d f ≡ b
        → Consistent sz (vacated d f) (rewritten_pages chip filler sz d m b f) v
    unfolding rewritten_pages programmed
    rewritten-good b f own fl e = let u = g.numbers in record {
      numbers = vacated-sound sz d u f fl;
      reflects = (rw e at (rewritten-reflects sz u.limits d u.shape f fl chip filler m v g.reflects (λ o. rw e (own o))));
      flash-length = length-tab (sz.N * sz.K) _;
      pspace-length = g.pspace-length;
      bspace-length = length-tab (sz.B * sz.K) _;
      array-length = g.array-length;
    }

    -- page n, cached nowhere, goes into a vacant slot
    put-good : (i n : ℕ) (x : A) → i < sz.P → n < sz.N * sz.K → NoSlot sz d n → NoFrame sz d n → slot_at d i ≡ vacant
        → Consistent sz (put_slot d i n) (put_slot_page m i x) (set v n x)
    unfolding put_slot_page
    put-good i n x il nl np nf e = let u = g.numbers in record {
      numbers = put-sound sz d u i n il nl np nf;
      reflects = put_slot-reflects sz d u.shape chip filler m v g.reflects n x nl g.array-length u.limits i il
          g.pspace-length (λ j l h. np j l) nf (inr e);
      flash-length = g.flash-length;
      pspace-length = length-set m.pspace i x ∙ g.pspace-length;
      bspace-length = g.bspace-length;
      array-length = length-set v n x ∙ g.array-length;
    }

    -- way 1: page n is overwritten in its slot
    slot_hit-good : (i n : ℕ) (x : A) → i < sz.P → n < sz.N * sz.K → slot_at d i ≡ n → Consistent sz d (put_slot_page m i x) (set v n x)
    unfolding put_slot_page
    slot_hit-good i n x il nl e = let u = g.numbers in
        let vl : slot_at d i < vacant = (let h = pages-small sz u.limits in omega arith) in
        let s = put_slot-reflects sz d u.shape chip filler m v g.reflects n x nl g.array-length u.limits i il g.pspace-length
        (λ j l h q. h (u.entries.slots_apart j i l il (let h2 = pages-small sz u.limits in omega arith) (q ∙ sym e)))
        (λ f l q. u.entries.once i f il l vl (rw e q)) (inl e) in
        record {
          numbers = u;
          reflects = (rw (put_same d i n e) at s);
          flash-length = g.flash-length;
          pspace-length = length-set m.pspace i x ∙ g.pspace-length;
          bspace-length = g.bspace-length;
          array-length = length-set v n x ∙ g.array-length;
        }

    -- way 2: page n is overwritten in its frame
    frame_hit-good : (f n : ℕ) (x : A) → f < sz.B → n < sz.N * sz.K → NoSlot sz d n → inFrame sz d n f ≡ true
        → Consistent sz d (put_frame_page m (f * sz.K + n % sz.K) x) (set v n x)
    unfolding put_frame_page
    frame_hit-good f n x fl nl np h = let u = g.numbers in record {
      numbers = u;
      reflects = put-frame_reflects sz d u.shape chip filler m v g.reflects n x nl g.array-length u.limits f fl
          g.bspace-length np h
          (λ k kl ne q. ne (u.entries.frames-apart k f kl fl (rw (frame_has sz d n k q).0
          (block-vacant sz u.limits _ (block-lt sz u.limits n nl))) ((frame_has sz d n k q).0 ∙ sym (frame_has sz d n f h).0)));
      flash-length = g.flash-length;
      pspace-length = g.pspace-length;
      bspace-length = length-set m.bspace _ x ∙ g.bspace-length;
      array-length = length-set v n x ∙ g.array-length;
    }

    joined-ready : (b f : ℕ) → Ready sz d b f → Consistent sz (joined sz d b f) (joined_pages filler sz d m b f) v
    joined-ready b f y = joined-good b f y.f_lt y.b_lt y.own y.sole y.some

  -- a flush step of block b through frame f
  pub step-good : (sz : Sizes) (d : Directory) (m : Memory C A) → OwnAll chip filler sz d m → (v : List A) → Consistent sz d m v
      → (b f : ℕ) → Ready sz d b f
      → Consistent sz (stepped sz d (due b f)) (stepped_pages chip filler sz d m (due b f)) v
  unfolding stepped stepped_pages
  step-good sz d m own v g b f y = rewritten-good sz (joined sz d b f) (joined_pages filler sz d m b f) v (joined-ready sz d m v g b f y) b
      f (own b f) y.f_lt
      (joined-frame sz g.numbers.limits d g.numbers.shape b f y.f_lt)

  -- n goes into the first vacant slot, after frame f was used
  module _ (sz : Sizes) (d : Directory) (m : Memory C A) (v : List A) (g : Consistent sz d m v) (n : ℕ) (n-lt : n < sz.N * sz.K)
      (np : NoSlot sz d n) (nf : NoFrame sz d n) where
    entered-good : (t : Bool) (x : A) (f : ℕ) → f < sz.B → (frame_at d f ≡ vacant → ⊥) → in_slots sz d vacant ≡ true
        → Consistent sz (entered sz (touched sz t d f) n) (put_slot_page m (slot_of sz d vacant) x) (set v n x)
    unfolding entered slot_of touched inFrame
    entered-good t x f fl o h = let k = found-slot sz d vacant h in put-good sz (touched sz t d f) m v
        (touched-good sz d m v g t f fl o) (slot_of sz d vacant) n x k.0 n-lt np nf k.1

  -- block b's pages join frame f, and n enters
  module _ (sz : Sizes) (d : Directory) (m : Memory C A) (v : List A) (g : Consistent sz d m v) (n : ℕ) (n-lt : n < sz.N * sz.K)
      (np : NoSlot sz d n) (nf : NoFrame sz d n) where
    joined-entered : (t : Bool) (x : A) (b f : ℕ) → f < sz.B → b < sz.N → 0 < slot_count sz d b
        → ((frame_at d f ≡ b) ⊎ (valid_at d f ≡ 0))
        → ((h : ℕ) → h < sz.B → (h ≡ f → ⊥) → frame_at d h ≡ b → ⊥)
        → Consistent sz (entered sz (touched sz t (joined sz d b f) f) n)
        (put_slot_page (joined_pages filler sz d m b f) (slot_of sz (joined sz d b f) vacant) x) (set v n x)
    joined-entered t x b f fl bl pos own sole =
        let fr = joined-frame sz g.numbers.limits d g.numbers.shape b f fl in
        let ab = joined-absent sz d g.numbers n n-lt np nf b f fl bl own in
        entered-good sz (joined sz d b f) (joined_pages filler sz d m b f) v
        (joined-good sz d m v g b f fl bl own sole (some-bit sz d g.numbers b f pos))
        n n-lt ab.0 ab.1 t x f fl (held sz g.numbers.limits (joined sz d b f) b f bl fr)
        (joined-vacant sz d g.numbers b f fl pos)

-- ---- the write

module _ {C A : Type 0} (chip : Chip C A) (filler : A) (pick : Choice) (picks : Picks pick) (sz : Sizes) (d : Directory) (w : List ℕ)
    (m : Memory C A) (own : OwnAll chip filler sz d m) (v : List A) (g : Consistent chip filler sz d m v) (n : ℕ)
    (n-lt : n < sz.N * sz.K) (x : A) where
  abbrev Wrote : Plan → Type 0
  Wrote p = Consistent chip filler sz (written sz d n p) (written_pages chip filler sz d m n x p) (set v n x)

  evict-wrote : (b f : ℕ) → f < sz.B → frame_at d f < sz.N → b < sz.N → 0 < slot_count sz d b
      → ((h : ℕ) → h < sz.B → frame_at d h ≡ b → ⊥) → NoSlot sz d n → NoFrame sz d n → Wrote (evict b f)
  unfolding written written_pages
  evict-wrote b f fl al bl pos sole np nf =
      let u = g.numbers in let a : ℕ = frame_at d f in
      let y = ready-frame sz d u f fl (block-vacant sz u.limits a al) in
      let ab = stepped-absent sz d u a f y n n-lt np nf in
      joined-entered chip filler sz (stepped sz d (due a f)) (stepped_pages chip filler sz d m (due a f)) v
      (step-good chip filler sz d m own v g a f y) n n-lt ab.0 ab.1 true x b f fl bl
      (rw (stepped-count sz d u a f y b (λ e. sole f fl (sym e))) pos)
      (inr (stepped-bits sz d u a f y)) (λ h hl ne e. sole h hl (sym (stepped-frame' sz d u a f y h ne) ∙ e))

  exchange-wrote : (b f : ℕ) → f < sz.B → b < sz.N → valid_count sz d f < slot_count sz d b → frame_at d f < sz.N
      → ((h : ℕ) → h < sz.B → frame_at d h ≡ b → ⊥) → NoSlot sz d n → NoFrame sz d n → Wrote (exchange b f)
  unfolding written written_pages in_slots
  exchange-wrote b f fl bl more al sole np nf =
      let u = g.numbers in
      let ab = exchanged-absent sz d u n n-lt np nf b f fl bl more in
      let fr = exchanged-frame sz u.limits d u.shape b f fl in
      entered-good chip filler sz (exchanged sz d b f) (exchanged_pages filler sz d m b f) v
      (exchanged-good chip filler sz d m v g b f fl bl more al sole)
      n n-lt ab.0 ab.1 true x f fl (held sz u.limits (exchanged sz d b f) b f bl fr)
      (lt-ltb _ sz.P (exchanged-vacant sz u.limits d u.shape u.entries b f fl bl more al sole))

  frame_hit-wrote : in_slots sz d n ≡ false → frame_with sz d n < sz.B → Wrote (frame_hit (frame_with sz d n))
  unfolding written written_pages frame_with
  frame_hit-wrote h l = touched-good chip filler sz d _ _ (frame_hit-good chip filler sz d m v g (frame_with sz d n) n x l n-lt
      (not-in_slots sz d n h) (first-hit sz.B (inFrame sz d n) l)) false (frame_with sz d n) l (with-held sz d g.numbers n l)

  -- no slot is vacant: ways 4 to 7
  eviction_wrote : NoSlot sz d n → NoFrame sz d n → in_slots sz d vacant ≡ false → Wrote (eviction_plan pick sz d w (victim sz d))
  unfolding written written_pages
  eviction_wrote np nf full =
      let u = g.numbers in let b : ℕ = victim sz d in let bl = victim-lt sz d u in let pos = victim-pos sz d u full in
      eviction_elim pick sz d w Wrote b
      (λ q. let e = frame_is sz d b q in joined-entered chip filler sz d m v g n n-lt np nf false x b (frame_of sz d b) q bl pos (inl e)
      (sole-own sz d u b (frame_of sz d b) bl q e))
      (λ s q. joined-entered chip filler sz d m v g n n-lt np nf true x b (frame_of sz d vacant) q bl pos
      (inr (vacant-bits sz d u _ q (frame_is sz d vacant q))) (λ h hl ne e. no-frame sz d b s h hl e))
      (λ s o q. let p = fewest-pick sz d u pick picks _ refl in exchange-wrote b _ p.0 bl (rw p.1 q) (occupied-all sz d u o _ p.0)
      (no-frame sz d b s) np nf)
      (λ s o q. let fl = evict-pick sz d u pick picks w in evict-wrote b _ fl (occupied-all sz d u o _ fl) bl pos (no-frame sz d b s) np nf)

  pub write-good : Wrote (plan pick sz d w n)
  unfolding written written_pages
  write-good = plan-elim pick sz d w Wrote n
      (λ h. let k = found-slot sz d n h in slot_hit-good chip filler sz d m v g (slot_of sz d n) n x k.0 n-lt k.1)
      (λ h l. frame_hit-wrote h l)
      (λ h k h2. let q = found-slot sz d vacant h2 in put-good chip filler sz d m v g (slot_of sz d vacant) n x q.0 n-lt
      (not-in_slots sz d n h) (no-frame_with sz d n k) q.1)
      (λ h k full. eviction_wrote (not-in_slots sz d n h) (no-frame_with sz d n k) full)
