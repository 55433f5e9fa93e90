-- The flush over numbers: what a step's block and frame are, that each step cleans one cached block, and that wear stays within W.
use mathlib.Core.Path.{◌≡◌, refl, sym, ap, ◌∙◌}
use mathlib.Core.Logic.{◌⊎◌, inl, inr}
use mathlib.Core.Bool.{true, false, not, cond, ◌&&◌, ◌||◌}
use mathlib.Core.List.{List}
use Prim.Native.Nat.{ℕ, zero, suc, ◌+◌, ◌-◌, ◌*◌, ◌/◌, ◌≤◌, ◌<◌}
use native.Mathlib.Omega.{arith}
use lib.Dec.{ltb, eqb}
use lib.ListN.{length, get_or, length-set}
use lib.Seq.{get_or-set_same, get_or-set_other}
use borrow.Author.Tests.{ltb-true, ltb-false, eqb-true, eqb-false, lt-ltb, eq-eqb, ne_eqb}
use Rattle.prelude.specs.Scan.{first, count}
use Rattle.prelude.specs.Bits.{bit}
use Rattle.prelude.proofs.Tests.{by-test, clash, and_l, and_r, and_i, or_l, or_r, or_cases, not_t, not-i, same_test}
use Rattle.prelude.proofs.Scan.{first-hit, first-at, count_none, count_same, count_past, count-remove}
use Rattle.prelude.proofs.Bits.{bits-some}
use Rattle.model.specs.Sizes.{Sizes, vacant, InLimits}
use Rattle.model.specs.Directory.{Directory, slot_at, frame_at, valid_at}
use Rattle.model.specs.Soundness.{Sound}
use Rattle.model.specs.Policy.{in_block, in_slots, frame_of, slot_count, Choice, merge_reads, Due, clean, due, occupied, lowest_in_slots}
use Rattle.model.specs.Policy.{due_of, cached}
use Rattle.model.specs.Moves.{worn, worn_by, joined, vacated, stepped}
use Rattle.model.specs.Calls.{Tally, steps}
use Rattle.model.specs.Lists.{Picks}
use Rattle.model.proofs.Soundness.{pages-small}
use Rattle.model.proofs.Lookup.{NoSlot, NoFrame, frame_has, page-div, page-vacant, block-vacant, found-slot, block_of, in_block_lem}
use Rattle.model.proofs.Lookup.{own_block, frame_is, page-of, some-pages}
use Rattle.model.proofs.Reflects.{joined-slot, joined-frame', vacated-frame, vacated-frame', vacated-bits}
use Rattle.model.proofs.Kept.{joined-sound, vacated-sound, joined-absent, vacated-absent}
use Rattle.model.proofs.Plan.{some-bit, sole-own}

-- what holds of a step's block and frame
pub record Ready (sz : Sizes) (d : Directory) (b f : ℕ) : Type 0 where
  pub f_lt : f < sz.B
  pub b_lt : b < sz.N
  pub own : (frame_at d f ≡ b) ⊎ (valid_at d f ≡ 0)
  pub sole : (h : ℕ) → h < sz.B → (h ≡ f → ⊥) → frame_at d h ≡ b → ⊥
  pub some : (o : ℕ) × (o < sz.K) × ((bit (valid_at d f) o || in_slots sz d (b * sz.K + o)) ≡ true)

-- nothing is cached
pub record Empty (sz : Sizes) (d : Directory) : Type 0 where
  pub no_frames : (f : ℕ) → f < sz.B → frame_at d f < vacant → ⊥
  pub no-slots : (b : ℕ) → b < sz.N → 0 < slot_count sz d b → ⊥

module _ (sz : Sizes) (d : Directory) (s : Sound sz d) where
  -- frame f is occupied
  pub ready-frame : (f : ℕ) → f < sz.B → frame_at d f < vacant → Ready sz d (frame_at d f) f
  ready-frame f l h = elim (s.entries.frame-in f l) [
    | inl e ↦ absurd (let k = e.0 in omega arith)
    | inr e ↦ record {
      f_lt = l;
      b_lt = e.0;
      own = inl refl;
      sole = sole-own sz d s (frame_at d f) f e.0 l refl;
      some = (let k = bits-some sz.K (valid_at d f) e.1 e.2 in (k.0, k.1, or_l _ k.2));
    }
  ]

  -- none is, and block b has a page in a slot
  ready-slot : (b : ℕ) → b < sz.N → 0 < slot_count sz d b → ((f : ℕ) → f < sz.B → frame_at d f < vacant → ⊥) → Ready sz d b 0
  ready-slot b l h none = let fl = s.limits.B_low in record {
    f_lt = fl;
    b_lt = l;
    own = elim (s.entries.frame-in 0 fl) [ inl e ↦ inr e.1 | inr e ↦ absurd (none 0 fl (block-vacant sz s.limits _ e.0)) ];
    sole = λ k kl ne e. none k kl (rw e (block-vacant sz s.limits b l));
    some = some-bit sz d s b 0 h;
  }

  -- by cases of what is due
  pub due-elim : (pick : Choice) → Picks pick → (Q : Due → Type 0) → ((b f : ℕ) → Ready sz d b f → Q (due b f)) → (Empty sz d → Q clean)
      → Q (due_of pick sz d)
  unfolding due_of occupied lowest_in_slots
  due-elim pick picks Q q1 q2 = by-test (ltb (first sz.B (occupied d)) sz.B)
      (λ e. rw (e, due_of) (let l = ltb-true (first sz.B (occupied d)) sz.B e in
      let p = picks sz d (occupied d) _ s.listed l (first-hit sz.B (occupied d) l) in
      q1 _ _ (ready-frame _ p.0 (ltb-true _ vacant p.1))))
      (λ e. let none : (f : ℕ) → f < sz.B → frame_at d f < vacant → ⊥ =
      (λ f fl h. let k = first-at sz.B (occupied d) f fl (lt-ltb _ vacant h) in
      let k2 = ltb-false (first sz.B (occupied d)) sz.B e in omega arith) in
      rw (e, due_of) (by-test (ltb (lowest_in_slots sz d) sz.N)
      (λ e'. let l = ltb-true (lowest_in_slots sz d) sz.N e' in rw e'
      (q1 _ _ (ready-slot _ l (ltb-true 0 _ (first-hit sz.N (λ b. ltb 0 (slot_count sz d b)) l)) none)))
      (λ e'. rw e' (q2 (record {
        no_frames = none;
        no-slots = λ b bl h. let k = first-at sz.N (λ b. ltb 0 (slot_count sz d b)) b bl
            (lt-ltb 0 _ h) in let k2 = ltb-false (lowest_in_slots sz d) sz.N e' in omega arith;
      })))))

  -- what is due may be done
  pub due-ready : (pick : Choice) → Picks pick → (b f : ℕ) → due_of pick sz d ≡ due b f → Ready sz d b f
  due-ready pick picks b f = due-elim pick picks (λ q. q ≡ due b f → Ready sz d b f)
      (λ c g y e. let eb : c ≡ b = cc in let ef : g ≡ f = cc in rw (eb, ef) at y)
      (λ n e. absurd (let z : ◌≡◌ {A = ℕ} 0 1 = cc in omega arith))

-- ---- which blocks are cached

module _ (sz : Sizes) (d : Directory) (b : ℕ) where
  pub cached-slot : (i : ℕ) → i < sz.P → in_block sz d b i ≡ true → cached sz d b ≡ true
  unfolding cached
  cached-slot i l e = or_l _ (lt-ltb 0 (slot_count sz d b) (some-pages sz d b i l e))

  pub cached-frame : (f : ℕ) → f < sz.B → frame_at d f ≡ b → cached sz d b ≡ true
  unfolding cached frame_of
  cached-frame f l e = or_r (ltb 0 (slot_count sz d b)) (lt-ltb (frame_of sz d b) sz.B
      (let h = first-at sz.B (λ f. eqb (frame_at d f) b) f l (eq-eqb _ b e) in omega arith))

  pub cached-why : cached sz d b ≡ true → ((i : ℕ) × (i < sz.P) × (in_block sz d b i ≡ true)) ⊎ ((f : ℕ) × (f < sz.B) × (frame_at d f ≡ b))
  unfolding cached
  cached-why h = elim (or_cases (ltb 0 (slot_count sz d b)) (ltb (frame_of sz d b) sz.B) h) [
    | inl e ↦ inl (page-of sz d b (ltb-true 0 _ e))
    | inr e ↦ let k = ltb-true (frame_of sz d b) sz.B e in inr (frame_of sz d b, k, frame_is sz d b k)
  ]

-- ---- a step

module _ (sz : Sizes) (d : Directory) (s : Sound sz d) (b f : ℕ) (y : Ready sz d b f) where
  abbrev after : Directory
  after = stepped sz d (due b f)

  pub joined-ready : Sound sz (joined sz d b f)
  joined-ready = joined-sound sz d s b f y.f_lt y.b_lt y.sole y.some

  pub stepped-sound : Sound sz after
  unfolding stepped
  stepped-sound = vacated-sound sz (joined sz d b f) joined-ready f y.f_lt

  pub after-slot : (i : ℕ) → i < sz.P → slot_at after i ≡ cond (in_block sz d b i) vacant (slot_at d i)
  unfolding stepped vacated
  after-slot i l = joined-slot sz s.limits d s.shape b f y.f_lt i l

  after_frame : frame_at after f ≡ vacant
  unfolding stepped
  after_frame = vacated-frame sz s.limits (joined sz d b f) joined-ready.shape f y.f_lt

  pub stepped-frame' : (h : ℕ) → (h ≡ f → ⊥) → frame_at after h ≡ frame_at d h
  unfolding stepped
  stepped-frame' h ne = vacated-frame' sz s.limits (joined sz d b f) joined-ready.shape f y.f_lt h ne
      ∙ joined-frame' sz s.limits d s.shape b f y.f_lt h ne

  pub stepped-bits : valid_at after f ≡ 0
  unfolding stepped
  stepped-bits = vacated-bits sz s.limits (joined sz d b f) joined-ready.shape f y.f_lt

  -- the slots that hold pages of another block
  slot-back : (c i : ℕ) → i < sz.P → in_block sz after c i ≡ true → (in_block sz d c i ≡ true) × (in_block sz d b i ≡ false)
  slot-back c i l h = let w = block_of sz after c i h in by-test (in_block sz d b i)
      (λ e. absurd (let q : slot_at after i ≡ vacant = after-slot i l ∙ rw e in let x = w.0 in omega arith))
      (λ e. let q : slot_at after i ≡ slot_at d i = after-slot i l ∙ rw e in (in_block_lem sz d c i (rw q at w.0) (rw q at w.1), e))

  slot-on : (c i : ℕ) → i < sz.P → (c ≡ b → ⊥) → in_block sz d c i ≡ true → in_block sz after c i ≡ true
  slot-on c i l ne h = let w = block_of sz d c i h in by-test (in_block sz d b i)
      (λ e. absurd (ne (sym w.1 ∙ (block_of sz d b i e).1)))
      (λ e. let q : slot_at after i ≡ slot_at d i = after-slot i l ∙ rw e in in_block_lem sz after c i (rw q w.0) (rw q w.1))

  pub stepped-count : (c : ℕ) → (c ≡ b → ⊥) → slot_count sz after c ≡ slot_count sz d c
  unfolding slot_count
  stepped-count c ne = count_same sz.P (in_block sz after c) (in_block sz d c)
      (λ i l. same_test (λ h. (slot-back c i l h).0) (slot-on c i l ne))

  -- a page that is cached nowhere is cached nowhere after the step
  pub stepped-absent : (n : ℕ) → n < sz.N * sz.K → NoSlot sz d n → NoFrame sz d n → (NoSlot sz after n) × (NoFrame sz after n)
  unfolding stepped
  stepped-absent n l np nf = let a = joined-absent sz d s n l np nf b f y.f_lt y.b_lt y.own in
      vacated-absent sz (joined sz d b f) joined-ready n l a.0 a.1 f y.f_lt

  pub cached-now : cached sz d b ≡ true
  cached-now = let t = y.some in elim (or_cases (bit (valid_at d f) t.0) (in_slots sz d (b * sz.K + t.0)) t.2) [
    | inl e ↦ cached-frame sz d b f y.f_lt (own_block sz d b f y.own t.0 e)
    | inr e ↦ let q = found-slot sz d _ e in cached-slot sz d b _ q.0
        (in_block_lem sz d b _ (rw q.1 (page-vacant sz s.limits b t.0 y.b_lt t.1))
        (ap (λ (x : ℕ). x / sz.K) q.1 ∙ page-div sz s.limits b t.0 t.1))
  ]

  pub cached-back : (c : ℕ) → c < sz.N → cached sz after c ≡ true → (cached sz d c ≡ true) × (c ≡ b → ⊥)
  cached-back c l h = elim (cached-why sz after c h) [
    | inl k ↦ let w = slot-back c k.0 k.1 k.2 in (cached-slot sz d c k.0 k.1 w.0, λ e'. clash (rw e' at w.0) w.1)
    | inr k ↦ by-test (eqb k.0 f)
        (λ e. absurd (let q : c ≡ vacant = sym k.2 ∙ rw (eqb-true _ f e) after_frame in let t = block-vacant sz s.limits c l in
        omega arith))
        (λ e. let e2 = eqb-false _ f e in let q : frame_at d k.0 ≡ c = sym (stepped-frame' k.0 e2) ∙ k.2 in
        (cached-frame sz d c k.0 k.1 q, λ e'. y.sole k.0 k.1 e2 (q ∙ e')))
  ]

  pub cached-on : (c : ℕ) → c < sz.N → cached sz d c ≡ true → (c ≡ b → ⊥) → cached sz after c ≡ true
  cached-on c l h ne = elim (cached-why sz d c h) [
    | inl k ↦ cached-slot sz after c k.0 k.1 (slot-on c k.0 k.1 ne k.2)
    | inr k ↦ by-test (eqb k.0 f)
        (λ e. let q : frame_at d f ≡ c = (rw (eqb-true _ f e) at k.2) in absurd (elim y.own [
          | inl t ↦ ne (sym q ∙ t)
          | inr t ↦ elim (s.entries.frame-in f y.f_lt) [
            | inl p ↦ (let p0 = p.0 in let x = block-vacant sz s.limits c l in omega arith)
            | inr p ↦ (let p1 = p.1 in omega arith)
          ]
        ]))
        (λ e. cached-frame sz after c k.0 k.1 (stepped-frame' k.0 (eqb-false _ f e) ∙ k.2))
  ]

  -- no page of block b is cached any more
  pub stepped-gone : (n : ℕ) → n < sz.N * sz.K → n / sz.K ≡ b → (NoSlot sz after n) × (NoFrame sz after n)
  stepped-gone n l e = (
    (λ i il q. gone (cached-slot sz after b i il (in_block_lem sz after b i (let h = pages-small sz s.limits in omega arith)
        (ap (λ (x : ℕ). x / sz.K) q ∙ e)))),
    (λ h hl q. gone (cached-frame sz after b h hl ((frame_has sz after n h q).0 ∙ e))),
  )
    where
      gone : cached sz after b ≡ true → ⊥
      gone h = (cached-back b y.b_lt h).1 refl

  pub cached-less : count sz.N (cached sz d) ≡ suc (count sz.N (cached sz after))
  cached-less = count-remove sz.N (cached sz d) b y.b_lt cached-now
      ∙ ap suc (count_same sz.N (λ i. cached sz d i && not (eqb i b)) (cached sz after)
      (λ c l. same_test (λ h. cached-on c l (and_l (cached sz d c) _ h) (eqb-false c b (not_t (and_r (cached sz d c) _ h))))
      (λ h. let k = cached-back c l h in and_i k.0 (not-i (ne_eqb c b k.1)))))

-- ---- the measure of a flush: the number of cached blocks

module _ (sz : Sizes) (d : Directory) (s : Sound sz d) where
  pub empty-count : Empty sz d → count sz.N (cached sz d) ≡ 0
  empty-count e = count_none sz.N (cached sz d) (λ b l. by-test (cached sz d b)
      (λ h. absurd (elim (cached-why sz d b h) [
        | inl k ↦ e.no-slots b l (some-pages sz d b k.0 k.1 k.2)
        | inr k ↦ e.no_frames k.0 k.1 (rw k.2 (block-vacant sz s.limits b l))
      ]))
      (λ h. h))

  pub none-empty : count sz.N (cached sz d) ≤ 0 → Empty sz d
  unfolding cached
  none-empty h = record {
    no_frames = λ f fl q. elim (s.entries.frame-in f fl) [
      | inl k ↦ (let k0 = k.0 in omega arith)
      | inr k ↦ (let p = count_past (frame_at d f) sz.N (cached sz d) k.0 (cached-frame sz d (frame_at d f) f fl refl) in omega arith)
    ];
    no-slots = λ b bl q. let p = count_past b sz.N (cached sz d) bl (or_l _ (lt-ltb 0 (slot_count sz d b) q)) in omega arith;
  }

-- ---- wear

pub worn-at : (w : List ℕ) (b : ℕ) → b < length w → get_or (worn w b) b 0 ≡ suc (get_or w b 0)
unfolding worn
worn-at w b l = get_or-set_same w b _ 0 l

pub worn-other : (w : List ℕ) (b c : ℕ) → (c ≡ b → ⊥) → get_or (worn w b) c 0 ≡ get_or w c 0
unfolding worn
worn-other w b c ne = get_or-set_other w b c _ 0 ne

pub worn_by-length : (w : List ℕ) (b : ℕ) → length (worn_by w b) ≡ length w
unfolding worn_by worn
worn_by-length w b = by-test (ltb b vacant) (λ e. rw e (length-set w b _)) (λ e. rw e)

pub worn_by-is : (sz : Sizes) → InLimits sz → (w : List ℕ) (b : ℕ) → b < sz.N → worn_by w b ≡ worn w b
unfolding worn_by
worn_by-is sz limits w b l = rw (lt-ltb b vacant (block-vacant sz limits b l))

-- no block has more wear than W
abbrev pub Within : Sizes → List ℕ → Type 0
Within sz w = (b : ℕ) → get_or w b 0 ≤ sz.W

pub worn-within : (sz : Sizes) (w : List ℕ) (b : ℕ) → b < length w → get_or w b 0 < sz.W → Within sz w → Within sz (worn w b)
worn-within sz w b l h k c = by-test (eqb c b)
    (λ e. rw (eqb-true c b e, worn-at w b l) h)
    (λ e. rw (worn-other w b c (eqb-false c b e)) (k c))

-- ---- steps until clean

-- no block with a page cached is worn
abbrev pub Below : Sizes → Directory → List ℕ → Type 0
Below sz d w = (b : ℕ) → b < sz.N → cached sz d b ≡ true → get_or w b 0 < sz.W

-- a step wears a block that is not cached any more
pub stepped-below : (sz : Sizes) (d : Directory) → Sound sz d → (b f : ℕ) → Ready sz d b f → (w : List ℕ) → Below sz d w
    → Below sz (stepped sz d (due b f)) (worn_by w b)
stepped-below sz d s b f y w lo c l h = let q = cached-back sz d s b f y c l h in
    rw (worn_by-is sz s.limits w b y.b_lt, worn-other w b c q.1) (lo c l q.0)

module _ (pick : Choice) (picks : Picks pick) (sz : Sizes) where
  -- what c steps come to, where at most c blocks are cached
  pub record Cleaned (t t' : Tally) : Type 0 where
    pub numbers : Sound sz t'.state.directory
    pub void : Empty sz t'.state.directory
    pub rewrites-are : t'.rewrites ≡ count sz.N (cached sz t.state.directory) + t.rewrites
    pub wear-length : length t'.state.wear ≡ sz.N

  pub steps-clean : (c : ℕ) (t : Tally) → Sound sz t.state.directory → length t.state.wear ≡ sz.N
      → count sz.N (cached sz t.state.directory) ≤ c → Cleaned t (steps pick sz c t)
  unfolding steps
  steps-clean zero t s wl h = let e = none-empty sz t.state.directory s h in record {
    numbers = s;
    void = e;
    rewrites-are = (let k = empty-count sz t.state.directory s e in omega arith);
    wear-length = wl;
  }
  steps-clean (suc c) t s wl h = due-elim sz t.state.directory s pick picks
      (λ q. due_of pick sz t.state.directory ≡ q → Cleaned t (steps pick sz (suc c) t))
      (λ b f y e. rw (e, steps) (
      let d = t.state.directory in
      let t1 : Tally = record {
        state = record { directory = stepped sz d (due b f); wear = worn_by t.state.wear b };
        rewrites = suc t.rewrites;
        merges = merge_reads sz (joined sz d b f) f + t.merges;
      } in
      let l = cached-less sz d s b f y in
      let ih = steps-clean c t1 (stepped-sound sz d s b f y) (worn_by-length t.state.wear b ∙ wl) (omega arith) in
      record {
        numbers = ih.numbers;
        void = ih.void;
        rewrites-are = (let k = ih.rewrites-are in omega arith);
        wear-length = ih.wear-length;
      }))
      (λ q e. rw (e, steps)
      (record {
        numbers = s;
        void = q;
        rewrites-are = (let k = empty-count sz t.state.directory s q in omega arith);
        wear-length = wl;
      }))
      refl

  pub steps-within : (c : ℕ) (t : Tally) → Sound sz t.state.directory → length t.state.wear ≡ sz.N
      → Below sz t.state.directory t.state.wear → Within sz t.state.wear
      → Within sz (steps pick sz c t).state.wear
  unfolding steps
  steps-within zero t s wl lo hi = hi
  steps-within (suc c) t s wl lo hi = due-elim sz t.state.directory s pick picks
      (λ q. due_of pick sz t.state.directory ≡ q → Within sz (steps pick sz (suc c) t).state.wear)
      (λ b f y e. rw (e, steps) (
      let d = t.state.directory in let w = t.state.wear in let bl = y.b_lt in
      let is = worn_by-is sz s.limits w b bl in
      let now = lo b bl (cached-now sz d s b f y) in
      let t1 : Tally = record {
        state = record { directory = stepped sz d (due b f); wear = worn_by w b };
        rewrites = suc t.rewrites;
        merges = merge_reads sz (joined sz d b f) f + t.merges;
      } in
      steps-within c t1 (stepped-sound sz d s b f y) (worn_by-length w b ∙ wl)
      (stepped-below sz d s b f y w lo)
      (rw is (worn-within sz w b (omega arith) now hi))))
      (λ q e. rw (e, steps) hi)
      refl
