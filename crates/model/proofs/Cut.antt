-- A call that is cut off leaves every block but one as it was or as its rewrite leaves it, and that one half programmed; with enough
-- operations it is the whole call.
use mathlib.Core.Path.{◌≡◌, refl, sym, ◌∙◌}
use mathlib.Core.Logic.{◌⊎◌, inl, inr}
use mathlib.Core.Bool.{true, false, cond, ◌&&◌}
use mathlib.Core.List.{List}
use Prim.Native.Nat.{ℕ, zero, suc, ◌+◌, ◌-◌, ◌*◌, ◌/◌, ◌%◌, ◌≤◌, ◌<◌}
use native.Mathlib.Omega.{arith}
use lib.Dec.{leb, ltb, eqb}
use lib.ListN.{length, get_or}
use borrow.Author.Tests.{eqb-true, eqb-false, eq-eqb, ne_eqb, lt-ltb, lt-leb}
use Rattle.prelude.proofs.Tests.{by-test, clash}
use Rattle.prelude.proofs.Tab.{get_d_tab}
use Rattle.model.specs.Sizes.{Sizes, vacant}
use Rattle.model.specs.Directory.{Directory, frame_at}
use Rattle.model.specs.Soundness.{Sound}
use Rattle.model.specs.Policy.{Choice, Plan, slot_hit, frame_hit, free_slot, join, fill, exchange, evict, plan, Due, clean, due}
use Rattle.model.specs.Policy.{due_of, cached, is_worn, lowest_worn, erased_by, merge_reads}
use Rattle.model.specs.Moves.{Chip, Memory, cell_at, programmed, programmed_to, worn_by, put_slot_page, put_frame_page, joined}
use Rattle.model.specs.Moves.{joined_pages}
use Rattle.model.specs.Moves.{exchanged_pages, merged, rewritten_pages, stepped, stepped_pages, written_pages}
use Rattle.model.specs.Calls.{is_refused, Outcome, checked, read_outcome, write_outcome, part_outcome, step_outcome, Tally, steps}
use Rattle.model.specs.Calls.{flush_outcome, decide, told}
use Rattle.model.specs.Calls.{Call, read, write, part, step, flush, State, Page, no_bytes, steps_pages, call_pages}
use Rattle.model.specs.Lists.{Picks}
use Rattle.model.specs.Cut.{Left, cut_rewrite, cut_step, cut_write, cut_steps, cut_call, operations, BlockAs, CutShort}
use Rattle.model.proofs.Lookup.{block-lt}
use Rattle.model.proofs.Steps.{due-elim, stepped-sound, cached-now, cached-back, worn-other}
use Rattle.model.proofs.Parts.{programmed_to-all}

-- the wear of another block stays
worn_by-other : (w : List ℕ) (b c : ℕ) → (c ≡ b → ⊥) → get_or (worn_by w b) c 0 ≡ get_or w c 0
unfolding worn_by
worn_by-other w b c ne = by-test (ltb b vacant) (λ t. rw t (worn-other w b c ne)) (λ t. rw t)

-- the wear after a step
abbrev pub step_wear : List ℕ → Due → List ℕ
step_wear w clean = w
step_wear w (due b f) = worn_by w b

module _ {C A : Type 0} (chip : Chip C A) (filler : A) (sz : Sizes) where
  abbrev at : List C → ℕ → C
  at fl n = cell_at chip filler fl n

  -- cell n after a step
  stepped-at : (d : Directory) (m : Memory C A) (b f n : ℕ) → n < sz.N * sz.K → at (stepped_pages chip filler sz d m (due b f)).flash n
      ≡ cond (eqb (n / sz.K) b) (chip.cell (merged chip filler sz (joined sz d b f) (joined_pages filler sz d m b f) b f (n % sz.K)))
      (at m.flash n)
  unfolding stepped_pages rewritten_pages programmed joined_pages cell_at
  stepped-at d m b f n l = get_d_tab (sz.N * sz.K) _ (chip.cell filler) n l

  -- cells of other blocks stay
  pub stepped-other : (d : Directory) (m : Memory C A) (b f n : ℕ) → n < sz.N * sz.K → (n / sz.K ≡ b → ⊥)
      → at (stepped_pages chip filler sz d m (due b f)).flash n ≡ at m.flash n
  stepped-other d m b f n l ne = stepped-at d m b f n l ∙ rw (ne_eqb _ b ne)

  module _ (ops : ℕ) (d : Directory) (w : List ℕ) (m : Memory C A) (b f : ℕ) where
    cut_at : (n : ℕ) → n < sz.N * sz.K → at (cut_rewrite chip filler sz ops d w m b f).flash n
        ≡ cond (ltb 0 ops && eqb (n / sz.K) b) (cond (ltb (suc (n % sz.K)) ops)
        (chip.cell (merged chip filler sz (joined sz d b f) (joined_pages filler sz d m b f) b f (n % sz.K))) chip.erased)
        (at m.flash n)
    unfolding cut_rewrite programmed_to cell_at
    cut_at n l = get_d_tab (sz.N * sz.K) _ (chip.cell filler) n l

    cut-other : (n : ℕ) → n < sz.N * sz.K → (n / sz.K ≡ b → ⊥) → at (cut_rewrite chip filler sz ops d w m b f).flash n ≡ at m.flash n
    cut-other n l ne = cut_at n l ∙ by-test (ltb 0 ops) (λ t. rw (t, ne_eqb (n / sz.K) b ne)) (λ t. rw t)

    -- before the erasure
    cut-none : ltb 0 ops ≡ false → (n : ℕ) → n < sz.N * sz.K → at (cut_rewrite chip filler sz ops d w m b f).flash n ≡ at m.flash n
    cut-none t n l = cut_at n l ∙ rw t

    -- after it
    cut-some : ltb 0 ops ≡ true → (n : ℕ) → n < sz.N * sz.K → n / sz.K ≡ b
        → (at (cut_rewrite chip filler sz ops d w m b f).flash n ≡ at (stepped_pages chip filler sz d m (due b f)).flash n)
        ⊎ (at (cut_rewrite chip filler sz ops d w m b f).flash n ≡ chip.erased)
    cut-some t n l e = by-test (ltb (suc (n % sz.K)) ops)
        (λ q. inl (cut_at n l ∙ rw (t, eq-eqb _ b e, q) (sym (stepped-at d m b f n l ∙ rw (eq-eqb _ b e)))))
        (λ q. inr (cut_at n l ∙ rw (t, eq-eqb _ b e, q)))

    -- with l₁ what the whole call leaves, where the block is as its rewrite leaves it
    cut_short : (l₁ : Left C) → ((n : ℕ) → n < sz.N * sz.K → n / sz.K ≡ b
        → at (stepped_pages chip filler sz d m (due b f)).flash n ≡ at l₁.flash n)
        → get_or (worn_by w b) b 0 ≡ get_or l₁.wear b 0
        → CutShort chip filler sz (record { flash = m.flash; wear = w }) l₁ (cut_rewrite chip filler sz ops d w m b f)
    unfolding cut_rewrite
    cut_short l₁ h hw = record {
      under = b;
      others = λ c cl ne. inl (
        (λ n l e. cut-other n l (λ q. ne (sym e ∙ q))),
        by-test (ltb 0 ops) (λ t. rw t (worn_by-other w b c ne))
            (λ t. rw t),
      );
      in_under = by-test (ltb 0 ops)
          (λ t. inr ((λ n l e. elim (cut-some t n l e) [ inl q ↦ inl (q ∙ h n l e) | inr q ↦ inr q ]), rw t hw))
          (λ t. inl ((λ n l e. cut-none t n l), rw t));
    }

  -- nothing is under way
  pub cut-nothing : (l l₁ : Left C) → CutShort chip filler sz l l₁ l
  cut-nothing l l₁ = record {
    under = 0;
    others = λ b bl ne. inl ((λ n nl e. refl), refl);
    in_under = inl ((λ n nl e. refl), refl);
  }

  module _ (pick : Choice) (picks : Picks pick) where
    -- a block that is not cached is not rewritten by a flush
    untouched : (c : ℕ) (d : Directory) (m : Memory C A) → Sound sz d → (n : ℕ) → n < sz.N * sz.K → n / sz.K < sz.N
        → cached sz d (n / sz.K) ≡ false
        → at (steps_pages pick sz chip filler c d m).flash n ≡ at m.flash n
    unfolding steps_pages
    untouched zero d m s n l bl h = refl
    untouched (suc c) d m s n l bl h = due-elim sz d s pick picks
        (λ q. due_of pick sz d ≡ q → at (steps_pages pick sz chip filler (suc c) d m).flash n ≡ at m.flash n)
        (λ b f y e. rw (e, steps_pages) (
        untouched c (stepped sz d (due b f)) (stepped_pages chip filler sz d m (due b f)) (stepped-sound sz d s b f y) n l bl
        (by-test (cached sz (stepped sz d (due b f)) (n / sz.K)) (λ t. absurd (clash (cached-back sz d s b f y (n / sz.K) bl t).0 h))
        (λ t. t))
        ∙ stepped-other d m b f n l (λ q. clash (rw q (cached-now sz d s b f y)) h)))
        (λ q e. rw (e, steps_pages))
        refl

    -- nor is it worn by one
    unworn : (c : ℕ) (t : Tally) → Sound sz t.state.directory → (b : ℕ) → b < sz.N → cached sz t.state.directory b ≡ false
        → get_or (steps pick sz c t).state.wear b 0 ≡ get_or t.state.wear b 0
    unfolding steps
    unworn zero t s x xl h = refl
    unworn (suc c) t s x xl h = let d = t.state.directory in due-elim sz d s pick picks
        (λ q. due_of pick sz d ≡ q → get_or (steps pick sz (suc c) t).state.wear x 0 ≡ get_or t.state.wear x 0)
        (λ b f y e. rw (e, steps) (
        unworn c _ (stepped-sound sz d s b f y) x xl
        (by-test (cached sz (stepped sz d (due b f)) x) (λ u. absurd (clash (cached-back sz d s b f y x xl u).0 h)) (λ u. u))
        ∙ worn_by-other t.state.wear b x (λ q. clash (rw q (cached-now sz d s b f y)) h)))
        (λ q e. rw (e, steps))
        refl

    flush-cut : (c ops : ℕ) (t : Tally) (m : Memory C A) → Sound sz t.state.directory
        → ((n : ℕ) → n < sz.N * sz.K → n / sz.K < sz.N)
        → CutShort chip filler sz (record { flash = m.flash; wear = t.state.wear }) (record {
          flash = (steps_pages pick sz chip filler c t.state.directory m).flash;
          wear = (steps pick sz c t).state.wear;
        }) (cut_steps chip filler sz pick c ops t.state.directory t.state.wear m)
    unfolding steps_pages steps cut_steps
    flush-cut zero ops t m s bl = cut-nothing _ _
    flush-cut (suc c) ops t m s bl = let d = t.state.directory in let w = t.state.wear in due-elim sz d s pick picks
        (λ q. due_of pick sz d ≡ q → CutShort chip filler sz (record { flash = m.flash; wear = w }) (record {
          flash = (steps_pages pick sz chip filler (suc c) d m).flash;
          wear = (steps pick sz (suc c) t).state.wear;
        }) (cut_steps chip filler sz pick (suc c) ops d w m))
        (λ b f y e. rw (e, steps_pages, steps, cut_steps) (
        let d1 = stepped sz d (due b f) in let m1 = stepped_pages chip filler sz d m (due b f) in let s1 = stepped-sound sz d s b f y in
        let t1 : Tally = record {
          state = record { directory = d1; wear = worn_by w b };
          rewrites = suc t.rewrites;
          merges = merge_reads sz (joined sz d b f) f + t.merges;
        } in
        let fin : Left C = record { flash = (steps_pages pick sz chip filler c d1 m1).flash; wear = (steps pick sz c t1).state.wear } in
        let gone : cached sz d1 b ≡ false = by-test (cached sz d1 b) (λ u. absurd ((cached-back sz d s b f y b y.b_lt u).1 refl))
        (λ u. u) in
        let later : (n : ℕ) → n < sz.N * sz.K → n / sz.K ≡ b → at m1.flash n
        ≡ at fin.flash n = (λ n l q. sym (untouched c d1 m1 s1 n l (bl n l) (rw q gone))) in
        let wears : get_or (worn_by w b) b 0 ≡ get_or fin.wear b 0 = sym (unworn c t1 s1 b y.b_lt gone) in
        by-test (leb ops sz.K)
        (λ u. rw u (cut_short ops d w m b f fin later wears))
        (λ u. rw u (
        let ih = flush-cut c (ops - suc sz.K) t1 m1 s1 bl in
        let l' : Left C = cut_steps chip filler sz pick c (ops - suc sz.K) d1 (worn_by w b) m1 in
        let old : Left C = record { flash = m.flash; wear = w } in
        let mid : Left C = record { flash = m1.flash; wear = worn_by w b } in
        let back : (x : ℕ) → BlockAs chip filler sz old fin l' mid x
        → BlockAs chip filler sz old fin l' old x ⊎ BlockAs chip filler sz old fin l' fin x =
        (λ x k. by-test (eqb x b)
        (λ q. inr (
          (λ n l u. k.0 n l u ∙ later n l (u ∙ eqb-true x b q)),
          k.1 ∙ rw (eqb-true x b q) wears,
        ))
        (λ q. inl (
          (λ n l u. k.0 n l u ∙ stepped-other d m b f n l (λ v. eqb-false x b q (sym u ∙ v))),
          k.1 ∙ worn_by-other w b x (eqb-false x b q),
        ))) in
        record {
          under = ih.under;
          others = λ x xl ne. elim (ih.others x xl ne) [ inl k ↦ back x k | inr k ↦ inr k ];
          in_under = elim ih.in_under [
            | inl k ↦ elim (back ih.under k) [ inl z ↦ inl z | inr z ↦ inr ((λ n l u. inl (z.0 n l u)), z.1) ]
            | inr k ↦ inr k
          ];
        }))))
        (λ q e. rw (e, steps_pages, steps, cut_steps) (cut-nothing _ _))
        refl

  step_cut : (ops : ℕ) (d : Directory) (w : List ℕ) (m : Memory C A) (q : Due)
      → CutShort chip filler sz (record { flash = m.flash; wear = w }) (record {
        flash = (stepped_pages chip filler sz d m q).flash;
        wear = step_wear w q;
      }) (cut_step chip filler sz ops d w m q)
  unfolding cut_step stepped_pages
  step_cut ops d w m clean = cut-nothing _ _
  step_cut ops d w m (due b f) = cut_short ops d w m b f _ (λ n l e. refl) refl

  write-cut : (ops : ℕ) (d : Directory) (w : List ℕ) (m : Memory C A) (n : ℕ) (x : A) (p : Plan)
      → CutShort chip filler sz (record { flash = m.flash; wear = w }) (record {
        flash = (written_pages chip filler sz d m n x p).flash;
        wear = worn_by w (erased_by d p);
      }) (cut_write chip filler sz ops d w m p)
  unfolding cut_write written_pages put_slot_page put_frame_page joined_pages exchanged_pages
  write-cut ops d w m n x (slot_hit i) = cut-nothing _ _
  write-cut ops d w m n x (frame_hit f) = cut-nothing _ _
  write-cut ops d w m n x (free_slot i) = cut-nothing _ _
  write-cut ops d w m n x (join v f) = cut-nothing _ _
  write-cut ops d w m n x (fill v f) = cut-nothing _ _
  write-cut ops d w m n x (exchange v f) = cut-nothing _ _
  write-cut ops d w m n x (evict v f) = cut_short ops d w m (frame_at d f) f _ (λ n l e. refl) refl

-- ---- the whole call

-- flash and wear after an accepted call
module _ {C : Type 0} (chip : Chip C Page) (filler : Page) (pick : Choice) (sz : Sizes) (k : State) (m : Memory C Page) where
  abbrev planned : ℕ → Plan
  planned n = plan pick sz k.directory k.wear n

  abbrev pub wear_after : Call Page → List ℕ
  wear_after (read n x) = k.wear
  wear_after (write n x) = worn_by k.wear (erased_by k.directory (planned n))
  wear_after (part n first x page) = cond (no_bytes x) k.wear (worn_by k.wear (erased_by k.directory (planned n)))
  wear_after step = step_wear k.wear (due_of pick sz k.directory)
  wear_after flush = (steps pick sz sz.N (record { state = k; rewrites = 0; merges = 0 })).state.wear

  abbrev pub whole_left : Call Page → Left C
  whole_left c = record { flash = (call_pages chip filler pick sz k m c).flash; wear = wear_after c }

  -- the wear is what an accepted call leaves
  checked-wear : (n long : ℕ) (o : Outcome) (w : List ℕ) → (is_refused o.answer ≡ false → o.state.wear ≡ w)
      → is_refused (checked sz k n long o).answer ≡ false → (checked sz k n long o).state.wear ≡ w
  unfolding checked
  checked-wear n long o w h = by-test (eqb long sz.S)
      (λ e. rw (e, checked) (by-test (ltb n (sz.N * sz.K)) (λ q. rw q h) (λ q. rw q (λ a. clash refl a))))
      (λ e. rw (e, checked) (λ a. clash refl a))

  write-wear : (n : ℕ) (p : Plan) → is_refused (write_outcome sz k n p).answer ≡ false
      → (write_outcome sz k n p).state.wear ≡ worn_by k.wear (erased_by k.directory p)
  unfolding write_outcome
  write-wear n p = by-test (is_worn sz k.wear (erased_by k.directory p))
      (λ t. rw (t, write_outcome) (λ a. clash refl a)) (λ t. rw (t, write_outcome) (λ a. refl))

  step-wear : (q : Due) → is_refused (step_outcome sz k q).answer ≡ false → (step_outcome sz k q).state.wear ≡ step_wear k.wear q
  unfolding step_outcome
  step-wear clean = λ a. refl
  step-wear (due b f) = by-test (is_worn sz k.wear b) (λ t. rw (t, step_outcome) (λ a. clash refl a)) (λ t. rw (t, step_outcome)
      (λ a. refl))

  pub wear-after : (c : Call Page) → is_refused (decide pick sz k (told c)).answer ≡ false → (decide pick sz k (told c)).state.wear
      ≡ wear_after c
  unfolding decide read_outcome part_outcome flush_outcome
  wear-after (read n x) = checked-wear n (length x) _ k.wear (λ a. refl)
  wear-after (write n x) = checked-wear n (length x) _ _ (write-wear n (planned n))
  wear-after (part n first x page) = checked-wear n (length page) _ _ (by-test (leb (first + length x) sz.S)
      (λ e. rw (e, part_outcome) (by-test (eqb (length x) 0) (λ q. rw q (λ a. refl)) (λ q. rw q (write-wear n (planned n)))))
      (λ e. rw (e, part_outcome) (λ a. clash refl a)))
  wear-after step = step-wear (due_of pick sz k.directory)
  wear-after flush = by-test (ltb (lowest_worn sz k.directory k.wear) sz.N)
      (λ t. rw (t, flush_outcome) (λ a. clash refl a)) (λ t. rw (t, flush_outcome) (λ a. refl))

-- request A12: whatever call is cut off, after however many chip operations
module _ {C : Type 0} (chip : Chip C Page) (filler : Page) (pick : Choice) (picks : Picks pick) (sz : Sizes) (k : State)
    (s : Sound sz k.directory) (m : Memory C Page) where
  pub call-cut : (ops : ℕ) (c : Call Page) → CutShort chip filler sz (record { flash = m.flash; wear = k.wear })
      (whole_left chip filler pick sz k m c) (cut_call chip filler pick sz ops k m c)
  unfolding call_pages cut_call
  call-cut ops (read n x) = cut-nothing chip filler sz _ _
  call-cut ops (write n x) = write-cut chip filler sz ops k.directory k.wear m n x _
  call-cut ops (part n first x page) = by-test (no_bytes x)
      (λ e. rw (e, call_pages, cut_call) (cut-nothing chip filler sz _ _))
      (λ e. rw (e, call_pages, cut_call) (write-cut chip filler sz ops k.directory k.wear m n _ _))
  call-cut ops step = step_cut chip filler sz ops k.directory k.wear m _
  call-cut ops flush = flush-cut chip filler sz pick picks sz.N ops _ m s (λ n l. block-lt sz s.limits n l)

  -- ---- with enough operations the cut call is the whole call

  module _ (ops : ℕ) (enough : suc sz.K ≤ ops) where
    rewrite_all : (d : Directory) (w : List ℕ) (m : Memory C Page) (b f : ℕ) → cut_rewrite chip filler sz ops d w m b f
        ≡ record { flash = (stepped_pages chip filler sz d m (due b f)).flash; wear = worn_by w b }
    unfolding cut_rewrite stepped_pages rewritten_pages joined_pages
    rewrite_all d w m b f = rw (
      programmed_to-all chip filler sz s.limits m.flash b
          (merged chip filler sz (joined sz d b f) (joined_pages filler sz d m b f) b f) ops enough,
      lt-ltb 0 ops (omega arith),
    )

    write-all : (d : Directory) (w : List ℕ) (n : ℕ) (x : Page) (p : Plan) → cut_write chip filler sz ops d w m p
        ≡ record { flash = (written_pages chip filler sz d m n x p).flash; wear = worn_by w (erased_by d p) }
    unfolding cut_write written_pages put_slot_page put_frame_page joined_pages exchanged_pages worn_by
    write-all d w n x (slot_hit i) = refl
    write-all d w n x (frame_hit f) = refl
    write-all d w n x (free_slot i) = refl
    write-all d w n x (join v f) = refl
    write-all d w n x (fill v f) = refl
    write-all d w n x (exchange v f) = refl
    write-all d w n x (evict v f) = rewrite_all d w m (frame_at d f) f

    step-all : (d : Directory) (w : List ℕ) (q : Due) → cut_step chip filler sz ops d w m q
        ≡ record { flash = (stepped_pages chip filler sz d m q).flash; wear = step_wear w q }
    unfolding cut_step stepped_pages
    step-all d w clean = refl
    step-all d w (due b f) = rewrite_all d w m b f

  abbrev FlushWhole : ℕ → ℕ → Tally → Memory C Page → Type 0
  FlushWhole c ops t m = cut_steps chip filler sz pick c ops t.state.directory t.state.wear m ≡ record {
    flash = (steps_pages pick sz chip filler c t.state.directory m).flash;
    wear = (steps pick sz c t).state.wear;
  }

  flush-more : (c ops : ℕ) (t : Tally) (m : Memory C Page) → suc c * suc sz.K ≤ ops
      → ((ops' : ℕ) (t' : Tally) (m' : Memory C Page) → c * suc sz.K ≤ ops' → FlushWhole c ops' t' m')
      → (q : Due) → due_of pick sz t.state.directory ≡ q → FlushWhole (suc c) ops t m
  unfolding steps_pages steps cut_steps
  flush-more c ops t m l ih clean e = rw (e, steps_pages, steps, cut_steps)
  flush-more c ops t m l ih (due b f) e = rw (e, steps_pages, steps, cut_steps) (rw (lt-leb ops sz.K (omega arith)) (
      let d = t.state.directory in ih (ops - suc sz.K) (record {
        state = record { directory = stepped sz d (due b f); wear = worn_by t.state.wear b };
        rewrites = suc t.rewrites;
        merges = merge_reads sz (joined sz d b f) f + t.merges;
      }) (stepped_pages chip filler sz d m (due b f)) (omega arith)))

  flush-whole : (c ops : ℕ) (t : Tally) (m : Memory C Page) → c * suc sz.K ≤ ops → FlushWhole c ops t m
  unfolding steps_pages steps cut_steps
  flush-whole zero ops t m l = refl
  flush-whole (suc c) ops t m l = flush-more c ops t m l (λ ops' t' m' k. flush-whole c ops' t' m' k) _ refl

  pub call-whole : (ops : ℕ) (c : Call Page) → operations sz c ≤ ops → cut_call chip filler pick sz ops k m c
      ≡ whole_left chip filler pick sz k m c
  unfolding call_pages cut_call
  call-whole ops (read n x) l = refl
  call-whole ops (write n x) l = write-all ops l k.directory k.wear n x _
  call-whole ops (part n first x page) l = by-test (no_bytes x)
      (λ e. rw (e, call_pages, cut_call))
      (λ e. rw (e, call_pages, cut_call) (write-all ops l k.directory k.wear n _ _))
  call-whole ops step l = step-all ops l k.directory k.wear _
  call-whole ops flush l = flush-whole sz.N ops (record { state = k; rewrites = 0; merges = 0 }) m l
