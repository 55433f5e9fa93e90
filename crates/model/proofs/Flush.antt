-- Reads, flush steps and flushes of a consistent store, and what rewrites do to flash and wear.
use mathlib.Core.Path.{◌≡◌, refl, sym, ap, ◌∙◌}
use mathlib.Core.Logic.{◌⊎◌, inl, inr}
use mathlib.Core.Bool.{false, cond}
use mathlib.Core.List.{List}
use Prim.Native.Nat.{ℕ, zero, suc, ◌+◌, ◌-◌, ◌*◌, ◌/◌, ◌%◌, ◌<◌}
use native.Mathlib.Omega.{arith}
use lib.Dec.{ltb, eqb}
use lib.ListN.{length, get_or}
use borrow.Author.Tests.{ltb-true, ltb-false, eqb-true, eqb-false, eq-eqb}
use Rattle.prelude.proofs.Tests.{by-test}
use Rattle.prelude.proofs.Scan.{first-hit}
use Rattle.prelude.proofs.Tab.{get_d_tab}
use Rattle.model.specs.Sizes.{Sizes}
use Rattle.model.specs.Directory.{Directory, frame_at, inFrame}
use Rattle.model.specs.Policy.{in_slots, frame_with, read_way, Choice, victim, Plan, evict, plan, erased_by, merge_reads, due, due_of}
use Rattle.model.specs.Moves.{Chip, Memory, cell_at, flash_page, programmed, worn_by, put_slot_page, put_frame_page, joined, joined_pages}
use Rattle.model.specs.Moves.{exchanged_pages, merged, rewritten_pages, read_directory, stepped, read_page, written_pages, stepped_pages}
use Rattle.model.specs.Calls.{Tally, steps, steps_pages}
use Rattle.model.specs.Lists.{Picks}
use Rattle.model.proofs.Soundness.{pages-small}
use Rattle.model.proofs.Lookup.{block-vacant, block-lt, offset_lt, page-split, found-slot, not-in_slots, in_block_lem, frame_has}
use Rattle.model.proofs.Lookup.{no-frame_with, some-pages}
use Rattle.model.proofs.Plan.{occupied-all, evict-pick, eviction_elim, plan-elim}
use Rattle.model.proofs.Reflects.{OwnAll}
use Rattle.model.proofs.Kept.{with-held}
use Rattle.model.proofs.Consistent.{Consistent, touched-good, step-good}
use Rattle.model.proofs.Steps.{Ready, Empty, ready-frame, due-elim, stepped-gone, worn-at, worn-other, worn_by-length, worn_by-is}

module _ {C A : Type 0} (chip : Chip C A) (filler : A) (sz : Sizes) (d : Directory) (m : Memory C A) (v : List A)
    (g : Consistent chip filler sz d m v) where
  -- a read gives the array's page
  pub read_is : (n : ℕ) → n < sz.N * sz.K → read_page chip filler sz d m n ≡ get_or v n filler
  unfolding read_page frame_with flash_page
  read_is n l = let u = g.numbers in by-test (in_slots sz d n)
      (λ e. let k = found-slot sz d n e in
      rw (e, read_page) (g.reflects.in_slot _ k.0 (rw k.1 (let s = pages-small sz u.limits in omega arith))
      ∙ ap (λ (x : ℕ). get_or v x filler) k.1))
      (λ e. rw (e, read_page) (by-test (ltb (frame_with sz d n) sz.B)
      (λ e'. let k = ltb-true (frame_with sz d n) sz.B e' in let q = frame_has sz d n _ (first-hit sz.B (inFrame sz d n) k) in
      rw e' (g.reflects.in_frame _ (n % sz.K) k (offset_lt sz u.limits n) q.1
      ∙ ap (λ (x : ℕ). get_or v x filler) (page-split sz u.limits n _ (sym q.0))))
      (λ e'. rw e' (g.reflects.in_flash n l (not-in_slots sz d n e) (no-frame_with sz d n (ltb-false (frame_with sz d n) sz.B e'))))))

  -- and leaves the store consistent
  pub read-good : (n : ℕ) → Consistent chip filler sz (read_directory sz d n) m v
  unfolding read_directory read_way
  read-good n = by-test (in_slots sz d n)
      (λ e. rw (e, read_directory, read_way) g)
      (λ e. rw (e, read_directory, read_way) (by-test (ltb (frame_with sz d n) sz.B)
      (λ e'. rw e' (let l = ltb-true (frame_with sz d n) sz.B e' in
      touched-good chip filler sz d m v g false (frame_with sz d n) l (with-held sz d g.numbers n l)))
      (λ e'. rw e' g)))

  -- with nothing cached, flash is the array
  pub empty-flash : Empty sz d → (n : ℕ) → n < sz.N * sz.K → flash_page chip filler m n ≡ get_or v n filler
  empty-flash e n nl = let u = g.numbers in g.reflects.in_flash n nl
      (λ i il q. let b : ℕ = n / sz.K in let s = pages-small sz u.limits in
      e.no-slots b (block-lt sz u.limits n nl) (some-pages sz d b i il (in_block_lem sz d b i (omega arith) (ap (λ (x : ℕ). x / sz.K) q))))
      (λ f fl q. e.no_frames f fl (rw (frame_has sz d n f q).0 (block-vacant sz u.limits _ (block-lt sz u.limits n nl))))

-- ---- what calls do to flash and wear

module _ {C A : Type 0} (chip : Chip C A) (filler : A) (sz : Sizes) (v : List A) where
  -- each block's wear has stayed and its cells of flash are as they were, or its wear has grown and they are the array's pages, programmed
  pub record Moved (m : Memory C A) (w : List ℕ) (m' : Memory C A) (w' : List ℕ) : Type 0 where
    pub page : (n : ℕ) → n < sz.N * sz.K
        → ((get_or w' (n / sz.K) 0 ≡ get_or w (n / sz.K) 0) × (cell_at chip filler m'.flash n ≡ cell_at chip filler m.flash n))
        ⊎ ((get_or w (n / sz.K) 0 < get_or w' (n / sz.K) 0) × (cell_at chip filler m'.flash n ≡ chip.cell (get_or v n filler)))

  pub moved_none : (m m' : Memory C A) (w : List ℕ) → m'.flash ≡ m.flash → Moved m w m' w
  moved_none m m' w e = record { page = λ n l. inl (refl, ap (λ (x : List C). cell_at chip filler x n) e) }

  pub moved_then : {m m' m'' : Memory C A} {w w' w'' : List ℕ} → Moved m w m' w' → Moved m' w' m'' w'' → Moved m w m'' w''
  moved_then {m} {m'} {m''} {w} {w'} {w''} p q = record {
    page = λ n l. elim (q.page n l) [
      | inl e ↦ elim (p.page n l) [
        | inl e' ↦ inl (e.0 ∙ e'.0, e.1 ∙ e'.1)
        | inr e' ↦
            inr ((let x = e.0 in let y = e'.0 in omega arith), e.1 ∙ e'.1)
      ]
      | inr e ↦ inr
          ((let x = e.0 in elim (p.page n l) [ inl e' ↦ (let y = e'.0 in omega arith) | inr e' ↦ (let y = e'.0 in omega arith) ]), e.1)
    ];
  }

module _ {C A : Type 0} (chip : Chip C A) (filler : A) (sz : Sizes) (d : Directory) (m : Memory C A) (own : OwnAll chip filler sz d m)
    (v : List A) (g : Consistent chip filler sz d m v) (w : List ℕ) (wl : length w ≡ sz.N) where
  -- a step programs the pages of one block
  stepped-cell : (b f n : ℕ) → n < sz.N * sz.K → cell_at chip filler (stepped_pages chip filler sz d m (due b f)).flash n
      ≡ cond (eqb (n / sz.K) b) (chip.cell (merged chip filler sz (joined sz d b f) (joined_pages filler sz d m b f) b f (n % sz.K)))
      (cell_at chip filler m.flash n)
  unfolding stepped_pages rewritten_pages programmed joined_pages cell_at
  stepped-cell b f n l = get_d_tab (sz.N * sz.K) _ (chip.cell filler) n l

  -- and they are the array's
  stepped-page : (b f : ℕ) → Ready sz d b f → (n : ℕ) → n < sz.N * sz.K → n / sz.K ≡ b
      → merged chip filler sz (joined sz d b f) (joined_pages filler sz d m b f) b f (n % sz.K) ≡ get_or v n filler
  unfolding flash_page
  stepped-page b f y n l e = let gone = stepped-gone sz d g.numbers b f y n l e in
      sym (ap chip.page (stepped-cell b f n l ∙ rw (eq-eqb _ b e)) ∙ own b f (n % sz.K))
      ∙ (step-good chip filler sz d m own v g b f y).reflects.in_flash n l gone.0 gone.1

  pub step-moved : (b f : ℕ) → Ready sz d b f → Moved chip filler sz v m w (stepped_pages chip filler sz d m (due b f)) (worn_by w b)
  step-moved b f y = record {
    page = λ n l. let limits = g.numbers.limits in let bl = y.b_lt in by-test (eqb (n / sz.K) b)
        (λ e. let e' = eqb-true (n / sz.K) b e in
        inr (
          rw (e', worn_by-is sz limits w b bl, worn-at w b (omega arith)) (omega arith),
          stepped-cell b f n l
              ∙ rw e (ap chip.cell (stepped-page b f y n l e')),
        ))
        (λ e. inl (rw (worn_by-is sz limits w b bl) (worn-other w b (n / sz.K) (eqb-false (n / sz.K) b e)), stepped-cell b f n l ∙ rw e));
  }

  module _ (pick : Choice) (picks : Picks pick) (n : ℕ) (x : A) where
    abbrev Moves : Plan → Type 0
    Moves p = Moved chip filler sz v m w (written_pages chip filler sz d m n x p) (worn_by w (erased_by d p))

    evict-moves : (b f : ℕ) → f < sz.B → frame_at d f < sz.N → Moves (evict b f)
    unfolding written_pages put_slot_page joined_pages
    evict-moves b f fl al = record {
      page = (step-moved (frame_at d f) f
          (ready-frame sz d g.numbers f fl (block-vacant sz g.numbers.limits (frame_at d f) al))).page;
    }

    pub write_moves : Moves (plan pick sz d w n)
    unfolding written_pages put_slot_page put_frame_page joined_pages exchanged_pages worn_by
    write_moves = let u = g.numbers in plan-elim pick sz d w Moves n
        (λ h. moved_none chip filler sz v m _ w refl)
        (λ h l. moved_none chip filler sz v m _ w refl)
        (λ h q l. moved_none chip filler sz v m _ w refl)
        (λ h q l. eviction_elim pick sz d w Moves (victim sz d)
        (λ e. moved_none chip filler sz v m _ w refl)
        (λ e o. moved_none chip filler sz v m _ w refl)
        (λ e o c. moved_none chip filler sz v m _ w refl)
        (λ e o c. let fl = evict-pick sz d u pick picks w in evict-moves (victim sz d) _ fl (occupied-all sz d u o _ fl)))

-- ---- the flush

module _ {C A : Type 0} (chip : Chip C A) (filler : A) (pick : Choice) (picks : Picks pick) (sz : Sizes) (v : List A) where
  pub record Flushed (t : Tally) (m : Memory C A) (t' : Tally) (m' : Memory C A) : Type 0 where
    pub good : Consistent chip filler sz t'.state.directory m' v
    pub moved : Moved chip filler sz v m t.state.wear m' t'.state.wear

  -- T holds of the pages at every step, and with it what is programmed is read as it is
  pub flush-all : (T : Memory C A → Type 0) → ((d : Directory) (m : Memory C A) → T m → OwnAll chip filler sz d m)
      → ((d : Directory) (m : Memory C A) (b f : ℕ) → T m → T (stepped_pages chip filler sz d m (due b f)))
      → (c : ℕ) (t : Tally) (m : Memory C A) → T m → Consistent chip filler sz t.state.directory m v → length t.state.wear ≡ sz.N
      → Flushed t m (steps pick sz c t) (steps_pages pick sz chip filler c t.state.directory m)
  unfolding steps steps_pages
  flush-all T owns keeps zero t m h g wl = record { good = g; moved = moved_none chip filler sz v m m t.state.wear refl }
  flush-all T owns keeps (suc c) t m h g wl = due-elim sz t.state.directory g.numbers pick picks
      (λ q. due_of pick sz t.state.directory ≡ q → Flushed t m (steps pick sz (suc c) t)
      (steps_pages pick sz chip filler (suc c) t.state.directory m))
      (λ b f y e. rw (e, steps, steps_pages) (
      let d = t.state.directory in let w = t.state.wear in
      let t1 : Tally = record {
        state = record { directory = stepped sz d (due b f); wear = worn_by w b };
        rewrites = suc t.rewrites;
        merges = merge_reads sz (joined sz d b f) f + t.merges;
      } in
      let ih = flush-all T owns keeps c t1 (stepped_pages chip filler sz d m (due b f)) (keeps d m b f h)
      (step-good chip filler sz d m (owns d m h) v g b f y) (worn_by-length w b ∙ wl) in
      record {
        good = ih.good;
        moved = moved_then chip filler sz v (step-moved chip filler sz d m (owns d m h) v g w wl b f y) ih.moved;
      }))
      (λ q e. rw (e, steps, steps_pages) (record { good = g; moved = moved_none chip filler sz v m m t.state.wear refl }))
      refl
