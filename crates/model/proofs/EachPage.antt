-- A page moves and is never made up: what holds of every page at opening and of every page written holds of every page.
-- the histories are checked before the proofs, so that a definition that breaks one is refused there
use Rattle.model.proofs.AuditClauses
use Rattle.model.proofs.AuditTable
use Rattle.model.proofs.AuditCells
use mathlib.Core.Path.{◌≡◌, refl}
use mathlib.Core.Bool.{Bool, true, false, cond, ◌&&◌}
use mathlib.Core.List.{List}
use Prim.Native.Nat.{ℕ, zero, suc, ◌+◌, ◌-◌, ◌*◌, ◌/◌, ◌%◌}
use lib.Dec.{ltb, eqb}
use lib.ListN.{length, get_or, set, get_or-eq_default}
use lib.Seq.{get_or-set_same, get_or-set_other, set_out}
use borrow.Author.Tests.{ltb-true, ltb-false, eqb-true, eqb-false}
use Rattle.prelude.specs.Scan.{tab}
use Rattle.prelude.specs.Bits.{bit}
use Rattle.prelude.proofs.Tests.{by-test}
use Rattle.prelude.proofs.Tab.{length-tab, get_d_tab}
use Rattle.model.specs.Sizes.{Sizes}
use Rattle.model.specs.Directory.{Directory, frame_at, valid_at}
use Rattle.model.specs.Policy.{in_block, slot_of, in_slots, frame_with, Choice, Plan, slot_hit, frame_hit, free_slot, join, fill, exchange}
use Rattle.model.specs.Policy.{evict, Due, clean, due, due_of}
use Rattle.model.specs.Moves.{Chip, Memory, cell_at, flash_page, programmed, put_slot_page, put_frame_page, filled, joined_pages, taken}
use Rattle.model.specs.Moves.{exchanged_pages, merged, rewritten_pages, stepped, read_page, written_pages, stepped_pages}
use Rattle.model.specs.Calls.{steps_pages}

due-cases : {X : Type 0} (e' : Due) → (e' ≡ clean → X) → ((b f : ℕ) → e' ≡ due b f → X) → X
due-cases clean p q = p refl
due-cases (due b f) p q = q b f refl

abbrev pub Each : {A : Type 0} → A → (A → Type 0) → List A → Type 0
Each filler Q l = (i : ℕ) → Q (get_or l i filler)

each-cond : {A : Type 0} (Q : A → Type 0) (t : Bool) (x y : A) → Q x → Q y → Q (cond t x y)
each-cond Q true x y hx hy = hx
each-cond Q false x y hx hy = hy

module _ {A : Type 0} (filler : A) (Q : A → Type 0) where
  each-tab : Q filler → (n : ℕ) (f : ℕ → A) → ((i : ℕ) → Q (f i)) → Each filler Q (tab n f)
  each-tab q n f h i = by-test (ltb i n)
      (λ e. rw (get_d_tab n f filler i (ltb-true i n e)) (h i))
      (λ e. rw (get_or-eq_default (tab n f) filler {n = i} (rw length-tab (ltb-false i n e))) q)

  each_set : (l : List A) (i : ℕ) (x : A) → Each filler Q l → Q x → Each filler Q (set l i x)
  each_set l i x h hx j = by-test (eqb j i)
      (λ e. by-test (ltb i (length l))
      (λ e'. rw (eqb-true j i e, get_or-set_same l i x filler (ltb-true i (length l) e')) hx)
      (λ e'. rw (set_out l i x (ltb-false i (length l) e')) (h j)))
      (λ e. rw (get_or-set_other l i j x filler (eqb-false j i e)) (h j))

-- R holds of every cell, and Q of every page
module _ {C A : Type 0} (chip : Chip C A) (filler : A) (R : C → Type 0) (Q : A → Type 0) where
  pub record EachM (m : Memory C A) : Type 0 where
    pub flash : Each (chip.cell filler) R m.flash
    pub pspace : Each filler Q m.pspace
    pub bspace : Each filler Q m.bspace

  module _ (q : Q filler) (kept : (x : A) → Q x → R (chip.cell x)) (given : (c : C) → R c → Q (chip.page c)) (sz : Sizes) where
    filled-each : (d : Directory) (m : Memory C A) (b f : ℕ) → EachM m → Each filler Q (filled filler sz d m b f)
    unfolding filled
    filled-each d m b f h = each-tab filler Q q (sz.B * sz.K) (λ k. cond (eqb (k / sz.K) f && in_slots sz d (b * sz.K + k % sz.K))
        (get_or m.pspace (slot_of sz d (b * sz.K + k % sz.K)) filler) (get_or m.bspace k filler))
        (λ k. each-cond Q (eqb (k / sz.K) f && in_slots sz d (b * sz.K + k % sz.K)) _ _ (h.pspace (slot_of sz d (b * sz.K + k % sz.K)))
        (h.bspace k))

    pub joined-each : (d : Directory) (m : Memory C A) (b f : ℕ) → EachM m → EachM (joined_pages filler sz d m b f)
    unfolding joined_pages
    joined-each d m b f h = record { flash = h.flash; pspace = h.pspace; bspace = filled-each d m b f h }

    exchanged-each : (d : Directory) (m : Memory C A) (b f : ℕ) → EachM m → EachM (exchanged_pages filler sz d m b f)
    unfolding exchanged_pages
    exchanged-each d m b f h = record {
      flash = h.flash;
      pspace = each-tab filler Q q sz.P (λ i. cond (in_block sz d b i && ltb (taken sz d b f i) sz.K)
          (get_or m.bspace (f * sz.K + taken sz d b f i) filler) (get_or m.pspace i filler))
          (λ i. each-cond Q (in_block sz d b i && ltb (taken sz d b f i) sz.K) _ _ (h.bspace (f * sz.K + taken sz d b f i))
          (h.pspace i));
      bspace = filled-each d m b f h;
    }

    pub merged-each : (d : Directory) (m : Memory C A) (b f o : ℕ) → EachM m → Q (merged chip filler sz d m b f o)
    unfolding merged flash_page cell_at
    merged-each d m b f o h = each-cond Q (bit (valid_at d f) o) _ _ (h.bspace (f * sz.K + o)) (given _ (h.flash (b * sz.K + o)))

    rewritten-each : (d : Directory) (m : Memory C A) (b f : ℕ) → EachM m → EachM (rewritten_pages chip filler sz d m b f)
    unfolding rewritten_pages programmed cell_at
    rewritten-each d m b f h = record {
      flash = each-tab (chip.cell filler) R (kept filler q) (sz.N * sz.K)
          (λ n. cond (eqb (n / sz.K) b) (chip.cell (merged chip filler sz d m b f (n % sz.K))) (get_or m.flash n (chip.cell filler)))
          (λ n. each-cond R (eqb (n / sz.K) b) _ _ (kept _ (merged-each d m b f (n % sz.K) h)) (h.flash n));
      pspace = h.pspace;
      bspace = each-tab filler Q q (sz.B * sz.K) (λ k. cond (eqb (k / sz.K) f) (merged chip filler sz d m b f (k % sz.K))
          (get_or m.bspace k filler)) (λ k. each-cond Q (eqb (k / sz.K) f) _ _ (merged-each d m b f (k % sz.K) h) (h.bspace k));
    }

    put-each : (m : Memory C A) (i : ℕ) (x : A) → EachM m → Q x → EachM (put_slot_page m i x)
    unfolding put_slot_page
    put-each m i x h hx = record { flash = h.flash; pspace = each_set filler Q m.pspace i x h.pspace hx; bspace = h.bspace }

    frame-page_each : (m : Memory C A) (i : ℕ) (x : A) → EachM m → Q x → EachM (put_frame_page m i x)
    unfolding put_frame_page
    frame-page_each m i x h hx = record { flash = h.flash; pspace = h.pspace; bspace = each_set filler Q m.bspace i x h.bspace hx }

    pub read-each : (d : Directory) (m : Memory C A) (n : ℕ) → EachM m → Q (read_page chip filler sz d m n)
    unfolding read_page flash_page cell_at
    read-each d m n h = by-test (in_slots sz d n)
        (λ e. rw (e, read_page) (h.pspace (slot_of sz d n)))
        (λ e. rw (e, read_page) (by-test (ltb (frame_with sz d n) sz.B) (λ e'. rw e' (h.bspace _)) (λ e'. rw e' (given _ (h.flash n)))))

    pub step-each : (d : Directory) (m : Memory C A) (e' : Due) → EachM m → EachM (stepped_pages chip filler sz d m e')
    unfolding stepped_pages
    step-each d m clean h = h
    step-each d m (due b f) h = rewritten-each _ _ b f (joined-each d m b f h)

    pub written-each : (d : Directory) (m : Memory C A) (n : ℕ) (x : A) (p : Plan) → EachM m → Q x
        → EachM (written_pages chip filler sz d m n x p)
    unfolding written_pages
    written-each d m n x (slot_hit i) h hx = put-each m i x h hx
    written-each d m n x (frame_hit f) h hx = frame-page_each m _ x h hx
    written-each d m n x (free_slot i) h hx = put-each m i x h hx
    written-each d m n x (join v f) h hx = put-each _ _ x (joined-each d m v f h) hx
    written-each d m n x (fill v f) h hx = put-each _ _ x (joined-each d m v f h) hx
    written-each d m n x (exchange v f) h hx = put-each _ _ x (exchanged-each d m v f h) hx
    written-each d m n x (evict v f) h hx = put-each _ _ x (joined-each (stepped sz d (due (frame_at d f) f)) _ v f
        (step-each d m (due (frame_at d f) f) h)) hx

    pub flush-each : (pick : Choice) (c : ℕ) (d : Directory) (m : Memory C A) → EachM m → EachM (steps_pages pick sz chip filler c d m)
    unfolding steps_pages
    flush-each pick zero d m h = h
    flush-each pick (suc c) d m h = due-cases (due_of pick sz d)
        (λ e. rw (e, steps_pages) h)
        (λ b f e. rw (e, steps_pages) (flush-each pick c _ _ (step-each d m (due b f) h)))
