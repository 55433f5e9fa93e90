-- A page read from a slot, from a frame and from flash.
use mathlib.Core.Path.{◌≡◌, refl, sym, ap, ◌∙◌}
use mathlib.Core.Bool.{true, false, cond}
use mathlib.Core.List.{List, append-nil}
use Prim.Native.Nat.{ℕ, ◌+◌, ◌*◌, ◌%◌, ◌<◌}
use native.Mathlib.Nat.{zero-mul, zero-add}
use native.Mathlib.Omega.{arith}
use lib.Arith.{digits_lt}
use lib.Dec.{ltb, eqb}
use lib.ListN.{length, get_or}
use lib.Seq.{drop-length}
use borrow.Author.Tests.{ltb-true, lt-ltb, le-ltb, eqb-true, eq-eqb, ne_eqb}
use Rattle.prelude.specs.Pages.{page_at, put_page, pages_of}
use Rattle.prelude.proofs.Tests.{by-test}
use Rattle.prelude.proofs.Pages.{in_run, page-at}
use Rattle.page.specs.Page.{HasPage}
use Rattle.std.specs.Prelude.{Option, None, Some}
use Rattle.model.specs.Sizes.{Sizes, InLimits}
use Rattle.model.specs.Directory.{Directory}
use Rattle.model.specs.Policy.{slot_of, in_slots, frame_with, read_way}
use Rattle.model.specs.Moves.{read_page, flash_page, read_directory, touched}
use Rattle.model.specs.Calls.{zero_page, reads_page}
use Rattle.model.proofs.Lookup.{offset_lt}
use Rattle.reads.specs.Reads.{Readable, Peeked, fault_read, mends_read}
use Rattle.answer.specs.Numbers.{fault_number}
use Rattle.answer.specs.declared.way.ReadWay.TheVariants as ways
use Rattle.chip.specs.declared.Seen.{Seen}
use Rattle.chip.specs.Chip as chips
use Rattle.chip.specs.Chip.{fault_on, mends_on}
use Rattle.chip.proofs.Looking.{fault-none, mends-none, fault-one, mends-one}

-- a page put over a whole page buffer
pub put_whole : (s : ℕ) (l pg : List ℕ) → length l ≡ s → put_page s l 0 pg ≡ pg
unfolding put_page
put_whole s l pg e = rw (zero-mul s, zero-add s, ← e, drop-length l) (append-nil pg)

-- ---- what a read meets: the one page, or nothing

module _ (sz : Sizes) (d : Directory) (flash codes marks : List ℕ) (n : ℕ) where
  not-read : eqb (read_way sz d n) 3 ≡ false → (i : ℕ) → reads_page sz d n i ≡ false
  unfolding reads_page
  not-read w i = rw w (by-test (eqb i n) (λ e. rw e) (λ e. rw e))

  pub no-fault_read : eqb (read_way sz d n) 3 ≡ false → fault_read sz d flash codes marks n ≡ 0
  no-fault_read w = fault-none sz flash codes marks (reads_page sz d n) (not-read w)

  pub no-mends_read : eqb (read_way sz d n) 3 ≡ false → mends_read sz d flash codes marks n ≡ 0
  no-mends_read w = mends-none sz flash codes marks (reads_page sz d n) (not-read w)

  module _ (w : eqb (read_way sz d n) 3 ≡ true) (l : n < sz.N * sz.K) where
    is_read_lem : reads_page sz d n n ≡ true
    unfolding reads_page
    is_read_lem = rw (w, eq-eqb n n refl)

    other-read : (i : ℕ) → (i ≡ n → ⊥) → reads_page sz d n i ≡ false
    unfolding reads_page
    other-read i e = rw (ne_eqb i n e)

    pub one-fault : fault_read sz d flash codes marks n ≡ fault_on sz flash codes marks n
    one-fault = fault-one sz flash codes marks (reads_page sz d n) n l is_read_lem other-read

    pub one-mends : mends_read sz d flash codes marks n ≡ mends_on sz flash codes marks n
    one-mends = mends-one sz flash codes marks (reads_page sz d n) n l is_read_lem other-read

-- ---- what is copied lies in the buffers

module _ (sz : Sizes) (pspace bspace : List ℕ) (n : ℕ) (page : List ℕ) (limits : InLimits sz) (q : Readable sz pspace bspace n page) where
  frame-page_lt : (f : ℕ) → f < sz.B → f * sz.K + n % sz.K < sz.B * sz.K
  frame-page_lt f l = digits_lt l (offset_lt sz limits n)

  pub has-frame_page : (f : ℕ) → f < sz.B → HasPage sz.S bspace (f * sz.K + n % sz.K)
  has-frame_page f l = in_run sz.S (sz.B * sz.K) bspace q.bspace-length (frame-page_lt f l)

  pub has-buffer : HasPage sz.S page 0
  has-buffer = let e = q.page-length in rw (zero-mul sz.S) (omega arith)

  -- ---- by what the searches found and what was copied

  module _ (flash codes marks : List ℕ) (d : Directory) where
    pub from-slot : (i : ℕ) (page' : List ℕ) → i ≡ slot_of sz d n → i < sz.P
        → page' ≡ put_page sz.S page 0 (page_at sz.S pspace i) → Peeked sz d flash codes marks pspace bspace n page
        (record { answered = record { way = ways.Slot; fault = None; mends = 0 }; frame = None }) page'
    unfolding read_page in_slots read_way
    from-slot i page' ei l ep =
        let e : ltb (slot_of sz d n) sz.P ≡ true = lt-ltb (slot_of sz d n) sz.P (rw (sym ei) l) in
        let way : read_way sz d n ≡ 1 = rw (e, read_way) in
        let w : eqb (read_way sz d n) 3 ≡ false = rw way in
        record {
          frame_is = rw way;
          gave = record {
            way-is = sym way;
            fault-is = sym (no-fault_read sz d flash codes marks n w);
            mends-are = sym (no-mends_read sz d flash codes marks n w);
            page-is = rw (e, read_page) (ep ∙ put_whole sz.S page _ q.page-length ∙ sym (page-at sz.S sz.P pspace (zero_page sz) i l)
                ∙ ap (λ (x : ℕ). get_or (pages_of sz.S sz.P pspace) x (zero_page sz)) ei);
          };
        }

    module _ (missed : sz.P ≡ slot_of sz d n) where
      pub from-frame : (f o : ℕ) (page' : List ℕ) → f ≡ frame_with sz d n → f < sz.B → o ≡ n % sz.K
          → page' ≡ put_page sz.S page 0 (page_at sz.S bspace (f * sz.K + o)) → Peeked sz d flash codes marks pspace bspace n page
          (record { answered = record { way = ways.Frame; fault = None; mends = 0 }; frame = Some f }) page'
      unfolding read_page in_slots read_way
      from-frame f o page' ef l eo ep =
          let e : ltb (slot_of sz d n) sz.P ≡ false = le-ltb (slot_of sz d n) sz.P (omega arith) in
          let g : ltb (frame_with sz d n) sz.B ≡ true = lt-ltb (frame_with sz d n) sz.B (rw (sym ef) l) in
          let way : read_way sz d n ≡ 2 = rw (e, read_way) (rw g) in
          let w : eqb (read_way sz d n) 3 ≡ false = rw way in
          record {
            frame_is = rw way (ap Some ef);
            gave = record {
              way-is = sym way;
              fault-is = sym (no-fault_read sz d flash codes marks n w);
              mends-are = sym (no-mends_read sz d flash codes marks n w);
              page-is = rw (e, read_page) (rw g (ep ∙ put_whole sz.S page _ q.page-length
                  ∙ ap (λ (x : ℕ). page_at sz.S bspace (f * sz.K + x)) eo
                  ∙ sym (page-at sz.S (sz.B * sz.K) bspace (zero_page sz) _ (frame-page_lt f l))
                  ∙ ap (λ (x : ℕ). get_or (pages_of sz.S (sz.B * sz.K) bspace) (x * sz.K + n % sz.K) (zero_page sz)) ef));
            };
          }

      pub from-flash : (seen : Seen) (page' : List ℕ) → sz.B ≡ frame_with sz d n
          → chips.ReadOut sz flash codes marks n page 0 seen page' → Peeked sz d flash codes marks pspace bspace n page
          (record { answered = record { way = ways.Flash; fault = seen.fault; mends = seen.mends }; frame = None }) page'
      unfolding read_page in_slots flash_page read_way
      from-flash seen page' ef h =
          let e : ltb (slot_of sz d n) sz.P ≡ false = le-ltb (slot_of sz d n) sz.P (omega arith) in
          let g : ltb (frame_with sz d n) sz.B ≡ false = le-ltb (frame_with sz d n) sz.B (omega arith) in
          let way : read_way sz d n ≡ 3 = rw (e, read_way) (rw g) in
          let w : eqb (read_way sz d n) 3 ≡ true = rw way in
          record {
            frame_is = rw way;
            gave = record {
              way-is = sym way;
              fault-is = h.looked.fault-is ∙ sym (one-fault sz d flash codes marks n w q.page-lt);
              mends-are = h.looked.mends-are ∙ sym (one-mends sz d flash codes marks n w q.page-lt);
              page-is = rw (e, read_page) (rw g (h.data_is ∙ ap (λ (x : List ℕ). cond (eqb (fault_number seen.fault) 0) x page)
                  (put_whole sz.S page _ q.page-length)));
            };
          }

-- ---- the directory by the frame

module _ (sz : Sizes) (d : Directory) (n : ℕ) (frame : Option ℕ)
    (is : frame ≡ cond (eqb (read_way sz d n) 2) (Some (frame_with sz d n)) None) where
  frame_below : read_way sz d n ≡ 2 → frame_with sz d n < sz.B
  unfolding read_way
  frame_below t = by-test (in_slots sz d n)
      (λ e. absurd (let k : read_way sz d n ≡ 1 = rw (e, read_way) in omega arith))
      (λ e. by-test (ltb (frame_with sz d n) sz.B) (λ g. ltb-true _ sz.B g)
      (λ g. absurd (let k : read_way sz d n ≡ 3 = rw (e, read_way) (rw g) in omega arith)))

  -- by way 2 the frame is used, by the others nothing is
  pub used-frame : (f : ℕ) → frame ≡ Some f → (f < sz.B) × (touched sz false d f ≡ read_directory sz d n)
  unfolding read_directory
  used-frame f e = by-test (eqb (read_way sz d n) 2)
      (λ t. let k : f ≡ frame_with sz d n = (let i = rw t at is in cc) in
      (rw k (frame_below (eqb-true _ 2 t)), rw k (rw (t, read_directory))))
      (λ t. absurd (let i = rw t at is in cc))

  pub unused : frame ≡ None → d ≡ read_directory sz d n
  unfolding read_directory
  unused e = by-test (eqb (read_way sz d n) 2) (λ t. absurd (let i = rw t at is in cc)) (λ t. rw (t, read_directory))
