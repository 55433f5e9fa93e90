-- The page enters the slot that a join or an exchange left vacant.
use mathlib.Core.Path.{◌≡◌, sym, ap, ◌∙◌}
use mathlib.Core.Bool.{Bool, true}
use mathlib.Core.List.{List, []}
use Rattle.std.specs.Prelude.{Option, None, Some, IsSome, unwrap_or}
use borrow.Author.Rules.{rules}
use Prim.Native.Nat.{ℕ, ◌*◌, ◌<◌}
use native.Mathlib.Omega.{arith}
use lib.ListN.{length, set}
use borrow.Author.Tests.{lt-ltb}
use Rattle.model.specs.Sizes.{Sizes, vacant}
use Rattle.model.specs.Directory.{Directory}
use Rattle.model.specs.Soundness.{Sound}
use Rattle.model.specs.Policy.{in_slots, slot_of, valid_count, slot_count}
use Rattle.model.specs.Moves.{Memory, touched, put_slot, entered, joined, joined_pages, exchanged, exchanged_pages, put_slot_page}
use Rattle.model.specs.Calls.{Page, Cell, zero_page, slot_pages, frame_pages}
use Rattle.model.proofs.Lookup.{found-slot}
use Rattle.model.proofs.Kept.{joined-sound, exchanged-sound, exchanged-vacant}
use Rattle.model.proofs.Plan.{some-bit, joined-vacant}
use Rattle.moves.specs.Spaces.{spaces, Joins, Joined}
use Rattle.moves.specs.Exchange.{Exchanged}
use Rattle.writes.specs.Enter.{Joining, Changing, Enters, Entered}

-- ---- the frame is used, and the page enters the first vacant slot

module _ {sz : Sizes} (t : Bool) {d : Directory} {f : ℕ} {pspace page : List ℕ} (q : Enters sz d f pspace page) {e : Directory}
    (used : e ≡ touched sz t d f) where
  vacant-is : slot_of sz e vacant ≡ slot_of sz d vacant
  unfolding touched slot_of
  vacant-is = ap (λ (x : Directory). slot_of sz x vacant) used

  vacant-lt : slot_of sz d vacant < sz.P
  vacant-lt = (found-slot sz d vacant q.room).0

  pub some-slot : (o : Option ℕ) → unwrap_or o sz.P ≡ slot_of sz e vacant → IsSome o
  some-slot None h = absurd (let l = vacant-lt in let v = vacant-is in omega arith)
  some-slot (Some i) h = search rules

  -- slot i
  pub first-slot : {o : Option ℕ} {i : ℕ} → o ≡ Some i → unwrap_or o sz.P ≡ slot_of sz e vacant → i ≡ slot_of sz e vacant
  first-slot is h = sym (ap (λ (x : Option ℕ). unwrap_or x sz.P) is) ∙ h

  module _ {i : ℕ} (h : i ≡ slot_of sz e vacant) where
    slot-is : i ≡ slot_of sz d vacant
    slot-is = h ∙ vacant-is

    pub enter-is : {n : ℕ} {pspace' : List ℕ} → slot_pages sz pspace' ≡ set (slot_pages sz pspace) i page
        → Entered sz t d f pspace n page (put_slot e i n) pspace'
    unfolding entered
    enter-is {n} pages = record {
      directory-is = ap (λ (x : ℕ). put_slot e x n) h ∙ ap (λ (x : Directory). put_slot x (slot_of sz x vacant) n) used;
      pages-are = rw (← slot-is) pages;
    }

-- the page has entered after a join, and after an exchange
pub record JoinEntered (sz : Sizes) (t : Bool) (d : Directory) (v f : ℕ) (pspace bspace : List ℕ) (n : ℕ) (page : Page) (d' : Directory)
    (pspace' bspace' : List ℕ) : Type 0 where
  pub directory-is : d' ≡ entered sz (touched sz t (joined sz d v f) f) n
  pub pages-are : spaces sz pspace' bspace' ≡ put_slot_page (joined_pages (zero_page sz) sz d (spaces sz pspace bspace) v f)
      (slot_of sz (joined sz d v f) vacant) page

pub record ExchangeEntered (sz : Sizes) (d : Directory) (v f : ℕ) (pspace bspace : List ℕ) (n : ℕ) (page : Page) (d' : Directory)
    (pspace' bspace' : List ℕ) : Type 0 where
  pub directory-is : d' ≡ entered sz (touched sz true (exchanged sz d v f) f) n
  pub pages-are : spaces sz pspace' bspace' ≡ put_slot_page (exchanged_pages (zero_page sz) sz d (spaces sz pspace bspace) v f)
      (slot_of sz (exchanged sz d v f) vacant) page

module _ {sz : Sizes} {d : Directory} {v f : ℕ} (s : Sound sz d) where
  pub joins : {pspace bspace : List ℕ} → v < sz.N → f < sz.B → length pspace ≡ sz.P * sz.S → length bspace ≡ sz.B * sz.K * sz.S
      → Joins sz d v f pspace bspace
  joins vl fl lp lb = record { sound = s; block-lt = vl; frame-lt = fl; pspace-long = lp; bspace-long = lb }

  -- after a join
  pub join-enters : {pspace page : List ℕ} → Joining sz d v f → length pspace ≡ sz.P * sz.S → length page ≡ sz.S → {j : Directory}
      → j ≡ joined sz d v f → Enters sz j f pspace page
  join-enters g lp lx e = rw e (record {
    sound = joined-sound sz d s v f g.frame-lt g.victim-lt g.sole (some-bit sz d s v f g.victim-pos);
    frame-lt = g.frame-lt;
    room = joined-vacant sz d s v f g.frame-lt g.victim-pos;
    pspace-length = lp;
    page-length = lx;
  })

  pub join-entered : {pspace bspace page : List ℕ} {t : Bool} {n : ℕ} {j d' : Directory} {pspace' bspace' : List ℕ}
      → Joined sz d v f pspace bspace j bspace'
      → Entered sz t j f pspace n page d' pspace'
      → JoinEntered sz t d v f pspace bspace n page d' pspace' bspace'
  unfolding spaces put_slot_page joined_pages
  join-entered {pspace = pspace} {page = page} {t = t} {n = n} a b = record {
    directory-is = b.directory-is ∙ ap (λ (x : Directory). entered sz (touched sz t x f) n) a.directory;
    pages-are = λ i. record {
      flash = [];
      pspace = (b.pages-are ∙ ap (λ (x : Directory). set (slot_pages sz pspace) (slot_of sz x vacant) page) a.directory) i;
      bspace = a.pages i;
    };
  }

  -- after an exchange
  pub exchange-enters : {page : List ℕ} → Changing sz d v f → valid_count sz d f < slot_count sz d v → length page ≡ sz.S
      → {j : Directory} {pspace₁ : List ℕ}
      → j ≡ exchanged sz d v f → length pspace₁ ≡ sz.P * sz.S
      → Enters sz j f pspace₁ page
  unfolding in_slots
  exchange-enters g fewer lx e l = rw e (record {
    sound = exchanged-sound sz d s v f g.frame-lt g.victim-lt fewer g.block-lt g.victim-out;
    frame-lt = g.frame-lt;
    room = lt-ltb _ sz.P (exchanged-vacant sz s.limits d s.shape s.entries v f g.frame-lt g.victim-lt fewer g.block-lt
        g.victim-out);
    pspace-length = l;
    page-length = lx;
  })

  pub exchange-entered : {pspace bspace page : List ℕ} {n : ℕ} {j d' : Directory} {pspace₁ pspace' bspace' : List ℕ}
      → Exchanged sz d v f pspace bspace j pspace₁ bspace'
      → Entered sz true j f pspace₁ n page d' pspace'
      → ExchangeEntered sz d v f pspace bspace n page d' pspace' bspace'
  unfolding spaces put_slot_page
  exchange-entered {page = page} {n = n} {pspace₁ = pspace₁} {bspace' = bspace'} a b = record {
    directory-is = b.directory-is ∙ ap (λ (x : Directory). entered sz (touched sz true x f) n) a.directory;
    pages-are = (λ i. record {
      flash = [];
      pspace = (b.pages-are
          ∙ ap (λ (x : Directory). set (slot_pages sz pspace₁) (slot_of sz x vacant) page) a.directory) i;
      bspace = frame_pages sz bspace';
    })
        ∙ ap (λ (m : Memory Cell Page). put_slot_page m (slot_of sz (exchanged sz d v f) vacant) page) a.pages;
  }
