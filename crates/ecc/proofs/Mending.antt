-- Mending a page in place: the chunks below i are mended, the others as they were.
use mathlib.Core.Path.{◌≡◌, sym, ap, ◌∙◌}
use mathlib.Core.Bool.{true, false}
use mathlib.Core.List.{List, [], append-nil}
use Prim.Native.Nat.{ℕ, ◌+◌, ◌*◌, ◌≤◌, ◌<◌}
use native.Mathlib.Omega.{arith}
use lib.ListN.{length, take, length-append, length-take, length-drop}
use lib.Seq.{take-length, drop-length}
use Rattle.prelude.specs.Pages.{page_at, put_page, pages_of, flat, laid, run_at}
use Rattle.prelude.proofs.Tab.{Done, done_none, done-read, done-put, done-skip, done_all}
use Rattle.prelude.proofs.Pages.{length-page_at, ends-before, flat-pages, pages-length, page-at, pages-put}
use Rattle.codes.specs.Reading.{flipped, difference, leaves, addressed, mended, code_at, page_mended}
use Rattle.codes.proofs.CodeBits.{length-flipped}

module _ (d : List ℕ) (c x : ℕ) (e : x ≡ difference d c) where
  mended-keep : leaves x ≡ true → mended d c ≡ d
  unfolding mended
  mended-keep h = rw (← e, h)

  mended-flip : leaves x ≡ false → mended d c ≡ flipped d (addressed x)
  unfolding mended
  mended-flip h = rw (← e, h)

length-put : (s : ℕ) (l : List ℕ) (i : ℕ) (pg : List ℕ) → i * s + s ≤ length l → length pg ≡ s → length (put_page s l i pg) ≡ length l
unfolding put_page
length-put s l i pg fits e = simp (length-append, length-take, length-drop) (omega arith)

module _ (m : ℕ) (old codes : List ℕ) where
  abbrev mended_at : ℕ → List ℕ
  mended_at i = mended (page_at 256 old i) (code_at codes i)

  -- the chunks below i are mended, the others as they were
  pub record Mending (i : ℕ) (page : List ℕ) : Type 0 where
    pub long : length page ≡ m * 256
    pub done : Done [] m mended_at (pages_of 256 m old) i (pages_of 256 m page)

  pub mend-start : length old ≡ m * 256 → Mending 0 old
  mend-start l = record { long = l; done = done_none [] m mended_at (pages_of 256 m old) (pages-length 256 m old) }

  module _ (i x : ℕ) (page : List ℕ) (l : i < m) (h : Mending i page) (e : x ≡ difference (page_at 256 page i) (code_at codes i)) where
    still : page_at 256 page i ≡ page_at 256 old i
    still = sym (page-at 256 m page [] i l)
        ∙ done-read [] m mended_at (pages_of 256 m old) i (pages_of 256 m page) h.done i (omega arith) l ∙ page-at 256 m old [] i l

    anew : x ≡ difference (page_at 256 old i) (code_at codes i)
    anew = e ∙ ap (λ (d : List ℕ). difference d (code_at codes i)) still

    -- chunk i stays
    pub mend-keep : leaves x ≡ true → Mending (i + 1) page
    mend-keep t = record {
      long = h.long;
      done = done-skip [] m mended_at (pages_of 256 m old) i (pages_of 256 m page) h.done
          (mended-keep (page_at 256 old i) (code_at codes i) x anew t ∙ sym (page-at 256 m old [] i l));
    }

    -- its addressed bit is flipped
    pub mend-flip : (k : ℕ) → leaves x ≡ false → k ≡ addressed x → k < 2048
        → Mending (i + 1) (put_page 256 page i (flipped (page_at 256 page i) k))
    mend-flip k t q kl =
        let w = ends-before 256 l in let long = h.long in
        let chunk-long : length (page_at 256 page i) ≡ 256 = length-page_at 256 page i (omega arith) in
        let new-long : length (flipped (page_at 256 page i) k) ≡ 256 = length-flipped (page_at 256 page i) k (omega arith) ∙ chunk-long in
        record {
          long = length-put 256 page i _ (omega arith) new-long ∙ long;
          done = rw (pages-put 256 m page i (flipped (page_at 256 page i) k) l long new-long)
              (done-put [] m mended_at (pages_of 256 m old) i (pages_of 256 m page) (flipped (page_at 256 page i) k) h.done l
              (ap (λ (d : List ℕ). flipped d k) still ∙ ap (flipped (page_at 256 old i)) q
              ∙ sym (mended-flip (page_at 256 old i) (code_at codes i) x anew t)));
        }

  pub mend-end : (i : ℕ) (page : List ℕ) → m ≤ i → Mending i page → page ≡ page_mended m old codes
  unfolding page_mended
  mend-end i page e h = sym (flat-pages 256 m page h.long) ∙ ap flat
      (done_all [] m mended_at (pages_of 256 m old) i (pages_of 256 m page) h.done e)

-- ---- copies

-- a copy of all m chunks
pub copied : (m : ℕ) (page out : List ℕ) → length page ≡ m * 256 → length out ≡ m * 256 → laid (0 * 256) (run_at 256 page 0 m) out ≡ page
unfolding laid run_at
copied m page out e f =
    let w : take (m * 256) page ≡ page = rw (← e) (take-length page) in
    let z : 0 + length page ≡ length out = omega arith in
    rw (w, z, drop-length out) (append-nil page)
