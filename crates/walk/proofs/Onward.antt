-- A walk's start, and a line of it: what is printed and what is left to print stays the program's output.
use mathlib.Core.Path.{◌≡◌, refl, sym, ap, ◌∙◌, subst}
use mathlib.Core.Bool.{Bool, ◌&&◌}
use mathlib.Core.List.{List, [], ◌++◌, append-nil, append_assoc}
use Prim.Native.Nat.{ℕ, ◌+◌, ◌-◌, ◌≤◌, ◌<◌}
use native.Mathlib.Omega.{arith}
use lib.Dec.{leb, ltb}
use lib.ListN.{length, take, drop, length-drop}
use lib.Seq.{length-take-le, take-append-add, take-append-le, take_at}
use borrow.Rule.Slice.PartMut.{mid_of, post_of, put_mid, same_len_mid}
use borrow.Author.Tests.{ltb-true, ltb-false}
use Rattle.prelude.proofs.Tests.{by-test}
use Rattle.model.specs.Directory.{blank_cache}
use Rattle.model.specs.Directory as directory
use Rattle.model.specs.Shelf.{no_entries, ShelfStore}
use Rattle.store.specs.View.{Lent}
use Rattle.print.specs.Print.{Printed, line_room, bad_line}
use Rattle.print.proofs.Put.{printed-front}
use Rattle.script.specs.Forms.{Form}
use Rattle.script.specs.Walk.{line, item_at}
use Rattle.script.proofs.Words.{lines_none}
use Rattle.store.specs.View.{plain_lent}
use Rattle.cache.specs.View.{sizes_of}
use Rattle.store.specs.declared.Cache.{Cache}
use Rattle.store.specs.View.{cache_of}
use Rattle.perform.specs.declared.Lined.{Lined}
use Rattle.walk.specs.declared.Walk.{Walk}
use Rattle.perform.specs.Effects.{Effect}
use Rattle.interpret.specs.Lines.{carried, printed_by, rest, output_of}
use Rattle.interpret.specs.View.{Held, Memory, CarriedOut}
use Rattle.walk.specs.Walk.{inUse, printing, Ready, More, Started, Onward, Output}
use Rattle.walk.proofs.Rest.{held-blank, blank-front, onward, Stands, rest-item, item_stands, rest-output, over-output}

-- nothing is left at the end
pub rest-none : (script : List ℕ) (s : ShelfStore) (at i : ℕ) → length script ≤ at → rest script s at i ≡ []
unfolding printed_by
rest-none script s at i h = ap (printed_by s i) (lines_none script at h)

-- ---- whether there is a line, and room for it

module _ (script : List ℕ) (w : Walk) (out : List ℕ) where
  abbrev test : Bool
  test = ltb w.at (length script) && leb 45063 (length out - w.printed)

-- ---- several lines

-- the memory keeps its lengths
pub memory_kept : {m : Lent} {page : List ℕ} → Memory m page → {flash wear pspace bspace page' : List ℕ}
    → length flash ≡ length m.below.flash → length wear ≡ length m.below.wear
    → length pspace ≡ length m.below.pspace → length bspace ≡ length m.below.bspace → length page' ≡ length page
    → Memory (plain_lent flash wear pspace bspace) page'
memory_kept h f w p b g = record {
  flash-length = f ∙ h.flash-length;
  wear-length = w ∙ h.wear-length;
  pspace-length = p ∙ h.pspace-length;
  bspace-length = b ∙ h.bspace-length;
  page-length = g ∙ h.page-length;
}

-- ---- no line, and several

pub onward-none : (script : List ℕ) (w : Walk) (m : Lent) (out : List ℕ) → Ready script w out → Onward script w m out w m out
onward-none script w m out h = record { output = refl; ready = h; from = omega arith }

pub onward_then : {script : List ℕ} {w v r : Walk} {m n q : Lent} {out mid new : List ℕ} → Onward script w m out v n mid
    → Onward script v n mid r q new → Onward script w m out r q new
onward_then h k = record { output = k.output ∙ h.output; ready = k.ready; from = omega arith }

-- ---- the start

module _ (script : List ℕ) (c : Cache) (blank : (cache_of c ≡ blank_cache) × (c.entries ≡ no_entries)) (out : List ℕ) where
  held_start : Held (sizes_of c.sizes)
  held_start = subst (λ (m : directory.Cache). Held m.sizes) (sym blank.0) held-blank

  pub started-short : length script ≤ 32768 → Started script (record { cache = c; at = 0; number = 1; printed = 0 }) out
  started-short h = record {
    output = λ m. ap (λ (s : ShelfStore). rest script s 0 1) (blank-front c blank m.below.flash m.below.wear m.below.pspace
        m.below.bspace)
        ∙ rest-output script h;
    ready = record { held = held_start; short = λ l. h; number-le = omega arith; printed-le = omega arith };
    within = omega arith;
  }

  pub started-over : 32768 < length script → (old : List ℕ) (k : ℕ) → length old ≡ length out → line_room ≤ length out
      → Printed line_room (bad_line 0) old 0 out k
      → Started script (record { cache = c; at = length script; number = 1; printed = k }) out
  started-over h old k long room p =
      let e : take k out ≡ bad_line 0 = printed-front {at = 0} (omega arith) p in
      let w = p.within in
      record {
        output = λ m. ap (λ (l : List ℕ). take k out ++ l) (rest-none script _ (length script) 1 (omega arith)) ∙ append-nil (take k out)
            ∙ e ∙ sym (over-output script h);
        ready = record { held = held_start; short = λ l. absurd (omega arith); number-le = omega arith; printed-le = omega arith };
        within = omega arith;
      }

-- ---- a line

-- a part printed after what is printed
printed-on : (a k e : ℕ) (out part : List ℕ) → a ≤ length out → k ≤ length part
    → take (a + k) (put_mid a e out part) ≡ take a out ++ take k part
printed-on a k e out part h l =
    ap (λ (n : ℕ). take (n + k) (put_mid a e out part)) (sym (length-take-le a out h))
    ∙ take-append-add (take a out) (part ++ post_of a e out) k
    ∙ ap (λ (x : List ℕ). take a out ++ x) (take-append-le k part (post_of a e out) l)

-- the room that is left
pub left-room : (a k : ℕ) (out : List ℕ) → a + k ≤ length out → k ≤ length (mid_of a (length out - a) out)
left-room a k out h =
    let e : length (drop a out) ≡ length out - a = length-drop a out in
    let l = length-take-le (length out - a) (drop a out) (omega arith) in
    omega arith

module _ (script : List ℕ) (w : Walk) (m : Lent) (out : List ℕ) (ready : Ready script w out) (more : More script w out) where
  -- the line at the walk's place is carried out, and printed into the part of out that is left
  pub onward-line : (f : Form) (n next : ℕ) → item_at script w.at w.number ≡ line f n next
      → (r : Lined) (flash wear pspace bspace part : List ℕ)
      → CarriedOut (carried (inUse w m) f n) r flash wear pspace bspace part
      → (e : ℕ) → length part ≡ length (mid_of w.printed e out) → r.printed ≤ length part
      → Onward script w m out (record { cache = r.cache; at = next; number = n + 1; printed = w.printed + r.printed })
      (plain_lent flash wear pspace bspace) (put_mid w.printed e out part) × (w.at < next)
  onward-line f n next item r flash wear pspace bspace part h e long k =
      let s = subst (Stands script w.at w.number) item (item_stands script w.at w.number) in
      let p0 = ready.printed-le in
      let n0 = ready.number-le in
      let m0 = more.line in
      let m1 = more.room in
      let s1 = s.1.0 in
      let s2 = s.1.1.0 in
      let w0 = h.carries.within in
      let long' = same_len_mid w.printed e out part long in (
        record {
          output =
              ap (λ (x : List ℕ). x ++ rest script (effect_store r flash wear pspace bspace) next (n + 1))
              (printed-on w.printed r.printed e out part p0 k)
              ∙ append_assoc (take w.printed out) (take r.printed part)
              (rest script (effect_store r flash wear pspace bspace) next (n + 1))
              ∙ ap (λ (x : Effect). take w.printed out ++ (x.printed ++ rest script x.store next (n + 1))) h.carries.effect
              ∙ ap (λ (x : List ℕ). take w.printed out ++ x) (sym (rest-item script w.at w.number (inUse w m)
              ∙ ap (onward script (inUse w m)) item));
          ready = record { held = h.held; short = λ l. ready.short m0; number-le = omega arith; printed-le = omega arith };
          from = omega arith;
        },
        s2,
      )
    where
      effect_store : Lined → List ℕ → List ℕ → List ℕ → List ℕ → ShelfStore
      effect_store r flash wear pspace bspace = inUse (record { cache = r.cache; at = 0; number = 0; printed = 0 })
          (plain_lent flash wear pspace bspace)

-- ---- the output

-- a walk from the start that has no more, or no room: what is printed is the output's first bytes, and all of it where there is room
pub output-printed : {script : List ℕ} {w r : Walk} {m n : Lent} {old out : List ℕ} → Started script w old
    → Onward script w m old r n out → (More script r out → ⊥) → Output (output_of script) out r.printed
output-printed {script} {w} {r} {m} {n} {old} {out} start on none =
    let e : printing script r n out ≡ output_of script = on.output ∙ start.output m in
    let h = on.ready.printed-le in
    let long = length-take-le r.printed out h in
    record {
      within = h;
      first = sym (ap (take r.printed) (sym e) ∙ take_at (take r.printed out) (rest script (inUse r n) r.at r.number)
          r.printed long);
      whole = λ room. by-test (ltb r.at (length script))
          (λ t. absurd (none (record { line = ltb-true r.at (length script) t; room = room })))
          (λ t. sym (ap length (sym e ∙ ap (λ (l : List ℕ). take r.printed out ++ l)
          (rest-none script (inUse r n) r.at r.number (ltb-false r.at (length script) t))
          ∙ append-nil (take r.printed out)) ∙ long));
    }
