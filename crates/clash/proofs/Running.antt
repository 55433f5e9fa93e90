-- What is written so far is the first bytes of the output, and what the walk has left is the others.
use mathlib.Core.Path.{◌≡◌, sym, ap, ◌∙◌}
use mathlib.Core.Logic.{◌⊎◌, inr}
use mathlib.Core.List.{List, ◌++◌}
use Prim.Native.Nat.{ℕ, ◌+◌, ◌-◌, ◌*◌, ◌≤◌, ◌<◌}
use native.Mathlib.Omega.{arith}
use lib.ListN.{length, take, drop, length-append, length-drop}
use lib.Seq.{length-take-le, take_at, drop_at, drop-drop}
use Rattle.store.specs.View.{Lent}
use Rattle.print.specs.Print.{line_room}
use Rattle.interpret.specs.Lines.{rest, output_of}
use Rattle.interpret.specs.View.{Memory}
use Rattle.walk.specs.Walk.{inUse, printing, Ready, More, Onward}
use Rattle.walk.specs.declared.Walk.{Walk}
use Rattle.walk.proofs.Onward.{rest-none}

-- before each part
pub record Running (script : List ℕ) (w : Walk) (done : ℕ) (m : Lent) (page out : List ℕ) : Type 0 where
  pub memory : Memory m page
  pub out-length : length out ≡ 49152
  pub ready : Ready script w out
  pub few : w.printed ≤ line_room
  pub left : printing script w m out ≡ drop done (output_of script)
  pub written : done ≤ length (output_of script)
  pub bound : done ≤ 49152 * w.at
  pub first : (done ≡ 0) ⊎ (w.at < length script)

module _ (script : List ℕ) (w : Walk) (done : ℕ) (m : Lent) (page out : List ℕ) (h : Running script w done m page out) (r : Walk)
    (m' : Lent) (out' : List ℕ) (o : Onward script w m out r m' out') where
  abbrev after : List ℕ
  after = rest script (inUse r m') r.at r.number

  long : length (take r.printed out') ≡ r.printed
  long = length-take-le r.printed out' o.ready.printed-le

  split : take r.printed out' ++ after ≡ drop done (output_of script)
  split = o.output ∙ h.left

  -- what is printed is what the output has next
  pub next_printed : take r.printed out' ≡ take r.printed (drop done (output_of script))
  next_printed = sym (ap (take r.printed) (sym split) ∙ take_at (take r.printed out') after r.printed long)

  pub next : take r.printed out' ≡ take (length (take r.printed out')) (drop done (output_of script))
  next = next_printed ∙ sym (ap (λ (k : ℕ). take k (drop done (output_of script))) long)

  counted : done + r.printed + length after ≡ length (output_of script)
  counted =
      let a : r.printed + length after ≡ length (output_of script) - done =
      ap (λ (k : ℕ). k + length after) (sym long) ∙ sym (length-append (take r.printed out') after) ∙ ap length split
      ∙ length-drop done (output_of script) in
      let b = h.written in
      omega arith

  -- at the script's end, all is written
  pub ends : length script ≤ r.at → done + r.printed ≡ length (output_of script)
  ends e =
      let n : length after ≡ 0 = ap length (rest-none script (inUse r m') r.at r.number e) in
      let k = counted in
      omega arith

  -- before it, the walk went on
  module _ (on : More script w out → w.at < r.at) where
    went : r.at < length script → w.at < r.at
    went l =
        let f = o.from in
        let a = h.few in
        let b = h.out-length in
        on (record { line = omega arith; room = omega arith })

    pub goes_on : length out' ≡ 49152 → (page' : List ℕ) → Memory m' page' → r.at < length script
        → Running script (record { cache = r.cache; at = r.at; number = r.number; printed = 0 }) (done + r.printed) m' page' out'
    goes_on e page' mem l =
        let q = o.ready.printed-le in
        let k = counted in
        let b = h.bound in
        let g = went l in
        record {
          memory = mem;
          out-length = e;
          ready = record { held = o.ready.held; short = o.ready.short; number-le = o.ready.number-le; printed-le = omega arith };
          few = omega arith;
          left = sym (drop_at (take r.printed out') after r.printed long) ∙ ap (drop r.printed) split
              ∙ drop-drop r.printed done (output_of script);
          written = omega arith;
          bound = omega arith;
          first = inr l;
        }
