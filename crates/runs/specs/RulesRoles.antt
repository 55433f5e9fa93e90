-- Request A10 said a second time, as laws: the grid cell by cell, what a trainee sees, and what it cannot learn of others.
use Rattle.std.specs.Prelude.{◌≡◌, true, false, List, ℕ, ◌<◌, length}
use Rattle.runs.specs.Sheet.{Sheet}
use Rattle.runs.specs.Runs.{sheet_at}
use Rattle.runs.specs.Roles.{Role, trainee, tutor, examiner, Operation, add, look, list, read, replace, mark, allowed}
use Rattle.runs.specs.Roles.{Caller, masked}
use Rattle.runs.specs.Verdict.{Check, judged}

-- Trainees add, look, list and read; tutors also replace; examiners do all six.
pub record GridRule : Type 0 where
  pub adds : (w : Role) (s f n : ℕ) → allowed w (add s f n) ≡ true
  pub looks : (w : Role) (r : ℕ) → allowed w (look r) ≡ true
  pub lists : (w : Role) (p : ℕ) → allowed w (list p) ≡ true
  pub reads : (w : Role) (r x : ℕ) → allowed w (read r x) ≡ true
  pub trainee-replaces : (r s f n : ℕ) → allowed trainee (replace r s f n) ≡ false
  pub tutor-replaces : (r s f n : ℕ) → allowed tutor (replace r s f n) ≡ true
  pub trainee-marks : (r m : ℕ) → allowed trainee (mark r m) ≡ false
  pub tutor-marks : (r m : ℕ) → allowed tutor (mark r m) ≡ false
  pub examiner-does : (o : Operation) → allowed examiner o ≡ true

-- What a caller sees of a sheet: a trainee of another's trainee 0 and mark 255, all else as stored; else all is as stored.
pub record MaskRule (w : Caller) (s : Sheet) : Type 0 where
  pub own : s.trainee ≡ w.number → masked w s ≡ s
  pub staff : (w.role ≡ trainee → ⊥) → masked w s ≡ s
  pub other : w.role ≡ trainee → (s.trainee ≡ w.number → ⊥)
      → masked w s ≡ record {
        run = s.run;
        trainee = 0;
        sample = s.sample;
        first = s.first;
        count = s.count;
        mark = 255;
        replaces = s.replaces;
      }

-- two sheets are alike to trainee t: equal, or another's in both, and equal but for trainee number and mark
pub record Alike (t : ℕ) (s s' : Sheet) : Type 0 where
  pub run_is : s.run ≡ s'.run
  pub sample-is : s.sample ≡ s'.sample
  pub first-is : s.first ≡ s'.first
  pub count-is : s.count ≡ s'.count
  pub replaces-is : s.replaces ≡ s'.replaces
  pub own : s.trainee ≡ t → s ≡ s'
  pub own' : s'.trainee ≡ t → s ≡ s'

-- a look or a listing
pub data Looks : Operation → Type 0 where
  looks : (r : ℕ) → Looks (look r)
  lists : (p : ℕ) → Looks (list p)

-- Two catalogues alike but for others' trainee numbers and marks give a trainee the same looks and lists, refusals included, where
-- nothing from outside tells them apart.
abbrev pub UnseenRule : Type 1
UnseenRule = (Answer : Type 0) (c pages : ℕ) (ss ss' : List Sheet) (w : Caller) → w.role ≡ trainee → length ss ≡ c → length ss' ≡ c
    → ((i : ℕ) → i < c → Alike w.number (sheet_at ss i) (sheet_at ss' i))
    → (o : Operation) → Looks o → (k : Check Answer) → judged c pages ss w o k ≡ judged c pages ss' w o k
