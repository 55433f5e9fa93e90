-- What a row of the audit's tables is, and what is compared: every answer with its mends, the whole page buffer after each call, and at the
-- end the whole cache record and the whole of every lent buffer. The stores are without codes and marks.
use mathlib.Core.List.{List, [], ◌∷◌, ◌++◌, map, reverse}
use Prim.Native.Nat.{ℕ, ◌-◌, ◌*◌}
use lib.ListN.{length, drop, replicate}
use Rattle.model.specs.Sizes.{Sizes, vacant}
use Rattle.model.specs.Directory.{Directory, Cache}
use Rattle.model.specs.Policy.{policy_choice}
use Rattle.model.specs.Calls.{Answer, write_done, Call, Page, Buffers, open_store, Store, call}
use Rattle.model.specs.Formats.{store_format}

-- a write that rewrites nothing
abbrev pub way : ℕ → Answer
way n = write_done n vacant 0

-- ---- what a row lists

-- the opening's answer, each call's answer and its page buffer then, and at the end the record and the lent buffers. Entries of the record
-- that a row does not list are vacant, their bits and uses 0, and their order entry is their own index; mends are 0, codes and marks empty.
pub record Gives : Type 0 where
  pub opening : Answer
  pub answers : List Answer
  pub pages : List Page
  pub sizes : Sizes
  pub slots : List ℕ
  pub frames : List ℕ
  pub valid : List ℕ
  pub recency : List ℕ
  pub uses : List ℕ
  pub flash : List ℕ
  pub pspace : List ℕ
  pub bspace : List ℕ
  pub wear : List ℕ

-- an opening on erased flash with the wear given, and the calls after it
pub record Row : Type 0 where
  pub sizes : Sizes
  pub wear : List ℕ
  pub calls : List (Call Page)
  pub gives : Gives

-- ---- what is compared

pub record Whole : Type 0 where
  pub opening : Answer
  pub answers : List Answer
  pub mends : List ℕ
  pub pages : List Page
  pub cache : Cache
  pub lent : Buffers

-- 128 slots, 8 frames, 8 valid sets, 8 order entries and 8 use counts, of which the first are listed
abbrev pub directory_of : List ℕ → List ℕ → List ℕ → List ℕ → List ℕ → Directory
directory_of slots frames valid recency uses = record {
  slots = slots ++ replicate (128 - length slots) vacant;
  frames = frames ++ replicate (8 - length frames) vacant;
  valid = valid ++ replicate (8 - length valid) 0;
  recency = recency ++ drop (length recency) (0 ∷ 1 ∷ 2 ∷ 3 ∷ 4 ∷ 5 ∷ 6 ∷ 7 ∷ []);
  uses = uses ++ replicate (8 - length uses) 0;
}

-- what a row lists, whole
abbrev pub listed : Row → Whole
listed r = let g = r.gives in record {
  opening = g.opening;
  answers = g.answers;
  mends = map (λ a. 0) g.answers;
  pages = g.pages;
  cache = record { sizes = g.sizes; directory = directory_of g.slots g.frames g.valid g.recency g.uses };
  lent = record { flash = g.flash; codes = []; marks = []; wear = g.wear; pspace = g.pspace; bspace = g.bspace };
}

abbrev pub erased : Sizes → List ℕ → Buffers
erased sz w = record {
  flash = replicate (sz.N * sz.K * sz.S) 255;
  codes = [];
  marks = [];
  wear = w;
  pspace = replicate (sz.P * sz.S) 0;
  bspace = replicate (sz.B * sz.K * sz.S) 0;
}

-- the calls one after the other, by the definitions
abbrev pub runs : Answer → Store → List (Call Page) → List Answer → List ℕ → List Page → Whole
runs a s [] ys ms ps = record {
  opening = a;
  answers = reverse ys;
  mends = reverse ms;
  pages = reverse ps;
  cache = s.cache;
  lent = s.lent;
}
runs a s (c ∷ cs) ys ms ps =
    let r = call store_format policy_choice s c in runs a r.store cs (r.answer ∷ ys) (r.mends ∷ ms) (r.page ∷ ps)

-- what the definitions give
abbrev pub given : Row → Whole
given r = let u = erased r.sizes r.wear in let o = open_store store_format r.sizes u in
    runs o.answer (record { cache = o.cache; lent = u }) r.calls [] [] []
