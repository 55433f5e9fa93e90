-- Demand 3's second saying holds: the claim of a list, walked call by call, has every clause at the store that is reached.
use mathlib.Core.Path.{◌≡◌, refl, sym, ap, ◌∙◌}
use mathlib.Core.Bool.{Bool, true, false, ◌&&◌}
use mathlib.Core.List.{List, [], ◌∷◌, ◌++◌}
use Prim.Native.Nat.{ℕ, ◌+◌, ◌*◌, ◌≤◌, ◌<◌}
use native.Mathlib.Omega.{arith}
use lib.Dec.{ltb, eqb}
use lib.Arith.{digits_lt}
use lib.ListN.{length, get_or}
use borrow.Author.Tests.{ltb-true, ltb-false, eq-eqb, ne_eqb}
use Rattle.prelude.specs.Scan.{count}
use Rattle.prelude.specs.Bits.{bit}
use Rattle.prelude.specs.Pages.{laid}
use Rattle.prelude.proofs.Tests.{by-test, and_i}
use Rattle.prelude.proofs.Scan.{count_past}
use Rattle.model.specs.Directory.{slot_at, frame_at, valid_at}
use Rattle.model.specs.Policy.{least_recent}
use Rattle.model.specs.Calls.{is_refused, Call, read, part, Page, Buffers, Store, Result}
use Rattle.model.specs.Lists.{Chosen, AllPick, Reference, opened, Borne, After, Step, Claim, ReadGives}
use Rattle.model.specs.RulesDemand3.{Kind, Turn, calls, gives, store_after, beside_after, AllBorne, at_first, Reached, still}
use Rattle.model.specs.RulesDemand3.{StoreBears, StillReached, AnswersAlike, ReadsArray, PartsArray, ShowsArray, SlotsOnce}
use Rattle.model.specs.RulesDemand3.{FramesOnce, NotBoth}
use Rattle.model.specs.RulesDemand3.{FlashBlock, FlashPage, WearBook, FlushedArray}
use Rattle.model.proofs.Soundness.{limits_of}
use Rattle.model.proofs.Plan.{least_recent-picks}
use Rattle.model.proofs.Buffers.{fits-of}
use Rattle.model.proofs.Opening.{open_accepted}
use Rattle.model.proofs.Demand3.{demand_3}
use Rattle.model.proofs.Formats.{store-bears}
use Rattle.model.proofs.RulesRecord.{sizes-rule}
use Rattle.model.proofs.RulesLists.{flash-read_rule, times_cached-rule, block_pages-rule}

pub store-bears_rule : StoreBears
store-bears_rule sz l = store-bears sz (limits_of sz ((sizes-rule sz).1 l)).whole

-- ---- the claim at the store that is reached

picked : (cs rest : List Chosen) → AllPick cs → AllPick rest → AllPick (cs ++ rest)
picked [] rest p q = q
picked (c ∷ cs) rest p q = (p.0, picked cs rest p.1 q)

module _ (k : Kind) (u : Buffers) where
  -- what is claimed of a store, for the calls that follow
  abbrev Claims : List Chosen → Store → Reference → Type 0
  Claims cs s r = Claim k.fmt k.Near k.sz u cs s r

  abbrev first : Store
  first = at_first k.fmt k.sz u

  abbrev beside : Reference
  beside = opened k.fmt k.sz u

  reach : (ts : List Turn) (rest : List Chosen) (s : Store) (r : Reference) → AllBorne k s r ts
      → Claims (calls ts ++ rest) s r → Claims rest (store_after k.fmt s ts) (beside_after k.fmt k.sz s r ts)
  reach [] rest s r b c = c
  reach (t ∷ ts) rest s r b c = reach ts rest _ _ b.1 (c t.flash t.codes b.0).then

  module _ (s : Store) (r : Reference) (h : Reached k u s r) where
    reached : (rest : List Chosen) → AllPick rest
        → Claims rest (store_after k.fmt first h.turns) (beside_after k.fmt k.sz first beside h.turns)
    reached rest p = reach h.turns rest first beside h.all-borne
        (demand_3 k.fmt k.Matched k.Near k.sz k.bears u h.opens.accepted h.opens.matched (calls h.turns ++ rest)
        (picked (calls h.turns) rest h.picks p))

    -- of the call that follows
    next : (t : Chosen) → AllPick (t ∷ []) → Step k.fmt k.Near k.sz u s r t (Claims [])
    next t p =
        let go : Borne k.fmt k.Near k.sz r s.lent → Step k.fmt k.Near k.sz u s r t (Claims []) =
        rw (h.store_is, h.beside-is) (λ b. reached (t ∷ []) p h.flash h.codes b) in
        go h.borne

    -- and with none
    end : After k.fmt k.Near k.sz u s r
    end =
        let go : Borne k.fmt k.Near k.sz r s.lent → After k.fmt k.Near k.sz u s r =
        rw (h.store_is, h.beside-is) (λ b. reached [] tt h.flash h.codes b) in
        go h.borne

-- ---- answers and reads

pub answers-alike : AnswersAlike
answers-alike k u s r h t p = (next k u s r h t (p, tt)).answers

-- what a read gives, and a part write
read-gives : (a : List Page) (c : Call Page) (q : Result) (n : ℕ) (x : Page) → c ≡ read n x → ReadGives a c q
    → is_refused q.answer ≡ false → q.page ≡ get_or a n []
read-gives a c q n x e = rw e (λ g. g)

part_gives : (a : List Page) (c : Call Page) (q : Result) (n first : ℕ) (x page : Page) → c ≡ part n first x page → 0 < length x
    → ReadGives a c q → is_refused q.answer ≡ false → q.page ≡ laid first x (get_or a n [])
part_gives a c q n first x page e l = rw e (λ g d. g d ∙ rw (ne_eqb (length x) 0 (λ z. absurd (omega arith))))

pub reads_array : ReadsArray
reads_array k u s r h t p n x e = read-gives r.array t.call (gives k.fmt s t) n x e (next k u s r h t (p, tt)).reads

pub parts-array : PartsArray
parts-array k u s r h t p n first x page e l =
    part_gives r.array t.call (gives k.fmt s t) n first x page e l (next k u s r h t (p, tt)).reads

pub shows-array : ShowsArray
shows-array k u s r h n l = let t : Chosen = record { choice = least_recent; besides = λ i. false; call = read n [] } in
    (next k u s r h t (least_recent-picks, tt)).shows n l

-- ---- no page is cached twice

two-pass : (n : ℕ) (p : ℕ → Bool) (i j : ℕ) → i < j → j < n → p i ≡ true → p j ≡ true → 2 ≤ count n p
two-pass n p i j ij jn a b = let x = count_past i j p ij a in let y = count_past j n p jn b in omega arith

one_passes : (n : ℕ) (p : ℕ → Bool) (i j : ℕ) → i < n → j < n → p i ≡ true → p j ≡ true → count n p ≤ 1 → i ≡ j
one_passes n p i j il jl a b h = by-test (ltb i j)
    (λ t. absurd (let x = two-pass n p i j (ltb-true i j t) jl a b in omega arith))
    (λ t. by-test (ltb j i)
    (λ v. absurd (let x = two-pass n p j i (ltb-true j i v) il b a in omega arith))
    (λ v. let x = ltb-false i j t in let y = ltb-false j i v in omega arith))

-- the slots and the frames that have page b×K+o are one at most together
one_at_most : (k : Kind) (u : Buffers) (s : Store) (r : Reference) → Reached k u s r → (b o : ℕ) → b < k.sz.N → o < k.sz.K
    → count k.sz.P (λ i. eqb (slot_at s.cache.directory i) (b * k.sz.K + o))
    + count k.sz.B (λ f. eqb (frame_at s.cache.directory f) b && bit (valid_at s.cache.directory f) o) ≤ 1
one_at_most k u s r h b o bl ol = let t = (end k u s r h).cached-once (b * k.sz.K + o) (digits_lt bl ol) in
    let a = open_accepted k.fmt k.sz u h.opens.accepted in
    let w = times_cached-rule k.sz a.sizes-ok s.cache.directory b o ol in omega arith

pub slots-once : SlotsOnce
slots-once k u s r h b o i j bl ol il jl e q = let t = one_at_most k u s r h b o bl ol in
    one_passes k.sz.P (λ n. eqb (slot_at s.cache.directory n) (b * k.sz.K + o)) i j il jl (eq-eqb _ _ e) (eq-eqb _ _ q)
    (omega arith)

pub frames-once : FramesOnce
frames-once k u s r h b o f g bl ol fl gl e v q w = let d = s.cache.directory in let t = one_at_most k u s r h b o bl ol in
    one_passes k.sz.B (λ c. eqb (frame_at d c) b && bit (valid_at d c) o) f g fl gl (and_i (eq-eqb _ _ e) v) (and_i (eq-eqb _ _ q) w)
    (omega arith)

pub not-both : NotBoth
not-both k u s r h b o i f bl ol il fl e q v = let d = s.cache.directory in let t = one_at_most k u s r h b o bl ol in
    let x = count_past i k.sz.P (λ n. eqb (slot_at d n) (b * k.sz.K + o)) il (eq-eqb _ _ e) in
    let y = count_past f k.sz.B (λ c. eqb (frame_at d c) b && bit (valid_at d c) o) fl (and_i (eq-eqb _ _ q) v) in omega arith

-- ---- flash and wear

pub flash-block : FlashBlock
flash-block k u s r h b o bl ol = let sz = k.sz in
    sym (flash-read_rule k.fmt sz s.lent (b * sz.K + o) (digits_lt bl ol)) ∙ sym ((block_pages-rule sz _ b).1 o ol)
    ∙ ap (λ (l : List Page). get_or l o []) ((end k u s r h).block-whole b bl) ∙ (block_pages-rule sz _ b).1 o ol

pub flash-page : FlashPage
flash-page k u s r h n l = rw (← flash-read_rule k.fmt k.sz s.lent n l, ← flash-read_rule k.fmt k.sz u n l)
    ((end k u s r h).flash-from n l)

pub wear-book : WearBook
wear-book k u s r h = (end k u s r h).wear-is

pub flushed-array : FlushedArray
flushed-array k u s r h e n l = sym (flash-read_rule k.fmt k.sz s.lent n l)
    ∙ ap (λ (p : List Page). get_or p n []) ((end k u s r h).flushed-is e)

-- ---- lists on which no bit flips

module _ (k : Kind) (u : Buffers) where
  -- where no bit flips, all is borne, and it is at the end
  still-borne : (cs : List Chosen) (s : Store) (r : Reference) → Borne k.fmt k.Near k.sz r s.lent → Claims k u cs s r
      → AllBorne k s r (still k.fmt s cs)
      × Borne k.fmt k.Near k.sz (beside_after k.fmt k.sz s r (still k.fmt s cs))
      (store_after k.fmt s (still k.fmt s cs)).lent
  still-borne [] s r b c = (tt, b)
  still-borne (t ∷ cs) s r b c = let h = c s.lent.flash s.lent.codes b in let ih = still-borne cs _ _ h.borne h.then in
      ((b, ih.0), ih.1)

-- its calls are those that were given
still-picks : (k : Kind) (cs : List Chosen) (s : Store) → AllPick cs → AllPick (calls (still k.fmt s cs))
still-picks k [] s p = tt
still-picks k (t ∷ cs) s p = (p.0, still-picks k cs _ p.1)

pub still-reached : StillReached
unfolding opened
still-reached k u o cs p = let sz = k.sz in let a = open_accepted k.fmt sz u o.accepted in let s = at_first k.fmt sz u in
    let q = still-borne k u cs s (opened k.fmt sz u)
    (record { fits = fits-of k.fmt sz u a.lent_ok_lem; near = λ n l. k.bears.near-self _ })
    (demand_3 k.fmt k.Matched k.Near sz k.bears u o.accepted o.matched cs p) in
    record {
      opens = o;
      turns = still k.fmt s cs;
      picks = still-picks k cs s p;
      all-borne = q.0;
      flash = (store_after k.fmt s (still k.fmt s cs)).lent.flash;
      codes = (store_after k.fmt s (still k.fmt s cs)).lent.codes;
      store_is = refl;
      beside-is = refl;
      borne = q.1;
    }
