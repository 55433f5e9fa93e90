-- The laws of the flash pages that a call reads hold, by the lookups of the page that is asked for and by what a join leaves valid.
use mathlib.Core.Path.{◌≡◌, refl, sym, ap, ◌∙◌}
use mathlib.Core.Logic.{inl, inr}
use mathlib.Core.Bool.{true, false}
use Prim.Native.Nat.{ℕ, ◌*◌, ◌/◌, ◌%◌, ◌<◌}
use native.Mathlib.Omega.{arith}
use lib.Dec.{eqb}
use lib.ListN.{get_or}
use borrow.Author.Tests.{lt-ltb, le-ltb, eqb-true, eq-eqb, ne_eqb}
use Rattle.prelude.specs.Bits.{bit}
use Rattle.prelude.proofs.Tests.{by-test, clash, fails, and_l, and_r, and_i, or_l, or_r, or_cases, not_t, not-i}
use Rattle.prelude.proofs.Scan.{count-le}
use Rattle.model.specs.Sizes.{Sizes}
use Rattle.model.specs.Directory.{Directory, frame_at, valid_at}
use Rattle.model.specs.Soundness.{sound, Sound}
use Rattle.model.specs.Policy.{in_slots, frame_with, read_way, Plan, slot_hit, frame_hit, free_slot, join, fill, exchange, evict, plan}
use Rattle.model.specs.Moves.{joined}
use Rattle.model.specs.Calls.{merges_page, reads_page, write_merges, reads_flash, sum, told, reads_all}
use Rattle.model.specs.Formats.{format_of, torn, page_code}
use Rattle.model.specs.RulesWords.{◌⇔◌, ValidIn, Uncached}
use Rattle.model.specs.RulesReads.{Merged, ReadsAllRule, SumRule, ReadsReadRule, ReadsWriteNoneRule, ReadsWriteRule}
use Rattle.model.specs.RulesReads.{ReadsPartNoneRule}
use Rattle.model.specs.RulesReads.{ReadsPartRule, ReadsStepRule, ReadsCleanRule, ReadsFlushRule, NoOptionRule, CodedRule}
use Rattle.model.specs.RulesReads.{MarkedRule, MarkedCodedRule}
use Rattle.model.proofs.Soundness.{coded-on, coded-off, marked-on, marked-off, sound-facts}
use Rattle.model.proofs.Lookup.{NoFrame, in_slots_lem, page-div, page-mod, page-split, offset_lt, frame_has}
use Rattle.model.proofs.Merges.{flush-in, flush-out}
use Rattle.model.proofs.RulesWords.{absent, frame_found, unfound, valid-found, found-cached}
use Rattle.model.proofs.RulesMoves.{joined-rule}

pub reads_all-rule : ReadsAllRule
unfolding reads_all
reads_all-rule fmt pick sz k c besides i = (
  (λ h. or_cases (reads_flash pick sz k (told c) i) (besides i) h),
  (λ h. elim h [ inl t ↦ or_l _ t | inr t ↦ or_r (reads_flash pick sz k (told c) i) t ]),
)

pub sum-rule : SumRule
unfolding sum
sum-rule g = (refl, λ n. omega arith)

module _ (sz : Sizes) (d : Directory) (ok : sound sz d ≡ true) (i : ℕ) (i_lt : i < sz.N * sz.K) where
  abbrev s : Sound sz d
  s = sound-facts sz d ok

  -- way 3 is for pages that are cached nowhere
  way-3 : Uncached sz d i → read_way sz d i ≡ 3
  unfolding read_way in_slots
  way-3 h = let a = le-ltb _ sz.P (absent sz d ok i h.0) in let b = le-ltb _ sz.B (unfound sz d ok i h.1) in
      rw (a, read_way) (rw b)

  way-3_why : read_way sz d i ≡ 3 → Uncached sz d i
  unfolding read_way
  way-3_why h = (
    (λ p. let t = in_slots_lem sz d i p.0 p.1 p.2 in let e : read_way sz d i ≡ 1 = rw (t, read_way) in omega arith),
    (λ f fl v. by-test (in_slots sz d i)
        (λ t. let e : read_way sz d i ≡ 1 = rw (t, read_way) in omega arith)
        (λ t. let q = frame_found sz d ok i f fl i_lt v in let b = lt-ltb (frame_with sz d i) sz.B (omega arith) in
        let e : read_way sz d i ≡ 2 = rw (t, read_way) (rw b) in omega arith)),
  )

  no-frame : ((f : ℕ) → f < sz.B → ValidIn sz d f i → ⊥) → NoFrame sz d i
  no-frame h f fl t = let q = frame_has sz d i f t in
      h f fl (i % sz.K, offset_lt sz s.limits i, page-split sz s.limits i (frame_at d f) (sym q.0), q.1)

  merged-rule : (b f : ℕ) → b < sz.N → f < sz.B → (merges_page sz d b f i ≡ true) ⇔ Merged sz d b f i
  unfolding merges_page
  merged-rule b f bl fl = let j = joined-rule sz d ok b f bl fl in (
    (λ h. let e = eqb-true (i / sz.K) b (and_l (eqb (i / sz.K) b) _ h) in let v = not_t (and_r (eqb (i / sz.K) b) _ h) in
        let o : ℕ = i % sz.K in let ol = offset_lt sz s.limits i in let q = page-split sz s.limits i b e in (
          o,
          ol,
          q,
          fails (bit (valid_at d f) o) (λ t. clash ((j.valid-is o ol).1 (inl t)) v),
          λ p. clash ((j.valid-is o ol).1 (inr (rw q p))) v,
        )),
    (λ (o, ol, q, h, np). let e = ap (λ (x : ℕ). x / sz.K) (sym q) ∙ page-div sz s.limits b o ol in
        let w = ap (λ (x : ℕ). x % sz.K) (sym q) ∙ page-mod sz s.limits b o ol in
        and_i (eq-eqb _ b e) (not-i (ap (bit (valid_at (joined sz d b f) f)) w ∙ fails (bit (valid_at (joined sz d b f) f) o)
        (λ t. elim ((j.valid-is o ol).0 t) [ inl y ↦ clash y h | inr y ↦ np (rw q at y) ])))),
  )

pub reads_read_rule : ReadsReadRule
unfolding reads_flash reads_page
reads_read_rule pick sz k ok i i_lt n long = let d = k.directory in (
  (λ h. let e = eqb-true i n (and_l (eqb i n) _ h) in let w = eqb-true (read_way sz d n) 3 (and_r (eqb i n) _ h) in
      (e, way-3_why sz d ok i i_lt (ap (read_way sz d) e ∙ w))),
  (λ h. and_i (eq-eqb i n h.0) (eq-eqb (read_way sz d n) 3 (sym (ap (read_way sz d) h.0) ∙ way-3 sz d ok i i_lt h.1))),
)

pub reads_write_none_rule : ReadsWriteNoneRule
unfolding reads_flash
reads_write_none_rule pick sz k ok i i_lt n long h = by-plan (plan pick sz k.directory k.wear n) h
  where
    by-plan : (p : Plan) → ((v f : ℕ) → p ≡ evict v f → ⊥) → write_merges sz k.directory p i ≡ false
    by-plan (slot_hit j) h = refl
    by-plan (frame_hit f) h = refl
    by-plan (free_slot j) h = refl
    by-plan (join v f) h = refl
    by-plan (fill v f) h = refl
    by-plan (exchange v f) h = refl
    by-plan (evict v f) h = absurd (h v f refl)

pub reads_write_rule : ReadsWriteRule
unfolding reads_flash
reads_write_rule pick sz k ok i i_lt n long v f fl al e = let d = k.directory in
    rw e (merged-rule sz d ok i i_lt (frame_at d f) f al fl)

pub reads_part_none_rule : ReadsPartNoneRule
unfolding reads_flash
reads_part_none_rule pick sz k ok i i_lt n first long = refl

pub reads_part_rule : ReadsPartRule
unfolding reads_flash
reads_part_rule pick sz k ok i i_lt n first many long p = let d = k.directory in
    rw (ne_eqb many 0 (λ z. absurd (omega arith))) (
      (λ h. or_cases (reads_page sz d n i) (write_merges sz d (plan pick sz d k.wear n) i) h),
      (λ h. elim h [ inl t ↦ or_l _ t | inr t ↦ or_r (reads_page sz d n i) t ]),
    )

pub reads_step_rule : ReadsStepRule
unfolding reads_flash
reads_step_rule pick sz k ok i i_lt b f bl fl e = rw e (merged-rule sz k.directory ok i i_lt b f bl fl)

pub reads_clean_rule : ReadsCleanRule
unfolding reads_flash
reads_clean_rule pick sz k ok i i_lt e = rw e

pub reads_flush_rule : ReadsFlushRule
unfolding reads_flash
reads_flush_rule pick sz k ok i i_lt picks b o bl ol q = let d = k.directory in let f = sound-facts sz d ok in
    let e = ap (λ (x : ℕ). x / sz.K) (sym q) ∙ page-div sz f.limits b o ol in (
      (λ h. let u = flush-in pick picks sz i i_lt sz.N d f h in (
        (found-cached sz d ok b bl).0 (rw e at u.block),
        ((λ p. u.slot p.0 p.1 p.2), λ g gl v. u.frame g gl (valid-found sz d ok i g v)),
      )),
      (λ h. flush-out pick picks sz i i_lt sz.N d f (count-le sz.N _) (record {
        block = rw e ((found-cached sz d ok b bl).1 h.0);
        slot = λ j jl z. h.1.0 (j, jl, z);
        frame = no-frame sz d ok i i_lt h.1.1;
      })),
    )

pub no-option_rule : NoOptionRule
unfolding format_of torn
no-option_rule sz a b = let c = coded-off sz (λ e. omega arith) in let m = marked-off sz (λ e. omega arith) in
    rw (c, m) ((λ x. (refl, refl, refl)), (λ x. refl))

pub coded-rule : CodedRule
unfolding format_of torn page_code
coded-rule sz m a b s = let c = coded-on sz a in let u = marked-off sz (λ e. omega arith) in let e : sz.S / 256 ≡ m = omega arith in
    rw (c, u) (rw (e, s) ((λ x. (refl, refl, (λ l. rw l), (λ l. rw l))), (λ x. refl), refl))

pub marked-rule : MarkedRule
unfolding format_of torn
marked-rule sz a b = let c = coded-off sz (λ e. omega arith) in let u = marked-on sz b in
    rw (c, u) ((λ x. (refl, refl, (λ e. rw e), (λ e. rw (ne_eqb (get_or x.mark 0 0) 0 e)))), (λ x. refl), refl)

pub marked-coded_rule : MarkedCodedRule
unfolding format_of torn page_code
marked-coded_rule sz m a b s = let c = coded-on sz a in let u = marked-on sz b in let e : sz.S / 256 ≡ m = omega arith in
    rw (c, u) (rw (e, s) (
      (λ x. (refl, refl, (λ l. rw l), (λ l q. rw (l, q)), (λ l q. rw (l, ne_eqb (get_or x.mark 0 0) 0 q)))),
      (λ x. refl),
      refl,
    ))
