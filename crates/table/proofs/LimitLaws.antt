-- R9: when each refusal is given, for a table: 12 of recording and of STATUS, 17, 18 and 23 of opening, and 16 after those before it.
-- Assumes nothing.
use Prim.Native.Nat.{ℕ, ◌+◌, ◌<◌, ◌≤◌}
use mathlib.Core.Path.{◌≡◌, refl, sym, ap, subst}
use mathlib.Core.Bool.{Bool, true, false, cond, ◌&&◌, true≢false, false≢true}
use mathlib.Core.List.{List}
use mathlib.Core.Option.{Option, none, some}
use mathlib.Core.Logic.Iff
use mathlib.Core.Logic.{◌↔◌}
use native.Mathlib.Omega.{arith}
use lib.ListN.{length}
use lib.Dec.{ltb, eqb}
use Rattle.refusals.specs.Refusals.{when}
use Rattle.refusals.proofs.TestLaws.{eqb_iff, ltb_iff, ltb_not, and_iff, test_not, both}
use Rattle.refusals.proofs.ReasonLaws.{given, one, below, ◌▸◌, within}
use Rattle.header.specs.FirstWord.{sum_type}
use Rattle.packet_data.specs.declared.Data.{Data}
use Rattle.runs.specs.Runs.{Run}
use Rattle.transfer.specs.declared.Key.{Key}
use Rattle.transfer.specs.Record.{runs_refusal}
use Rattle.transfer.specs.Opening.{new_refusal}
use Rattle.transfer.proofs.LimitLaws.{key_refusal_not_12, key_refusal_le}
use Rattle.table.specs.Tables.{find}
use Rattle.table.specs.Open.{Verdict, judge_new, judge_found, judge_open}
use Rattle.table.specs.Open.Verdict.{new, already, refuse}
use Rattle.table.specs.Record.{data_judged, record_refusal}

some_none : {k : Key} → ◌≡◌ {A = Option Key} (some k) none → ⊥
some_none e = let z : ◌≡◌ {A = ℕ} 0 1 = cc in omega arith

-- ---- recording

-- R9.12
pub twelve_iff : (o : Option Key) (d : Data) → (data_judged o d ≡ 12) ↔ (o ≡ none)
unfolding data_judged
twelve_iff none d = ((λ e. refl), (λ e. refl))
twelve_iff (some k) d = ((λ e. absurd (key_refusal_not_12 k d e)), (λ e. absurd (some_none e)))

judged_le : (o : Option Key) (d : Data) → data_judged o d ≤ 15
unfolding data_judged
judged_le none d = omega arith
judged_le (some k) d = key_refusal_le k d

-- 16, after the others: more than 64 runs
pub sixteen_after_iff : (o : Option Key) (runs : List Run) (d : Data) → (record_refusal o runs d ≡ 16) ↔ ((data_judged o d ≡ 0) × (64 < length runs))
unfolding record_refusal runs_refusal
sixteen_after_iff o runs d = given (within 15 (data_judged o d) (judged_le o d) ▸ one 16 (below 64 (length runs))) 16

-- ---- opening

-- equal width and length
abbrev Same : Key → Key → Type 0
Same j k = (j.width ≡ k.width) × (j.length ≡ k.length)

abbrev same : Key → Key → Bool
same j k = eqb j.width k.width && eqb j.length k.length

same_iff : (j k : Key) → (same j k ≡ true) ↔ Same j k
same_iff j k =
    Iff.trans (and_iff (eqb j.width k.width) (eqb j.length k.length))
    (both (eqb_iff j.width k.width) (eqb_iff j.length k.length))

-- what a choice between two verdicts gives, where they differ: the first exactly when the test holds, else the second
first_iff : (t : Bool) (a b : Verdict) → (b ≡ a → ⊥) → (cond t a b ≡ a) ↔ (t ≡ true)
first_iff true a b n = ((λ e. refl), (λ e. refl))
first_iff false a b n = ((λ e. absurd (n e)), (λ e. absurd (false≢true e)))

second_iff : (t : Bool) (a b : Verdict) → (a ≡ b → ⊥) → (cond t a b ≡ b) ↔ (t ≡ false)
second_iff true a b n = ((λ e. absurd (n e)), (λ e. absurd (true≢false e)))
second_iff false a b n = ((λ e. refl), (λ e. refl))

neither : (t : Bool) (a b v : Verdict) → (a ≡ v → ⊥) → (b ≡ v → ⊥) → cond t a b ≡ v → ⊥
neither true a b v n m e = n e
neither false a b v n m e = m e

-- verdicts as numbers, to tell them apart
abbrev rank : Verdict → ℕ
rank new = 0
rank already = 1
rank (refuse n) = 2 + n

apart : (u v : Verdict) → (rank u ≡ rank v → ⊥) → u ≡ v → ⊥
apart u v n e = n (ap rank e)

-- ---- a new Id, by the number of its METADATA and how many are open

-- whether METADATA has checksum type 1
abbrev unwanted : ℕ → Bool
unwanted flags = eqb (sum_type flags) 1

-- where it has not, only room counts
wanted_iff : (b : Bool) (count : ℕ) (v : Verdict) → (refuse 23 ≡ v → ⊥)
    → (judge_new (when b 23) count ≡ v) ↔ ((b ≡ false) × (cond (ltb count 16) new (refuse 17) ≡ v))
wanted_iff true count v n = ((λ e. absurd (n e)), (λ p. absurd (true≢false p.0)))
wanted_iff false count v n = ((λ e. (refl, e)), (λ p. p.1))

unwanted_iff : (b : Bool) (count : ℕ) → (judge_new (when b 23) count ≡ refuse 23) ↔ (b ≡ true)
unwanted_iff true count = ((λ e. refl), (λ e. refl))
unwanted_iff false count = (
  (λ e. absurd (neither (ltb count 16) new (refuse 17) (refuse 23) (apart new (refuse 23) (λ e. omega arith)) (apart (refuse 17) (refuse 23) (λ e. omega arith)) e)),
  (λ e. absurd (false≢true e)),
)

-- ---- by what is open under the Id

module _ (count n : ℕ) (k : Key) (v : Verdict) where
  -- a verdict of an Id that is not open is given for no other, and one of an Id that is open neither
  none_iff : (already ≡ v → ⊥) → (refuse 18 ≡ v → ⊥) → (o : Option Key) → (judge_found o count n k ≡ v) ↔ ((o ≡ none) × (judge_new n count ≡ v))
  unfolding judge_found
  none_iff a m none = ((λ e. (refl, e)), (λ p. p.1))
  none_iff a m (some j) = ((λ e. absurd (neither (same j k) already (refuse 18) v a m e)), (λ p. absurd (some_none p.0)))

  some_iff : (A : Key → Type 0) → ((j : Key) → (cond (same j k) already (refuse 18) ≡ v) ↔ A j) → (judge_new n count ≡ v → ⊥)
      → (o : Option Key) → (judge_found o count n k ≡ v) ↔ ((j : Key) × (o ≡ some j) × A j)
  unfolding judge_found
  some_iff A i m none = ((λ e. absurd (m e)), (λ p. absurd (some_none (sym p.1))))
  some_iff A i m (some j) = (
    (λ e. (j, refl, (i j).0 e)),
    (λ p. let q : p.0 ≡ j = cc p.1 in (i j).1 (subst A q p.2)),
  )

-- ---- by the keys of the table, and the flags of METADATA

module _ (ks : List Key) (flags : ℕ) (k : Key) where
  -- no verdict of a new Id is that of one that is open
  fresh : (v : Verdict) → (new ≡ v → ⊥) → (refuse 17 ≡ v → ⊥) → (refuse 23 ≡ v → ⊥) → judge_new (new_refusal flags) (length ks) ≡ v → ⊥
  unfolding new_refusal
  fresh v a b c e = neither (ltb (length ks) 16) new (refuse 17) v a b ((wanted_iff (unwanted flags) (length ks) v c).0 e).1

  -- a new Id whose METADATA is taken, and room for it
  pub new_iff : (judge_open ks (new_refusal flags) k ≡ new) ↔ ((find k.id ks ≡ none) × ((sum_type flags ≡ 1 → ⊥) × (length ks < 16)))
  unfolding judge_open new_refusal
  new_iff =
      Iff.trans (none_iff (length ks) (new_refusal flags) k new (apart already new (λ e. omega arith)) (apart (refuse 18) new (λ e. omega arith)) (find k.id ks))
      (both Iff.rfl
      (Iff.trans (wanted_iff (unwanted flags) (length ks) new (apart (refuse 23) new (λ e. omega arith)))
      (both (test_not (unwanted flags) (sum_type flags ≡ 1) (eqb_iff (sum_type flags) 1))
      (Iff.trans (first_iff (ltb (length ks) 16) new (refuse 17) (apart (refuse 17) new (λ e. omega arith))) (ltb_iff (length ks) 16)))))

  -- R9.17
  pub seventeen_iff : (judge_open ks (new_refusal flags) k ≡ refuse 17) ↔ ((find k.id ks ≡ none) × ((sum_type flags ≡ 1 → ⊥) × (16 ≤ length ks)))
  unfolding judge_open new_refusal
  seventeen_iff =
      Iff.trans
      (none_iff (length ks) (new_refusal flags) k (refuse 17) (apart already (refuse 17) (λ e. omega arith)) (apart (refuse 18) (refuse 17) (λ e. omega arith)) (find k.id ks))
      (both Iff.rfl
      (Iff.trans (wanted_iff (unwanted flags) (length ks) (refuse 17) (apart (refuse 23) (refuse 17) (λ e. omega arith)))
      (both (test_not (unwanted flags) (sum_type flags ≡ 1) (eqb_iff (sum_type flags) 1))
      (Iff.trans (second_iff (ltb (length ks) 16) new (refuse 17) (apart new (refuse 17) (λ e. omega arith))) (ltb_not (length ks) 16)))))

  -- R9.23, before 17: however many are open
  pub twenty_three_iff : (judge_open ks (new_refusal flags) k ≡ refuse 23) ↔ ((find k.id ks ≡ none) × (sum_type flags ≡ 1))
  unfolding judge_open new_refusal
  twenty_three_iff =
      Iff.trans
      (none_iff (length ks) (new_refusal flags) k (refuse 23) (apart already (refuse 23) (λ e. omega arith)) (apart (refuse 18) (refuse 23) (λ e. omega arith)) (find k.id ks))
      (both Iff.rfl (Iff.trans (unwanted_iff (unwanted flags) (length ks)) (eqb_iff (sum_type flags) 1)))

  -- R6.4: an Id that is open with the same width and length, whatever its METADATA's checksum is
  pub already_iff : (judge_open ks (new_refusal flags) k ≡ already) ↔ ((j : Key) × (find k.id ks ≡ some j) × Same j k)
  unfolding judge_open
  already_iff =
      some_iff (length ks) (new_refusal flags) k already (λ j. Same j k)
      (λ j. Iff.trans (first_iff (same j k) already (refuse 18) (apart (refuse 18) already (λ e. omega arith))) (same_iff j k))
      (fresh already (apart new already (λ e. omega arith)) (apart (refuse 17) already (λ e. omega arith)) (apart (refuse 23) already (λ e. omega arith)))
      (find k.id ks)

  -- R9.18
  pub eighteen_iff : (judge_open ks (new_refusal flags) k ≡ refuse 18) ↔ ((j : Key) × (find k.id ks ≡ some j) × (Same j k → ⊥))
  unfolding judge_open
  eighteen_iff =
      some_iff (length ks) (new_refusal flags) k (refuse 18) (λ j. Same j k → ⊥)
      (λ j. Iff.trans (second_iff (same j k) already (refuse 18) (apart already (refuse 18) (λ e. omega arith))) (test_not (same j k) (Same j k) (same_iff j k)))
      (fresh (refuse 18) (apart new (refuse 18) (λ e. omega arith)) (apart (refuse 17) (refuse 18) (λ e. omega arith)) (apart (refuse 23) (refuse 18) (λ e. omega arith)))
      (find k.id ks)
