-- The answers of opening and recording: a refusal with the number n is answered exactly when the judgement gives n.
-- Assumes nothing.
use Prim.Native.Nat.{ℕ, zero, suc}
use mathlib.Core.Path.{◌≡◌, refl, ap}
use mathlib.Core.List.{List}
use mathlib.Core.Option.{Option, none, some}
use mathlib.Core.Logic.{◌↔◌}
use native.Mathlib.Omega.{arith}
use Rattle.refusals.specs.Refusals.{refusal_of}
use Rattle.refusals.specs.declared.Refusal.{Refusal}
use Rattle.refusals.proofs.RefusalLaws.{first_none}
use Rattle.packet_data.specs.declared.Data.{Data}
use Rattle.runs.specs.Runs.{Run}
use Rattle.transfer.specs.declared.Key.{Key}
use Rattle.transfer.specs.Transfers.{Transfer}
use Rattle.table.specs.Tables.{keys, find}
use Rattle.table.specs.Open.{Verdict, judge_open, open_as, open_key}
use Rattle.table.specs.Open.Verdict.{new, already, refuse}
use Rattle.table.specs.Record.{data_judged, record_refusal, grown, record_as, record_data}
use Rattle.table.specs.declared.Opened.TheVariants as opened
use Rattle.table.proofs.LimitLaws.{twelve_iff}
use Rattle.std.specs.Prelude.{Err}

open_as_iff : (v : Verdict) (t : List Transfer) (k : Key) (n : ℕ) → ((open_as v t k).answer ≡ Err (refusal_of n)) ↔ (v ≡ refuse n)
unfolding open_as
open_as_iff new t k n = ((λ e. absurd (let z : ◌≡◌ {A = ℕ} 0 1 = cc in omega arith)), (λ e. absurd (let z : ◌≡◌ {A = ℕ} 0 1 = cc in omega arith)))
open_as_iff already t k n = ((λ e. absurd (let z : ◌≡◌ {A = ℕ} 0 1 = cc in omega arith)), (λ e. absurd (let z : ◌≡◌ {A = ℕ} 0 1 = cc in omega arith)))
open_as_iff (refuse m) t k n = (
  (λ e. let r : refusal_of m ≡ refusal_of n = cc in ap refuse (ap (λ (x : Refusal). x.number) r)),
  (λ e. let m-is : m ≡ n = cc in ap (λ (i : ℕ). Err (refusal_of i)) m-is),
)

-- opening refuses with n exactly when the judgement is to refuse with n
pub open_refused_iff : (t : List Transfer) (f : ℕ) (k : Key) (n : ℕ) → ((open_key t f k).answer ≡ Err (refusal_of n)) ↔ (judge_open (keys t) f k ≡ refuse n)
unfolding open_key
open_refused_iff t f k n = open_as_iff (judge_open (keys t) f k) t k n

record_as_iff : (m n : ℕ) (o : Option Key) (runs : List Run) (t : List Transfer) (d : Data) (s : List ℕ) → (m ≡ 0 → o ≡ none → ⊥)
    → ((record_as m o runs t d s).answer ≡ Err (refusal_of (suc n))) ↔ (m ≡ suc n)
unfolding record_as
record_as_iff zero n none runs t d s f = absurd (f refl refl)
record_as_iff zero n (some k) runs t d s f = ((λ e. absurd (let z : ◌≡◌ {A = ℕ} 0 1 = cc in omega arith)), (λ e. absurd (omega arith)))
record_as_iff (suc m) n o runs t d s f = (
  (λ e. let r : refusal_of (suc m) ≡ refusal_of (suc n) = cc in ap (λ (x : Refusal). x.number) r),
  (λ e. ap (λ (i : ℕ). Err (refusal_of i)) e),
)

-- what is not refused is open
record_open : (o : Option Key) (runs : List Run) (d : Data) → record_refusal o runs d ≡ 0 → o ≡ none → ⊥
unfolding record_refusal
record_open o runs d e z = omega (arith, first_none (data_judged o d) _ e, (twelve_iff o d).1 z)

-- recording refuses with n exactly when the judgement gives n
pub record_refused_iff : (t : List Transfer) (d : Data) (s : List ℕ) (n : ℕ)
    → ((record_data t d s).answer ≡ Err (refusal_of (suc n))) ↔ (record_refusal (find d.id (keys t)) (grown t d) d ≡ suc n)
unfolding record_data
record_refused_iff t d s n =
    let o = find d.id (keys t) in
    record_as_iff (record_refusal o (grown t d) d) n o (grown t d) t d s (record_open o (grown t d) d)
