-- R9: when each refusal is given, for recording by marks: 12 and 16; and that recording answers a refusal exactly when its definition gives the
-- number.
-- Assumes nothing.
use Prim.Native.Nat.{ℕ, suc, ◌<◌}
use mathlib.Core.Path.{◌≡◌, refl}
use mathlib.Core.Bool.{not}
use mathlib.Core.List.{List}
use mathlib.Core.Logic.Iff
use mathlib.Core.Logic.{◌↔◌}
use native.Mathlib.Omega.{arith}
use lib.ListN.{length}
use lib.Dec.{eqb}
use Rattle.refusals.specs.Refusals.{refusal_of}
use Rattle.refusals.proofs.TestLaws.{eqb_not, not_iff}
use Rattle.refusals.proofs.RefusalLaws.{given_here}
use Rattle.refusals.proofs.LimitLaws.{refused_iff}
use Rattle.packet_data.specs.Data.{data_refusal, data_of}
use Rattle.packet_data.specs.declared.Data.{Data}
use Rattle.transfer.specs.declared.Key.{Key}
use Rattle.transfer.specs.Record.{key_refusal, extended}
use Rattle.transfer.proofs.LimitLaws.{key_refusal_not_12, sixteen_iff}
use Rattle.marks.specs.MarkedRuns.{marked_runs}
use Rattle.bitmap.specs.State.{state_refusal}
use Rattle.bitmap_extend.specs.Record.{data_refused, record_refusal, record_as, record_marks}
use Rattle.std.specs.Prelude.{Err}

-- ---- 12: the packet is of another Id
pub twelve_iff : (k : Key) (d : Data) → (data_refused k d ≡ 12) ↔ (d.id ≡ k.id → ⊥)
unfolding data_refused
twelve_iff k d =
    Iff.trans (given_here (not (eqb d.id k.id)) 12 (key_refusal k d) (λ e. omega arith) (key_refusal_not_12 k d))
    (Iff.trans (not_iff (eqb d.id k.id)) (eqb_not d.id k.id))

-- ---- 16, after the others
pub sixteen_after_iff : (k : Key) (s packet : List ℕ) → state_refusal k s ≡ 0 → data_refusal packet ≡ 0 → data_refused k (data_of packet) ≡ 0
    → (record_refusal k s packet ≡ 16) ↔ (64 < length (extended (marked_runs s) (data_of packet)))
unfolding record_refusal
sixteen_after_iff k s packet fit read judged = rw (fit, read, judged) (sixteen_iff (extended (marked_runs s) (data_of packet)))

-- ---- the answers

pub record_refused_iff : (k : Key) (s packet : List ℕ) (n : ℕ)
    → ((record_marks k s packet).answer ≡ Err (refusal_of (suc n))) ↔ (record_refusal k s packet ≡ suc n)
unfolding record_marks record_as
record_refused_iff k s packet n =
    refused_iff Err (λ m. (record_as m k s (data_of packet)).answer) (λ m. refl)
    (λ r e. let z : ◌≡◌ {A = ℕ} 0 1 = cc in omega arith) (λ q r e. cc) (record_refusal k s packet) n
