-- What recording answers of a refusal, and what no refusal says of the packet.
-- Assumes nothing.
use Prim.Native.Nat.{ℕ, zero, suc, ◌≤◌, ◌<◌}
use mathlib.Core.Path.{◌≡◌, refl, sym, ◌∙◌}
use mathlib.Core.Bool.{not}
use mathlib.Core.List.{List}
use native.Mathlib.Omega.{arith}
use lib.Dec.{eqb}
use borrow.Author.Tests.{eq-eqb, ne_eqb}
use Rattle.refusals.specs.Refusals.{when, refusal_of}
use Rattle.refusals.specs.Faults.{number_of}
use Rattle.refusals.specs.declared.Fault.{Fault}
use Rattle.refusals.proofs.FaultLaws.{fault_some}
use Rattle.refusals.proofs.RefusalLaws.{stays, rest_none}
use Rattle.packet_data.specs.Data.{data_refusal, data_of, read_data}
use Rattle.packet_data.specs.declared.Data.{Data}
use Rattle.transfer.specs.declared.Key.{Key}
use Rattle.transfer.specs.Record.{stop_of, key_refusal}
use Rattle.transfer.proofs.ExtendLaws.{key_stop}
use Rattle.transfer.proofs.FieldLaws.{data_some}
use Rattle.bitmap.specs.State.{longest, state_refusal}
use Rattle.bitmap.proofs.StateLaws.{state_known}
use Rattle.bitmap_extend.specs.Record.{data_refused, record_refusal, record_as, record_marks}
use Rattle.std.specs.Prelude.{Err}

-- ---- 12 to 15

module _ (k : Key) (d : Data) where
  pub another_id : (d.id ≡ k.id → ⊥) → 12 ≡ data_refused k d
  unfolding data_refused
  another_id h = rw (ne_eqb d.id k.id h)

  pub same_id : d.id ≡ k.id → key_refusal k d ≡ data_refused k d
  unfolding data_refused
  same_id h = rw (eq-eqb d.id k.id h)

-- ---- all of them

-- what a `?` answers of a fault, and the marks then
pub record_fault : (f : Fault) (k : Key) (s : List ℕ) (d : Data) → record_as (number_of f) k s d ≡ record { answer = Err (refusal_of (number_of f)); marks = s }
unfolding record_as
record_fault f k s d = go (number_of f) (fault_some f)
  where
    go : (n : ℕ) → (n ≡ 0 → ⊥) → record_as n k s d ≡ record { answer = Err (refusal_of n); marks = s }
    go zero h = absurd (h refl)
    go (suc n) h = refl

-- 12 to 15, of marks that are a transfer's and a packet that is DATA
module _ (k : Key) (s packet : List ℕ) where
  refused_as : (n m : ℕ) (d : Data) → n ≡ m → (n ≡ 0 → ⊥) → (Err (refusal_of n) ≡ (record_as m k s d).answer) × (s ≡ (record_as m k s d).marks)
  unfolding record_as
  refused_as n zero d e h = absurd (h e)
  refused_as n (suc m) d e h = (rw e, refl)

  pub record_refused : state_refusal k s ≡ 0 → data_refusal packet ≡ 0 → (d : Data) → d ≡ data_of packet → (n : ℕ) → n ≡ data_refused k d → (n ≡ 0 → ⊥)
      → (Err (refusal_of n) ≡ (record_marks k s packet).answer) × (s ≡ (record_marks k s packet).marks)
  unfolding record_marks record_refusal
  record_refused fit read d is n e h =
      refused_as n _ (data_of packet) (e ∙ rw (fit, read, ← is) (sym (stays (data_refused k d) _ (λ z. h (e ∙ z))))) h

-- what no refusal says of the packet
pub judged_key : (k : Key) (d : Data) → data_refused k d ≡ 0 → key_refusal k d ≡ 0
unfolding data_refused
judged_key k d e = rest_none (when (not (eqb d.id k.id)) 12) (key_refusal k d) e

pub judged_stop : (k : Key) (s : List ℕ) (d : Data) → state_refusal k s ≡ 0 → data_refused k d ≡ 0 → stop_of d ≤ longest
judged_stop k s d e j = let f = state_known k s e in omega (arith, key_stop k d (judged_key k d j), f.short)

pub payload_some : (packet : List ℕ) (d : Data) → data_refusal packet ≡ 0 → d ≡ data_of packet → 0 < d.length
unfolding read_data
payload_some packet d e is = data_some packet d (rw (e, is))
