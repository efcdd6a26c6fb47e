-- R9: when each refusal is given, for STATUS by marks: 12, since an Id over 32 bits is open nowhere.
-- Assumes nothing.
use Prim.Native.Nat.{ℕ, ◌^◌, ◌≤◌}
use mathlib.Core.Path.{◌≡◌}
use mathlib.Core.List.{List}
use mathlib.Core.Logic.Iff
use mathlib.Core.Logic.{◌↔◌}
use lib.Dec.{leb}
use borrow.Author.Tests.{leb-true, le-leb}
use Rattle.refusals.proofs.ReasonLaws.{given, one, says, ◌▸◌, reworded}
use Rattle.transfer.specs.declared.Key.{Key}
use Rattle.bitmap.specs.State.{state_refusal}
use Rattle.bitmap.proofs.LimitLaws.{reasons}
use Rattle.bitmap_status.specs.WriteStatus.{id_refusal}

pub status_twelve_iff : (k : Key) (s : List ℕ) → (id_refusal k s ≡ 12) ↔ ((state_refusal k s ≡ 0) × (2 ^ 32 ≤ k.id))
unfolding id_refusal
status_twelve_iff k s =
    given (reworded 0 (reasons k s) Iff.rfl ▸ one 12 (says (leb (2 ^ 32) k.id) (leb-true (2 ^ 32) k.id, le-leb (2 ^ 32) k.id))) 12
