-- What a writer's answer and buffer are, where it refuses and where it doesn't. Assumes nothing.
use Prim.Native.Nat.{ℕ, zero, suc, ◌≤◌}
use mathlib.Core.Path.{◌≡◌, refl}
use mathlib.Core.List.{List}
use native.Mathlib.Omega.{arith}
use lib.Dec.{ltb}
use borrow.Author.Tests.{ltb-false}
use Rattle.refusals.specs.Refusals.{when, refusal_of}
use Rattle.refusals.specs.Writing.{room_refusal, written_of, buffer_after}
use Rattle.refusals.proofs.RefusalLaws.{first_none, rest_none, failed, answered_refused}
use Rattle.std.specs.Prelude.{Ok, Err}

pub written_refused : (n size : ℕ) → (n ≡ 0 → ⊥) → Err (refusal_of n) ≡ written_of n size
written_refused n size h = answered_refused Err n (Ok size) h

-- a writer that answers a size refused nothing, and the size is the packet's
pub written_size : (n size m : ℕ) → written_of n size ≡ Ok m → (n ≡ 0) × (size ≡ m)
written_size zero size m e = (refl, cc)
written_size (suc n) size m e = absurd (let z : ◌≡◌ {A = ℕ} 0 1 = cc in omega arith)

pub buffer_refused : (n : ℕ) (packet old : List ℕ) → (n ≡ 0 → ⊥) → old ≡ buffer_after n packet old
buffer_refused zero packet old h = absurd (h refl)
buffer_refused (suc n) packet old h = refl

pub record RoomFine (size room : ℕ) : Type 0 where
  pub short : size ≤ 65535
  pub fits : size ≤ room

pub room_fine : (size room : ℕ) → room_refusal size room ≡ 0 → RoomFine size room
unfolding room_refusal
room_fine size room e =
    record {
      short = ltb-false _ _ (failed _ 1 (first_none _ _ e));
      fits = ltb-false _ _ (failed _ 19 (rest_none (when (ltb 65535 size) 2) _ e));
    }
