-- R9: when each refusal is given, for a failure STATUS that is written: 21 and 20. Assumes nothing.
use Prim.Native.Nat.{ℕ, suc, ◌^◌, ◌<◌, ◌≤◌}
use mathlib.Core.Path.{◌≡◌, refl}
use mathlib.Core.List.{List}
use mathlib.Core.Logic.{◌⊎◌, ◌↔◌}
use lib.ListN.{length}
use Rattle.refusals.specs.Refusals.{refusal_of}
use Rattle.refusals.proofs.LimitLaws.{written_iff}
use Rattle.refusals.proofs.ReasonLaws.{Reasons, given, one, again, below, equal, reaches, ◌▸◌, named}
use Rattle.failure_status.specs.WriteFailure.{failure_write_refusal, failure_written}
use Rattle.std.specs.Prelude.{Err}

module _ (id status room : ℕ) where
  abbrev tests : Reasons
  tests = again 21 (reaches id (2 ^ 32)) (again 21 (equal status 0) (one 21 (below 255 status) ▸ one 20 (below room 8)))

  write_is : failure_write_refusal id status room ≡ tests.refusal
  unfolding failure_write_refusal
  write_is = refl

  abbrev reasons : Reasons
  reasons = named (failure_write_refusal id status room) tests write_is

  -- R9.21
  abbrev pub FailureExcess : Type 0
  FailureExcess = (2 ^ 32 ≤ id) ⊎ ((status ≡ 0) ⊎ (255 < status))

  -- 21, before all
  pub write_twenty_one_iff : (failure_write_refusal id status room ≡ 21) ↔ FailureExcess
  write_twenty_one_iff = given reasons 21

  -- R9.20
  pub write_twenty_iff : (failure_write_refusal id status room ≡ 20) ↔ ((id < 2 ^ 32) × ((status ≡ 0 → ⊥) × ((status ≤ 255) × (room < 8))))
  write_twenty_iff = given reasons 20

-- the answer: refused with the number that these laws speak of
pub write_refused_iff : (id status : ℕ) (old : List ℕ) (n : ℕ)
    → (failure_written id status old ≡ Err (refusal_of (suc n))) ↔ (failure_write_refusal id status (length old) ≡ suc n)
unfolding failure_written
write_refused_iff id status old n = written_iff (failure_write_refusal id status (length old)) n 8
