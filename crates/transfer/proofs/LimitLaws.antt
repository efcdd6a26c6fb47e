-- R9: when each refusal is given, for one transfer: 13 to 16 of recording.
-- Assumes nothing.
use Prim.Native.Nat.{◌+◌, ◌<◌, ◌≤◌}
use mathlib.Core.Path.{◌≡◌}
use mathlib.Core.Bool.{Bool, true, false, not, ◌&&◌}
use mathlib.Core.List.{List}
use mathlib.Core.Logic.Iff
use mathlib.Core.Logic.{◌↔◌}
use native.Mathlib.Omega.{arith}
use lib.ListN.{length}
use lib.Dec.{ltb, eqb}
use Rattle.refusals.specs.Refusals.{◌▹◌, when}
use Rattle.refusals.proofs.TestLaws.{eqb_iff, eqb_not, ltb_iff, ltb_not, not_iff, not_not, and_iff, both}
use Rattle.refusals.proofs.RefusalLaws.{when_other, when_given, given_here, given_later}
use Rattle.packet_data.specs.declared.Data.{Data}
use Rattle.runs.specs.Runs.{Run}
use Rattle.transfer.specs.declared.Key.{Key}
use Rattle.transfer.specs.Record.{stop_of, key_refusal, runs_refusal}

module _ (k : Key) (d : Data) where
  -- the tests, in their order
  abbrev wrong_width_lem : Bool
  wrong_width_lem = not (eqb d.width k.width)

  abbrev too_long_lem : Bool
  too_long_lem = ltb k.length (stop_of d)

  abbrev wrong_end_lem : Bool
  wrong_end_lem = eqb d.eod 1 && not (eqb (stop_of d) k.length)

  same_width : (wrong_width_lem ≡ false) ↔ (d.width ≡ k.width)
  same_width = Iff.trans (not_not (eqb d.width k.width)) (eqb_iff d.width k.width)

  -- R9.13
  pub thirteen_iff : (key_refusal k d ≡ 13) ↔ (d.width ≡ k.width → ⊥)
  unfolding key_refusal
  thirteen_iff =
      Iff.trans (given_here wrong_width_lem 13 _ (λ e. omega arith) (λ e. when_other wrong_end_lem 15 13 (λ z. omega arith) (λ z. omega arith) ((given_later too_long_lem 14 13 (when wrong_end_lem 15) (λ z. omega arith) (λ z. omega arith)).0 e).1))
      (Iff.trans (not_iff (eqb d.width k.width)) (eqb_not d.width k.width))

  -- R9.14: the sum is not cut
  pub fourteen_iff : (key_refusal k d ≡ 14) ↔ ((d.width ≡ k.width) × (k.length < d.offset + d.length))
  unfolding key_refusal
  fourteen_iff =
      Iff.trans (given_later wrong_width_lem 13 14 _ (λ e. omega arith) (λ e. omega arith))
      (both same_width
      (Iff.trans (given_here too_long_lem 14 _ (λ e. omega arith) (when_other wrong_end_lem 15 14 (λ z. omega arith) (λ z. omega arith))) (ltb_iff k.length (stop_of d))))

  -- R9.15
  pub fifteen_iff : (key_refusal k d ≡ 15)
      ↔ ((d.width ≡ k.width) × ((d.offset + d.length ≤ k.length) × ((d.eod ≡ 1) × (d.offset + d.length ≡ k.length → ⊥))))
  unfolding key_refusal
  fifteen_iff =
      Iff.trans (given_later wrong_width_lem 13 15 _ (λ e. omega arith) (λ e. omega arith))
      (both same_width
      (Iff.trans (given_later too_long_lem 14 15 _ (λ e. omega arith) (λ e. omega arith))
      (both (ltb_not k.length (stop_of d))
      (Iff.trans (when_given wrong_end_lem 15 (λ e. omega arith))
      (Iff.trans (and_iff (eqb d.eod 1) (not (eqb (stop_of d) k.length)))
      (both (eqb_iff d.eod 1) (Iff.trans (not_iff (eqb (stop_of d) k.length)) (eqb_not (stop_of d) k.length))))))))

  -- no other number is given
  pub key_refusal_le : key_refusal k d ≤ 15
  unfolding key_refusal
  key_refusal_le = chain wrong_width_lem too_long_lem wrong_end_lem
    where
      chain : (a b c : Bool) → (when a 13 ▹ when b 14 ▹ when c 15) ≤ 15
      chain true b c = omega arith
      chain false true c = omega arith
      chain false false true = omega arith
      chain false false false = omega arith

  -- 12 least of all, which is for an Id that is not open
  pub key_refusal_not_12 : key_refusal k d ≡ 12 → ⊥
  unfolding key_refusal
  key_refusal_not_12 e =
      let p = (given_later wrong_width_lem 13 12 _ (λ z. omega arith) (λ z. omega arith)).0 e in
      let q = (given_later too_long_lem 14 12 (when wrong_end_lem 15) (λ z. omega arith) (λ z. omega arith)).0 p.1 in
      when_other wrong_end_lem 15 12 (λ z. omega arith) (λ z. omega arith) q.1

-- R9.16
pub sixteen_iff : (rs : List Run) → (runs_refusal rs ≡ 16) ↔ (64 < length rs)
unfolding runs_refusal
sixteen_iff rs = Iff.trans (when_given (ltb 64 (length rs)) 16 (λ e. omega arith)) (ltb_iff 64 (length rs))
