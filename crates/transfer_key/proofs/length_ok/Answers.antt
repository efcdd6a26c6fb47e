-- `transfer_key::length_ok` meets its contract: a return for each width, and one for every other number.
-- Assumes nothing.
use Prim.Native.Nat.{◌^◌}
use mathlib.Core.Path.{◌≡◌, refl, sym}
use mathlib.Core.Bool.{Bool, true, false, cond}
use lib.Dec.{eqb}
use borrow.Author.Tests.{lt-ltb, ne_eqb}
use Rattle.transfer.specs.Transfers.{length_test}
use native.Mathlib.Omega.{arith}
use Rattle.transfer_key.proofs.length_ok.Goals as goal

pub returns-then-width-eq2 : goal.returns-then-width-eq2
unfolding length_test
returns-then-width-eq2 c =
    rw c.if-width-eq2.true

pub returns-then-width-eq4 : goal.returns-then-width-eq4
unfolding length_test
returns-then-width-eq4 c =
    rw c.if-width-eq4.true

pub returns-then-width-eq8 : goal.returns-then-width-eq8
unfolding length_test
returns-then-width-eq8 c =
    rw c.if-width-eq8.true (sym (lt-ltb c.args.length (256 ^ 8) (omega arith)))

pub returns : goal.returns
unfolding length_test
returns c =
    let a = c.args in
    rw (
      ne_eqb a.width 2 c.if-width-eq2.false,
      ne_eqb a.width 4 c.if-width-eq4.false,
      ne_eqb a.width 8 c.if-width-eq8.false,
      lt-ltb a.length (2 ^ 64) (omega arith),
    )
    (told (eqb a.width 16))
  where
    told : (b : Bool) → b ≡ cond b true false
    told true = refl
    told false = refl
