-- Which widths and lengths pass: the width is one of the four, and the length fits it and 64 bits.
-- Assumes nothing.
use Prim.Native.Nat.{ℕ, ◌^◌, ◌≤◌, ◌<◌}
use mathlib.Core.Path.{◌≡◌, refl}
use mathlib.Core.Bool.{Bool, true, false, cond}
use native.Mathlib.Nat.{pow-le-pow_right, lt_of_lt_of_le}
use native.Mathlib.Omega.{arith}
use lib.Dec.{ltb, eqb}
use borrow.Author.Tests.{ltb-true, eqb-true, lt-ltb}
use Rattle.octets.specs.Numbers.{Width}
use Rattle.octets.specs.Numbers.Width.{two, four, eight, sixteen}
use Rattle.transfer.specs.Transfers.{length_test}

pub length_passed : (width length : ℕ) → length_test width length ≡ true → Width width × (length < 256 ^ width) × (length < 2 ^ 64)
unfolding length_test
length_passed w n e = go (eqb w 2) (eqb w 4) (eqb w 8) (eqb w 16) refl refl refl refl e
  where
    narrow : (d : ℕ) → Width d → d ≤ 8 → ltb n (256 ^ d) ≡ true → Width d × (n < 256 ^ d) × (n < 2 ^ 64)
    narrow d x h t =
        let l = ltb-true n (256 ^ d) t in
        (x, l, lt_of_lt_of_le l (pow-le-pow_right {n = 256} (omega arith) {i = d} {j = 8} h))

    go : (a b c d : Bool) → eqb w 2 ≡ a → eqb w 4 ≡ b → eqb w 8 ≡ c → eqb w 16 ≡ d
        → cond a (ltb n (256 ^ 2)) (cond b (ltb n (256 ^ 4)) (cond c (ltb n (256 ^ 8)) (cond d (ltb n (2 ^ 64)) false))) ≡ true
        → Width w × (n < 256 ^ w) × (n < 2 ^ 64)
    go true b c d p q r s t = rw (eqb-true w 2 p) (narrow 2 two (omega arith) t)
    go false true c d p q r s t = rw (eqb-true w 4 q) (narrow 4 four (omega arith) t)
    go false false true d p q r s t = rw (eqb-true w 8 r) (narrow 8 eight (omega arith) t)
    go false false false true p q r s t =
        let l = ltb-true n (256 ^ 8) t in
        rw (eqb-true w 16 s) (sixteen, lt_of_lt_of_le l (pow-le-pow_right {n = 256} (omega arith) {i = 8} {j = 16} (omega arith)), l)
    go false false false false p q r s t = absurd (let z : ◌≡◌ {A = ℕ} 0 1 = cc in omega arith)

pub length_passes : (width length : ℕ) → Width width → length < 256 ^ width → length < 2 ^ 64 → length_test width length ≡ true
unfolding length_test
length_passes w n two h l = lt-ltb n (256 ^ 2) h
length_passes w n four h l = lt-ltb n (256 ^ 4) h
length_passes w n eight h l = lt-ltb n (256 ^ 8) h
length_passes w n sixteen h l = lt-ltb n (2 ^ 64) l
