-- `first_word::join` meets its contract: the parts of the word share no bit, so an or of them is their sum. Assumes nothing.
use Prim.Native.Nat.{ℕ, ◌+◌, ◌*◌, ◌%◌, ◌^◌}
use mathlib.Core.Path.{◌≡◌, ap, ◌∙◌}
use lib.Bits.{bit_or, or_shifted}
use native.Mathlib.Omega.{arith}
use Rattle.first_word.proofs.join.Goals as goal

pub returns : goal.returns
returns c =
    let t = c.args.ptype in let f = c.args.flags in
    let e : 2 ^ 30 + t * 2 ^ 24 % 2 ^ 64 ≡ (64 + t) * 2 ^ 24 = omega arith in
    ap (λ (n : ℕ). bit_or n f) (or_shifted 1 30 (t * 2 ^ 24 % 2 ^ 64) (omega arith) ∙ e)
    ∙ or_shifted (64 + t) 24 f (omega arith)
    ∙ omega arith
