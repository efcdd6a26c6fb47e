-- R3.9: a descriptor of d octets at a place: whether it is all there and its upper octets are zero, and its value.
-- Assumes nothing.
use Rattle.std.specs.Prelude.{ℕ, ◌+◌, not, List, length, take, drop, ltb}
use Rattle.octets.specs.Numbers.{be_value, upper_zero}
use Rattle.refusals.specs.Refusals.{◌▹◌, when}

-- R1.1: its value
abbrev pub descriptor_at : ℕ → ℕ → List ℕ → ℕ
descriptor_at d at s = be_value (take d (drop at s))

-- R3.9: 1 where it is not all there (s goes to the packet's end), then R9.5: 5 where an upper octet is not zero
unfoldable pub descriptor_refusal : ℕ → ℕ → List ℕ → ℕ
descriptor_refusal d at s =
    when (ltb (length s) (at + d)) 1
    ▹ when (not (upper_zero (take d (drop at s)))) 5
