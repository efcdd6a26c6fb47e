-- R6.4, R9.23: what METADATA of a new Id is refused with, whatever the receiver.
-- Assumes nothing.
use Rattle.std.specs.Prelude.{ℕ, eqb}
use Rattle.refusals.specs.Refusals.{when}
use Rattle.header.specs.FirstWord.{sum_type}

-- R9.23: by the flags of METADATA, 23 for checksum type 1, which is CRC-32c
unfoldable pub new_refusal : ℕ → ℕ
new_refusal flags = when (eqb (sum_type flags) 1) 23
