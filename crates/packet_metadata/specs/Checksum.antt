-- R2.7: the checksum of METADATA: which pairs of type and length are taken.
-- Assumes nothing.
use Rattle.std.specs.Prelude.{ℕ, zero, suc, ◌*◌, Bool, not, eqb}
use Rattle.refusals.specs.Refusals.{when}
use Rattle.header.specs.FirstWord.{sum_type, sum_words}

-- R2.7: the pairs of type and length in words
unfoldable pub pair_allowed : ℕ → ℕ → Bool
pair_allowed zero n = eqb n 0
pair_allowed (suc zero) n = eqb n 1
pair_allowed (suc (suc zero)) n = eqb n 4
pair_allowed (suc (suc (suc zero))) n = eqb n 5
pair_allowed (suc (suc (suc (suc t)))) n = not (eqb n 0)

-- R9.7: 7 for every other pair
unfoldable pub pair_refusal : ℕ → ℕ
pair_refusal w = when (not (pair_allowed (sum_type w) (sum_words w))) 7

-- R2.6: the length of the checksum in octets
abbrev pub checksum_octets : ℕ → ℕ
checksum_octets w = 4 * sum_words w
