-- R2.13: the flags of BEACON, by the first word or by bits 8 to 31 alone: what a peer can and will do, and whether it tells its free space.
-- Assumes nothing.
use Rattle.std.specs.Prelude.{ℕ, ◌*◌, ◌^◌, ◌≡◌, not, cond, eqb}
use Rattle.refusals.specs.Refusals.{◌▹◌, when}
use Rattle.header.specs.FirstWord.{bits, descriptor_octets}
use Rattle.beacon_flags.specs.declared.BeaconFlags.{BeaconFlags}
use Rattle.beacon_flags.specs.declared.Willingness.{Willingness}
use Rattle.beacon_flags.specs.declared.Willingness.TheVariants.{Cannot, NotNow, Willing}

-- R2.13: the widest descriptors, in octets
abbrev pub largest_width : ℕ → ℕ
largest_width w = descriptor_octets w

-- R2.13: bundles
abbrev pub bundles_of : ℕ → ℕ
bundles_of w = bits 32 w 10 10

-- R2.13: streams
abbrev pub streams_of : ℕ → ℕ
streams_of w = bits 32 w 11 11

-- R2.13: the pairings of bits for sending and for receiving
abbrev pub sending_pair : ℕ → ℕ
sending_pair w = bits 32 w 12 13

abbrev pub receiving_pair : ℕ → ℕ
receiving_pair w = bits 32 w 14 15

-- R2.13: whether free space is given
abbrev pub free_present : ℕ → ℕ
free_present w = bits 32 w 17 17

-- R2.13: its width in octets, 0 where none is given
abbrev pub free_octets : ℕ → ℕ
free_octets w = cond (eqb (free_present w) 1) (2 * 2 ^ bits 32 w 18 19) 0

-- R2.13: bits 24 to 31, which must be 0
abbrev pub last_octet : ℕ → ℕ
last_octet w = bits 32 w 24 31

-- R2.13: the state that a pairing says: 0 0, 1 0 or 1 1. The fourth pairing, 0 1, is refused before
abbrev pub willingness_of : ℕ → Willingness
willingness_of pair = cond (eqb pair 0) Cannot (cond (eqb pair 2) NotNow Willing)

-- R2.13: the pairing of each state
abbrev pub pair_of : Willingness → ℕ
pair_of Cannot = 0
pair_of NotNow = 2
pair_of Willing = 3

-- R9.26: 26 for a pairing 0 1 of either, and for bits 24 to 31 that are not 0
unfoldable pub flags_refusal : ℕ → ℕ
flags_refusal w =
    when (eqb (sending_pair w) 1) 26
    ▹ when (eqb (receiving_pair w) 1) 26
    ▹ when (not (eqb (last_octet w) 0)) 26

-- f holds the flags of the word w
pub record Splits (w : ℕ) (f : BeaconFlags) : Type 0 where
  pub bundles_is : f.bundles ≡ bundles_of w
  pub streams_is : f.streams ≡ streams_of w
  pub sending_is : f.sending ≡ sending_pair w
  pub receiving_is : f.receiving ≡ receiving_pair w
  pub present_is : f.present ≡ free_present w
  pub width_is : f.width ≡ bits 32 w 18 19
  pub last_is : f.last ≡ last_octet w
