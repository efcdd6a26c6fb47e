-- How long the line of a BEACON is at most. Assumes nothing.
use Prim.Native.Nat.{ℕ, ◌+◌, ◌*◌}
use mathlib.Core.Bool.{Bool, true, false, cond}
use mathlib.Core.List.{List, ◌++◌}
use native.Mathlib.Omega.{arith}
use lib.Dec.{eqb}
use lib.ListN.{length}
use Rattle.packet_beacon.specs.declared.Beacon.{Beacon}
use Rattle.beacon_flags.specs.declared.Willingness.{Willingness}
use Rattle.beacon_flags.specs.declared.Willingness.TheVariants.{Cannot, NotNow, Willing}
use Rattle.text.proofs.LengthLaws.{AtMost, words, ◌and◌, at_most, part_most, decimal_most_lem, decimal_most}
use Rattle.replay_fields.specs.LineWords.{newline, w_beacon, w_largest, w_bundles, w_streams, w_sending, w_receiving, w_cannot, w_not_now, w_willing, w_free_width, w_free, w_endpoint}
use Rattle.replay_fields.specs.Fields.{field, bits_of}
use Rattle.replay_fields.proofs.LengthLaws.{field_most_lem, field_most, octets_field_most, number_field_most}
use Rattle.replay_beacon.specs.BeaconLine.{state_text, flags_text, states_text, free_text, beacon_line}

abbrev flags_most_lem : ℕ
flags_most_lem = decimal_most_lem + (length w_beacon + 6 + (field_most_lem w_largest + (field_most_lem w_bundles + field_most_lem w_streams)))

flags_most : (n : ℕ) (b : Beacon) → AtMost (flags_text n b) flags_most_lem
flags_most n b =
    decimal_most n
    and number_field_most w_beacon 3 b.flags
    and field_most w_largest (bits_of b.largest)
    and field_most w_bundles b.bundles
    and field_most w_streams b.streams

-- the longest words have seven octets
state_most : (w : Willingness) → AtMost (state_text w) 7
unfolding state_text
state_most Cannot = at_most (words w_cannot) (omega arith)
state_most NotNow = words w_not_now
state_most Willing = words w_willing

abbrev states_most_lem : ℕ
states_most_lem = length w_sending + (7 + (length w_receiving + 7))

states_most : (send receive : Willingness) → AtMost (states_text send receive) states_most_lem
states_most send receive = words w_sending and state_most send and words w_receiving and state_most receive

abbrev free_most_lem : ℕ
free_most_lem = field_most_lem w_free_width + field_most_lem w_free

free_most : (width free : ℕ) → AtMost (free_text width free) free_most_lem
free_most width free = go (eqb width 0)
  where
    go : (b : Bool) → AtMost (cond b (w_free_width ++ w_free) (field w_free_width (bits_of width) ++ field w_free free)) free_most_lem
    go true = at_most (words w_free_width and words w_free) (omega arith)
    go false = field_most w_free_width (bits_of width) and field_most w_free free

-- of a packet of k octets
abbrev pub beacon_most_lem : ℕ → ℕ
beacon_most_lem k = flags_most_lem + (states_most_lem + (free_most_lem + (length w_endpoint + 2 * k + 1)))

pub beacon_most : (n : ℕ) {p : List ℕ} {k : ℕ} (b : Beacon) → AtMost p k → AtMost (beacon_line n p b) (beacon_most_lem k)
unfolding beacon_line
beacon_most n b h =
    flags_most n b
    and states_most b.send b.receive
    and free_most b.width b.free
    and octets_field_most w_endpoint (part_most b.length b.start h)
    and words newline
