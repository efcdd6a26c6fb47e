-- The line of a BEACON: what a peer can and will do, its free space, and who it is.
-- Assumes nothing.
use Rattle.std.specs.Prelude.{ℕ, cond, List, ◌++◌, eqb, take, drop}
use Rattle.packet_beacon.specs.declared.Beacon.{Beacon}
use Rattle.beacon_flags.specs.declared.Willingness.{Willingness}
use Rattle.beacon_flags.specs.declared.Willingness.TheVariants.{Cannot, NotNow, Willing}
use Rattle.text.specs.Decimal.{decimal_of}
use Rattle.replay_fields.specs.LineWords.{newline, w_beacon, w_largest, w_bundles, w_streams, w_sending, w_receiving, w_cannot, w_not_now, w_willing, w_free_width, w_free, w_endpoint}
use Rattle.replay_fields.specs.Fields.{field, octets_field, number_field, bits_of}

-- R2.13: the word of each of the three states
unfoldable pub state_text : Willingness → List ℕ
state_text Cannot = w_cannot
state_text NotNow = w_not_now
state_text Willing = w_willing

-- ` beacon flags=880000 largest-width=64 bundles=0 streams=0`, after the number of the record
abbrev pub flags_text : ℕ → Beacon → List ℕ
flags_text n b =
    decimal_of n
    ++ (number_field w_beacon 3 b.flags
    ++ (field w_largest (bits_of b.largest)
    ++ (field w_bundles b.bundles
    ++ field w_streams b.streams)))

-- ` send=willing receive=not-now`
abbrev pub states_text : Willingness → Willingness → List ℕ
states_text send receive = w_sending ++ (state_text send ++ (w_receiving ++ state_text receive))

-- ` free-width=32 free=4096`; both are empty where a BEACON of this width of free space has none
abbrev pub free_text : ℕ → ℕ → List ℕ
free_text width free = cond (eqb width 0) (w_free_width ++ w_free) (field w_free_width (bits_of width) ++ field w_free free)

-- `16 beacon flags=.. largest-width=64 bundles=0 streams=0 send=willing receive=not-now free-width= free= endpoint=706c..`
unfoldable pub beacon_line : ℕ → List ℕ → Beacon → List ℕ
beacon_line n p b =
    flags_text n b
    ++ (states_text b.send b.receive
    ++ (free_text b.width b.free
    ++ (octets_field w_endpoint (take b.length (drop b.start p))
    ++ newline)))
