-- The line of a success STATUS that was read, with its holes.
-- Assumes nothing.
use Rattle.std.specs.Prelude.{ℕ, zero, suc, List, [], ◌++◌, take, drop, Result, Ok, Err}
use Rattle.runs.specs.declared.Hole.{Hole}
use Rattle.packet_status.specs.Status.{read_hole}
use Rattle.packet_status.specs.declared.SuccessStatus.{SuccessStatus}
use Rattle.packet_status.specs.declared.Status.{Status}
use Rattle.packet_status.specs.declared.Status.TheVariants as status_read
use Rattle.replay_fields.specs.LineWords.{dash, newline, w_holes, w_progress, w_response, w_success, w_timestamp}
use Rattle.replay_fields.specs.Fields.{field, octets_field, pair_text, in_list}
use Rattle.replay_packets.specs.PacketLines.{head_text}
use Rattle.refusals.specs.declared.Refusal.{Refusal}

-- `1000-2000`
abbrev pub hole_text : Hole → List ℕ
hole_text h = pair_text dash h.start h.end

-- the hole with this index in the list
unfoldable pub hole_after : ℕ → Result Hole Refusal → List ℕ
hole_after i (Ok h) = in_list i (hole_text h)
hole_after i (Err r) = []

-- how many holes a packet lists, by what it was read as
abbrev pub holes_listed : Result Status Refusal → ℕ
holes_listed (Ok (status_read.Success s)) = s.count
holes_listed (Ok (status_read.Failure f)) = 0
holes_listed (Err r) = 0

-- the first k holes
unfoldable pub holes_text : List ℕ → ℕ → List ℕ
holes_text p zero = []
holes_text p (suc k) = holes_text p k ++ hole_after k (read_hole k p)

-- `10 success id=7 flags=000000 width=16 timestamp= progress=1000 in-response-to=3000 holes=1000-2000,2500-2600`
unfoldable pub success_line : ℕ → List ℕ → SuccessStatus → List ℕ
success_line n p s =
    head_text n w_success s.id s.flags s.width
    ++ (octets_field w_timestamp (take s.timestamp (drop 8 p))
    ++ (field w_progress s.progress
    ++ (field w_response s.response
    ++ (w_holes
    ++ (holes_text p s.count
    ++ newline)))))
