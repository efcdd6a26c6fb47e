-- The lines of STATUS: what is to be sent for a packet off the link, and what a record `S` gets. `room` is the lent buffer as it stands
-- before. Assumes nothing.
use Rattle.std.specs.Prelude.{ℕ, min, Bool, false, not, cond, List, [], eqb, ltb, length, take, get_or}
use Rattle.header.specs.FirstWord.{type_of}
use Rattle.header.specs.Start.{word_of, id_of}
use Rattle.packet_data.specs.declared.Data.{Data}
use Rattle.failure_status.specs.WriteFailure.{failure_written, failure_buffer}
use Rattle.area.specs.Operations.{area_status_written, area_status_buffer}
use Rattle.replay_lines.specs.Body.{number_at, bad_line}
use Rattle.replay_answers.specs.AnswerLines.{status_text, sent_text}

-- R13.1: which refused packet is answered with a failure STATUS, to the Id in octets 4 to 7: one of at least 8 octets, of another type than
-- BEACON, which has no Id, and whose refusal has a code. The type is
-- bits 2 to 7: a packet that doesn't begin 0 1 has no code (replay_deliver: AnsweredLaws). `saratoga_failure_id` of include/saratoga.h and
-- the link program, which calls it, say the same. The writer would refuse code 0 too (21); that there is nothing to send for it is said
-- here, where the rule is
unfoldable pub failure_sent : ℕ → List ℕ → ℕ → List ℕ → List ℕ
failure_sent n p code room =
    cond (eqb code 0) []
    (cond (ltb (length p) 8) []
    (cond (eqb (type_of (word_of p)) 0) []
    (sent_text n (failure_written (id_of p) code room) (failure_buffer (id_of p) code room))))

-- R13.2: where the packet wants a status (bit 15), a STATUS is sent, asked for, k = 0, with room for all holes
unfoldable pub wanted_sent : ℕ → List ℕ → Data → List ℕ → List ℕ
wanted_sent n area d room =
    cond (eqb d.wanted 0) []
    (sent_text n (area_status_written area d.id 0 false room) (area_status_buffer area d.id 0 false room))

-- the STATUS that is written into a buffer
unfoldable pub written_line : ℕ → List ℕ → ℕ → ℕ → Bool → List ℕ → List ℕ
written_line n area id k unasked room =
    status_text n (area_status_written area id k unasked room) (area_status_buffer area id k unasked room)

-- `S`: four octets for the Id, eight for k, one that is not 0 where unasked, four for the room, of which no more is used than is lent
unfoldable pub status_lines : ℕ → List ℕ → List ℕ → List ℕ → List ℕ
status_lines n body area room =
    cond (eqb (length body) 17)
    (written_line n area (number_at 0 4 body) (number_at 4 8 body) (not (eqb (get_or body 12 0) 0)) (take (min (number_at 13 4 body) (length room)) room))
    (bad_line n)
