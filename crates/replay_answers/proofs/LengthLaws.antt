-- How long the line of each answer is at most. Assumes nothing.
use Prim.Native.Nat.{ℕ, ◌+◌, ◌*◌, ◌≤◌}
use mathlib.Core.List.{List, []}
use native.Mathlib.Omega.{arith}
use Rattle.octets.specs.Numbers.{Octets}
use Rattle.refusals.specs.declared.Refusal.{Refusal}
use Rattle.header.specs.Start.{word_of}
use Rattle.header.proofs.FirstWordLaws.{timestamp_le}
use Rattle.packet.specs.Read.{read_packet}
use Rattle.packet_beacon.specs.Beacon.{beacon_of}
use Rattle.packet_data.specs.Data.{data_of}
use Rattle.packet_data.specs.declared.Data.{Data}
use Rattle.packet_metadata.specs.Checksum.{checksum_octets}
use Rattle.packet_metadata.specs.Metadata.{metadata_of}
use Rattle.packet_metadata.specs.declared.Metadata.{Metadata}
use Rattle.packet_status.specs.Status.{success_of, failure_of}
use Rattle.table.specs.declared.Opened.{Opened}
use Rattle.table.specs.declared.Opened.TheVariants as opened
use Rattle.text.proofs.LengthLaws.{AtMost, words, at_most, part_most}
use Rattle.replay_fields.specs.LineWords.{w_already, w_fresh, w_new, w_send, w_written}
use Rattle.replay_lines.specs.Lines.{refused_line}
use Rattle.replay_success.specs.SuccessLine.{success_line}
use Rattle.replay_lines.proofs.LengthLaws.{plain_most, refused_most, close_most, opened_most, record_most_lem, record_most, octets_most}
use Rattle.replay_packets.proofs.LengthLaws.{failure_most, metadata_most_lem, metadata_most, data_most}
use Rattle.replay_beacon.proofs.LengthLaws.{beacon_most}
use Rattle.replay_success.proofs.HoleLengthLaws.{success_most_lem, success_most}
use Rattle.replay_answers.specs.AnswerLines.{fresh_text, close_text, opening_text, open_text, recording_text, record_text, read_text, status_text, sent_text}
use Rattle.replay_answers.proofs.CaseLaws.{read_cases}
use Rattle.std.specs.Prelude.{Result, Ok, Err, ⊤}
use Rattle.transfer.specs.declared.Receipt.{Receipt}

-- ---- lines of words and numbers alone: none is longer than that of a recording

abbrev pub short_most : ℕ
short_most = record_most_lem

pub refused_short : (n : ℕ) (x : Refusal) → AtMost (refused_line n x) short_most
refused_short n x = at_most (refused_most n x) (omega arith)

pub fresh_most : (n : ℕ) (a : Result ⊤ Refusal) → AtMost (fresh_text n a) short_most
unfolding fresh_text
fresh_most n (Ok tt) = at_most (plain_most n w_fresh) (omega arith)
fresh_most n (Err x) = refused_short n x

pub close_text_most : (n id : ℕ) (a : Result ⊤ Refusal) → AtMost (close_text n id a) short_most
unfolding close_text
close_text_most n id (Ok tt) = at_most (close_most n id) (omega arith)
close_text_most n id (Err x) = refused_short n x

pub opening_most : (n : ℕ) (m : Metadata) (a : Result Opened Refusal) → AtMost (opening_text n m a) short_most
unfolding opening_text
opening_most n m (Ok (opened.New x)) = at_most (opened_most n m x w_new) (omega arith)
opening_most n m (Ok (opened.AlreadyOpen x)) = at_most (opened_most n m x w_already) (omega arith)
opening_most n m (Err x) = refused_short n x

pub open_most : (n : ℕ) (m : Result Metadata Refusal) (a : Result Opened Refusal) → AtMost (open_text n m a) short_most
unfolding open_text
open_most n (Ok m) a = opening_most n m a
open_most n (Err x) a = refused_short n x

pub recording_most : (n : ℕ) (d : Data) (a : Result Receipt Refusal) → AtMost (recording_text n d a) short_most
unfolding recording_text
recording_most n d (Ok x) = record_most n d x
recording_most n d (Err x) = refused_short n x

pub record_text_most : (n : ℕ) (d : Result Data Refusal) (a : Result Receipt Refusal) → AtMost (record_text n d a) short_most
unfolding record_text
record_text_most n (Ok d) a = recording_most n d a
record_text_most n (Err x) a = refused_short n x

-- ---- the octets that were written, into a buffer of m octets

pub status_text_most : (n : ℕ) (w : Result ℕ Refusal) {lent : List ℕ} {m : ℕ} → AtMost lent m → AtMost (status_text n w lent) (short_most + 2 * m)
unfolding status_text
status_text_most n (Ok k) h = at_most (octets_most n w_written (part_most k 0 h)) (omega arith)
status_text_most n (Err x) h = at_most (refused_short n x) (omega arith)

pub sent_most : (n : ℕ) (w : Result ℕ Refusal) {lent : List ℕ} {m : ℕ} → AtMost lent m → AtMost (sent_text n w lent) (short_most + 2 * m)
unfolding sent_text
sent_most n (Ok k) h = at_most (octets_most n w_send (part_most k 0 h)) (omega arith)
sent_most n (Err x) h = at_most (words []) (omega arith)

-- ---- what a packet of k octets was read as

-- a checksum has at most 60 octets, and a timestamp 16
checksum_le : (w : ℕ) → checksum_octets w ≤ 60
checksum_le w = omega arith

-- the words and numbers of METADATA are the longest, and the holes of a STATUS the longest octets: three for one
abbrev pub read_most_lem : ℕ → ℕ
read_most_lem k = metadata_most_lem 60 0 + 3 * k

pub success_line_most : (n : ℕ) {p : List ℕ} {k : ℕ} → Octets p → AtMost p k → AtMost (success_line n p (success_of p)) (success_most_lem 16 k)
success_line_most n {p} o h = at_most (success_most n o h) (omega (arith, timestamp_le (word_of p)))

pub read_most : (n : ℕ) (p : List ℕ) {k : ℕ} → Octets p → AtMost p k → AtMost (read_text n p (read_packet p)) (read_most_lem k)
unfolding read_text metadata_of data_of
read_most n p {k} o h =
    read_cases (λ r. AtMost (read_text n p r) (read_most_lem k)) p
    (at_most (beacon_most n (beacon_of p) h) (omega arith))
    (at_most (metadata_most n (metadata_of p) h) (omega (arith, checksum_le (word_of p))))
    (at_most (data_most n p (data_of p)) (omega (arith, timestamp_le (word_of p))))
    (at_most (success_line_most n o h) (omega arith))
    (at_most (failure_most n (failure_of p)) (omega arith))
    (λ x. at_most (refused_short n x) (omega arith))
