-- The lines of every record fit the buffer that `replay` puts them into, so that none is cut: docs/REPLAY.md. Assumes nothing.
use Prim.Native.Nat.{ℕ, ◌≤◌}
use mathlib.Core.Path.{◌≡◌}
use mathlib.Core.Bool.{Bool, true, false, cond}
use mathlib.Core.List.{List}
use native.Mathlib.Omega.{arith}
use lib.Dec.{eqb}
use lib.ListN.{length, take}
use Rattle.octets.specs.Numbers.{Octets}
use Rattle.packet.specs.Read.{read_packet}
use Rattle.packet_beacon.specs.Beacon.{beacon_of}
use Rattle.packet_data.specs.Data.{data_of, read_data}
use Rattle.packet_metadata.specs.Metadata.{metadata_of, read_metadata}
use Rattle.packet_status.specs.Status.{failure_of}
use Rattle.area.specs.Operations.{open_area, record_area}
use Rattle.text.specs.Added.{Added}
use Rattle.text.proofs.AddedLaws.{added_whole}
use Rattle.text.proofs.LengthLaws.{AtMost, at_most}
use Rattle.replay_fields.specs.LineWords.{w_cut}
use Rattle.replay_beacon.proofs.LengthLaws.{beacon_most}
use Rattle.replay_lines.specs.Lines.{unknown_line}
use Rattle.replay_lines.proofs.LengthLaws.{plain_most, unknown_most}
use Rattle.replay_packets.proofs.LengthLaws.{failure_most}
use Rattle.replay_answers.specs.AnswerLines.{open_text, record_text, read_text}
use Rattle.replay_answers.proofs.CaseLaws.{read_cases}
use Rattle.replay_answers.proofs.LengthLaws.{open_most, record_text_most, read_most, success_line_most}
use Rattle.replay_plan.specs.PlanRecords.{plan_lines, check_lines}
use Rattle.replay_plan.proofs.LengthLaws.{plan_lines_most, check_lines_most}
use Rattle.replay_merge.specs.MergeLines.{choose_lines, merge_lines}
use Rattle.replay_merge.proofs.LengthLaws.{choose_lines_most, merge_lines_most}
use Rattle.replay_status.specs.StatusLines.{status_lines}
use Rattle.replay_status.proofs.LengthLaws.{status_lines_most}
use Rattle.replay_deliver.specs.Deliver.{deliver_lines}
use Rattle.replay_deliver.proofs.LengthLaws.{refusal_lines_most, opened_lines_most, recorded_lines_most}
use Rattle.replay_records.specs.Kinds.{fresh_lines, close_lines, time_lines}
use Rattle.replay_records.proofs.LengthLaws.{fresh_lines_most, close_lines_most, time_lines_most}
use Rattle.replay_kinds.specs.ByKind.{no_table_lines, one_table_lines}
use Rattle.replay_steps.specs.Room.{body_most, lent_most, out_least, Room}
use Rattle.replay_steps.specs.Records.{cut_line, record_lines}

module _ (n : ℕ) (body area room : List ℕ) (o : Octets body) (b : AtMost body body_most) (r : AtMost room lent_most) where
  deliver_most : AtMost (deliver_lines n body (read_packet body) area room) out_least
  unfolding deliver_lines
  deliver_most =
      read_cases (λ x. AtMost (deliver_lines n body x area room) out_least) body
      (at_most (beacon_most n (beacon_of body) b) (omega arith))
      (at_most (opened_lines_most r n body (metadata_of body) (open_area area body).answer) (omega arith))
      (at_most (recorded_lines_most r n body (data_of body) (record_area area body).answer (record_area area body).area) (omega arith))
      (at_most (success_line_most n o b) (omega arith))
      (at_most (failure_most n (failure_of body)) (omega arith))
      (λ x. at_most (refusal_lines_most r n body x) (omega arith))

  no_table_most : (kind : ℕ) → AtMost (no_table_lines n kind body) out_least
  unfolding no_table_lines
  no_table_most kind = go (eqb kind 0x52) (eqb kind 0x57) (eqb kind 0x4c) (eqb kind 0x4b) (eqb kind 0x54)
    where
      go : (q w l k t : Bool) → AtMost
          (cond q (read_text n body (read_packet body))
          (cond w (time_lines n body)
          (cond l (plan_lines n body)
          (cond k (check_lines n body)
          (cond t (choose_lines n body)
          (unknown_line n kind)))))) out_least
      go true w l k t = at_most (read_most n body o b) (omega arith)
      go false true l k t = at_most (time_lines_most n body) (omega arith)
      go false false true k t = at_most (plan_lines_most n body) (omega arith)
      go false false false true t = at_most (check_lines_most n body) (omega arith)
      go false false false false true = at_most (choose_lines_most n body) (omega arith)
      go false false false false false = at_most (unknown_most n kind) (omega arith)

  one_table_most : (kind : ℕ) → AtMost (one_table_lines n kind body area) out_least
  unfolding one_table_lines
  one_table_most kind = go (eqb kind 0x46) (eqb kind 0x4f) (eqb kind 0x44) (eqb kind 0x43)
    where
      go : (f o d c : Bool) → AtMost
          (cond f (fresh_lines n body area)
          (cond o (open_text n (read_metadata body) (open_area area body).answer)
          (cond d (record_text n (read_data body) (record_area area body).answer)
          (cond c (close_lines n body area)
          (no_table_lines n kind body))))) out_least
      go true o d c = at_most (fresh_lines_most n body area) (omega arith)
      go false true d c = at_most (open_most n (read_metadata body) (open_area area body).answer) (omega arith)
      go false false true c = at_most (record_text_most n (read_data body) (record_area area body).answer) (omega arith)
      go false false false true = at_most (close_lines_most n body area) (omega arith)
      go false false false false = no_table_most kind

  kind_most : (kind : ℕ) (other : List ℕ) → AtMost (record_lines n kind body area other room) out_least
  unfolding record_lines
  kind_most kind other = go (eqb kind 0x4d) (eqb kind 0x53) (eqb kind 0x50)
    where
      go : (m s p : Bool) → AtMost
          (cond m (merge_lines n body area other)
          (cond s (status_lines n body area room)
          (cond p (deliver_lines n body (read_packet body) area room)
          (one_table_lines n kind body area)))) out_least
      go true s p = at_most (merge_lines_most n body area other) (omega arith)
      go false true p = at_most (status_lines_most r n body area) (omega arith)
      go false false true = deliver_most
      go false false false = one_table_most kind

-- the lines of a record of any number and kind, over any areas, fit
pub record_lines_fit : (n kind : ℕ) (body area other room : List ℕ) → Octets body → length body ≤ body_most → length room ≤ lent_most
    → length (record_lines n kind body area other room) ≤ out_least
record_lines_fit n kind body area other room o b r = (kind_most n body area room o (record { most = b }) (record { most = r }) kind other).most

-- and so does that of a record inside which the input ends
pub cut_line_fits : (n : ℕ) → length (cut_line n) ≤ out_least
cut_line_fits n = omega (arith, (plain_most n w_cut).most)

-- so what stands at the start of `out` is the lines, whole
pub record_lines_whole : (n kind : ℕ) (body area other room : List ℕ) {out after : List ℕ} {size : ℕ} → Octets body → Room body room out
    → Added out 0 (record_lines n kind body area other room) after size → take size after ≡ record_lines n kind body area other room
record_lines_whole n kind body area other room o h a =
    added_whole a (omega (arith, h.out_holds, record_lines_fit n kind body area other room o h.body_fits h.lent_fits))
