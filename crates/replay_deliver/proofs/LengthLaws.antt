-- How long the lines of a packet off the link are at most, where a buffer of m octets is lent for STATUS. Assumes nothing.
use Prim.Native.Nat.{ℕ, ◌+◌}
use mathlib.Core.List.{List}
use Rattle.refusals.specs.declared.Refusal.{Refusal}
use Rattle.packet_data.specs.declared.Data.{Data}
use Rattle.packet_metadata.specs.declared.Metadata.{Metadata}
use Rattle.table.specs.declared.Opened.{Opened}
use Rattle.text.proofs.LengthLaws.{AtMost, ◌and◌}
use Rattle.replay_answers.proofs.LengthLaws.{short_most, refused_short, opening_most, recording_most}
use Rattle.replay_status.proofs.LengthLaws.{sent_most_lem, failure_sent_most, wanted_sent_most}
use Rattle.replay_deliver.specs.Deliver.{refusal_lines, opened_code, opened_lines, recorded_sent, recorded_lines}
use Rattle.std.specs.Prelude.{Result, Ok, Err}
use Rattle.transfer.specs.declared.Receipt.{Receipt}

-- a line, and what is to be sent
abbrev pub deliver_most_lem : ℕ → ℕ
deliver_most_lem m = short_most + sent_most_lem m

module _ {room : List ℕ} {m : ℕ} (h : AtMost room m) where
  recorded_sent_most : (n : ℕ) (p : List ℕ) (d : Data) (a : Result Receipt Refusal) (area : List ℕ) → AtMost (recorded_sent n p d a area room) (sent_most_lem m)
  unfolding recorded_sent
  recorded_sent_most n p d (Ok x) area = wanted_sent_most h n area d
  recorded_sent_most n p d (Err x) area = failure_sent_most h n p x.code

  pub refusal_lines_most : (n : ℕ) (p : List ℕ) (x : Refusal) → AtMost (refusal_lines n p x room) (deliver_most_lem m)
  unfolding refusal_lines
  refusal_lines_most n p x = refused_short n x and failure_sent_most h n p x.code

  pub opened_lines_most : (n : ℕ) (p : List ℕ) (f : Metadata) (a : Result Opened Refusal) → AtMost (opened_lines n p f a room) (deliver_most_lem m)
  unfolding opened_lines
  opened_lines_most n p f a = opening_most n f a and failure_sent_most h n p (opened_code a)

  pub recorded_lines_most : (n : ℕ) (p : List ℕ) (d : Data) (a : Result Receipt Refusal) (area : List ℕ) → AtMost (recorded_lines n p d a area room) (deliver_most_lem m)
  unfolding recorded_lines
  recorded_lines_most n p d a area = recording_most n d a and recorded_sent_most n p d a area
