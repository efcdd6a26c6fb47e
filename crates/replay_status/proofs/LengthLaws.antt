-- How long the lines of STATUS are at most, where a buffer of m octets is lent. Assumes nothing.
use Prim.Native.Nat.{ℕ, ◌+◌, ◌*◌, min}
use mathlib.Core.Bool.{Bool, true, false, not, cond}
use mathlib.Core.List.{List, []}
use native.Mathlib.Omega.{arith}
use lib.Dec.{eqb, ltb}
use lib.ListN.{length, take, get_or}
use Rattle.header.specs.FirstWord.{type_of}
use Rattle.header.specs.Start.{word_of, id_of}
use Rattle.packet_data.specs.declared.Data.{Data}
use Rattle.failure_status.specs.WriteFailure.{failure_written, failure_buffer}
use Rattle.area.specs.Operations.{area_status_written, area_status_buffer}
use Rattle.text.proofs.LengthLaws.{AtMost, words, at_most, part_most}
use Rattle.replay_fields.specs.LineWords.{w_bad}
use Rattle.replay_lines.specs.Body.{number_at, bad_line}
use Rattle.replay_lines.proofs.LengthLaws.{plain_most}
use Rattle.replay_answers.specs.AnswerLines.{sent_text}
use Rattle.replay_answers.proofs.LengthLaws.{short_most, status_text_most, sent_most}
use Rattle.replay_status.specs.StatusLines.{failure_sent, wanted_sent, written_line, status_lines}
use Rattle.replay_status.proofs.BufferLaws.{failure_buffer_most, area_buffer_most}

-- a line of words and numbers, and the octets of a buffer of m
abbrev pub sent_most_lem : ℕ → ℕ
sent_most_lem m = short_most + 2 * m

-- ---- a packet off the link

module _ {room : List ℕ} {m : ℕ} (h : AtMost room m) where
  nothing : AtMost [] (sent_most_lem m)
  nothing = at_most (words []) (omega arith)

  pub failure_sent_most : (n : ℕ) (p : List ℕ) (code : ℕ) → AtMost (failure_sent n p code room) (sent_most_lem m)
  unfolding failure_sent
  failure_sent_most n p code = go (eqb code 0) (ltb (length p) 8) (eqb (type_of (word_of p)) 0)
    where
      sent : List ℕ
      sent = sent_text n (failure_written (id_of p) code room) (failure_buffer (id_of p) code room)

      go : (a b c : Bool) → AtMost (cond a [] (cond b [] (cond c [] sent))) (sent_most_lem m)
      go true b c = nothing
      go false true c = nothing
      go false false true = nothing
      go false false false = sent_most n _ (failure_buffer_most h (id_of p) code)

  pub wanted_sent_most : (n : ℕ) (area : List ℕ) (d : Data) → AtMost (wanted_sent n area d room) (sent_most_lem m)
  unfolding wanted_sent
  wanted_sent_most n area d = go (eqb d.wanted 0)
    where
      sent : List ℕ
      sent = sent_text n (area_status_written area d.id 0 false room) (area_status_buffer area d.id 0 false room)

      go : (b : Bool) → AtMost (cond b [] sent) (sent_most_lem m)
      go true = nothing
      go false = sent_most n _ (area_buffer_most h area d.id 0 false)

-- ---- a record `S`

pub status_lines_most : {room : List ℕ} {m : ℕ} → AtMost room m → (n : ℕ) (body area : List ℕ) → AtMost (status_lines n body area room) (sent_most_lem m)
unfolding status_lines written_line
status_lines_most {room} {m} h n body area = go (eqb (length body) 17)
  where
    id : ℕ
    id = number_at 0 4 body

    k : ℕ
    k = number_at 4 8 body

    unasked : Bool
    unasked = not (eqb (get_or body 12 0) 0)

    used : ℕ
    used = min (number_at 13 4 body) (length room)

    go : (b : Bool) → AtMost (cond b (written_line n area id k unasked (take used room)) (bad_line n)) (sent_most_lem m)
    go true = status_text_most n _ (area_buffer_most (part_most used 0 h) area id k unasked)
    go false = at_most (plain_most n w_bad) (omega arith)
