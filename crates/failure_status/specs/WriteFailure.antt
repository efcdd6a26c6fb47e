-- R4.7: a failure STATUS, written.
-- Assumes nothing.
use Rattle.std.specs.Prelude.{ℕ, ◌^◌, not, List, ◌++◌, length, ltb, eqb, Result}
use Rattle.octets.specs.Numbers.{be_digits}
use Rattle.refusals.specs.Refusals.{◌▹◌, when}
use Rattle.header.specs.FirstWord.{word_for}
use Rattle.refusals.specs.Writing.{written_of, buffer_after}
use Rattle.refusals.specs.declared.Refusal.{Refusal}

-- R4.7: 21 for a field over its bits or code 0, then 20
unfoldable pub failure_write_refusal : ℕ → ℕ → ℕ → ℕ
failure_write_refusal id status room =
    when (not (ltb id (2 ^ 32))) 21
    ▹ when (eqb status 0) 21
    ▹ when (ltb 255 status) 21
    ▹ when (ltb room 8) 20

unfoldable pub failure_octets : ℕ → ℕ → List ℕ
failure_octets id status = be_digits 4 (word_for 4 status) ++ be_digits 4 id

-- the writer's answer, and the buffer at exit
unfoldable pub failure_written : ℕ → ℕ → List ℕ → Result ℕ Refusal
failure_written id status old = written_of (failure_write_refusal id status (length old)) 8

unfoldable pub failure_buffer : ℕ → ℕ → List ℕ → List ℕ
failure_buffer id status old = buffer_after (failure_write_refusal id status (length old)) (failure_octets id status) old
