-- R16.9, R16.10: ending: the digest that is written.
-- Assumes nothing.
use Rattle.std.specs.Prelude.{ℕ, List, length, ltb, Result}
use Rattle.refusals.specs.Refusals.{◌▹◌, when}
use Rattle.refusals.specs.Writing.{written_of, buffer_after}
use Rattle.md5_state.specs.State.{state_refusal, digest_of}
use Rattle.refusals.specs.declared.Refusal.{Refusal}

-- R16.7: the octets of a digest
abbrev pub digest_octets : ℕ
digest_octets = 16

-- R16.10: 20 for the state, then 20 for the buffer
unfoldable pub end_refusal : List ℕ → List ℕ → ℕ
end_refusal s out = state_refusal s ▹ when (ltb (length out) digest_octets) 20

-- R16.9: what ending answers, and the buffer at exit
unfoldable pub digest_written : List ℕ → List ℕ → Result ℕ Refusal
digest_written s out = written_of (end_refusal s out) digest_octets

unfoldable pub digest_buffer : List ℕ → List ℕ → List ℕ
digest_buffer s out = buffer_after (end_refusal s out) (digest_of s) out
