-- R16.12: what C is told of METADATA and a state, by the numbers that the exported function answers.
-- Assumes nothing.
use Rattle.std.specs.Prelude.{ℕ, ◌≡◌, List, ◌↔◌}
use Rattle.md5_state.specs.State.{digest_of}
use Rattle.md5_verdict.specs.Verdict.{checksum_type, checksum_of, verdict_refusal}
use Rattle.answer_md5.specs.declared.VerdictAnswer.{VerdictAnswer}

pub record VerdictReported (packet s : List ℕ) (r : VerdictAnswer) : Type 0 where
  -- R16.13
  pub number_is : r.number ≡ verdict_refusal packet s
  -- 1: it agrees
  pub one_iff : (r.verdict ≡ 1) ↔ ((verdict_refusal packet s ≡ 0) × (checksum_type packet ≡ 2) × (digest_of s ≡ checksum_of packet))
  -- 2: it differs
  pub two_iff : (r.verdict ≡ 2) ↔ ((verdict_refusal packet s ≡ 0) × (checksum_type packet ≡ 2) × (digest_of s ≡ checksum_of packet → ⊥))
  -- 0, and no refusal: it is not checked
  pub zero_iff : ((r.number ≡ 0) × (r.verdict ≡ 0)) ↔ ((verdict_refusal packet s ≡ 0) × (checksum_type packet ≡ 2 → ⊥))
