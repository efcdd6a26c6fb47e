-- R16.12: what each verdict means, of a packet and a state: exactly when it is given.
-- Assumes nothing.
use Rattle.std.specs.Prelude.{◌≡◌, List, ◌↔◌, ℕ, Result, Ok}
use Rattle.md5_state.specs.State.{digest_of}
use Rattle.md5_verdict.specs.Verdict.{checksum_type, checksum_of, verdict_refusal}
use Rattle.md5_verdict.specs.declared.Verdict.{Verdict}
use Rattle.md5_verdict.specs.declared.Verdict.TheVariants.{NotChecked, Agrees, Differs}
use Rattle.refusals.specs.declared.Refusal.{Refusal}

pub record VerdictOn (packet s : List ℕ) (v : Result Verdict Refusal) : Type 0 where
  pub agrees_iff : (v ≡ (Ok Agrees)) ↔ ((verdict_refusal packet s ≡ 0) × (checksum_type packet ≡ 2) × (digest_of s ≡ checksum_of packet))
  pub differs_iff : (v ≡ (Ok Differs)) ↔ ((verdict_refusal packet s ≡ 0) × (checksum_type packet ≡ 2) × (digest_of s ≡ checksum_of packet → ⊥))
  pub unchecked_iff : (v ≡ (Ok NotChecked)) ↔ ((verdict_refusal packet s ≡ 0) × (checksum_type packet ≡ 2 → ⊥))
