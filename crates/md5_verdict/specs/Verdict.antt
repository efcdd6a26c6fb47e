-- R16.12, R16.13: the verdict on METADATA, by the state of an MD5.
-- Assumes nothing.
use Rattle.std.specs.Prelude.{ℕ, Bool, true, false, cond, ◌&&◌, List, [], ◌∷◌, take, drop, eqb, Result, Ok, Err}
use Rattle.refusals.specs.Refusals.{◌▹◌, answered}
use Rattle.header.specs.FirstWord.{sum_type}
use Rattle.header.specs.Start.{word_of}
use Rattle.packet_metadata.specs.Metadata.{metadata_refusal}
use Rattle.md5_state.specs.State.{state_refusal, digest_of}
use Rattle.md5_verdict.specs.declared.Verdict.{Verdict}
use Rattle.md5_verdict.specs.declared.Verdict.TheVariants.{NotChecked, Agrees, Differs}
use Rattle.refusals.specs.declared.Refusal.{Refusal}

-- whether two lists of octets are the same
unfoldable pub same_octets : List ℕ → List ℕ → Bool
same_octets [] [] = true
same_octets [] (y ∷ ys) = false
same_octets (x ∷ xs) [] = false
same_octets (x ∷ xs) (y ∷ ys) = eqb x y && same_octets xs ys

-- R2.6: the checksum's type
abbrev pub checksum_type : List ℕ → ℕ
checksum_type packet = sum_type (word_of packet)

-- R2.6, R2.7: the octets of a checksum of type 2, which come after the Id
abbrev pub checksum_of : List ℕ → List ℕ
checksum_of packet = take 16 (drop 8 packet)

-- R16.12: by the digest of what was added
unfoldable pub verdict_of : List ℕ → List ℕ → Result Verdict Refusal
verdict_of packet digest =
    cond (eqb (checksum_type packet) 2) (cond (same_octets digest (checksum_of packet)) (Ok Agrees) (Ok Differs)) (Ok NotChecked)

-- R16.13: 20, and then the reader's
unfoldable pub verdict_refusal : List ℕ → List ℕ → ℕ
verdict_refusal packet s = state_refusal s ▹ metadata_refusal packet

-- R1.4: the verdict, or the refusal
unfoldable pub check_md5 : List ℕ → List ℕ → Result Verdict Refusal
check_md5 packet s = answered Err (verdict_refusal packet s) (verdict_of packet (digest_of s))
