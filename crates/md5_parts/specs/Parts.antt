-- R16.11: a message added in any number of parts, on lent octets of any length from 88 on.
-- Assumes nothing.
use Rattle.std.specs.Prelude.{ℕ, ◌≤◌, ◌≡◌, List, [], ◌∷◌, ◌++◌, length, Ok, Err}
use Rattle.octets.specs.Numbers.{Octets}
use Rattle.octets.specs.Put.{put}
use Rattle.refusals.specs.Refusals.{answered}
use Rattle.packet_metadata.specs.Metadata.{metadata_refusal}
use Rattle.md5_blocks.specs.Md5.{md5}
use Rattle.md5_state.specs.State.{state_octets}
use Rattle.md5_feed.specs.Feed.{begin_state, add_state}
use Rattle.md5_digest.specs.End.{digest_octets, digest_written, digest_buffer}
use Rattle.md5_verdict.specs.Verdict.{verdict_of, check_md5}

-- one part after the other
abbrev pub add_all : List ℕ → List (List ℕ) → List ℕ
add_all s [] = s
add_all s (p ∷ ps) = add_all (add_state s p) ps

-- the message that the parts are of
abbrev pub joined : List (List ℕ) → List ℕ
joined [] = []
joined (p ∷ ps) = p ++ joined ps

-- R16.11: whatever the octets of a state are, a part and then another leave what both in one leave
abbrev pub TwoAreOne : Type 0
TwoAreOne = (s p q : List ℕ) → Octets s → add_state (add_state s p) q ≡ add_state s (p ++ q)

-- what is told after these parts were added from the beginning, where s was lent for the state
pub record WholeMessage (s : List ℕ) (ps : List (List ℕ)) : Type 0 where
  -- the digest that is written is that of the whole message; the octets after it stay
  pub size : (out : List ℕ) → digest_octets ≤ length out → digest_written (add_all (begin_state s) ps) out ≡ Ok digest_octets
  pub digest : (out : List ℕ) → digest_octets ≤ length out → digest_buffer (add_all (begin_state s) ps) out ≡ put 0 (md5 (joined ps)) out
  -- and the verdict on any octets is that by the digest of the whole message
  pub verdict : (packet : List ℕ)
      → check_md5 packet (add_all (begin_state s) ps) ≡ answered Err (metadata_refusal packet) (verdict_of packet (md5 (joined ps)))

-- R16.11: in lent octets of any content that are long enough, for any list of parts
abbrev pub CutsDoNotMatter : Type 0
CutsDoNotMatter = (s : List ℕ) (ps : List (List ℕ)) → state_octets ≤ length s → WholeMessage s ps
