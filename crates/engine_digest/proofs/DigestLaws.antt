-- The octets that beginning, adding the packet and ending write: its MD5. In the order of the calls.
-- Assumes nothing.
use Prim.Native.Nat.{ℕ, ◌≤◌}
use mathlib.Core.Path.{◌≡◌, ap, ◌∙◌}
use mathlib.Core.List.{List, [], ◌∷◌, append-nil}
use native.Mathlib.Omega.{arith}
use lib.ListN.{length}
use Rattle.octets.specs.Put.{put}
use Rattle.md5_words.proofs.WordLaws.{length_words}
use Rattle.md5_blocks.specs.Md5.{zeros, md5}
use Rattle.md5_state.specs.State.{state_octets}
use Rattle.md5_state.proofs.StateLaws.{zero_covered}
use Rattle.md5_feed.specs.Feed.{begin_state, add_state}
use Rattle.md5_digest.specs.End.{digest_buffer}
use Rattle.md5_parts.proofs.Parts.{cuts_do_not_matter}

length_md5 : (m : List ℕ) → length (md5 m) ≡ 16
unfolding md5
length_md5 m = length_words _

pub digested : (z p s t out : List ℕ) → state_octets ≤ length z → s ≡ begin_state z → t ≡ add_state s p → out ≡ digest_buffer t (zeros 16) → out ≡ md5 p
digested z p s t out h b a e =
    e
    ∙ ap (λ (l : List ℕ). digest_buffer l (zeros 16)) (a ∙ ap (λ (l : List ℕ). add_state l p) b)
    ∙ (cuts_do_not_matter z (p ∷ []) h).digest (zeros 16) (omega arith)
    ∙ ap (λ (l : List ℕ). put 0 (md5 l) (zeros 16)) (append-nil p)
    ∙ zero_covered (md5 p) 16 (length_md5 p)
