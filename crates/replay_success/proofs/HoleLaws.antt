-- The holes that a packet lists may be read where they stand, and no other. Assumes nothing.
use Prim.Native.Nat.{ℕ, zero, suc, ◌≤◌, ◌<◌}
use mathlib.Core.Path.{◌≡◌, refl}
use mathlib.Core.List.{List, []}
use mathlib.Core.Bool.{not}
use native.Mathlib.Omega.{arith}
use lib.Dec.{ltb, eqb}
use borrow.Author.Tests.{lt-ltb, le-ltb, ne_eqb}
use Rattle.refusals.specs.Refusals.{◌▹◌, when, answered}
use Rattle.header.specs.FirstWord.{status_of}
use Rattle.header.specs.Start.{word_of}
use Rattle.packet_status.specs.Status.{hole_count, status_refusal, success_of, accepted_status, read_status, hole_refusal, indexed_hole, read_hole}
use Rattle.packet_status.specs.declared.Status.TheVariants as status_read
use Rattle.replay_success.specs.SuccessLine.{holes_listed, hole_after}
use Rattle.std.specs.Prelude.{Ok, Err}

module _ (s : List ℕ) (i : ℕ) where
  pub listed_hole : i < holes_listed (read_status s) → hole_refusal i s ≡ 0
  unfolding read_status hole_refusal success_of
  listed_hole = go (status_refusal s) (status_of (word_of s))
    where
      go : (n code : ℕ) → i < holes_listed (answered Err n (accepted_status code s))
          → (n ▹ when (not (eqb code 0)) 11 ▹ when (not (ltb i (hole_count s))) 19) ≡ 0
      go zero zero l = rw (lt-ltb i (hole_count s) l)
      go zero (suc code) l = absurd (omega arith)
      go (suc n) code l = absurd (omega arith)

  pub unlisted_hole : holes_listed (read_status s) ≤ i → [] ≡ hole_after i (read_hole i s)
  unfolding read_status read_hole hole_refusal success_of hole_after
  unlisted_hole = go (status_refusal s) (status_of (word_of s))
    where
      go : (n code : ℕ) → holes_listed (answered Err n (accepted_status code s)) ≤ i
          → [] ≡ hole_after i (answered Err (n ▹ when (not (eqb code 0)) 11 ▹ when (not (ltb i (hole_count s))) 19) (Ok (indexed_hole i s)))
      go zero zero l = rw (le-ltb i (hole_count s) l)
      go zero (suc code) l = rw (ne_eqb (suc code) 0 (λ z. omega arith))
      go (suc n) code l = refl

  pub listed_text : hole_refusal i s ≡ 0 → hole_after i (Ok (indexed_hole i s)) ≡ hole_after i (read_hole i s)
  unfolding read_hole
  listed_text e = rw e
