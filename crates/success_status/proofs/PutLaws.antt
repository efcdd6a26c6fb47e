-- A success STATUS put into a buffer part after part: its fields, then its holes.
-- Assumes nothing.
use Prim.Native.Nat.{ℕ, ◌+◌, ◌≤◌}
use mathlib.Core.Path.{◌≡◌, ◌∙◌}
use mathlib.Core.List.{List, ◌++◌, append_assoc}
use native.Mathlib.Omega.{arith}
use lib.ListN.{length, length-append}
use Rattle.octets.specs.Put.{put}
use Rattle.octets.proofs.PutLaws.{put_next}
use Rattle.runs.specs.declared.Hole.{Hole}
use Rattle.hole_list.specs.Pairs.{pairs}
use Rattle.hole_list.proofs.PairLaws.{pairs_length}
use Rattle.success_status.specs.declared.Fields.{Fields}
use Rattle.success_status.specs.SuccessStatus.{front_size, status_size, front_octets, status_octets}
use Rattle.success_status.proofs.SizeLaws.{front_length}

-- five parts, one after the other, from the start on
pub puts : (a b s c d old : List ℕ) (m n at e : ℕ) → length a ≡ m → m + length b ≡ n → n + length s ≡ at → at + length c ≡ e
    → e + length d ≤ length old
    → put e d (put at c (put n s (put m b (put 0 a old)))) ≡ put 0 (a ++ (b ++ (s ++ (c ++ d)))) old
puts a b s c d old m n at e la lb ls lc room =
    let ab : length (a ++ b) ≡ n = length-append a b ∙ omega arith in
    let abs : length ((a ++ b) ++ s) ≡ at = length-append (a ++ b) s ∙ omega arith in
    let abc : length (((a ++ b) ++ s) ++ c) ≡ e = length-append ((a ++ b) ++ s) c ∙ omega arith in
    rw (
      put_next 0 m a b old (omega arith) (omega arith),
      put_next 0 n (a ++ b) s old (omega arith) (omega arith),
      put_next 0 at ((a ++ b) ++ s) c old (omega arith) (omega arith),
      put_next 0 e (((a ++ b) ++ s) ++ c) d old (omega arith) room,
    )
    (simp append_assoc)

-- the holes after the fields are the whole packet
pub holes_put : (f : Fields) (s : List ℕ) (hs : List Hole) (old x y : List ℕ) → status_size (length s) f.width (length hs) ≤ length old
    → x ≡ put 0 (front_octets f s) old
    → y ≡ put (front_size (length s) f.width) (pairs f.width hs) x
    → y ≡ put 0 (status_octets f s hs) old
unfolding status_octets
holes_put f s hs old x y h e g =
    g ∙ rw e (put_next 0 (front_size (length s) f.width) (front_octets f s) (pairs f.width hs) old
    (omega (arith, front_length f s)) (omega (arith, pairs_length f.width hs)))
