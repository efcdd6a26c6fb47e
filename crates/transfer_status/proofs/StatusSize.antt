-- The size of a STATUS, and which holes it holds: the first k are skipped, and of the others as many are written as fit.
-- Assumes nothing.
use Prim.Native.Nat.{ℕ, zero, suc, ◌+◌, ◌*◌, ◌-◌, ◌<◌, ◌≤◌, min}
use mathlib.Core.Path.{◌≡◌, refl}
use mathlib.Core.Bool.{Bool, true, false, not, cond, ◌&&◌}
use mathlib.Core.List.{List}
use mathlib.Core.Logic.{◌⊎◌, inl, inr, ⊎_elim, ◌↔◌}
use native.Mathlib.Nat.{mul_comm, mul-suc, le-div_iff_mul-le, min_comm}
use native.Mathlib.Omega.{arith}
use lib.ListN.{length, drop, get_or, length-take, length-drop}
use lib.Seq.{get_or-take, get_or-drop}
use lib.Dec.{ltb, eqb}
use borrow.Author.Tests.{ltb-true, ltb-false, eqb-true, ne_eqb}
use Rattle.octets.specs.Numbers.{Width}
use Rattle.octets.proofs.NumberLaws.{width_le, width_some}
use Rattle.refusals.specs.Refusals.{when}
use Rattle.runs.specs.declared.Hole.{Hole}
use Rattle.refusals.proofs.RefusalLaws.{first_none, rest_none, failed}
use Rattle.runs.specs.Runs.{Run}
use Rattle.runs.specs.Holes.{holes}
use Rattle.runs.proofs.CompareLaws.{le_or_lt}
use Rattle.success_status.specs.SuccessStatus.{front_size, status_size}
use Rattle.success_status.proofs.SizeLaws.{status_length}
use Rattle.transfer.specs.declared.Key.{Key}
use Rattle.transfer_status.specs.WriteStatus.{skips_too_many, least_room, size_refusal, hole_room, holes_sent, status_packet}

-- ---- what is asked of a STATUS that is written

pub record StatusFits (ts d n k room : ℕ) : Type 0 where
  -- R7.1: k is 0 or less than the number of holes
  pub allowed : (k ≡ 0) ⊎ (k < n)
  -- Progress and In-Response-To have room
  pub fields : front_size ts d ≤ room
  -- R7.8: where there are holes, there is room for one
  pub one : 0 < n → status_size ts d 1 ≤ room

one_of : (a b : Bool) → not a && not b ≡ false → (a ≡ true) ⊎ (b ≡ true)
one_of true b e = inl refl
one_of false true e = inr refl
one_of false false e = absurd (let z : ◌≡◌ {A = ℕ} 0 1 = cc in omega arith)

fields_fit : (ts d n room : ℕ) → cond (eqb n 0) (front_size ts d) (status_size ts d 1) ≤ room → front_size ts d ≤ room
fields_fit ts d zero room h = h
fields_fit ts d (suc n) room h = let l : status_size ts d 1 ≤ room = rw (ne_eqb (suc n) 0 (omega arith)) at h in omega arith

room_for_one : (ts d n room : ℕ) → cond (eqb n 0) (front_size ts d) (status_size ts d 1) ≤ room → 0 < n → status_size ts d 1 ≤ room
room_for_one ts d zero room h p = absurd (omega arith)
room_for_one ts d (suc n) room h p = rw (ne_eqb (suc n) 0 (omega arith)) at h

pub status_fits : (ts d n k room : ℕ) → size_refusal ts d n k room ≡ 0 → StatusFits ts d n k room
unfolding size_refusal skips_too_many least_room
status_fits ts d n k room e =
    let r = rest_none (when (not (eqb k 0) && not (ltb k n)) 19) _ e in
    let f = ltb-false room (cond (eqb n 0) (front_size ts d) (status_size ts d 1)) (failed _ 19 r) in
    record {
      allowed = ⊎_elim (λ p. inl (eqb-true k 0 p)) (λ p. inr (ltb-true k n p)) (one_of _ _ (failed _ 18 (first_none _ _ e)));
      fields = fields_fit ts d n room f;
      one = room_for_one ts d n room f;
    }

-- the holes that are skipped are there
pub skip_there : (ts d n k room : ℕ) → size_refusal ts d n k room ≡ 0 → k ≤ n
skip_there ts d n k room e = ⊎_elim (λ (z : k ≡ 0). omega arith) (λ (z : k < n). omega arith) (status_fits ts d n k room e).allowed

-- what the division that finds how many holes fit asks for
pub fields_room : (ts d n k room : ℕ) → ts ≤ 16 → Width d → size_refusal ts d n k room ≡ 0 → (ts ≤ 16) × (0 < d) × (d ≤ 16) × (front_size ts d ≤ room)
fields_room ts d n k room h w e = (h, omega (arith, width_some w), width_le w, (status_fits ts d n k room e).fields)

-- ---- how many holes fit

-- n holes have room exactly when they fit with what stands before them
pub hole_room_iff : (ts d n room : ℕ) → 0 < d → front_size ts d ≤ room → (n ≤ hole_room ts d room) ↔ (status_size ts d n ≤ room)
unfolding hole_room
hole_room_iff ts d n room p h =
    let i = le-div_iff_mul-le {k = 2 * d} {x = n} {y = room - front_size ts d} (omega arith) in
    let c : n * (2 * d) ≡ 2 * d * n = mul_comm n (2 * d) in
    ((λ l. omega (arith, i.0 l)), (λ l. i.1 (omega arith)))

-- R7.2: as many as there are after the first k, or as have room
pub holes_sent_count : (ts d k room : ℕ) (hs : List Hole) → length (holes_sent ts d k room hs) ≡ min (length hs - k) (hole_room ts d room)
unfolding holes_sent
holes_sent_count ts d k room hs = simp (length-take, length-drop) (min_comm (hole_room ts d room) (length hs - k))

-- R7.2: the hole with the index i is the one with the index k + i
pub holes_sent_at : (ts d k room : ℕ) (hs : List Hole) (i : ℕ) (default : Hole) → i < length (holes_sent ts d k room hs)
    → get_or (holes_sent ts d k room hs) i default ≡ get_or hs (k + i) default
unfolding holes_sent
holes_sent_at ts d k room hs i default h =
    let l : i < hole_room ts d room = omega (arith, simp length-take at h) in
    rw (get_or-take (hole_room ts d room) (drop k hs) i default l, get_or-drop)

-- where there are holes, one at least is written
pub holes_sent_some : (ts : ℕ) (key : Key) (hs : List Hole) (k room : ℕ) → 0 < key.width → size_refusal ts key.width (length hs) k room ≡ 0
    → 0 < length hs → 0 < length (holes_sent ts key.width k room hs)
holes_sent_some ts key hs k room p e s =
    let f = status_fits ts key.width (length hs) k room e in
    let r : 1 ≤ hole_room ts key.width room = (hole_room_iff ts key.width 1 room p f.fields).1 (omega (arith, f.one s)) in
    let l : k < length hs = ⊎_elim (λ (z : k ≡ 0). omega arith) (λ q. q) f.allowed in
    rw holes_sent_count (omega arith)

-- ---- the size

module _ (key : Key) (rs : List Run) (s : List ℕ) (k : ℕ) (unasked : Bool) (room : ℕ) where
  pub status_size_lem : length (status_packet key rs s k unasked room)
      ≡ status_size (length s) key.width (length (holes_sent (length s) key.width k room (holes rs)))
  unfolding status_packet
  status_size_lem = status_length _ _ _

  -- it has room in the buffer
  pub status_size_fits : 0 < key.width → size_refusal (length s) key.width (length (holes rs)) k room ≡ 0 → length (status_packet key rs s k unasked room) ≤ room
  status_size_fits p e =
      let f = status_fits (length s) key.width (length (holes rs)) k room e in
      let h = length (holes_sent (length s) key.width k room (holes rs)) in
      let l : h ≤ hole_room (length s) key.width room = omega (arith, holes_sent_count (length s) key.width k room (holes rs)) in
      rw status_size_lem ((hole_room_iff (length s) key.width h room p f.fields).0 l)

  -- and of the holes that are left not one more would have
  pub status_size_most : 0 < key.width → size_refusal (length s) key.width (length (holes rs)) k room ≡ 0
      → length (holes_sent (length s) key.width k room (holes rs)) < length (holes rs) - k
      → room < length (status_packet key rs s k unasked room) + 2 * key.width
  status_size_most p e m =
      let f = status_fits (length s) key.width (length (holes rs)) k room e in
      let h = length (holes_sent (length s) key.width k room (holes rs)) in
      let c : h ≡ min (length (holes rs) - k) (hole_room (length s) key.width room) = holes_sent_count (length s) key.width k room (holes rs) in
      ⊎_elim
      (λ (q : status_size (length s) key.width (suc h) ≤ room).
      absurd (omega (arith, (hole_room_iff (length s) key.width (suc h) room p f.fields).1 q)))
      (λ (q : room < status_size (length s) key.width (suc h)). omega (arith, status_size_lem, mul-suc (2 * key.width) h))
      (le_or_lt (status_size (length s) key.width (suc h)) room)
