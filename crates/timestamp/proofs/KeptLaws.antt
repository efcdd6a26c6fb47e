-- The octets of a timestamp that is kept as two numbers.
-- Assumes nothing.
use Prim.Native.Nat.{ℕ, ◌+◌, ◌≤◌}
use mathlib.Core.Path.{◌≡◌, refl, sym, ap, ◌∙◌}
use mathlib.Core.Bool.{Bool, true, false, cond}
use mathlib.Core.List.{List, [], ◌++◌}
use mathlib.Core.Logic.{inl, inr}
use native.Mathlib.Omega.{arith}
use lib.ListN.{length, take, drop, length-append, length-drop, take-append-drop}
use lib.Seq.{take-add, drop-drop, length-take-le}
use Rattle.octets.specs.Numbers.{be_digits, be_value, Octets}
use Rattle.octets.specs.Put.{put}
use Rattle.octets.proofs.NumberLaws.{length_digits, digits_value, octets_take, octets_drop}
use Rattle.octets.proofs.OctetLaws.{octets_append, digits_octets}
use Rattle.octets.proofs.PutLaws.{put_next, put_nil}
use Rattle.timestamp.specs.declared.Kept.{Kept}
use Rattle.timestamp.specs.Timestamps.{Stamp, stamped, kept_octets, kept_from, stamp_from}
use Rattle.timestamp.proofs.StampLaws.{stamped_none, none_stamped, stamped_some}

module _ (k : Kept) where
  pub kept_some : k.stamped ≡ true → kept_octets k ≡ be_digits 8 k.high ++ be_digits 8 k.low
  unfolding kept_octets
  kept_some e = rw e

  pub kept_none : k.stamped ≡ false → kept_octets k ≡ []
  unfolding kept_octets
  kept_none e = rw e

  pub kept_sixteen : k.stamped ≡ true → length (kept_octets k) ≡ 16
  kept_sixteen e = rw (kept_some e) (simp length-append)

  pub kept_zero : k.stamped ≡ false → length (kept_octets k) ≡ 0
  kept_zero e = rw (kept_none e)

  pub kept_le : length (kept_octets k) ≤ 16
  kept_le = go k.stamped refl
    where
      go : (b : Bool) → k.stamped ≡ b → length (kept_octets k) ≤ 16
      go true e = omega (arith, kept_sixteen e)
      go false e = omega (arith, kept_zero e)

  -- bit 12
  pub kept_stamped : stamped (kept_octets k) ≡ k.stamped
  kept_stamped = go k.stamped refl
    where
      go : (b : Bool) → k.stamped ≡ b → stamped (kept_octets k) ≡ b
      go true e = stamped_some (kept_octets k) (omega (arith, kept_sixteen e))
      go false e = rw (kept_none e) none_stamped

  pub kept_put : (at : ℕ) (old x y : List ℕ) → k.stamped ≡ true → at + length (kept_octets k) ≤ length old → x ≡ put at (be_digits 8 k.high) old
      → y ≡ put (at + 8) (be_digits 8 k.low) x → y ≡ put at (kept_octets k) old
  kept_put at old x y e h p q =
      let room : at + 16 ≤ length old = omega (arith, kept_sixteen e) in
      q ∙ rw (p, kept_some e) (put_next at (at + 8) (be_digits 8 k.high) (be_digits 8 k.low) old (omega arith) (omega arith))

  pub kept_put_none : (at : ℕ) (old : List ℕ) → k.stamped ≡ false → old ≡ put at (kept_octets k) old
  kept_put_none at old e = rw (kept_none e, put_nil)

-- ---- read from octets

half : (s : List ℕ) → length s ≡ 8 → Octets s → be_digits 8 (be_value s) ≡ s
half s e o = rw e at (digits_value s o)

both : {a b x y : List ℕ} → a ≡ x → b ≡ y → a ++ b ≡ x ++ y
both p q = cc

-- two halves, one after the other
pub kept_read : (s : List ℕ) (at : ℕ) (k : Kept) → Octets s → at + 16 ≤ length s → k.stamped ≡ true
    → k.high ≡ be_value (take 8 (drop at s)) → k.low ≡ be_value (take 8 (drop (at + 8) s)) → kept_octets k ≡ stamp_from true at s
unfolding stamp_from
kept_read s at k o h e high low =
    let first : be_digits 8 k.high ≡ take 8 (drop at s) = ap (λ (n : ℕ). be_digits 8 n) high ∙ eight at (omega arith) in
    let second : be_digits 8 k.low ≡ take 8 (drop (at + 8) s) = ap (λ (n : ℕ). be_digits 8 n) low ∙ eight (at + 8) (omega arith) in
    kept_some k e ∙ both first second ∙ sym (rw (take-add 8 8 (drop at s), drop-drop 8 at s))
  where
    eight : (n : ℕ) → n + 8 ≤ length s → be_digits 8 (be_value (take 8 (drop n s))) ≡ take 8 (drop n s)
    eight n l = half (take 8 (drop n s)) (length-take-le 8 (drop n s) (simp length-drop (omega arith))) (octets_take 8 (drop n s) (octets_drop n s o))

pub read_none : (at : ℕ) (s : List ℕ) (k : Kept) → k.stamped ≡ false → kept_octets k ≡ stamp_from false at s
unfolding stamp_from
read_none at s k e = kept_none k e

-- ---- as two numbers, and as octets again

pub octets_from : (s : List ℕ) → Stamp s → kept_octets (kept_from s) ≡ s
unfolding kept_from
octets_from s (inl e) = rw e (kept_none (kept_from []) none_stamped)
octets_from s (inr (e, o)) =
    kept_some (kept_from s) (stamped_some s (omega arith))
    ∙ both (half (take 8 s) (length-take-le 8 s (omega arith)) (octets_take 8 s o)) (half (drop 8 s) (omega (arith, length-drop 8 s)) (octets_drop 8 s o))
    ∙ take-append-drop 8 s

-- where none is kept, both are 0
pub from_none : (s : List ℕ) → (kept_from s).stamped ≡ false → ((kept_from s).high ≡ 0) × ((kept_from s).low ≡ 0)
unfolding kept_from
from_none s e = rw (stamped_none s e) (refl, refl)

pub kept_is : (k : Kept) → Stamp (kept_octets k)
kept_is k = go k.stamped refl
  where
    go : (b : Bool) → k.stamped ≡ b → Stamp (kept_octets k)
    go true e = inr (kept_sixteen k e, rw (kept_some k e) (octets_append (be_digits 8 k.high) (be_digits 8 k.low) (digits_octets 8 k.high) (digits_octets 8 k.low)))
    go false e = inl (kept_none k e)
