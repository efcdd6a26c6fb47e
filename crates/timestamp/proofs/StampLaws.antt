-- A timestamp that is kept: whether there is one, and what is kept after a packet.
-- Assumes nothing.
use Prim.Native.Nat.{ℕ, ◌<◌, ◌≤◌}
use mathlib.Core.Path.{◌≡◌, refl, ◌∙◌}
use mathlib.Core.Bool.{true, false, cond, ◌||◌}
use mathlib.Core.List.{List, [], ◌∷◌}
use mathlib.Core.Logic.{◌⊎◌, inl, inr}
use native.Mathlib.Omega.{arith}
use lib.ListN.{length, take}
use lib.Seq.{length-take-le}
use Rattle.octets.specs.Numbers.{Octets}
use Rattle.octets.proofs.NumberLaws.{octets_take}
use Rattle.timestamp.specs.Timestamps.{Stamp, stamped, renewed}

-- ---- whether one is kept

pub stamped_none : (s : List ℕ) → stamped s ≡ false → s ≡ []
unfolding stamped
stamped_none [] e = refl
stamped_none (o ∷ s) e = absurd (let z : ◌≡◌ {A = ℕ} 0 1 = cc in omega arith)

pub stamped_some : (s : List ℕ) → 0 < length s → stamped s ≡ true
unfolding stamped
stamped_some [] h = absurd (omega arith)
stamped_some (o ∷ s) h = refl

pub none_stamped : stamped [] ≡ false
unfolding stamped
none_stamped = refl

pub stamp_length : (s : List ℕ) → Stamp s → length s ≡ cond (stamped s) 16 0
stamp_length s (inl e) = rw (e, none_stamped)
stamp_length s (inr h) = rw (stamped_some s (omega arith)) h.0

pub stamp_le : (s : List ℕ) → Stamp s → length s ≤ 16
stamp_le s (inl e) = rw e (omega arith)
stamp_le s (inr h) = omega (arith, h.0)

-- ---- what is kept after a packet

pub renewed_some : (s old : List ℕ) → stamped s ≡ true → renewed s old ≡ s
unfolding renewed stamped
renewed_some [] old e = absurd (let z : ◌≡◌ {A = ℕ} 0 1 = cc in omega arith)
renewed_some (o ∷ s) old e = refl

pub renewed_none : (s : List ℕ) → renewed s [] ≡ s
unfolding renewed
renewed_none [] = refl
renewed_none (o ∷ s) = refl

pub none_renewed : (s : List ℕ) → renewed [] s ≡ s
unfolding renewed
none_renewed s = refl

-- one packet after the other
pub renewed_again : (new s old : List ℕ) → renewed new (renewed s old) ≡ renewed (renewed new s) old
unfolding renewed
renewed_again [] s old = refl
renewed_again (o ∷ new) s old = refl

-- the same packet again
pub renewed_twice : (s old : List ℕ) → renewed s (renewed s old) ≡ renewed s old
unfolding renewed
renewed_twice [] old = refl
renewed_twice (o ∷ s) old = refl

pub renewed_stamped : (s old : List ℕ) → stamped (renewed s old) ≡ (stamped s || stamped old)
unfolding renewed stamped
renewed_stamped [] old = refl
renewed_stamped (o ∷ s) old = refl

pub renewed_is : (s old : List ℕ) → Stamp s → Stamp old → Stamp (renewed s old)
unfolding renewed
renewed_is [] old f g = g
renewed_is (o ∷ s) old f g = f

-- ---- where it stands in other octets

pub stamp_of_lem : (n : ℕ) (l : List ℕ) → Octets l → (n ≡ 0) ⊎ (n ≡ 16) → n ≤ length l → Stamp (take n l)
stamp_of_lem n l o (inl e) h = rw e (inl refl)
stamp_of_lem n l o (inr e) h = inr (length-take-le n l h ∙ e, octets_take n l o)
