-- A list that was written reads back: no descriptor of it is refused, and its holes are those that were written. Assumes nothing.
use Prim.Native.Nat.{ℕ, suc, ◌+◌, ◌*◌, ◌-◌, ◌^◌, ◌<◌}
use mathlib.Core.Path.{◌≡◌, refl, sym, ap, ◌∙◌}
use mathlib.Core.List.{List, [], ◌∷◌, ◌++◌, append_assoc}
use native.Mathlib.Omega.{arith}
use lib.ListN.{length, take, drop, length-append, length-drop}
use lib.Seq.{take_at, drop_at, drop-drop}
use Rattle.octets.specs.Numbers.{be_value, be_digits, Width}
use Rattle.octets.proofs.NumberLaws.{value_digits, length_digits, width_some}
use Rattle.octets.proofs.UpperLaws.{digits_small}
use Rattle.header.specs.Descriptor.{descriptor_at, descriptor_refusal}
use Rattle.header.proofs.DescriptorLaws.{descriptor_none}
use Rattle.runs.specs.declared.Hole.{Hole}
use Rattle.runs.specs.Holes.{HolesApart}
use Rattle.hole_list.specs.HoleList.{holes_of}
use Rattle.hole_list.specs.DescriptorList.{descriptors_refusal}
use Rattle.hole_list.specs.Pairs.{pairs}

-- a number of 64 bits that fits d octets
abbrev pub Held : ℕ → ℕ → Type 0
Held d v = (v < 256 ^ d) × (v < 2 ^ 64)

-- each number of each hole is such a one
abbrev pub HolesHeld : ℕ → List Hole → Type 0
HolesHeld d [] = Unit
HolesHeld d (h ∷ hs) = Held d h.start × Held d h.end × HolesHeld d hs

pub apart_held : (d k top : ℕ) (hs : List Hole) → Held d top → HolesApart k top hs → HolesHeld d hs
apart_held d k top [] l a = tt
apart_held d k top (h ∷ hs) l a = ((omega arith, omega arith), (omega arith, omega arith), apart_held d (suc h.end) top hs l a.3)

-- where the octets of a number stand, its descriptor is not refused, and it is read
module _ (d v at : ℕ) (s rest : List ℕ) (w : Width d) (held : Held d v) (e : drop at s ≡ be_digits d v ++ rest) where
  number_part : take d (drop at s) ≡ be_digits d v
  number_part = rw e (take_at (be_digits d v) rest d (length_digits d v))

  pub number_read : descriptor_at d at s ≡ v
  number_read = ap be_value number_part ∙ value_digits d v held.0

  pub number_none : descriptor_refusal d at s ≡ 0
  number_none =
      let l : length s - at ≡ d + length rest = sym (length-drop at s) ∙ ap length e ∙ length-append (be_digits d v) rest ∙ rw length_digits in
      descriptor_none d at s (omega (arith, width_some w)) (rw number_part (digits_small d v held.0 held.1))

  pub number_after : drop (at + d) s ≡ rest
  number_after = sym (drop-drop d at s) ∙ ap (drop d) e ∙ drop_at (be_digits d v) rest d (length_digits d v)

-- where pairs stand, their descriptors are not refused, and their holes are read
module _ (d : ℕ) (s : List ℕ) (w : Width d) where
  first_pair : (at : ℕ) (h : Hole) (hs : List Hole) → drop at s ≡ pairs d (h ∷ hs) → drop at s ≡ be_digits d h.start ++ (be_digits d h.end ++ pairs d hs)
  unfolding pairs
  first_pair at h hs f = f ∙ append_assoc (be_digits d h.start) (be_digits d h.end) (pairs d hs)

  -- the start, the end, and what stands after them
  module _ (at : ℕ) (h : Hole) (hs : List Hole) (b : HolesHeld d (h ∷ hs)) (f : drop at s ≡ pairs d (h ∷ hs)) where
    ends : drop (at + d) s ≡ be_digits d h.end ++ pairs d hs
    ends = number_after d h.start at s _ w b.0 (first_pair at h hs f)

    others : drop (at + 2 * d) s ≡ pairs d hs
    others =
        let two : at + 2 * d ≡ at + d + d = omega arith in
        ap (λ (n : ℕ). drop n s) two ∙ number_after d h.end (at + d) s _ w b.1 ends

  pub pairs_read : (at : ℕ) (hs : List Hole) → HolesHeld d hs → drop at s ≡ pairs d hs → holes_of d (length hs) at s ≡ hs
  pairs_read at [] b f = refl
  pairs_read at (h ∷ hs) b f =
      let st : descriptor_at d at s ≡ h.start = number_read d h.start at s _ w b.0 (first_pair at h hs f) in
      let en : descriptor_at d (at + d) s ≡ h.end = number_read d h.end (at + d) s _ w b.1 (ends at h hs b f) in
      let rest = pairs_read (at + 2 * d) hs b.2 (others at h hs b f) in
      λ i. record { start = st i; end = en i } ∷ rest i

  pub pairs_none : (at : ℕ) (hs : List Hole) → HolesHeld d hs → drop at s ≡ pairs d hs → descriptors_refusal d (2 * length hs) at s ≡ 0
  unfolding descriptors_refusal
  pairs_none at [] b f = refl
  pairs_none at (h ∷ hs) b f =
      let q : 2 * suc (length hs) ≡ suc (suc (2 * length hs)) = omega arith in
      let two : at + d + d ≡ at + 2 * d = omega arith in
      rw (
        q,
        number_none d h.start at s _ w b.0 (first_pair at h hs f),
        number_none d h.end (at + d) s _ w b.1 (ends at h hs b f),
        two,
      )
      (pairs_none (at + 2 * d) hs b.2 (others at h hs b f))
