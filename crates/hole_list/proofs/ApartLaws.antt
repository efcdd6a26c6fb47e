-- Holes that stand apart between Progress and the edge, as a receiver has them, are a list that a reader accepts. Assumes nothing.
use Prim.Native.Nat.{ℕ, suc, ◌≤◌}
use mathlib.Core.Path.{◌≡◌, refl}
use mathlib.Core.Bool.{Bool, true, false}
use mathlib.Core.List.{List, [], ◌∷◌}
use borrow.Author.Tests.{lt-ltb, le-leb}
use Rattle.runs.specs.declared.Hole.{Hole}
use Rattle.runs.specs.Holes.{HolesApart}
use Rattle.hole_list.specs.HoleList.{holes_after, holes_well}
use Rattle.hole_list.proofs.AcceptedLaws.{starts_back}

apart_after : (last top : ℕ) (hs : List Hole) → HolesApart (suc last) top hs → holes_after last top hs ≡ true
apart_after last top [] a = refl
apart_after last top (h ∷ hs) a =
    rw (lt-ltb last h.start a.0, lt-ltb h.start h.end a.1, le-leb h.end top a.2) (apart_after h.end top hs a.3)

pub apart_well : (partial : Bool) (from top : ℕ) (hs : List Hole) → from ≤ top → HolesApart from top hs
    → (partial ≡ false → hs ≡ [] → from ≡ top)
    → (partial ≡ false → (x : Hole) (xs : List Hole) → hs ≡ x ∷ xs → from ≡ x.start)
    → holes_well partial from top hs ≡ true
unfolding holes_well
apart_well partial from top [] l a n f = starts_back partial from top l (λ p. n p refl)
apart_well partial from top (h ∷ hs) l a n f =
    rw (
      starts_back partial from h.start a.0 (λ p. f p h hs refl),
      lt-ltb h.start h.end a.1,
      le-leb h.end top a.2,
    )
    (apart_after h.end top hs a.3)
