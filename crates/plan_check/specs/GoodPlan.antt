-- R11.4: the plans that pass, in five conditions: nothing is said of how a list came about, or of how it is checked.
-- Assumes nothing.
use Rattle.std.specs.Prelude.{ℕ, ◌+◌, ◌≤◌, ◌<◌, List, [], ◌∷◌, ◌⊎◌}
use Rattle.runs.specs.declared.Hole.{Hole}
use Rattle.plan.specs.declared.Piece.{Piece}

-- each element; some element; each element with each one after it
abbrev pub Each : {A : Type 0} → (A → Type 0) → List A → Type 0
Each P [] = Unit
Each P (x ∷ xs) = P x × Each P xs

abbrev pub Some : {A : Type 0} → (A → Type 0) → List A → Type 0
Some P [] = ⊥
Some P (x ∷ xs) = P x ⊎ Some P xs

abbrev pub EachPair : {A : Type 0} → (A → A → Type 0) → List A → Type 0
EachPair R [] = Unit
EachPair R (x ∷ xs) = Each (R x) xs × EachPair R xs

-- the octet at offset x is in the piece; in the hole
abbrev pub InPiece : ℕ → Piece → Type 0
InPiece x p = (p.offset ≤ x) × (x < p.offset + p.length)

abbrev pub InHole : ℕ → Hole → Type 0
InHole x h = (h.start ≤ x) × (x < h.end)

-- R11.4: the pieces rise
abbrev pub Rise : List Piece → Type 0
Rise ps = EachPair (λ p q. p.offset < q.offset) ps

-- R11.4: none is empty or longer than m
abbrev pub Sized : ℕ → List Piece → Type 0
Sized m ps = Each (λ p. (0 < p.length) × (p.length ≤ m)) ps

-- R11.4: each lies in one listed hole; a piece whose true end reaches 2^64 lies in none
abbrev pub LiesIn : Piece → Hole → Type 0
LiesIn p h = (h.start ≤ p.offset) × (p.offset + p.length ≤ h.end)

abbrev pub InHoles : List Hole → List Piece → Type 0
InHoles hs ps = Each (λ p. Some (LiesIn p) hs) ps

-- R11.4: no octet is in two of them
abbrev pub NoOverlap : List Piece → Type 0
NoOverlap ps = EachPair (λ p q. (x : ℕ) → InPiece x p → InPiece x q → ⊥) ps

-- R11.4: each octet of each listed hole is in one of them
abbrev pub CoverHoles : List Hole → List Piece → Type 0
CoverHoles hs ps = Each (λ h. (x : ℕ) → InHole x h → Some (InPiece x) ps) hs

pub record GoodPlan (m : ℕ) (hs : List Hole) (ps : List Piece) : Type 0 where
  pub rise : Rise ps
  pub sized : Sized m ps
  pub in_holes : InHoles hs ps
  pub no_overlap : NoOverlap ps
  pub cover : CoverHoles hs ps
