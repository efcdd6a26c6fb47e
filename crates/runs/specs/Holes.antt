-- R5.4 to R5.7: what a canonical list of runs says of its transfer: the edge, the holes, the progress, and whether it is complete.
-- Assumes nothing.
use Rattle.std.specs.Prelude.{ℕ, suc, ◌≤◌, ◌<◌, ◌≡◌, Bool, cond, List, [], ◌∷◌, ◌⊎◌, ltb, leb, eqb}
use Rattle.runs.specs.Runs.{Run, Member}
use Rattle.runs.specs.declared.Hole.{Hole}

-- R5.4: where the last run stops
unfoldable pub edge_from : ℕ → List Run → ℕ
edge_from k [] = k
edge_from k (r ∷ rs) = edge_from r.stop rs

abbrev pub edge : List Run → ℕ
edge rs = edge_from 0 rs

-- R2.11: its end is the first offset after it
abbrev pub hole : ℕ → ℕ → Hole
hole start end = record { start = start; end = end }

-- R5.5: the stretches between the runs, from k on, lowest first
unfoldable pub holes_from : ℕ → List Run → List Hole
holes_from k [] = []
holes_from k (r ∷ rs) =
    let rest = holes_from r.stop rs in
    cond (ltb k r.start) (hole k r.start ∷ rest) rest

abbrev pub holes : List Run → List Hole
holes rs = holes_from 0 rs

-- R5.5: a longest unbroken stretch below the edge that was not received: it isn't empty, none of its offsets is received, the one before
-- it, if there is one, is, and so is the one at its end
pub record LongestMissing (rs : List Run) (h : Hole) : Type 0 where
  pub some : h.start < h.end
  pub below : h.end ≤ edge rs
  pub missing : (x : ℕ) → h.start ≤ x → x < h.end → Member rs x → ⊥
  pub before : (x : ℕ) → suc x ≡ h.start → Member rs x
  pub after : Member rs h.end

-- R5.6: where the run that holds offset 0 stops, and 0 where no run does
unfoldable pub progress : List Run → ℕ
progress [] = 0
progress (r ∷ rs) = cond (eqb r.start 0) r.stop 0

-- R5.7: nothing below L is missing
unfoldable pub complete : ℕ → List Run → Bool
complete L rs = leb L (progress rs)

-- offset x lies in some hole of the list
abbrev pub InHole : List Hole → ℕ → Type 0
InHole [] x = ⊥
InHole (h ∷ hs) x = ((h.start ≤ x) × (x < h.end)) ⊎ InHole hs x

-- no hole is empty, the first starts at k or later, each ends before the next starts, and none ends above top
abbrev pub HolesApart : ℕ → ℕ → List Hole → Type 0
HolesApart k top [] = Unit
HolesApart k top (h ∷ hs) = (k ≤ h.start) × (h.start < h.end) × (h.end ≤ top) × HolesApart (suc h.end) top hs
