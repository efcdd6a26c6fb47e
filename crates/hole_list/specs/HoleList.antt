-- R2.11, R3.6, R3.7: the hole list of a success STATUS: its pairs, and which lists are accepted.
-- Assumes nothing.
use Rattle.std.specs.Prelude.{ℕ, zero, suc, ◌+◌, ◌*◌, Bool, true, cond, not, ◌&&◌, ◌||◌, List, [], ◌∷◌, length, ltb, leb, eqb}
use Rattle.header.specs.Descriptor.{descriptor_at}
use Rattle.runs.specs.declared.Hole.{Hole}

-- R2.11: the pair of descriptors of d octets that stands at the place `at`; its end is the first offset after the hole
abbrev pub hole_at : ℕ → ℕ → List ℕ → Hole
hole_at d at xs = record { start = descriptor_at d at xs; end = descriptor_at d (at + d) xs }

-- R2.11: the n holes from the place `at` on
abbrev pub holes_of : ℕ → ℕ → ℕ → List ℕ → List Hole
holes_of d zero at xs = []
holes_of d (suc n) at xs = hole_at d at xs ∷ holes_of d n (at + 2 * d) xs

-- R3.6: each start is less than its end and greater than the end before it, which is `last`; none ends above In-Response-To
abbrev pub holes_after : ℕ → ℕ → List Hole → Bool
holes_after last top [] = true
holes_after last top (h ∷ hs) = ltb last h.start && (ltb h.start h.end && (leb h.end top && holes_after h.end top hs))

-- R3.6: the first starts at Progress or above, and at Progress where bit 14 is clear
unfoldable pub starts_well : Bool → ℕ → ℕ → Bool
starts_well partial progress first = cond partial (leb progress first) (eqb progress first)

-- R3.6: the whole list. Without holes Progress is at most In-Response-To, and equal to it where bit 14 is clear; with holes the first
-- follows from progress ≤ start < end ≤ In-Response-To
unfoldable pub holes_well : Bool → ℕ → ℕ → List Hole → Bool
holes_well partial progress top [] = starts_well partial progress top
holes_well partial progress top (h ∷ hs) =
    starts_well partial progress h.start && (ltb h.start h.end && (leb h.end top && holes_after h.end top hs))

-- R3.7: In-Response-To names the last octet of a complete transfer. Nothing is one less than Progress 0
unfoldable pub points_to_last : Bool → Bool → ℕ → ℕ → ℕ → Bool
points_to_last partial unasked count progress top = not partial && (unasked && (eqb count 0 && eqb (suc top) progress))

-- R9.11: a list is taken by either rule
unfoldable pub list_well : Bool → Bool → ℕ → ℕ → List Hole → Bool
list_well partial unasked progress top hs = points_to_last partial unasked (length hs) progress top || holes_well partial progress top hs
