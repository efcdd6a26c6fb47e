-- The edge is one more than the highest member, and 0 exactly when there is none. Assumes nothing.
use Prim.Native.Nat.{ℕ, zero, suc, ◌-◌, ◌≤◌, ◌<◌, max}
use mathlib.Core.Path.{◌≡◌, refl}
use mathlib.Core.List.{List, [], ◌∷◌}
use mathlib.Core.Logic.{◌⊎◌, inl, inr, ⊎_elim, ◌↔◌}
use native.Mathlib.Omega.{arith}
use Rattle.runs.specs.Runs.{Run, Member, CanonicalFrom, Canonical, StopsTo, insert}
use Rattle.runs.specs.Holes.{edge_from, edge}
use Rattle.runs.proofs.CompareLaws.{le_or_lt}
use Rattle.runs.proofs.InsertLaws.{insert_holds, insert_only, insert_canonical}

-- the offset just below the edge is a member, or there is no run
edge_last : (j k : ℕ) (rs : List Run) (x : ℕ) → CanonicalFrom k rs → edge_from j rs ≡ suc x → (j ≡ suc x) ⊎ Member rs x
unfolding edge_from
edge_last j k [] x h e = inl e
edge_last j k (r ∷ rs) x h e =
    ⊎_elim (λ (p : r.stop ≡ suc x). inr (inl (omega arith))) (λ m. inr (inr m)) (edge_last r.stop (suc r.stop) rs x h.2 e)

pub edge_member : (rs : List Run) (x : ℕ) → Canonical rs → edge rs ≡ suc x → Member rs x
edge_member rs x h e = ⊎_elim (λ (p : 0 ≡ suc x). absurd (omega arith)) (λ m. m) (edge_last 0 0 rs x h e)

pub edge_grows : (k : ℕ) (rs : List Run) → CanonicalFrom (suc k) rs → k ≤ edge_from k rs
unfolding edge_from
edge_grows k [] h = omega arith
edge_grows k (r ∷ rs) h = let i : r.stop ≤ edge_from r.stop rs = edge_grows r.stop rs h.2 in omega arith

edge_above_from : (j k : ℕ) (rs : List Run) (x : ℕ) → CanonicalFrom k rs → Member rs x → x < edge_from j rs
unfolding edge_from
edge_above_from j k [] x h m = absurd m
edge_above_from j k (r ∷ rs) x h (inl w) = omega (arith, edge_grows r.stop rs h.2)
edge_above_from j k (r ∷ rs) x h (inr m) = edge_above_from r.stop (suc r.stop) rs x h.2 m

-- every member is below the edge
pub edge_above : (rs : List Run) (x : ℕ) → Canonical rs → Member rs x → x < edge rs
edge_above rs x h m = edge_above_from 0 0 rs x h m

-- the edge is one more than x exactly when x is the highest member
pub edge_highest : (rs : List Run) (x : ℕ) → Canonical rs → (edge rs ≡ suc x) ↔ (Member rs x × ((y : ℕ) → Member rs y → y ≤ x))
edge_highest rs x h = (
  (λ e. (edge_member rs x h e, λ y m. omega (arith, edge_above rs y h m))),
  (λ p. highest (edge rs) (edge_above rs x h p.0) (λ y e. p.1 y (edge_member rs y h e))),
)
  where
    highest : (n : ℕ) → x < n → ((y : ℕ) → n ≡ suc y → y ≤ x) → n ≡ suc x
    highest n p f = let q : n - 1 ≤ x = f (n - 1) (omega arith) in omega arith

-- the edge is 0 exactly when there is no member
pub edge_none : (rs : List Run) → Canonical rs → (edge rs ≡ 0) ↔ ((x : ℕ) → Member rs x → ⊥)
edge_none rs h = ((λ e x m. omega (arith, edge_above rs x h m)), (λ f. none (edge rs) (λ x e. f x (edge_member rs x h e))))
  where
    none : (n : ℕ) → ((x : ℕ) → n ≡ suc x → ⊥) → n ≡ 0
    none zero f = refl
    none (suc n) f = absurd (f n refl)

-- no stop above L: the edge is at most L
edge_stops_from : (L k : ℕ) (rs : List Run) → k ≤ L → StopsTo L rs → edge_from k rs ≤ L
unfolding edge_from
edge_stops_from L k [] p s = p
edge_stops_from L k (r ∷ rs) p s = edge_stops_from L r.stop rs s.0 s.1

pub edge_stops : (L : ℕ) (rs : List Run) → StopsTo L rs → edge rs ≤ L
edge_stops L rs s = edge_stops_from L 0 rs (omega arith) s

-- an insertion moves the edge up to its stop, or leaves it
pub edge_inserted : (a b : ℕ) (rs : List Run) → a < b → Canonical rs → edge (insert a b rs) ≡ max (edge rs) b
edge_inserted a b rs p h =
    let c = insert_canonical a b rs p h in
    ⊎_elim
    (λ (q : edge rs ≤ b).
    let e : edge (insert a b rs) ≡ suc (b - 1) = (edge_highest (insert a b rs) (b - 1) c).1 (
      insert_holds a b rs (b - 1) (inl (omega arith)),
      λ y m. ⊎_elim (λ w. omega arith) (λ m. omega (arith, edge_above rs y h m)) (insert_only a b rs y m),
    ) in omega arith)
    (λ (q : b < edge rs).
    let e : edge (insert a b rs) ≡ suc (edge rs - 1) = (edge_highest (insert a b rs) (edge rs - 1) c).1 (
      insert_holds a b rs (edge rs - 1) (inr (edge_member rs (edge rs - 1) h (omega arith))),
      λ y m. ⊎_elim (λ w. omega arith) (λ m. omega (arith, edge_above rs y h m)) (insert_only a b rs y m),
    ) in omega arith)
    (le_or_lt (edge rs) b)
