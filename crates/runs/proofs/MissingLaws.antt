-- R5.5: the hole list has a stretch exactly when it is a longest unreceived one below the edge. Assumes nothing.
use Prim.Native.Nat.{ℕ, zero, suc, ◌-◌, ◌≤◌, ◌<◌}
use mathlib.Core.Path.{◌≡◌, refl, sym}
use mathlib.Core.List.Memᴰ
use mathlib.Core.List.{List, [], ◌∷◌, Memᴰ}
use mathlib.Core.Logic.{inl, inr, ⊎_elim, ◌↔◌}
use native.Mathlib.Omega.{arith}
use lib.ListN.{length, get_or}
use Rattle.runs.specs.Runs.{Run, Canonical}
use Rattle.runs.specs.Holes.{edge, hole, holes, InHole, HolesApart, LongestMissing}
use Rattle.runs.specs.declared.Hole.{Hole}
use Rattle.runs.proofs.CompareLaws.{le_or_lt}
use Rattle.runs.proofs.HoleLaws.{hole_iff, hole_longest, holes_apart}

-- ---- of any list of holes

-- an offset lies in the list where it lies in one of its holes, and then in one of them
holds_in : (hs : List Hole) (h : Hole) (x : ℕ) → Memᴰ h hs → h.start ≤ x → x < h.end → InHole hs x
holds_in [] h x m p q = absurd (Memᴰ.not-nil m)
holds_in (g ∷ hs) h x m p q = ⊎_elim (λ (e : h ≡ g). inl (rw (← e) (p, q))) (λ t. inr (holds_in hs h x t p q)) (Memᴰ.cases_cons m)

one_of : (hs : List Hole) (x : ℕ) → InHole hs x → (h : Hole) × Memᴰ h hs × (h.start ≤ x) × (x < h.end)
one_of [] x i = absurd i
one_of (g ∷ hs) x (inl w) = (g, Memᴰ.head refl, w.0, w.1)
one_of (g ∷ hs) x (inr i) = let o = one_of hs x i in (o.0, Memᴰ.tail o.1, o.2, o.3)

-- where holes lie apart, none is empty and none ends above the top
each_apart : (k top : ℕ) (hs : List Hole) (h : Hole) → HolesApart k top hs → Memᴰ h hs → (h.start < h.end) × (h.end ≤ top)
each_apart k top [] h a m = absurd (Memᴰ.not-nil m)
each_apart k top (g ∷ hs) h a m =
    ⊎_elim (λ (e : h ≡ g). rw e (a.1, a.2)) (λ t. each_apart (suc g.end) top hs h a.3 t) (Memᴰ.cases_cons m)

-- ---- every hole is one, and every one is a hole

hole_is_longest : (rs : List Run) (h : Hole) → Canonical rs → Memᴰ h (holes rs) → LongestMissing rs h
hole_is_longest rs h c m =
    let a = each_apart 0 (edge rs) (holes rs) h (holes_apart rs c) m in
    let l = hole_longest rs h c m in
    record {
      some = a.0;
      below = a.1;
      missing = λ x p q. ((hole_iff rs x c).0 (holds_in (holes rs) h x m p q)).1;
      before = l.1;
      after = l.0;
    }

-- two of them that share an offset are the same
longest_same : (rs : List Run) (g h : Hole) → LongestMissing rs g → LongestMissing rs h → g.start ≤ h.start → h.start < g.end → h ≡ g
longest_same rs g h l m p q =
    let o : h.start < h.end = m.some in
    let s : h.start ≡ g.start =
    ⊎_elim (λ (u : h.start ≤ g.start). omega arith)
    (λ (u : g.start < h.start). absurd (l.missing (h.start - 1) (omega arith) (omega arith) (m.before (h.start - 1) (omega arith))))
    (le_or_lt h.start g.start) in
    let t : h.end ≤ g.end =
    ⊎_elim (λ (u : h.end ≤ g.end). u) (λ (u : g.end < h.end). absurd (m.missing g.end (omega arith) u l.after)) (le_or_lt h.end g.end) in
    let u : g.end ≤ h.end =
    ⊎_elim (λ (u : g.end ≤ h.end). u) (λ (u : h.end < g.end). absurd (l.missing h.end (omega arith) u m.after)) (le_or_lt g.end h.end) in
    let e : h.end ≡ g.end = omega arith in
    λ i. hole (s i) (e i)

longest_is_hole : (rs : List Run) (h : Hole) → Canonical rs → LongestMissing rs h → Memᴰ h (holes rs)
longest_is_hole rs h c l =
    let n : h.start < h.end = l.some in
    let b : h.end ≤ edge rs = l.below in
    let o = one_of (holes rs) h.start ((hole_iff rs h.start c).1 (omega arith, l.missing h.start (omega arith) n)) in
    rw (longest_same rs o.0 h (hole_is_longest rs o.0 c o.1) l o.2 o.3) o.1

pub hole_listed_iff : (rs : List Run) (h : Hole) → Canonical rs → Memᴰ h (holes rs) ↔ LongestMissing rs h
hole_listed_iff rs h c = (hole_is_longest rs h c, longest_is_hole rs h c)

-- ---- by their index; d stands for what is not in the list

at_index : (hs : List Hole) (i : ℕ) (d : Hole) → i < length hs → Memᴰ (get_or hs i d) hs
at_index [] i d l = absurd (omega arith)
at_index (g ∷ hs) zero d l = Memᴰ.head refl
at_index (g ∷ hs) (suc i) d l = Memᴰ.tail (at_index hs i d (omega arith))

index_of : (hs : List Hole) (h d : Hole) → Memᴰ h hs → (i : ℕ) × (i < length hs) × (get_or hs i d ≡ h)
index_of [] h d m = absurd (Memᴰ.not-nil m)
index_of (g ∷ hs) h d m =
    ⊎_elim (λ (e : h ≡ g). (0, omega arith, sym e)) (λ t. let o = index_of hs h d t in (suc o.0, omega (arith, o.1), o.2)) (Memᴰ.cases_cons m)

-- each hole of the list is one
pub hole_at_longest : (rs : List Run) (i : ℕ) (d : Hole) → Canonical rs → i < length (holes rs) → LongestMissing rs (get_or (holes rs) i d)
hole_at_longest rs i d c l = hole_is_longest rs (get_or (holes rs) i d) c (at_index (holes rs) i d l)

-- and each one has its place in the list
pub longest_index : (rs : List Run) (h d : Hole) → Canonical rs → LongestMissing rs h → (i : ℕ) × (i < length (holes rs)) × (get_or (holes rs) i d ≡ h)
longest_index rs h d c l = index_of (holes rs) h d (longest_is_hole rs h c l)
