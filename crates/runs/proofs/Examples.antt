-- The definitions compute: small cases of each, those of the recorded passes (R10.7) among them. Assumes nothing.
use Prim.Native.Nat.{ℕ, zero, suc, ◌+◌, ◌*◌}
use mathlib.Core.Path.{◌≡◌, refl}
use mathlib.Core.Bool.{true, false}
use mathlib.Core.List.{List, [], ◌∷◌}
use native.Mathlib.Omega.{arith}
use lib.ListN.{length}
use Rattle.runs.specs.Runs.{Run, run, contains, Canonical, insert, absorbed}
use Rattle.runs.specs.Splice.{stops_below, starts_up_to, spliced_runs}
use Rattle.runs.specs.Holes.{edge_from, edge, hole, holes_from, holes, progress, complete}

-- ---- nothing received

none_edge : edge [] ≡ 0
unfolding edge_from
none_edge = refl

none_holes : holes [] ≡ []
unfolding holes_from
none_holes = refl

none_progress : progress [] ≡ 0
unfolding progress
none_progress = refl

-- a transfer of no octets is complete
none_complete_0 : complete 0 [] ≡ true
unfolding complete progress
none_complete_0 = refl

none_complete_1 : complete 1 [] ≡ false
unfolding complete progress
none_complete_1 = refl

-- ---- two stretches that touch: one run, edge 20, no hole

abbrev touching : List Run
touching = insert 10 20 (insert 0 10 [])

touching_runs : touching ≡ run 0 20 ∷ []
unfolding insert
touching_runs = refl

touching_absorbed : absorbed 10 20 (insert 0 10 []) ≡ 1
unfolding insert absorbed
touching_absorbed = refl

touching_edge : edge touching ≡ 20
unfolding insert edge_from
touching_edge = refl

touching_holes : holes touching ≡ []
unfolding insert holes_from
touching_holes = refl

touching_progress : progress touching ≡ 20
unfolding insert progress
touching_progress = refl

-- no hole below the edge, and yet complete only for a length up to 20
touching_complete : complete 20 touching ≡ true
unfolding insert progress complete
touching_complete = refl

touching_incomplete : complete 21 touching ≡ false
unfolding insert progress complete
touching_incomplete = refl

-- two touching runs are no canonical list
touching_apart : Canonical (run 0 10 ∷ run 10 20 ∷ []) → ⊥
touching_apart h = omega arith

-- the other way round
touching_below : insert 0 10 (insert 10 20 []) ≡ run 0 20 ∷ []
unfolding insert
touching_below = refl

-- ---- the start is missing: Progress 0, edge 10, one hole from 0 to 5

abbrev late : List Run
late = insert 5 10 []

late_progress : progress late ≡ 0
unfolding insert progress
late_progress = refl

late_edge : edge late ≡ 10
unfolding insert edge_from
late_edge = refl

late_holes : holes late ≡ hole 0 5 ∷ []
unfolding insert holes_from
late_holes = refl

late_first : contains late 4 ≡ false
unfolding insert contains
late_first = refl

late_received : contains late 5 ≡ true
unfolding insert contains
late_received = refl

late_last : contains late 10 ≡ false
unfolding insert contains
late_last = refl

-- ---- the first and last thousand of 3,000 octets, and then the middle: complete

abbrev two : List Run
two = insert 2000 3000 (insert 0 1000 [])

two_runs : two ≡ run 0 1000 ∷ run 2000 3000 ∷ []
unfolding insert
two_runs = refl

two_progress : progress two ≡ 1000
unfolding insert progress
two_progress = refl

two_edge : edge two ≡ 3000
unfolding insert edge_from
two_edge = refl

two_holes : holes two ≡ hole 1000 2000 ∷ []
unfolding insert holes_from
two_holes = refl

two_incomplete : complete 3000 two ≡ false
unfolding insert progress complete
two_incomplete = refl

two_joined : insert 1000 2000 two ≡ run 0 3000 ∷ []
unfolding insert
two_joined = refl

two_absorbed : absorbed 1000 2000 two ≡ 2
unfolding insert absorbed
two_absorbed = refl

two_complete : complete 3000 (insert 1000 2000 two) ≡ true
unfolding insert progress complete
two_complete = refl

-- as a splice: both runs are joined with the packet
two_below : stops_below 1000 two ≡ 0
unfolding insert stops_below
two_below = refl

two_up_to : starts_up_to 2000 two ≡ 2
unfolding insert starts_up_to
two_up_to = refl

two_spliced : spliced_runs 1000 2000 two 0 2 ≡ run 0 3000 ∷ []
unfolding insert
two_spliced = refl

-- one offset more on either side, and it touches neither
two_below_apart : stops_below 1001 two ≡ 1
unfolding insert stops_below
two_below_apart = refl

two_up_to_apart : starts_up_to 1999 two ≡ 1
unfolding insert starts_up_to
two_up_to_apart = refl

two_spliced_apart : spliced_runs 1001 1999 two 1 1 ≡ run 0 1000 ∷ run 1001 1999 ∷ run 2000 3000 ∷ []
unfolding insert
two_spliced_apart = refl

-- a repeat changes nothing
two_repeated : insert 2500 2600 two ≡ two
unfolding insert
two_repeated = refl

-- ---- 64 runs: a stretch apart from all makes 65, one that touches a run does not

-- n runs of one offset each, two offsets between
unfoldable scattered : ℕ → List Run
scattered zero = []
scattered (suc n) = insert (3 * n) (3 * n + 1) (scattered n)

full_runs : length (scattered 64) ≡ 64
unfolding scattered insert
full_runs = refl

full_apart : length (insert 192 193 (scattered 64)) ≡ 65
unfolding scattered insert
full_apart = refl

full_touching : length (insert 190 191 (scattered 64)) ≡ 64
unfolding scattered insert
full_touching = refl

full_touching_absorbed : absorbed 190 191 (scattered 64) ≡ 1
unfolding scattered insert absorbed
full_touching_absorbed = refl

full_covered : insert 0 300 (scattered 64) ≡ run 0 300 ∷ []
unfolding scattered insert
full_covered = refl

full_absorbed : absorbed 0 300 (scattered 64) ≡ 64
unfolding scattered insert absorbed
full_absorbed = refl

full_holes : length (holes (scattered 64)) ≡ 63
unfolding scattered insert holes_from
full_holes = refl

full_edge : edge (scattered 64) ≡ 190
unfolding scattered insert edge_from
full_edge = refl
