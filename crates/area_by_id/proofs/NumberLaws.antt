-- R1.5: what listing, looking up and asking for a hole refuse has a number that is not 0.
-- Assumes nothing.
use Prim.Native.Nat.{ℕ}
use mathlib.Core.Path.{◌≡◌}
use mathlib.Core.List.{List}
use mathlib.Core.Option.{Option, none, some}
use native.Mathlib.Omega.{arith}
use lib.ListN.{length}
use lib.Dec.{ltb}
use Rattle.refusals.specs.Refusals.{refusal_of}
use Rattle.runs.specs.Runs.{Run}
use Rattle.runs.specs.Holes.{holes}
use Rattle.transfer.specs.declared.Key.{Key}
use Rattle.table.specs.Tables.{keys, find, runs_of, stamp_of}
use Rattle.table.proofs.TableLaws.{by_test}
use Rattle.area.proofs.OperationLaws.{from_cases}
use Rattle.area_listing.specs.Listing.{listed_in, listed_area}
use Rattle.area_by_id.specs.ById.{found_for, found_in, found_area, hole_in, hole_for, hole_of, hole_area}
use Rattle.std.specs.Prelude.{Result, Ok, Err}
use Rattle.refusals.specs.declared.Refusal.{Refusal}
use Rattle.runs.specs.declared.Hole.{Hole}
use Rattle.area_listing.specs.declared.Listing.{Listing}

abbrev pub Numbered : Result Listing Refusal → Type 0
Numbered (Ok l) = Unit
Numbered (Err r) = r.number ≡ 0 → ⊥

abbrev pub HoleNumbered : Result Hole Refusal → Type 0
HoleNumbered (Ok h) = Unit
HoleNumbered (Err r) = r.number ≡ 0 → ⊥

pub listed_numbered : (a : List ℕ) (i : ℕ) → Numbered (listed_area a i)
unfolding listed_area listed_in
listed_numbered a i =
    from_cases (Err (refusal_of 22)) (λ t. listed_in t i) a Numbered (λ e. omega arith)
    (λ t h. by_test Numbered (ltb i (length t)) _ (Err (refusal_of 12)) (λ b. tt) (λ b e. omega arith))

pub found_numbered : (a : List ℕ) (id : ℕ) → Numbered (found_area a id)
unfolding found_area found_in found_for
found_numbered a id =
    from_cases (Err (refusal_of 22)) (λ t. found_in t id) a Numbered (λ e. omega arith) (λ t h. go (find id (keys t)) (runs_of t id) (stamp_of t id))
  where
    go : (o : Option Key) (rs : List Run) (s : List ℕ) → Numbered (found_for o rs s)
    go none rs s = λ e. omega arith
    go (some k) rs s = tt

pub hole_numbered : (a : List ℕ) (id i : ℕ) → HoleNumbered (hole_area a id i)
unfolding hole_area hole_of hole_for hole_in
hole_numbered a id i =
    from_cases (Err (refusal_of 22)) (λ t. hole_of t id i) a HoleNumbered (λ e. omega arith) (λ t h. go (find id (keys t)) (runs_of t id))
  where
    go : (o : Option Key) (rs : List Run) → HoleNumbered (hole_for o rs i)
    go none rs = λ e. omega arith
    go (some k) rs = by_test HoleNumbered (ltb i (length (holes rs))) _ (Err (refusal_of 19)) (λ b. tt) (λ b e. omega arith)
