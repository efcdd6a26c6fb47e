-- R6.12: the holes that are answered of a transfer of an area are the longest missing stretches, each at some index.
-- Assumes nothing.
use Prim.Native.Nat.{ℕ, ◌<◌, ◌≤◌}
use mathlib.Core.Path.{◌≡◌, refl, sym, ap, ◌∙◌}
use mathlib.Core.List.{List}
use mathlib.Core.Logic.{⊎_elim}
use mathlib.Core.Option.{Option, none, some}
use native.Mathlib.Omega.{arith}
use lib.ListN.{length, get_or}
use borrow.Author.Tests.{lt-ltb, le-ltb}
use Rattle.refusals.specs.Refusals.{refusal_of}
use Rattle.runs.specs.Holes.{hole, holes, LongestMissing}
use Rattle.runs.specs.declared.Hole.{Hole}
use Rattle.runs.proofs.CompareLaws.{le_or_lt}
use Rattle.runs.proofs.MissingLaws.{hole_at_longest, longest_index}
use Rattle.transfer.specs.declared.Key.{Key}
use Rattle.transfer.specs.Transfers.{Transfer}
use Rattle.table.specs.Tables.{keys, find, runs_of}
use Rattle.table.proofs.FineLaws.{runs_canonical}
use Rattle.area.specs.Judge.{table_of}
use Rattle.area.proofs.JudgeLaws.{held_valid}
use Rattle.area.proofs.OperationLaws.{from_held}
use Rattle.area_by_id.specs.ById.{hole_in, hole_for, hole_of, hole_area}
use Rattle.area_by_id.proofs.ByIdLaws.{hole_unheld, hole_missing}
use Rattle.std.specs.Prelude.{Ok, Err}

-- the area holds a table in which the Id is open, and h is a longest stretch that its transfer lacks
pub record Lacks (a : List ℕ) (id : ℕ) (h : Hole) : Type 0 where
  pub table : List Transfer
  pub held : table_of a ≡ some table
  pub key : Key
  pub found : find id (keys table) ≡ some key
  pub longest : LongestMissing (runs_of table id) h

module _ (a : List ℕ) (t : List Transfer) (held : table_of a ≡ some t) (id : ℕ) (k : Key) (found : find id (keys t) ≡ some k) where
  of_runs : (i : ℕ) → hole_area a id i ≡ hole_in (runs_of t id) i
  unfolding hole_area hole_of hole_for
  of_runs i = from_held (Err (refusal_of 22)) (λ u. hole_of u id i) a t held ∙ rw found

  pub hole_there : (i : ℕ) → i < length (holes (runs_of t id)) → hole_area a id i ≡ Ok (get_or (holes (runs_of t id)) i (hole 0 0))
  unfolding hole_in
  hole_there i p = of_runs i ∙ rw (lt-ltb i (length (holes (runs_of t id))) p)

  pub hole_past : (i : ℕ) → length (holes (runs_of t id)) ≤ i → hole_area a id i ≡ Err (refusal_of 19)
  unfolding hole_in
  hole_past i p = of_runs i ∙ rw (le-ltb i (length (holes (runs_of t id))) p)

  lacks : (i : ℕ) (h : Hole) → hole_area a id i ≡ Ok h → Lacks a id h
  lacks i h e =
      ⊎_elim (λ (p : length (holes (runs_of t id)) ≤ i). let z = sym (hole_past i p) ∙ e in absurd (let y : ◌≡◌ {A = ℕ} 0 1 = cc in omega arith))
      (λ (p : i < length (holes (runs_of t id))).
      let z = sym (hole_there i p) ∙ e in
      let is : get_or (holes (runs_of t id)) i (hole 0 0) ≡ h = cc in
      record {
        table = t;
        held = held;
        key = k;
        found = found;
        longest = rw is at (hole_at_longest (runs_of t id) i (hole 0 0) (runs_canonical id t (held_valid a t held)) p);
      })
      (le_or_lt (length (holes (runs_of t id))) i)

  -- each longest missing stretch is answered at an index below their number
  pub hole_answered : (h : Hole) → LongestMissing (runs_of t id) h
      → (i : ℕ) × (i < length (holes (runs_of t id))) × (hole_area a id i ≡ Ok h)
  hole_answered h l =
      let o = longest_index (runs_of t id) h (hole 0 0) (runs_canonical id t (held_valid a t held)) l in
      (o.0, o.1, hole_there o.0 o.1 ∙ ap Ok o.2)

-- what is answered is one of them
pub hole_lacks : (a : List ℕ) (id i : ℕ) (h : Hole) → hole_area a id i ≡ Ok h → Lacks a id h
unfolding hole_area
hole_lacks a id i h e = by_table (table_of a) refl
  where
    by_key : (t : List Transfer) → table_of a ≡ some t → (o : Option Key) → find id (keys t) ≡ o → Lacks a id h
    by_key t s none f =
        let z = sym (from_held (Err (refusal_of 22)) (λ u. hole_of u id i) a t s ∙ hole_missing t id i f) ∙ e in
        absurd (let y : ◌≡◌ {A = ℕ} 0 1 = cc in omega arith)
    by_key t s (some k) f = lacks a t s id k f i h e

    by_table : (o : Option (List Transfer)) → table_of a ≡ o → Lacks a id h
    by_table none s = let z = sym (hole_unheld a id i s) ∙ e in absurd (let y : ◌≡◌ {A = ℕ} 0 1 = cc in omega arith)
    by_table (some t) s = by_key t s (find id (keys t)) refl
