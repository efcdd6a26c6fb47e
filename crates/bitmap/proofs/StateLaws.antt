-- What is known of marks that are not refused.
-- Assumes nothing.
use Prim.Native.Nat.{ℕ, ◌≤◌}
use mathlib.Core.Path.{◌≡◌}
use mathlib.Core.Bool.{true, not}
use mathlib.Core.List.{List}
use native.Mathlib.Omega.{arith}
use lib.ListN.{length}
use lib.Dec.{ltb, leb}
use borrow.Author.Tests.{ltb-false, leb-true, not-false, le-ltb, le-leb}
use Rattle.refusals.proofs.TestLaws.{and_iff}
use Rattle.refusals.proofs.RefusalLaws.{first_none, rest_none, failed}
use Rattle.runs.specs.Holes.{edge}
use Rattle.run_rows.specs.Rows.{RowsFit}
use Rattle.transfer.specs.declared.Key.{Key}
use Rattle.transfer.specs.Transfers.{length_test}
use Rattle.marks.specs.Marks.{mark_octets}
use Rattle.marks.specs.MarkedRuns.{marked_runs}
use Rattle.marks.specs.Walk.{run_rows}
use Rattle.bitmap.specs.State.{longest, openable, state_test, marks_refusal, state_refusal}

pub rows_fit : (rows : List ℕ) (n : ℕ) → n ≤ 64 → length rows ≡ 1024 → RowsFit rows (run_rows n)
rows_fit rows n few room = record { starts_fit = omega arith; stops_fit = omega arith }

-- what is known then
pub record StateFine (k : Key) (s : List ℕ) : Type 0 where
  pub long : mark_octets ≤ length s
  pub taken : length_test k.width k.length ≡ true
  pub short : k.length ≤ longest
  pub few : length (marked_runs s) ≤ 64
  pub within : edge (marked_runs s) ≤ k.length

module _ (k : Key) (s : List ℕ) where
  pub state_known : state_refusal k s ≡ 0 → StateFine k s
  unfolding state_refusal marks_refusal state_test openable
  state_known e =
      let p = failed (ltb (length s) mark_octets) 19 (first_none (marks_refusal s) _ e) in
      let t = not-false (state_test k s) (failed (not (state_test k s)) 21 (rest_none (marks_refusal s) _ e)) in
      let o = (and_iff (openable k) _).0 t in
      let l = (and_iff (length_test k.width k.length) _).0 o.0 in
      let r = (and_iff (leb (length (marked_runs s)) 64) _).0 o.1 in
      record {
        long = ltb-false (length s) mark_octets p;
        taken = l.0;
        short = leb-true k.length longest l.1;
        few = leb-true (length (marked_runs s)) 64 r.0;
        within = leb-true (edge (marked_runs s)) k.length r.1;
      }

  pub marks_long : state_refusal k s ≡ 0 → mark_octets ≤ length s
  marks_long e = (state_known e).long

  pub known_state : StateFine k s → state_refusal k s ≡ 0
  unfolding state_refusal marks_refusal state_test openable
  known_state f =
      rw (
        le-ltb (length s) mark_octets f.long,
        f.taken,
        le-leb k.length longest f.short,
        le-leb (length (marked_runs s)) 64 f.few,
        le-leb (edge (marked_runs s)) k.length f.within,
      )
