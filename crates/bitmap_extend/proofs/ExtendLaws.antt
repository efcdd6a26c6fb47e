-- Marking the offsets of a packet: by the places that the cuts found, 16 or the answer of the runs with the packet's stretch inserted.
-- Assumes nothing.
use Prim.Native.Nat.{ℕ, ◌+◌, ◌-◌, ◌≤◌, ◌<◌, max}
use mathlib.Core.Path.{◌≡◌, sym, ap, subst, ◌∙◌}
use mathlib.Core.Bool.{false}
use mathlib.Core.List.{List}
use native.Mathlib.Omega.{arith}
use lib.ListN.{length}
use lib.Dec.{leb}
use borrow.Author.Tests.{lt-ltb}
use Rattle.refusals.specs.Refusals.{refusal_of}
use Rattle.runs.specs.Runs.{Run, adds}
use Rattle.runs.specs.Holes.{edge, complete, progress}
use Rattle.runs.specs.Splice.{adds_at}
use Rattle.runs.proofs.EdgeLaws.{edge_inserted}
use Rattle.run_rows.specs.Rows.{runs_in, CutTo, CutBelow}
use Rattle.run_rows.specs.declared.Rows.{Rows}
use Rattle.run_rows.proofs.RowsLaws.{length_runs}
use Rattle.run_cuts.proofs.CutLaws.{absorbed_cut, adds_cut}
use Rattle.packet_data.specs.declared.Data.{Data}
use Rattle.transfer.specs.declared.Key.{Key}
use Rattle.transfer.specs.Transfers.{reached}
use Rattle.transfer.specs.Record.{stop_of, extended, absorbed_by, adds_by, runs_refusal}
use Rattle.transfer.proofs.ExtendLaws.{extended_count, few_runs}
use Rattle.marks.specs.Marks.{mark_octets, mark_count, marked, with_marks}
use Rattle.marks.specs.MarkedRuns.{marked_runs}
use Rattle.marks.specs.Walk.{run_rows, FirstWith}
use Rattle.marks.proofs.MarkLaws.{marked_canonical, runs_inserted}
use Rattle.marked_runs.proofs.FoundLaws.{progress_found}
use Rattle.bitmap.specs.State.{longest}
use Rattle.bitmap.specs.Judged.{RunsStand}
use Rattle.bitmap_extend.specs.Record.{record_as}
use Rattle.std.specs.Prelude.{Ok, Err}

-- the runs of the marks that a packet leaves
pub marks_extended : (s : List ℕ) (d : Data) → 0 < d.length → stop_of d ≤ longest → mark_octets ≤ length s
    → marked_runs (with_marks d.offset d.length s) ≡ extended (marked_runs s) d
unfolding extended
marks_extended s d p q h = runs_inserted s d.offset d.length p (omega arith) h

module _ (k : Key) (s rows : List ℕ) (n : ℕ) (d : Data) (stand : RunsStand s rows n) (long : mark_octets ≤ length s) (some : 0 < d.length) (low : stop_of d ≤ longest)
    (at : Rows) (two : at ≡ run_rows n) (j i : ℕ) (to : CutTo rows at.starts n (stop_of d) j) (below : CutBelow rows at.stops j d.offset i) where
  u : CutTo rows 0 n (stop_of d) j
  u = rw two at to

  v : CutBelow rows 64 j d.offset i
  v = rw two at below

  -- the runs from i up to j are those that the packet absorbs
  absorbed_is : absorbed_by (marked_runs s) d ≡ j - i
  unfolding absorbed_by
  absorbed_is = rw (← stand.are) (absorbed_cut rows (run_rows n) d.offset (stop_of d) i j u v (rw stand.are (marked_canonical s)) (omega arith))

  -- and one of them has all of it, where nothing is added
  adds_is : adds_by (marked_runs s) d ≡ adds_at d.offset (stop_of d) (runs_in rows (run_rows n)) i j
  unfolding adds_by
  adds_is = subst (λ (l : List Run). adds d.offset (stop_of d) l ≡ adds_at d.offset (stop_of d) (runs_in rows (run_rows n)) i j) stand.are
      (adds_cut rows (run_rows n) d.offset (stop_of d) i j u v (rw stand.are (marked_canonical s)) (omega arith))

  runs_left : length (extended (marked_runs s) d) ≡ i + 1 + (n - j)
  runs_left =
      let l : length (marked_runs s) ≡ n = ap length (sym stand.are) ∙ length_runs rows 0 64 n in
      let x : i ≤ j = v.inside in
      let y : j ≤ n = u.inside in
      omega (arith, extended_count (marked_runs s) d some (marked_canonical s), absorbed_is)

  pub extend_refused : 64 < i + 1 + (n - j)
      → (Err (refusal_of 16) ≡ (record_as (runs_refusal (extended (marked_runs s) d)) k s d).answer) × (s ≡ (record_as (runs_refusal (extended (marked_runs s) d)) k s d).marks)
  unfolding record_as runs_refusal
  extend_refused h = let e = lt-ltb 64 (length (extended (marked_runs s) d)) (omega (arith, runs_left)) in (rw e, rw e)

  -- the edge and the progress then
  module _ (few : i + 1 + (n - j) ≤ 64) (x : List ℕ) (is : x ≡ with_marks d.offset (stop_of d - d.offset) s) (e p q : ℕ)
      (edge-is : e ≡ edge (runs_in rows at)) (next : q ≡ max e (stop_of d)) (first : FirstWith (marked x) false 0 mark_count p) where
    after : x ≡ with_marks d.offset d.length s
    after = let z : stop_of d - d.offset ≡ d.length = omega arith in is ∙ ap (λ (m : ℕ). with_marks d.offset m s) z

    edge_after : q ≡ edge (extended (marked_runs s) d)
    unfolding extended
    edge_after = next ∙ ap (λ (m : ℕ). max m (stop_of d)) (edge-is ∙ rw two (ap edge stand.are)) ∙ sym (edge_inserted d.offset (stop_of d) (marked_runs s) (omega arith) (marked_canonical s))

    progress_after : p ≡ progress (extended (marked_runs s) d)
    progress_after = progress_found x p first ∙ ap progress (ap marked_runs after ∙ marks_extended s d some low long)

    pub extend_done : (m : ℕ) → m ≡ adds_at d.offset (stop_of d) (runs_in rows at) i j
        → (Ok (record { reached = record { edge = q; complete = leb k.length p }; absorbed = j - i; adds = m })
        ≡ (record_as (runs_refusal (extended (marked_runs s) d)) k s d).answer)
        × (x ≡ (record_as (runs_refusal (extended (marked_runs s) d)) k s d).marks)
    unfolding record_as reached complete
    extend_done m adds-told =
        let z = few_runs (extended (marked_runs s) d) (omega (arith, runs_left)) in
        (rw (z, edge_after, progress_after, absorbed_is, (rw two at adds-told) ∙ sym adds_is), rw z after)
