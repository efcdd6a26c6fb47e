-- The runs of two places joined: 16 where they are too many, and else what is put makes the area that is to be left.
-- Assumes nothing.
use Prim.Native.Nat.{ℕ, ◌+◌, ◌≤◌, ◌<◌}
use mathlib.Core.Path.{◌≡◌, sym, ap, ap₂, subst, ◌∙◌}
use mathlib.Core.Bool.{true}
use mathlib.Core.List.{List}
use native.Mathlib.Omega.{arith}
use lib.ListN.{length}
use borrow.Author.Tests.{lt-ltb, le-ltb}
use Rattle.octets.specs.Numbers.{Octets}
use Rattle.refusals.specs.Refusals.{refusal_of}
use Rattle.runs.specs.Runs.{Run}
use Rattle.words.specs.Words.{word_at}
use Rattle.run_rows.specs.Rows.{runs_in, RowsFit, RowsFine}
use Rattle.run_rows.specs.declared.Rows.{Rows}
use Rattle.run_rows.proofs.RowsLaws.{length_runs, runs_are}
use Rattle.run_union.specs.Union.{union}
use Rattle.row_union.specs.Joined as Row-union
use Rattle.transfer.specs.declared.Key.{Key}
use Rattle.transfer.specs.declared.Reached.{Reached}
use Rattle.transfer.specs.Transfers.{Transfer, TransferFine, reached}
use Rattle.area.specs.Layout.{transfer_places, run_places, area_octets, run_at}
use Rattle.area.specs.Places.{rows_at, read_table, nth}
use Rattle.area.specs.Judge.{judged}
use Rattle.area.specs.Operations.{OnArea}
use Rattle.area.proofs.PlaceLaws.{length_transfers, transfer_at_lem, rows_fit}
use Rattle.area.proofs.JudgeLaws.{judged_passed, fine_at}
use Rattle.area_union.specs.Put.{RunsPut}
use Rattle.area_union.specs.Join.{runs_joined, places_joined}
use Rattle.area_union.proofs.StoredLaws.{put_stored}
use Rattle.std.specs.Prelude.{Result, Ok, Err}
use Rattle.refusals.specs.declared.Refusal.{Refusal}

-- an answer with its area, part by part
pub both : {x y : Result Reached Refusal} {l : List ℕ} {o : OnArea (Result Reached Refusal)} → x ≡ y → record { answer = y; area = l } ≡ o → (x ≡ o.answer) × (l ≡ o.area)
both e f = (e ∙ ap (λ (r : OnArea (Result Reached Refusal)). r.answer) f, ap (λ (r : OnArea (Result Reached Refusal)). r.area) f)

-- and of one that equals another
pub both_as : {x : Result Reached Refusal} {l : List ℕ} {m o : OnArea (Result Reached Refusal)} → (x ≡ m.answer) × (l ≡ m.area) → m ≡ o → (x ≡ o.answer) × (l ≡ o.area)
both_as h f = (h.0 ∙ ap (λ (r : OnArea (Result Reached Refusal)). r.answer) f, h.1 ∙ ap (λ (r : OnArea (Result Reached Refusal)). r.area) f)

-- ---- the rows at a place of an area that holds a table

module _ (a : List ℕ) (p : ℕ) (e : judged a ≡ true) (there : p < length (read_table a)) where
  pub place_known : (area_octets ≤ length a) × (p < transfer_places)
  place_known = let v = judged_passed a e in (v.0, omega (arith, v.1.few))

  module _ (r : Rows) (is : r ≡ rows_at a p) where
    rows_runs : runs_in a r ≡ (nth (read_table a) p).runs
    rows_runs = ap (runs_in a) is ∙ ap (λ (x : Transfer). x.runs) (sym (transfer_at_lem a p (omega (arith, length_transfers a 0 (word_at a 0)))))

    pub rows_fine : RowsFine a r
    rows_fine =
        let x : TransferFine (nth (read_table a) p) = fine_at 0 (read_table a) p (judged_passed a e).1.fine there in
        let n : r.count ≡ length (nth (read_table a) p).runs = sym (length_runs a r.starts r.stops r.count) ∙ ap length rows_runs in
        record { fit = rows_fit a p r is place_known.0 place_known.1 (omega (arith, x.few)); canonical = rw rows_runs x.canonical }

-- ---- two of them, whose runs were joined

module _ (a : List ℕ) (p : ℕ) (e : judged a ≡ true) (there : p < length (read_table a)) (r : Rows) (is : r ≡ rows_at a p)
    (b : List ℕ) (q : ℕ) (f : judged b ≡ true) (other : q < length (read_table b)) (s : Rows) (of : s ≡ rows_at b q)
    (starts stops : List ℕ) (n : ℕ) (j : Row-union.Joined starts stops n (union (runs_in a r) (runs_in b s))) (k : Key) where
  abbrev all : List Run
  all = union (nth (read_table a) p).runs (nth (read_table b) q).runs

  all_are : Row-union.Joined starts stops n all
  all_are = subst (λ (l : List Run). Row-union.Joined starts stops n l) (ap₂ union (rows_runs a p e there r is) (rows_runs b q f other s of)) j

  pub join_over : run_places < n → record { answer = Err (refusal_of 16); area = a } ≡ places_joined a p k b q
  unfolding runs_joined
  join_over h = rw (lt-ltb run_places (length all) (omega (arith, all_are.count)))

  -- the rows after it
  abbrev rows : Rows
  rows = record { starts = r.starts; stops = r.stops; count = n }

  first_row : r.starts ≡ run_at 0 p 0
  first_row = ap (λ (x : Rows). x.starts) is

  second_row : r.stops ≡ run_at 1 p 0
  second_row = ap (λ (x : Rows). x.stops) is

  pub join_fit : n ≤ run_places → (z : List ℕ) → length z ≡ length a → RowsFit z rows
  join_fit room z size =
      let l = place_known a p e there in
      record { starts_fit = omega (arith, first_row); stops_fit = omega (arith, second_row) }

  module _ (room : n ≤ run_places) (in-starts : n ≤ length starts) (in-stops : n ≤ length stops) (z : List ℕ) (put : RunsPut a z p starts stops n) where
    runs_after : runs_in z rows ≡ all
    runs_after =
        runs_are z r.starts r.stops n all (sym all_are.count)
        (λ i l. let g : r.starts + i ≡ run_at 0 p i = omega (arith, first_row) in ap (word_at z) g ∙ put.starts_are i l ∙ all_are.kept.starts_are i l (omega arith))
        (λ i l. let g : r.stops + i ≡ run_at 1 p i = omega (arith, second_row) in ap (word_at z) g ∙ put.stops_are i l ∙ all_are.kept.stops_are i l (omega arith))

    pub join_done : (g : Reached) → g ≡ reached k (runs_in z rows) → Octets a → Octets z → record { answer = Ok g; area = z } ≡ places_joined a p k b q
    unfolding runs_joined
    join_done g h o u =
        rw (le-ltb run_places (length all) (omega (arith, all_are.count)))
        (ap₂ (λ (x : Reached) (l : List ℕ). record { answer = Ok x; area = l }) (h ∙ ap (reached k) runs_after)
        (put_stored a e o p there all z starts stops n put all_are.kept all_are.count in-starts in-stops room u))
