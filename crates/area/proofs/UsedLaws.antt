-- The used places of an area that holds a table: what stands there, and at which of them an Id is open.
-- Assumes nothing.
use Prim.Native.Nat.{ℕ, zero, suc, ◌≤◌, ◌<◌}
use mathlib.Core.Path.{◌≡◌, refl, sym, ap, ◌∙◌}
use mathlib.Core.Bool.{true}
use mathlib.Core.List.{List, [], ◌∷◌}
use mathlib.Core.Logic.{⊎_elim}
use mathlib.Core.Option.{some}
use native.Mathlib.Omega.{arith}
use lib.ListN.{length}
use Rattle.octets.specs.Numbers.{Octets}
use Rattle.timestamp.specs.Timestamps.{Stamp}
use Rattle.words.specs.Words.{word_at}
use Rattle.run_rows.proofs.RowsLaws.{length_runs}
use Rattle.run_rows.specs.Rows.{runs_in}
use Rattle.run_rows.specs.declared.Rows.{Rows}
use Rattle.transfer.specs.declared.Key.{Key}
use Rattle.transfer.specs.Transfers.{Transfer, TransferFine}
use Rattle.table.specs.Tables.{keys, find, runs_of, stamp_of}
use Rattle.area.specs.Layout.{transfer_places, run_places, count_field, stamped_field, head_at, run_at, half_at}
use Rattle.area.specs.Places.{key_at, rows_at, stamp_by, stamp_at, transfer_at, read_table, place_in}
use Rattle.area.specs.Judge.{judged}
use Rattle.area.proofs.PlaceLaws.{length_transfers, transfer_at_lem, rows_fit}
use Rattle.area.proofs.JudgeLaws.{judged_passed, fine_at}
use Rattle.area.proofs.KeptLaws.{place_open, kept_found, kept_runs, kept_stamp}
use Rattle.area.specs.declared.Place.{Place}
use Rattle.area.specs.Used.{UsedPlace}

-- a timestamp that is fine is told by 0 or 1
told_fine : (n x y : ℕ) → Stamp (stamp_by n x y) → n ≤ 1
unfolding stamp_by
told_fine zero x y f = omega arith
told_fine (suc zero) x y f = omega arith
told_fine (suc (suc n)) x y f = absurd (⊎_elim (λ e. let z : ◌≡◌ {A = ℕ} 1 0 = ap length e in omega arith) (λ (p : (1 ≡ 16) × Octets (suc (suc n) ∷ [])). omega (arith, p.0)) f)

pub used_place : (a : List ℕ) (i : ℕ) → judged a ≡ true → i < word_at a 0 → UsedPlace a i
used_place a i passed h =
    let v = judged_passed a passed in
    let l : length (read_table a) ≡ word_at a 0 = length_transfers a 0 (word_at a 0) in
    let m : length (read_table a) ≤ transfer_places = v.1.few in
    let low : i < transfer_places = omega arith in
    let f : TransferFine (transfer_at a i) = rw (transfer_at_lem a i h) at (fine_at 0 (read_table a) i v.1.fine (omega arith)) in
    let n : word_at a (head_at i count_field) ≤ run_places =
    omega (arith, f.few, length_runs a (run_at 0 i 0) (run_at 1 i 0) (word_at a (head_at i count_field))) in
    record {
      long = v.0;
      low = low;
      rows = record { fit = rows_fit a i (rows_at a i) refl v.0 low n; canonical = f.canonical };
      width = f.width_is;
      told = told_fine (word_at a (head_at i stamped_field)) (word_at a (half_at i 0)) (word_at a (half_at i 1)) f.stamp_is;
    }

-- ---- the place of an Id
module _ (a : List ℕ) (id : ℕ) (yes : judged a ≡ true) (p : Place) (is : p ≡ place_in id (read_table a)) (yes-open : p.«open» ≡ true) where
  -- where it is open, its place is used
  pub open_used : p.at < word_at a 0
  open_used = omega (arith, (place_open id (read_table a) p is yes-open).inside, length_transfers a 0 (word_at a 0))

  -- and the key, the runs and the timestamp there are the Id's
  pub key_found : (key : Key) → key ≡ key_at a p.at → find id (keys (read_table a)) ≡ some key
  key_found key key_is =
      kept_found (place_open id (read_table a) p is yes-open)
      ∙ ap (λ (x : Transfer). some x.key) (transfer_at_lem a p.at open_used) ∙ ap some (sym key_is)

  pub runs_found : (rows : Rows) → rows ≡ rows_at a p.at → runs_of (read_table a) id ≡ runs_in a rows
  runs_found rows rows_are =
      kept_runs (place_open id (read_table a) p is yes-open)
      ∙ ap (λ (x : Transfer). x.runs) (transfer_at_lem a p.at open_used) ∙ ap (runs_in a) (sym rows_are)

  pub stamp_found : stamp_of (read_table a) id ≡ stamp_at a p.at
  stamp_found =
      kept_stamp (place_open id (read_table a) p is yes-open)
      ∙ ap (λ (x : Transfer). x.stamp) (transfer_at_lem a p.at open_used)
