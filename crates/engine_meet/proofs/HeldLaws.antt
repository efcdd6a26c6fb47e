-- What the table has at the place of an Id, and the place of an Id that is open.
-- Assumes nothing.
use Prim.Native.Nat.{ℕ}
use mathlib.Core.Path.{◌≡◌, ap, ◌∙◌}
use mathlib.Core.Bool.{true}
use mathlib.Core.List.{List}
use mathlib.Core.Option.{none, some}
use Rattle.transfer.specs.Transfers.{Transfer}
use Rattle.table.specs.Tables.{keys, find}
use Rattle.area.specs.Places.{read_table, key_at, place_in, KeptAt}
use Rattle.area.specs.Judge.{judged}
use Rattle.area.specs.declared.Place.{Place}
use Rattle.area.proofs.JudgeLaws.{judged_passed}
use Rattle.area.proofs.KeptLaws.{FreeAt, place_open, kept_found, kept_transfer, free_missing}
use Rattle.engine_model.specs.Snapshots.{is_open}
use Rattle.engine_state.specs.State.{snapshot_in}
use Rattle.engine_state.proofs.StateLaws.{open_told}

module _ (s : List ℕ) (i p : ℕ) where
  pub key_kept : KeptAt i (read_table s) p → find i (keys (read_table s)) ≡ some (key_at s p)
  key_kept h = kept_found h ∙ ap (λ (x : Transfer). some x.key) (kept_transfer s i p h)

  pub key_free : judged s ≡ true → FreeAt i (read_table s) p → find i (keys (read_table s)) ≡ none
  key_free j h = free_missing (judged_passed s j).1.fine h

-- where an Id is open, it is kept at the place that the search gives
pub open_place : (s : List ℕ) (i : ℕ) (p : Place) → judged s ≡ true → p ≡ place_in i (read_table s) → is_open (snapshot_in s) i ≡ true
    → KeptAt i (read_table s) p.at
open_place s i p j e o = place_open i (read_table s) p e (open_told s i j p e ∙ o)
