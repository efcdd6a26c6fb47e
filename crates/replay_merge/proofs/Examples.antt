-- The definitions compute on records, to the lines that docs/REPLAY.md shows. Assumes nothing.
use Prim.Native.Nat.{ℕ}
use mathlib.Core.Path.{◌≡◌, refl}
use mathlib.Core.List.{List, [], ◌∷◌}
use mathlib.Core.Option.{some}
use Rattle.refusals.specs.Refusals.{code_of}
use Rattle.runs.specs.Runs.{Run, run, insert}
use Rattle.runs.specs.Holes.{edge_from, progress, complete}
use Rattle.run_union.specs.Union.{union}
use Rattle.transfer.specs.Record.{runs_refusal}
use Rattle.transfer.specs.Transfers.{reached, Transfer, transfer_of}
use Rattle.table.specs.Tables.{keys, find, runs_of}
use Rattle.table_merge.specs.Merge.{keys_refusal, joined_runs, merge_refusal, merge_as, merge_table}
use Rattle.area.specs.Judge.{table_of}
use Rattle.area.specs.Operations.{on_found, on_table}
use Rattle.area_merge.specs.Merge.{merge_found, merge_area}
use Rattle.text.specs.Decimal.{decimal_onto, decimal_of}
use Rattle.replay_lines.specs.Lines.{plain_line, refused_line}
use Rattle.replay_merge.specs.MergeLines.{names_table, table_line, choose_lines, chosen_after, merged_line, merge_text, merge_lines}

-- "16 table 1", and table 1 is chosen
pub table_one : choose_lines 16 (1 ∷ []) ≡ 49 ∷ 54 ∷ 32 ∷ 116 ∷ 97 ∷ 98 ∷ 108 ∷ 101 ∷ 32 ∷ 49 ∷ 10 ∷ []
unfolding names_table table_line choose_lines decimal_of decimal_onto
table_one = refl

pub one_chosen : chosen_after 0x54 (1 ∷ []) 0 ≡ 1
unfolding names_table chosen_after
one_chosen = refl

-- "18 bad length": there is no table 2, and the one that was chosen stays
pub no_table_two : choose_lines 18 (2 ∷ []) ≡ 49 ∷ 56 ∷ 32 ∷ 98 ∷ 97 ∷ 100 ∷ 32 ∷ 108 ∷ 101 ∷ 110 ∷ 103 ∷ 116 ∷ 104 ∷ 10 ∷ []
unfolding names_table choose_lines plain_line decimal_of decimal_onto
no_table_two = refl

pub chosen_stays : chosen_after 0x54 (2 ∷ []) 1 ≡ 1
unfolding names_table chosen_after
chosen_stays = refl

-- Id 7, of 3,000 octets, with these runs
abbrev seven : List Run → Transfer
seven rs = transfer_of (record { id = 7; width = 2; length = 3000 }) rs []

-- the body of an `M`: Id 7
abbrev id_seven : List ℕ
id_seven = 0 ∷ 0 ∷ 0 ∷ 0 ∷ 0 ∷ 0 ∷ 0 ∷ 7 ∷ []

-- "17 merge id=7 edge=3000 complete=1": the first has the outer thirds, and the second the middle one
pub merged : (area other : List ℕ) → table_of area ≡ some (seven (run 0 1000 ∷ run 2000 3000 ∷ []) ∷ []) → table_of other ≡ some (seven (run 1000 2000 ∷ []) ∷ [])
    → merge_lines 17 id_seven area other ≡ 49 ∷ 55 ∷ 32 ∷ 109 ∷ 101 ∷ 114 ∷ 103 ∷ 101 ∷ 32 ∷ 105 ∷ 100 ∷ 61 ∷ 55 ∷ 32 ∷ 101 ∷ 100 ∷ 103 ∷ 101 ∷ 61 ∷ 51 ∷ 48 ∷ 48 ∷ 48 ∷ 32 ∷ 99 ∷ 111 ∷ 109 ∷ 112 ∷ 108 ∷ 101 ∷ 116 ∷ 101 ∷ 61 ∷ 49 ∷ 10 ∷ []
unfolding merge_lines merge_text merged_line decimal_of decimal_onto merge_area on_table on_found merge_found merge_table merge_as merge_refusal keys_refusal joined_runs runs_refusal union insert keys find runs_of reached edge_from progress complete
merged area other e f = rw (e, f)

-- "7 refused 12 code=6": nothing is open in the second
pub not_open : (area other : List ℕ) → table_of area ≡ some (seven [] ∷ []) → table_of other ≡ some []
    → merge_lines 7 id_seven area other ≡ 55 ∷ 32 ∷ 114 ∷ 101 ∷ 102 ∷ 117 ∷ 115 ∷ 101 ∷ 100 ∷ 32 ∷ 49 ∷ 50 ∷ 32 ∷ 99 ∷ 111 ∷ 100 ∷ 101 ∷ 61 ∷ 54 ∷ 10 ∷ []
unfolding merge_lines merge_text refused_line decimal_of decimal_onto code_of merge_area on_table on_found merge_found merge_table merge_as merge_refusal keys_refusal keys find
not_open area other e f = rw (e, f)
