-- R15.7: three records of one transfer of which one grouping is refused for room and the other is not. The first has every fourth octet, the
-- second the octets in the middle between them, and the third all odd ones: first and second are 65 runs of one octet, and all three are the
-- whole transfer.
-- Assumes nothing.
use Rattle.std.specs.Prelude.{ℕ, zero, suc, ◌+◌, ◌≡◌, true, false, List, [], ◌∷◌, Ok, Err}
use Rattle.std.proofs.Math.Option.{some}
use Rattle.refusals.specs.Refusals.{refusal_of}
use Rattle.runs.specs.Runs.{Run, run}
use Rattle.transfer.specs.Transfers.{Transfer}
use Rattle.table.specs.Tables.{Valid}
use Rattle.area.specs.Judge.{table_of}
use Rattle.area_merge.specs.Merge.{merge_area}

-- n runs of one octet, each `step` above the one before it
unfoldable pub octets_every : ℕ → ℕ → ℕ → List Run
octets_every step first zero = []
octets_every step first (suc n) = run first (suc first) ∷ octets_every step (first + step) n

-- a table with one transfer: the Id 7, the width 2 and the length 129
abbrev pub holding : List Run → List Transfer
holding rs = record { key = record { id = 7; width = 2; length = 129 }; runs = rs; stamp = [] } ∷ []

-- 0, 4, 8 and so on up to 128
abbrev pub fourths : List Transfer
fourths = holding (octets_every 4 0 33)

-- 2, 6, 10 and so on up to 126
abbrev pub middles : List Transfer
middles = holding (octets_every 4 2 32)

-- 1, 3, 5 and so on up to 127
abbrev pub odds : List Transfer
odds = holding (octets_every 2 1 64)

-- three areas that hold them
pub record RefusedForRoom (a b c : List ℕ) : Type 0 where
  -- the first two are refused with 16, whichever is merged into the other
  pub first_step : (merge_area a b 7).answer ≡ Err (refusal_of 16)
  pub turned : (merge_area b a 7).answer ≡ Err (refusal_of 16)
  -- the last two are not: 1 to 3, 5 to 7 and so on, 32 runs
  pub other_first : (merge_area b c 7).answer ≡ Ok (record { edge = 128; complete = false })
  -- and with the first they are complete
  pub other_then : (merge_area a (merge_area b c 7).area 7).answer ≡ Ok (record { edge = 129; complete = true })

pub record GroupingRefused : Type 0 where
  -- each of them is a table that an area may hold
  pub first_valid : Valid fourths
  pub second_valid : Valid middles
  pub third_valid : Valid odds
  pub refused : (a b c : List ℕ) → table_of a ≡ some fourths → table_of b ≡ some middles → table_of c ≡ some odds → RefusedForRoom a b c
