-- R17.6: 64 runs are one too many, where octet 0 is missing and the first piece does not reach the first run.
-- Assumes nothing.
use Rattle.std.specs.Prelude.{ℕ, zero, suc, ◌+◌, ◌≡◌, List, [], ◌∷◌, length, take, Err}
use Rattle.refusals.specs.Refusals.{refusal_of}
use Rattle.runs.specs.Runs.{Run, run}
use Rattle.runs.specs.Holes.{holes}
use Rattle.plan.specs.Pieces.{piece, plan_of}
use Rattle.transfer.specs.declared.Key.{Key}
use Rattle.transfer.specs.Transfers.{Transfer, transfer_of}
use Rattle.table.specs.Tables.{Valid, runs_of}
use Rattle.table.specs.Record.{record_packet}
use Rattle.one_round.specs.Rounds.{Carries}
use Rattle.one_round.specs.OneRound.{RoundWith}

-- n runs of one octet each, the first at `at`, with two octets between
unfoldable pub scattered : ℕ → ℕ → List Run
scattered at zero = []
scattered at (suc n) = run at (at + 1) ∷ scattered (at + 3) n

-- Id 7, width 16, L = 3,000: 64 runs, of which the first is at 2, and no timestamp
abbrev pub full_key : Key
full_key = record { id = 7; width = 2; length = 3000 }

abbrev pub full : List Transfer
full = transfer_of full_key (scattered 2 64) [] ∷ []

pub record OneTooMany : Type 0 where
  pub valid : Valid full
  pub runs : length (runs_of full 7) ≡ 64
  -- the first piece of its plan, with m = 1
  pub first_piece : take 1 (plan_of 1 (holes (runs_of full 7))) ≡ piece 0 1 ∷ []
  -- any packet that carries it is refused with 16
  pub refused : (packet : List ℕ) → Carries 7 2 (piece 0 1) packet → (record_packet full packet).answer ≡ Err (refusal_of 16)
  -- so the theorem does not hold with 64 in the place of 63
  pub not_sixty_four : RoundWith 64 → ⊥
