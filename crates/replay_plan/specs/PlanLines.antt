-- The line of a plan, and that of the check of a list of pieces: docs/REPLAY.md, "The lines".
-- Assumes nothing.
use Rattle.std.specs.Prelude.{ℕ, zero, suc, ◌+◌, ◌*◌, Bool, List, [], ◌∷◌, ◌++◌, length, get_or}
use Rattle.refusals.specs.Refusals.{refusal_of}
use Rattle.packet_status.specs.Status.{hole_list}
use Rattle.plan.specs.Pieces.{piece, plan_of}
use Rattle.plan.specs.Planning.{ToldPlan, resend_refusal, plan_refusal, planned_of}
use Rattle.plan_check.specs.Checking.{check_start, check_all, passed}
use Rattle.plan.specs.declared.Piece.{Piece}
use Rattle.text.specs.Decimal.{decimal_of}
use Rattle.replay_fields.specs.LineWords.{newline, plus, w_check, w_pieces, w_plan}
use Rattle.replay_fields.specs.Fields.{field, pair_text, in_list, flag_of}
use Rattle.replay_lines.specs.Lines.{refused_line}
use Rattle.replay_lines.specs.Body.{number_at}

-- ---- a plan

-- `1000+400`: an offset and a length
abbrev pub piece_text : Piece → List ℕ
piece_text p = pair_text plus p.offset p.length

-- the first k pieces
unfoldable pub pieces_text : List Piece → ℕ → List ℕ
pieces_text ps zero = []
pieces_text ps (suc k) = pieces_text ps k ++ in_list k (piece_text (get_or ps k (piece 0 0)))

-- how many records are lent for a plan
abbrev pub records_lent : ℕ
records_lent = 4096

-- what planning answers where so many are lent
abbrev pub plan_for : ℕ → List ℕ → ToldPlan
plan_for m s = planned_of (plan_refusal m records_lent s) m (hole_list s)

-- `14 plan count=2 pieces=1000+400,1400+200`: every piece of the plan; or the refusal
abbrev pub planned_text : ℕ → ℕ → List Piece → List ℕ
planned_text n zero ps = decimal_of n ++ (field w_plan (length ps) ++ (w_pieces ++ (pieces_text ps (length ps) ++ newline)))
planned_text n (suc number) ps = refused_line n (refusal_of (suc number))

unfoldable pub plan_line : ℕ → ℕ → List ℕ → List ℕ
plan_line n m s = planned_text n (plan_refusal m records_lent s) (plan_of m (hole_list s))

-- ---- a check

-- the piece with this index, of a list in octets: eight for its offset and eight for its length
abbrev pub piece_in : List ℕ → ℕ → Piece
piece_in s i = piece (number_at (16 * i) 8 s) (number_at (16 * i + 8) 8 s)

-- the first k
unfoldable pub pieces_in : List ℕ → ℕ → List Piece
pieces_in s zero = []
pieces_in s (suc k) = pieces_in s k ++ (piece_in s k ∷ [])

-- whether the list passes
unfoldable pub check_passes : ℕ → List ℕ → List Piece → Bool
check_passes m s ps = passed (check_all (hole_list s) m (check_start (resend_refusal m s) (hole_list s)) ps)

-- `15 check passes=1`; or the refusal
abbrev pub checked_text : ℕ → ℕ → Bool → List ℕ
checked_text n zero passes = decimal_of n ++ (field w_check (flag_of passes) ++ newline)
checked_text n (suc number) passes = refused_line n (refusal_of (suc number))

unfoldable pub check_line : ℕ → ℕ → List ℕ → List Piece → List ℕ
check_line n m s ps = checked_text n (resend_refusal m s) (check_passes m s ps)
