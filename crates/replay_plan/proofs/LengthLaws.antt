-- How long the lines of a plan and of a check are at most, and so those of the records `L` and `K`. Assumes nothing.
use Prim.Native.Nat.{ℕ, zero, suc, ◌+◌, ◌*◌, ◌≤◌}
use mathlib.Core.Path.{◌≡◌, refl}
use mathlib.Core.Bool.{Bool, true, false, cond}
use mathlib.Core.List.{List, ◌++◌}
use native.Mathlib.Nat.{mul-suc}
use native.Mathlib.Omega.{arith}
use lib.Dec.{ltb}
use lib.ListN.{length, drop, get_or}
use Rattle.packet_status.specs.Status.{hole_list}
use Rattle.plan.specs.Pieces.{piece, plan_of}
use Rattle.plan.specs.Planning.{resend_refusal, plan_refusal}
use Rattle.plan.specs.declared.Piece.{Piece}
use Rattle.plan.proofs.PlanningLaws.{plan_fine}
use Rattle.refusals.specs.Refusals.{refusal_of}
use Rattle.text.proofs.LengthLaws.{AtMost, words, ◌and◌, at_most, decimal_most_lem, decimal_most}
use Rattle.replay_fields.specs.LineWords.{comma, newline, plus, w_bad, w_check, w_pieces, w_plan}
use Rattle.replay_fields.specs.Fields.{flag_of}
use Rattle.replay_fields.proofs.LengthLaws.{field_most_lem, field_most, in_list_most}
use Rattle.replay_lines.specs.Body.{number_at, bad_line}
use Rattle.replay_lines.proofs.LengthLaws.{plain_most, refused_most_lem, refused_most}
use Rattle.replay_plan.specs.PlanLines.{piece_text, pieces_text, records_lent, planned_text, plan_line, pieces_in, check_passes, checked_text, check_line}
use Rattle.replay_plan.specs.PlanRecords.{plan_lines, check_lines}

-- a piece, with its comma
abbrev pub piece_most_lem : ℕ
piece_most_lem = 1 + (decimal_most_lem + field_most_lem plus)

piece_most : (p : Piece) → AtMost (comma ++ piece_text p) piece_most_lem
piece_most p = words comma and decimal_most p.offset and field_most plus p.length

pieces_most : (ps : List Piece) (k : ℕ) → AtMost (pieces_text ps k) (piece_most_lem * k)
unfolding pieces_text
pieces_most ps zero = record { most = omega arith }
pieces_most ps (suc k) = at_most (pieces_most ps k and in_list_most k (piece_most (get_or ps k (piece 0 0)))) (omega (arith, mul-suc piece_most_lem k))

abbrev pub plan_most_lem : ℕ
plan_most_lem = decimal_most_lem + (field_most_lem w_plan + (length w_pieces + (piece_most_lem * records_lent + 1)))

planned_most : (n number : ℕ) (ps : List Piece) → (number ≡ 0 → length ps ≤ records_lent) → AtMost (planned_text n number ps) plan_most_lem
planned_most n zero ps h =
    let k = h refl in
    at_most
    (decimal_most n and field_most w_plan (length ps) and words w_pieces and pieces_most ps (length ps) and words newline)
    (omega arith)
planned_most n (suc number) ps h = at_most (refused_most n (refusal_of (suc number))) (omega arith)

-- of as many pieces as there are records lent
plan_most : (n m : ℕ) (s : List ℕ) → AtMost (plan_line n m s) plan_most_lem
unfolding plan_line
plan_most n m s = planned_most n (plan_refusal m records_lent s) (plan_of m (hole_list s)) (λ e. (plan_fine m records_lent s e).fits)

checked_most : (n number : ℕ) (passes : Bool) → AtMost (checked_text n number passes) refused_most_lem
checked_most n zero passes = at_most (decimal_most n and field_most w_check (flag_of passes) and words newline) (omega arith)
checked_most n (suc number) passes = refused_most n (refusal_of (suc number))

check_most : (n m : ℕ) (s : List ℕ) (ps : List Piece) → AtMost (check_line n m s ps) refused_most_lem
unfolding check_line
check_most n m s ps = checked_most n (resend_refusal m s) (check_passes m s ps)

pub plan_lines_most : (n : ℕ) (body : List ℕ) → AtMost (plan_lines n body) plan_most_lem
unfolding plan_lines
plan_lines_most n body = go (ltb (length body) 8)
  where
    go : (b : Bool) → AtMost (cond b (bad_line n) (plan_line n (number_at 0 8 body) (drop 8 body))) plan_most_lem
    go true = at_most (plain_most n w_bad) (omega arith)
    go false = plan_most n (number_at 0 8 body) (drop 8 body)

pub check_lines_most : (n : ℕ) (body : List ℕ) → AtMost (check_lines n body) refused_most_lem
unfolding check_lines
check_lines_most n body = go (ltb (length body) 16) (ltb records_lent k) (ltb (length body) (16 + 16 * k))
  where
    k : ℕ
    k = number_at 8 8 body

    checked : List ℕ
    checked = check_line n (number_at 0 8 body) (drop (16 + 16 * k) body) (pieces_in (drop 16 body) k)

    bad : AtMost (bad_line n) refused_most_lem
    bad = at_most (plain_most n w_bad) (omega arith)

    go : (a b c : Bool) → AtMost (cond a (bad_line n) (cond b (bad_line n) (cond c (bad_line n) checked))) refused_most_lem
    go true b c = bad
    go false true c = bad
    go false false true = bad
    go false false false = check_most n (number_at 0 8 body) (drop (16 + 16 * k) body) (pieces_in (drop 16 body) k)
