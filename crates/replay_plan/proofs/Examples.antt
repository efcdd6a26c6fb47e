-- The definitions compute, to the lines that docs/REPLAY.md shows. Assumes nothing.
use Prim.Native.Nat.{ℕ}
use mathlib.Core.Path.{◌≡◌, refl}
use mathlib.Core.List.{List, [], ◌∷◌}
use Rattle.octets.specs.Numbers.{upper_zero}
use Rattle.refusals.specs.Refusals.{code_of}
use Rattle.header.specs.Start.{start_refusal, type_refusal}
use Rattle.header.specs.Descriptor.{descriptor_refusal}
use Rattle.hole_list.specs.HoleList.{starts_well, holes_well, points_to_last, list_well}
use Rattle.hole_list.specs.DescriptorList.{descriptors_refusal}
use Rattle.packet_status.specs.Status.{hole_list, list_refusal, success_refusal, status_refusal}
use Rattle.plan.specs.Pieces.{piece_count, hole_pieces, plan_of}
use Rattle.plan.specs.Planning.{resend_refusal, plan_refusal, cursor_at, advanced}
use Rattle.plan_check.specs.Checking.{fits, check_step, passed}
use Rattle.text.specs.Decimal.{decimal_onto, decimal_of}
use Rattle.replay_lines.specs.Lines.{refused_line}
use Rattle.replay_plan.specs.PlanLines.{pieces_text, plan_line, pieces_in, check_passes, check_line}

-- 44 00 00 00 00 00 00 07 03 E8 06 40 03 E8 06 40: the hole from 1,000 to 1,600
abbrev one_hole_lem : List ℕ
one_hole_lem = 68 ∷ 0 ∷ 0 ∷ 0 ∷ 0 ∷ 0 ∷ 0 ∷ 7 ∷ 3 ∷ 232 ∷ 6 ∷ 64 ∷ 3 ∷ 232 ∷ 6 ∷ 64 ∷ []

-- 1,000 and 400, 1,400 and 200, in 8 octets each
abbrev two_pieces : List ℕ
two_pieces = 0 ∷ 0 ∷ 0 ∷ 0 ∷ 0 ∷ 0 ∷ 3 ∷ 232 ∷ 0 ∷ 0 ∷ 0 ∷ 0 ∷ 0 ∷ 0 ∷ 1 ∷ 144 ∷ 0 ∷ 0 ∷ 0 ∷ 0 ∷ 0 ∷ 0 ∷ 5 ∷ 120 ∷ 0 ∷ 0 ∷ 0 ∷ 0 ∷ 0 ∷ 0 ∷ 0 ∷ 200 ∷ []

-- "14 plan count=2 pieces=1000+400,1400+200"
pub planned : plan_line 14 400 one_hole_lem
    ≡ 49 ∷ 52 ∷ 32 ∷ 112 ∷ 108 ∷ 97 ∷ 110 ∷ 32 ∷ 99 ∷ 111 ∷ 117 ∷ 110 ∷ 116 ∷ 61 ∷ 50 ∷ 32 ∷ 112 ∷ 105 ∷ 101 ∷ 99 ∷ 101 ∷ 115 ∷ 61 ∷ 49 ∷ 48 ∷ 48 ∷ 48 ∷ 43 ∷ 52 ∷ 48 ∷ 48 ∷ 44 ∷ 49 ∷ 52 ∷ 48 ∷ 48 ∷ 43 ∷ 50 ∷ 48 ∷ 48 ∷ 10 ∷ []
unfolding plan_line plan_refusal resend_refusal status_refusal type_refusal start_refusal success_refusal descriptors_refusal descriptor_refusal upper_zero list_refusal hole_list list_well points_to_last holes_well starts_well plan_of hole_pieces piece_count pieces_text decimal_of decimal_onto
planned = refl

-- "15 check passes=1"
pub checked : check_line 15 400 one_hole_lem (pieces_in two_pieces 2)
    ≡ 49 ∷ 53 ∷ 32 ∷ 99 ∷ 104 ∷ 101 ∷ 99 ∷ 107 ∷ 32 ∷ 112 ∷ 97 ∷ 115 ∷ 115 ∷ 101 ∷ 115 ∷ 61 ∷ 49 ∷ 10 ∷ []
unfolding check_line check_passes pieces_in resend_refusal status_refusal type_refusal start_refusal success_refusal descriptors_refusal descriptor_refusal upper_zero list_refusal hole_list list_well points_to_last holes_well starts_well cursor_at advanced fits check_step passed decimal_of decimal_onto
checked = refl

-- "15 refused 21 code=0"
pub refused : check_line 15 0 one_hole_lem (pieces_in two_pieces 2)
    ≡ 49 ∷ 53 ∷ 32 ∷ 114 ∷ 101 ∷ 102 ∷ 117 ∷ 115 ∷ 101 ∷ 100 ∷ 32 ∷ 50 ∷ 49 ∷ 32 ∷ 99 ∷ 111 ∷ 100 ∷ 101 ∷ 61 ∷ 48 ∷ 10 ∷ []
unfolding check_line check_passes pieces_in resend_refusal status_refusal type_refusal start_refusal success_refusal descriptors_refusal descriptor_refusal upper_zero list_refusal hole_list list_well points_to_last holes_well starts_well refused_line code_of decimal_of decimal_onto
refused = refl
