-- STATUS packets of the recorded passes (R10.7), and others next to them, computed. Assumes nothing.
use Prim.Native.Nat.{ℕ}
use mathlib.Core.Path.{◌≡◌, refl}
use mathlib.Core.List.{List, [], ◌∷◌}
use lib.ListN.{take}
use Rattle.octets.specs.Numbers.{upper_zero}
use Rattle.refusals.specs.Refusals.{refusal_of}
use Rattle.header.specs.Start.{start_refusal, type_refusal}
use Rattle.header.specs.Descriptor.{descriptor_refusal}
use Rattle.hole_list.specs.HoleList.{starts_well, holes_well, points_to_last, list_well}
use Rattle.hole_list.specs.DescriptorList.{descriptors_refusal}
use Rattle.packet_status.specs.Status.{hole_list, list_refusal, success_refusal, status_refusal, success_of, failure_of, read_status, hole_refusal, indexed_hole, read_hole}
use Rattle.packet_status.specs.declared.Status.TheVariants.{Success, Failure}
use Rattle.std.specs.Prelude.{Ok, Err}

-- 44 00 00 00 00 00 00 07 03 E8 0B B8 03 E8 07 D0
abbrev one_hole_lem : List ℕ
one_hole_lem = 68 ∷ 0 ∷ 0 ∷ 0 ∷ 0 ∷ 0 ∷ 0 ∷ 7 ∷ 3 ∷ 232 ∷ 11 ∷ 184 ∷ 3 ∷ 232 ∷ 7 ∷ 208 ∷ []

-- 44 01 00 00 00 00 00 07 0B B8 0B B7
abbrev complete : List ℕ
complete = 68 ∷ 1 ∷ 0 ∷ 0 ∷ 0 ∷ 0 ∷ 0 ∷ 7 ∷ 11 ∷ 184 ∷ 11 ∷ 183 ∷ []

-- the hole from 1,000 to 2,000, with Progress 1,000 and In-Response-To 3,000
one_hole :
    (read_status one_hole_lem ≡ Ok (Success (record { flags = 0; id = 7; width = 2; timestamp = 0; progress = 1000; response = 3000; holes = 12; count = 1 })))
    × (read_hole 0 one_hole_lem ≡ Ok (record { start = 1000; end = 2000 }))
    × (read_hole 1 one_hole_lem ≡ Err (refusal_of 19))
unfolding read_status status_refusal type_refusal start_refusal success_refusal descriptors_refusal descriptor_refusal upper_zero list_refusal hole_list list_well points_to_last holes_well starts_well success_of read_hole hole_refusal indexed_hole
one_hole = (refl, refl, refl)

-- with the last octet gone
cut_short : read_status (take 15 one_hole_lem) ≡ Err (refusal_of 11)
unfolding read_status status_refusal type_refusal start_refusal success_refusal descriptors_refusal descriptor_refusal upper_zero list_refusal
cut_short = refl

-- complete: In-Response-To points to the last octet, Progress after it, and there is no hole
completed : (read_status complete ≡ Ok (Success (record { flags = 65536; id = 7; width = 2; timestamp = 0; progress = 3000; response = 2999; holes = 12; count = 0 })))
    × (read_hole 0 complete ≡ Err (refusal_of 19))
unfolding read_status status_refusal type_refusal start_refusal success_refusal descriptors_refusal descriptor_refusal upper_zero list_refusal hole_list list_well points_to_last holes_well starts_well success_of read_hole hole_refusal
completed = (refl, refl)

-- 44 with `flags`, in which bit 14 is worth 2 and bit 15 is worth 1, then 00 00 00 00 00 07, Progress, In-Response-To, and `more`
abbrev last_octets : ℕ → ℕ → ℕ → List ℕ → List ℕ
last_octets flags from to more = 68 ∷ flags ∷ 0 ∷ 0 ∷ 0 ∷ 0 ∷ 0 ∷ 7 ∷ 0 ∷ from ∷ 0 ∷ to ∷ more

-- In-Response-To one less than Progress is taken with bit 15 set, bit 14 clear and no hole; Progress equal to it is taken as before;
-- two less is not taken
last_octet_lem : (status_refusal (last_octets 1 9 8 []) ≡ 0) × (status_refusal (last_octets 1 1 0 []) ≡ 0) × (status_refusal (last_octets 1 9 9 []) ≡ 0)
    × (status_refusal (last_octets 0 9 8 []) ≡ 11) × (status_refusal (last_octets 2 9 8 []) ≡ 11) × (status_refusal (last_octets 3 9 8 []) ≡ 11)
    × (status_refusal (last_octets 1 9 8 (0 ∷ 9 ∷ 0 ∷ 10 ∷ [])) ≡ 11) × (status_refusal (last_octets 1 9 7 []) ≡ 11)
unfolding status_refusal type_refusal start_refusal success_refusal descriptors_refusal descriptor_refusal upper_zero list_refusal hole_list list_well points_to_last holes_well starts_well
last_octet_lem = (refl, refl, refl, refl, refl, refl, refl, refl)

-- nothing wraps: Progress 0 with the largest In-Response-To
no_wrap : status_refusal (68 ∷ 1 ∷ 0 ∷ 0 ∷ 0 ∷ 0 ∷ 0 ∷ 7 ∷ 0 ∷ 0 ∷ 255 ∷ 255 ∷ []) ≡ 11
unfolding status_refusal type_refusal start_refusal success_refusal descriptors_refusal descriptor_refusal upper_zero list_refusal hole_list list_well points_to_last holes_well starts_well
no_wrap = refl

-- 44 00 00 00 00 00 00 07, then Progress 1,000, In-Response-To 3,000 and the holes from 1,000 to 1,002 and from `second` to 2,000
abbrev two_holes_lem : ℕ → List ℕ
two_holes_lem second =
    68 ∷ 0 ∷ 0 ∷ 0 ∷ 0 ∷ 0 ∷ 0 ∷ 7 ∷ 3 ∷ 232 ∷ 11 ∷ 184 ∷ 3 ∷ 232 ∷ 3 ∷ 234 ∷ 3 ∷ second ∷ 7 ∷ 208 ∷ []

-- the second hole may not touch the first
touching : (status_refusal (two_holes_lem 234) ≡ 11) × (status_refusal (two_holes_lem 235) ≡ 0) × (read_hole 1 (two_holes_lem 235) ≡ Ok (record { start = 1003; end = 2000 }))
unfolding status_refusal type_refusal start_refusal success_refusal descriptors_refusal descriptor_refusal upper_zero list_refusal hole_list list_well points_to_last holes_well starts_well read_hole hole_refusal indexed_hole
touching = (refl, refl, refl)

-- a list from above Progress on, and no hole though Progress is below In-Response-To, want bit 14; it is worth 2 in the second octet
bit_fourteen : (status_refusal (68 ∷ 0 ∷ 0 ∷ 0 ∷ 0 ∷ 0 ∷ 0 ∷ 7 ∷ 0 ∷ 5 ∷ 0 ∷ 9 ∷ []) ≡ 11) × (status_refusal (68 ∷ 2 ∷ 0 ∷ 0 ∷ 0 ∷ 0 ∷ 0 ∷ 7 ∷ 0 ∷ 5 ∷ 0 ∷ 9 ∷ []) ≡ 0)
    × (status_refusal (68 ∷ 0 ∷ 0 ∷ 0 ∷ 0 ∷ 0 ∷ 0 ∷ 7 ∷ 0 ∷ 5 ∷ 0 ∷ 9 ∷ 0 ∷ 6 ∷ 0 ∷ 9 ∷ []) ≡ 11)
    × (status_refusal (68 ∷ 2 ∷ 0 ∷ 0 ∷ 0 ∷ 0 ∷ 0 ∷ 7 ∷ 0 ∷ 5 ∷ 0 ∷ 9 ∷ 0 ∷ 6 ∷ 0 ∷ 9 ∷ []) ≡ 0)
    × (status_refusal (68 ∷ 2 ∷ 0 ∷ 0 ∷ 0 ∷ 0 ∷ 0 ∷ 7 ∷ 0 ∷ 9 ∷ 0 ∷ 5 ∷ []) ≡ 11)
unfolding status_refusal type_refusal start_refusal success_refusal descriptors_refusal descriptor_refusal upper_zero list_refusal hole_list list_well points_to_last holes_well starts_well
bit_fourteen = (refl, refl, refl, refl, refl)

-- a failure with code 6, width bits 11 and garbage after its Id is accepted, and has no holes to read
failed : (read_status (68 ∷ 192 ∷ 0 ∷ 6 ∷ 0 ∷ 0 ∷ 0 ∷ 7 ∷ 1 ∷ 2 ∷ 3 ∷ []) ≡ Ok (Failure (record { flags = 12582918; id = 7; status = 6 })))
    × (read_hole 0 (68 ∷ 192 ∷ 0 ∷ 6 ∷ 0 ∷ 0 ∷ 0 ∷ 7 ∷ 1 ∷ 2 ∷ 3 ∷ []) ≡ Err (refusal_of 11))
unfolding read_status status_refusal type_refusal start_refusal failure_of read_hole hole_refusal
failed = (refl, refl)
