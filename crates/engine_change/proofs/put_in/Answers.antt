-- `engine_change::put_in` meets its contract: the place and the number of slots are those before opening. Assumes nothing.
use Prim.Native.Nat.{◌≤◌}
use mathlib.Core.Path.{◌≡◌, ap}
use native.Mathlib.Omega.{arith}
use Rattle.area.specs.Places.{read_table, place_of, place_in}
use Rattle.area.specs.declared.Place.{Place}
use Rattle.area.proofs.PlaceLaws.{length_transfers}
use Rattle.area.proofs.FindLaws.{placed, place_le}
use Rattle.words.specs.Words.{word_at}
use Rattle.engine_change.proofs.ChangeLaws.{put_is}
use Rattle.engine_change.proofs.put_in.Goals as goal

pub insert_slot-requires : goal.insert_slot-requires
unfolding place_in
insert_slot-requires c =
    let at_most : c.find_place-place.result.at ≤ word_at c.args.state.now 0 = let a = c.args.state.now in let e : c.find_place-place.result.at ≡ place_of c.args.files.id (read_table a) = ap (λ (x : Place). x.at) c.find_place-place.ensures in omega (arith, place_le (placed c.args.files.id (read_table a)), length_transfers a 0 (word_at a 0)) in
    (omega (arith, c.requires.0), omega (arith, at_most, c.open_count-count.ensures), omega (arith, c.requires.2, c.open_count-count.ensures))

pub returns : goal.returns
returns c =
    let g = c.args in
    put_is g.state.now g.packet.now g.files c.requires.1 c.digest_of-digest.result c.digest_of-digest.ensures c.open_count-count.result c.open_count-count.ensures
    c.find_place-place.result c.find_place-place.ensures g.time g.due g.sender _ c.«open».ensures.1
    _ c.new_slot-slot.ensures _ c.insert_slot.ensures
