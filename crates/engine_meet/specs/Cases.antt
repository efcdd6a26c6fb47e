-- What METADATA meets, by what is known of its Id.
-- Assumes nothing.
use Rattle.std.specs.Prelude.{ℕ, cond, ◌&&◌, leb, eqb, Result, Ok, Err}
use Rattle.refusals.specs.Refusals.{◌▹◌, when, refusal_of, answered}
use Rattle.transfer.specs.declared.Key.{Key}
use Rattle.area.specs.Layout.{transfer_places}
use Rattle.engine_slots.specs.declared.Files.{Files}
use Rattle.engine_slots.specs.declared.Meeting.{Meeting}
use Rattle.engine_slots.specs.declared.Meeting.TheVariants as meeting
use Rattle.engine_model.specs.Meetings.{last_number}
use Rattle.refusals.specs.declared.Refusal.{Refusal}

-- a transfer is to be opened with the files f: u is what its METADATA is refused with, and c the number of transfers that are open beside
unfoldable pub new_meeting : ℕ → ℕ → Files → Result Meeting Refusal
new_meeting u c f = answered Err (u ▹ when (leb transfer_places c) 17 ▹ when (leb last_number f.file) 17) (Ok (meeting.Make f))

-- the METADATA of a transfer whose key is held comes again: its width and its length are the same, unless digests collide
unfoldable pub same_meeting : Key → Key → ℕ → Result Meeting Refusal
same_meeting held k file = cond (eqb held.width k.width && eqb held.length k.length) (Ok (meeting.Kept file)) (Err (refusal_of 18))
