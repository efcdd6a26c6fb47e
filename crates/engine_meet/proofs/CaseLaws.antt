-- What METADATA meets, test by test.
-- Assumes nothing.
use Prim.Native.Nat.{ℕ, ◌≤◌, ◌<◌}
use mathlib.Core.Path.{◌≡◌}
use borrow.Author.Tests.{le-leb, lt-leb, eq-eqb, ne_eqb}
use Rattle.refusals.specs.Refusals.{refusal_of}
use Rattle.refusals.proofs.RefusalLaws.{stays, answered_refused}
use Rattle.transfer.specs.declared.Key.{Key}
use Rattle.area.specs.Layout.{transfer_places}
use Rattle.engine_slots.specs.declared.Files.{Files}
use Rattle.engine_slots.specs.declared.Meeting.TheVariants as meeting
use Rattle.engine_model.specs.Meetings.{last_number}
use Rattle.engine_meet.specs.Cases.{new_meeting, same_meeting}
use Rattle.std.specs.Prelude.{Ok, Err}

module _ (u c : ℕ) (f : Files) where
  pub new_unwanted : (u ≡ 0 → ⊥) → Err (refusal_of u) ≡ new_meeting u c f
  unfolding new_meeting
  new_unwanted n = rw (stays u _ n) (answered_refused Err u (Ok (meeting.Make f)) n)

  module _ (z : u ≡ 0) where
    pub new_full : transfer_places ≤ c → Err (refusal_of 17) ≡ new_meeting u c f
    unfolding new_meeting
    new_full h = rw (z, le-leb transfer_places c h)

    pub new_last : c < transfer_places → last_number ≤ f.file → Err (refusal_of 17) ≡ new_meeting u c f
    unfolding new_meeting
    new_last h l = rw (z, lt-leb transfer_places c h, le-leb last_number f.file l)

    pub new_made : c < transfer_places → f.file < last_number → Ok (meeting.Make f) ≡ new_meeting u c f
    unfolding new_meeting
    new_made h l = rw (z, lt-leb transfer_places c h, lt-leb last_number f.file l)

module _ (held k : Key) (file : ℕ) where
  pub other_width : (held.width ≡ k.width → ⊥) → Err (refusal_of 18) ≡ same_meeting held k file
  unfolding same_meeting
  other_width n = rw (ne_eqb held.width k.width n)

  pub other_length : held.width ≡ k.width → (held.length ≡ k.length → ⊥) → Err (refusal_of 18) ≡ same_meeting held k file
  unfolding same_meeting
  other_length w n = rw (eq-eqb held.width k.width w, ne_eqb held.length k.length n)

  pub same_key : held.width ≡ k.width → held.length ≡ k.length → Ok (meeting.Kept file) ≡ same_meeting held k file
  unfolding same_meeting
  same_key w l = rw (eq-eqb held.width k.width w, eq-eqb held.length k.length l)
