-- A start leaves the engine that is started from what was saved.
-- Assumes nothing.
use Prim.Native.Nat.{ℕ, ◌+◌, ◌*◌, ◌^◌, ◌≤◌, ◌<◌}
use mathlib.Core.Path.{◌≡◌, refl, ◌∙◌}
use mathlib.Core.Bool.{Bool, true, false, cond, true≢false}
use mathlib.Core.List.{List}
use native.Mathlib.Omega.{arith}
use lib.ListN.{length}
use lib.Dec.{ltb}
use borrow.Author.Tests.{ltb-false}
use Rattle.octets.specs.Numbers.{Octets}
use Rattle.refusals.specs.Refusals.{◌▹◌, when}
use Rattle.refusals.proofs.RefusalLaws.{first_none, rest_none, failed}
use Rattle.area.specs.Judge.{judged}
use Rattle.engine_slots.specs.Layout.{snapshot_words, snapshot_octets}
use Rattle.engine_model.specs.Meetings.{last_number}
use Rattle.engine_model.specs.Engine.{started}
use Rattle.engine_state.specs.Layout.{pending_at, synced_at, under_way_field, number_field, done_field, next_field, changed_field, begun_field, state_octets}
use Rattle.engine_state.specs.State.{snapshot_in, number_in, pending_if}
use Rattle.engine_sync.specs.Syncs.{start_refusal, three_of, numbered, started_state}
use Rattle.engine_laws.specs.Speaks.{StartSpeaks}
use Rattle.engine_laws.proofs.PartLaws.{At}
use Rattle.engine_laws.proofs.StandsLaws.{Stands, stands_holds, six, set_number_lem, copied, copied_length, copied_octets, copied_at, copied_later}

record Starts (s saved : List ℕ) (number : ℕ) : Type 0 where
  long : state_octets ≤ length s
  whole : snapshot_octets ≤ length saved
  fine : judged saved ≡ true
  low : number ≤ last_number

passed : (b : Bool) → cond b false true ≡ false → b ≡ true
passed true e = refl
passed false e = absurd (true≢false e)

starts : (s saved : List ℕ) (number : ℕ) → start_refusal s saved number ≡ 0 → Starts s saved number
unfolding start_refusal
starts s saved number e =
    let state = when (ltb (length s) state_octets) 20 in
    let area = when (ltb (length saved) snapshot_octets) 22 in
    let table = when (cond (judged saved) false true) 22 in
    let last = when (ltb last_number number) 21 in
    let e1 = rest_none state (area ▹ table ▹ last) e in
    let e2 = rest_none area (table ▹ last) e1 in
    record {
      long = ltb-false (length s) state_octets (failed (ltb (length s) state_octets) 19 (first_none state (area ▹ table ▹ last) e));
      whole = ltb-false (length saved) snapshot_octets (failed (ltb (length saved) snapshot_octets) 21 (first_none area (table ▹ last) e1));
      fine = passed (judged saved) (failed (cond (judged saved) false true) 21 (first_none table last e2));
      low = ltb-false last_number number (failed (ltb last_number number) 20 (rest_none table last e2));
    }

-- all three are what was saved
module _ (s saved : List ℕ) (o : Octets s) (p : Octets saved) (long : state_octets ≤ length s) (whole : snapshot_octets ≤ length saved) (fine : judged saved ≡ true) where
  saved_at : At saved 0 (snapshot_in saved)
  saved_at = record { fine = fine; is = refl }

  abbrev one : List ℕ
  one = copied saved 0 s

  abbrev two : List ℕ
  two = copied saved pending_at one

  size_one : length one ≡ length s
  size_one = copied_length saved s 0 whole (omega arith)

  room_one : (pending_at + snapshot_words) * 8 ≤ length one
  room_one = omega (arith, size_one)

  size_two : length two ≡ length s
  size_two = copied_length saved one pending_at whole room_one ∙ size_one

  room_two : (synced_at + snapshot_words) * 8 ≤ length two
  room_two = omega (arith, size_two)

  three_stands : Stands (three_of s saved) (snapshot_in saved) (snapshot_in saved) (snapshot_in saved) (number_in (three_of s saved))
  unfolding three_of
  three_stands = record {
    octets = copied_octets saved two synced_at whole room_two p (copied_octets saved one pending_at whole room_one p (copied_octets saved s 0 whole (omega arith) p o));
    long = omega (arith, copied_length saved two synced_at whole room_two, size_two);
    now_at =
        copied_later saved two synced_at whole room_two 0 (snapshot_in saved)
        (copied_later saved one pending_at whole room_one 0 (snapshot_in saved) (copied_at saved s 0 whole (omega arith) (snapshot_in saved) saved_at) (omega arith))
        (omega arith);
    pending_at_lem =
        copied_later saved two synced_at whole room_two pending_at (snapshot_in saved)
        (copied_at saved one pending_at whole room_one (snapshot_in saved) saved_at) (omega arith);
    synced_at_lem = copied_at saved two synced_at whole room_two (snapshot_in saved) saved_at;
    number_is = λ f l. refl;
  }

pub start_speaks : StartSpeaks
unfolding started_state numbered started pending_if
start_speaks s saved number next o p m e =
    let h = starts s saved number e in
    let n : number < 2 ^ 64 = omega (arith, h.low) in
    rw e
    (stands_holds _
    (set_number_lem _ begun_field 0 six.5 (omega arith)
    (set_number_lem _ changed_field 0 six.4 (omega arith)
    (set_number_lem _ next_field next six.3 m
    (set_number_lem _ done_field number six.2 n
    (set_number_lem _ number_field number six.1 n
    (set_number_lem _ under_way_field 0 six.0 (omega arith) (three_stands s saved o p h.long h.whole h.fine)))))))
    h.low)
