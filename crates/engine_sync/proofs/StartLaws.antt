-- Starting from what was saved: why it is refused, and what is left, by what the functions call.
-- Assumes nothing.
use Prim.Native.Nat.{ℕ, ◌≤◌, ◌<◌}
use mathlib.Core.Path.{◌≡◌, sym, ap, ◌∙◌}
use mathlib.Core.Bool.{true, false, cond}
use mathlib.Core.List.{List}
use native.Mathlib.Omega.{arith}
use lib.ListN.{length, take}
use lib.Dec.{ltb}
use borrow.Author.Tests.{lt-ltb, le-ltb, ltb-false}
use Rattle.octets.specs.Put.{put}
use Rattle.refusals.specs.Refusals.{◌▹◌, when}
use Rattle.refusals.proofs.RefusalLaws.{first_none, rest_none, failed}
use Rattle.area.specs.Judge.{judged}
use Rattle.engine_slots.specs.Layout.{snapshot_octets}
use Rattle.engine_model.specs.Meetings.{last_number}
use Rattle.engine_state.specs.Layout.{pending_octet, synced_octet, under_way_field, number_field, done_field, next_field, changed_field, begun_field, state_octets}
use Rattle.engine_state.specs.State.{set_number}
use Rattle.engine_sync.specs.Syncs.{start_refusal, three_of, numbered, started_state}

module _ (s saved : List ℕ) (number : ℕ) where
  -- the tests, one after the other
  pub short_state : length s < state_octets → 20 ≡ start_refusal s saved number
  unfolding start_refusal
  short_state h = rw (lt-ltb (length s) state_octets h)

  module _ (long : state_octets ≤ length s) where
    pub short_saved : length saved < snapshot_octets → 22 ≡ start_refusal s saved number
    unfolding start_refusal
    short_saved h = rw (le-ltb (length s) state_octets long, lt-ltb (length saved) snapshot_octets h)

    module _ (whole : snapshot_octets ≤ length saved) where
      left : start_refusal s saved number ≡ when (cond (judged saved) false true) 22 ▹ when (ltb last_number number) 21
      unfolding start_refusal
      left = rw (le-ltb (length s) state_octets long, le-ltb (length saved) snapshot_octets whole)

      pub no_table : judged saved ≡ false → 22 ≡ start_refusal s saved number
      no_table j = sym (left ∙ rw j)

      pub last_number_lem : judged saved ≡ true → last_number < number → 21 ≡ start_refusal s saved number
      last_number_lem j h = sym (left ∙ rw (j, lt-ltb last_number number h))

      pub can_start : judged saved ≡ true → number ≤ last_number → 0 ≡ start_refusal s saved number
      can_start j h = sym (left ∙ rw (j, le-ltb last_number number h))

  -- both are long enough where nothing is refused
  pub long_enough : start_refusal s saved number ≡ 0 → (state_octets ≤ length s) × (snapshot_octets ≤ length saved)
  unfolding start_refusal
  long_enough e =
      let state = when (ltb (length s) state_octets) 20 in
      let area = when (ltb (length saved) snapshot_octets) 22 in
      let table = when (cond (judged saved) false true) 22 in
      let last = when (ltb last_number number) 21 in (
        ltb-false (length s) state_octets (failed (ltb (length s) state_octets) 19 (first_none state (area ▹ table ▹ last) e)),
        ltb-false (length saved) snapshot_octets
            (failed (ltb (length saved) snapshot_octets) 21 (first_none area (table ▹ last) (rest_none state (area ▹ table ▹ last) e))),
      )

  module _ (next n : ℕ) (is : n ≡ start_refusal s saved number) where
    pub start_refused : (n ≡ 0 → ⊥) → s ≡ started_state s saved number next
    unfolding started_state
    start_refused h = rw (← is, lt-ltb 0 n (omega (arith, h)))

    pub start_done : n ≤ 0 → (a b : List ℕ) → a ≡ three_of s saved → b ≡ numbered a 0 number number next 0 0
        → (0 ≡ start_refusal s saved number) × (b ≡ started_state s saved number next)
    unfolding started_state
    start_done h a b e f =
        let z : 0 ≡ n = omega arith in
        (z ∙ is, f ∙ ap (λ (l : List ℕ). numbered l 0 number number next 0 0) e ∙ rw (← is, le-ltb 0 n h))

-- three copies, and six numbers
pub three_put : (s saved a b c : List ℕ) → a ≡ put 0 (take snapshot_octets saved) s → b ≡ put pending_octet (take snapshot_octets saved) a
    → c ≡ put synced_octet (take snapshot_octets saved) b → c ≡ three_of s saved
unfolding three_of
three_put s saved a b c e f g = cc

pub six_put : (s a b c d e f : List ℕ) (way number done next changed begun : ℕ) → a ≡ set_number s under_way_field way → b ≡ set_number a number_field number
    → c ≡ set_number b done_field done → d ≡ set_number c next_field next → e ≡ set_number d changed_field changed → f ≡ set_number e begun_field begun
    → f ≡ numbered s way number done next changed begun
unfolding numbered
six_put s a b c d e f way number done next changed begun p q r t u v = cc
