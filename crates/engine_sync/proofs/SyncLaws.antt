-- Syncs: whether one may begin, whether it is the one that ended, and what is left, by what the functions call.
-- Assumes nothing.
use Prim.Native.Nat.{ℕ, zero, suc, ◌+◌, ◌≤◌, ◌<◌}
use mathlib.Core.Path.{◌≡◌, refl, sym, ap, ◌∙◌}
use mathlib.Core.Bool.{Bool, true, false, true≢false, false≢true, not}
use mathlib.Core.List.{List}
use mathlib.Core.Option.{Option, none, some}
use native.Mathlib.Omega.{arith}
use native.Mathlib.Numerals.{add-one}
use lib.ListN.{drop}
use lib.Dec.{ltb}
use borrow.Author.Tests.{lt-ltb, le-ltb, ltb-true, eq-eqb, ne_eqb}
use Rattle.refusals.proofs.TestLaws.{and_iff}
use Rattle.words.specs.Words.{moved_words}
use Rattle.engine_slots.specs.Layout.{snapshot_words}
use Rattle.engine_model.specs.Snapshots.{Snapshot, is_some}
use Rattle.engine_model.specs.Meetings.{last_number}
use Rattle.engine_model.specs.Engine.{may_sync, current}
use Rattle.engine_state.specs.Layout.{pending_at, synced_at, pending_octet, under_way_field, number_field, done_field, changed_field, begun_field}
use Rattle.engine_state.specs.State.{snapshot_in, number_in, pending_if, engine_in, set_number, held_state}
use Rattle.refusals.specs.Refusals.{refusal_of}
use Rattle.std.specs.Prelude.{Some, None, Ok, Err}
use Rattle.engine_sync.specs.Syncs.{beginning, begun_as, begun_state, held_refusal, good_state, bad_state, ended_as, ended_state}

-- a sync is under way where its word is not 0
way_known : (w : ℕ) (x : Snapshot) → is_some (pending_if w x) ≡ ltb 0 w
unfolding pending_if
way_known zero x = refl
way_known (suc w) x = sym (lt-ltb 0 (suc w) (omega arith))

module _ (s : List ℕ) where
  way_is : (w : ℕ) → w ≡ number_in s under_way_field → is_some (engine_in s).pending ≡ ltb 0 w
  way_is w e = way_known (number_in s under_way_field) (snapshot_in (drop pending_octet s)) ∙ ap (ltb 0) (sym e)

  -- ---- beginning

  module _ (w : ℕ) (way : w ≡ number_in s under_way_field) where
    pub under_way : 0 < w → false ≡ may_sync (engine_in s)
    unfolding may_sync
    under_way h = rw (way_is w way ∙ lt-ltb 0 w h)

    pub none_under_way : w ≤ 0 → (n : ℕ) → n ≡ number_in s number_field → ltb n last_number ≡ may_sync (engine_in s)
    unfolding may_sync
    none_under_way h n e = rw (way_is w way ∙ le-ltb 0 w h, e)

  -- the next number is a word
  pub may_low : may_sync (engine_in s) ≡ true → number_in s number_field < last_number
  unfolding may_sync
  may_low e = ltb-true (number_in s number_field) last_number ((and_iff (not (is_some (engine_in s).pending)) (ltb (number_in s number_field) last_number)).0 e).1

  module _ (t : ℕ) where
    pub begin_unheld : held_state s ≡ false → (Err (refusal_of 22) ≡ beginning s) × (s ≡ begun_state s t)
    unfolding beginning begun_state
    begin_unheld h = (rw h, rw h)

    module _ (h : held_state s ≡ true) where
      pub begin_none : may_sync (engine_in s) ≡ false → (Ok None ≡ beginning s) × (s ≡ begun_state s t)
      unfolding beginning begun_state
      begin_none m = (rw (h, m), rw (h, m))

      pub begin_done : may_sync (engine_in s) ≡ true → (n : ℕ) → n ≡ number_in s number_field → (b : List ℕ) → b ≡ begun_as s (n + 1) t
          → (Ok (Some (n + 1)) ≡ beginning s) × (b ≡ begun_state s t)
      unfolding beginning begun_state
      begin_done m n e b f =
          let z : n + 1 ≡ suc (number_in s number_field) = add-one n ∙ ap suc e in
          (rw (h, m) (λ k. Ok (Some (z k))), f ∙ rw (h, m) (λ k. begun_as s (z k) t))

  -- ---- ending

  module _ (sync n : ℕ) (number : n ≡ number_in s number_field) where
    pub is_other_lem : (sync ≡ n → ⊥) → false ≡ is_some (current (engine_in s) sync)
    unfolding current
    is_other_lem d = rw (ne_eqb sync (number_in s number_field) (λ e. d (e ∙ sym number)))

    pub is_this : sync ≡ n → (w : ℕ) → w ≡ number_in s under_way_field → ltb 0 w ≡ is_some (current (engine_in s) sync)
    unfolding current
    is_this e w f = rw (eq-eqb sync (number_in s number_field) (e ∙ number)) (sym (way_is w f))

  some_good : (o : Option Snapshot) → is_some o ≡ true → ended_as s true o ≡ good_state s
  unfolding ended_as
  some_good none e = absurd (false≢true e)
  some_good (some x) e = refl

  some_bad : (o : Option Snapshot) → is_some o ≡ true → ended_as s false o ≡ bad_state s
  unfolding ended_as
  some_bad none e = absurd (false≢true e)
  some_bad (some x) e = refl

  none_ended : (b : Bool) (o : Option Snapshot) → is_some o ≡ false → ended_as s b o ≡ s
  unfolding ended_as
  none_ended b none e = refl
  none_ended b (some x) e = absurd (true≢false e)

  module _ (sync : ℕ) (good : Bool) where
    pub end_unheld : held_state s ≡ false → (22 ≡ held_refusal s) × (s ≡ ended_state s sync good)
    unfolding ended_state
    end_unheld h = (rw h, rw h)

    module _ (h : held_state s ≡ true) where
      pub end_other : is_some (current (engine_in s) sync) ≡ false → (0 ≡ held_refusal s) × (s ≡ ended_state s sync good)
      unfolding ended_state
      end_other o = (rw h, rw h (sym (none_ended good (current (engine_in s) sync) o)))

      module _ (o : is_some (current (engine_in s) sync) ≡ true) (b : List ℕ) where
        pub end_good : good ≡ true → b ≡ good_state s → (0 ≡ held_refusal s) × (b ≡ ended_state s sync good)
        unfolding ended_state
        end_good g e = (rw h, rw (h, g) (e ∙ sym (some_good (current (engine_in s) sync) o)))

        pub end_bad : good ≡ false → b ≡ bad_state s → (0 ≡ held_refusal s) × (b ≡ ended_state s sync good)
        unfolding ended_state
        end_bad g e = (rw h, rw (h, g) (e ∙ sym (some_bad (current (engine_in s) sync) o)))

-- ---- a snapshot copied over another, and numbers

pub begun_put : (s a b c d e : List ℕ) (n t : ℕ) → a ≡ moved_words s 0 pending_at snapshot_words → b ≡ set_number a under_way_field 1 → c ≡ set_number b number_field n
    → d ≡ set_number c changed_field 0 → e ≡ set_number d begun_field t → e ≡ begun_as s n t
begun_put s a b c d e n t p q r u v = cc

pub good_put : (s a b c : List ℕ) (n : ℕ) → n ≡ number_in s number_field → a ≡ moved_words s pending_at synced_at snapshot_words → b ≡ set_number a under_way_field 0
    → c ≡ set_number b done_field n → c ≡ good_state s
unfolding good_state
good_put s a b c n m p q r = cc

pub bad_put : (s a b c : List ℕ) → a ≡ moved_words s synced_at 0 snapshot_words → b ≡ set_number a under_way_field 0 → c ≡ set_number b changed_field 0 → c ≡ bad_state s
unfolding bad_state
bad_put s a b c p q r = cc
