-- What is due for a transfer: case by case, by what the calls gave.
-- Assumes nothing.
use Prim.Native.Nat.{ℕ, ◌≤◌, ◌<◌}
use mathlib.Core.Path.{◌≡◌, refl, sym, ap, ◌∙◌}
use mathlib.Core.Bool.{Bool, true, false, cond}
use borrow.Author.Tests.{lt-ltb, le-ltb}
use Rattle.engine_slots.specs.declared.Slot.{Slot}
use Rattle.engine_model.specs.Snapshots.{is_complete, same_file}
use Rattle.engine_model.specs.Engine.{Engine, may_name, may_report}
use Rattle.engine_due.specs.declared.Waits.{Waits}
use Rattle.engine_due.specs.Due.{is_covered, name_due, report_due, is_at_end, kind_for, kind_from}

module _ (e : Engine) (t : ℕ) (w : Waits) (i : ℕ) (s : Slot) (same : Bool) (is : same ≡ same_file e.now e.synced i) where
  -- by the four tests, in their order
  kind_by : (a b c d : Bool) → name_due (may_name e i) s ≡ a → is_covered e.done same s ≡ b → report_due (may_report e i) same s ≡ c
      → is_at_end (is_complete e.now i) t w s ≡ d
      → cond a 3 (cond b 2 (cond c 4 (cond d 5 0))) ≡ kind_for e t w i s
  unfolding kind_for
  kind_by a b c d f g h k = rw (← is, f, g, h, k)

  module _ (name : Bool) (may : name ≡ may_name e i) (a : Bool) (f : a ≡ name_due name s) where
    named : name_due (may_name e i) s ≡ a
    named = ap (λ (m : Bool). name_due m s) (sym may) ∙ sym f

    pub kind_name : a ≡ true → 3 ≡ kind_for e t w i s
    kind_name y = kind_by true _ _ _ (named ∙ y) refl refl refl

    module _ (no_name : a ≡ false) (done : ℕ) (at : done ≡ e.done) (b : Bool) (g : b ≡ is_covered done same s) where
      covered : is_covered e.done same s ≡ b
      covered = ap (λ (n : ℕ). is_covered n same s) (sym at) ∙ sym g

      pub kind_answer : b ≡ true → 2 ≡ kind_for e t w i s
      kind_answer y = kind_by false true _ _ (named ∙ no_name) (covered ∙ y) refl refl

      module _ (no_answer : b ≡ false) (report : Bool) (may-too : report ≡ may_report e i) (c : Bool) (h : c ≡ report_due report same s) where
        reported : report_due (may_report e i) same s ≡ c
        reported = ap (λ (m : Bool). report_due m same s) (sym may-too) ∙ sym h

        pub kind_report : c ≡ true → 4 ≡ kind_for e t w i s
        kind_report y = kind_by false false true _ (named ∙ no_name) (covered ∙ no_answer) (reported ∙ y) refl

        module _ (no-report : c ≡ false) (full : Bool) (whole : full ≡ is_complete e.now i) (d : Bool) (k : d ≡ is_at_end full t w s) where
          ended : is_at_end (is_complete e.now i) t w s ≡ d
          ended = ap (λ (m : Bool). is_at_end m t w s) (sym whole) ∙ sym k

          pub kind_close : d ≡ true → 5 ≡ kind_for e t w i s
          kind_close y = kind_by false false false true (named ∙ no_name) (covered ∙ no_answer) (reported ∙ no-report) (ended ∙ y)

          pub kind_none : d ≡ false → 0 ≡ kind_for e t w i s
          kind_none y = kind_by false false false false (named ∙ no_name) (covered ∙ no_answer) (reported ∙ no-report) (ended ∙ y)

module _ (e : Engine) (t : ℕ) (w : Waits) (from i : ℕ) (s : Slot) where
  pub kind_passed : i < from → 0 ≡ kind_from e t w from i s
  unfolding kind_from
  kind_passed l = rw (lt-ltb i from l)

  pub kind_reached : from ≤ i → kind_for e t w i s ≡ kind_from e t w from i s
  unfolding kind_from
  kind_reached l = rw (le-ltb i from l)
