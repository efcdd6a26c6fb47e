-- What the tests of one transfer come to, case by case.
-- Assumes nothing.
use Prim.Native.Nat.{ℕ, ◌-◌, ◌≤◌, ◌<◌}
use mathlib.Core.Path.{◌≡◌, refl, sym}
use mathlib.Core.Bool.{Bool, true, false, not}
use native.Mathlib.Omega.{arith}
use lib.Dec.{leb, eqb}
use borrow.Author.Tests.{lt-leb, le-leb, eq-eqb, ne_eqb, eqb-true, eqb-false}
use Rattle.engine_slots.specs.declared.Slot.{Slot}
use Rattle.engine_due.specs.declared.Waits.{Waits}
use Rattle.engine_due.specs.Due.{is_covered, name_due, report_due, is_over, is_at_end}

module _ (done : ℕ) (same : Bool) (s : Slot) where
  pub covered_none : s.due ≡ 0 → false ≡ is_covered done same s
  unfolding is_covered
  covered_none h = rw (eq-eqb s.due 0 h)

  pub covered_late : (s.due ≡ 0 → ⊥) → done < s.due → false ≡ is_covered done same s
  unfolding is_covered
  covered_late h l = rw (ne_eqb s.due 0 h, lt-leb s.due done l)

  pub covered_same : (s.due ≡ 0 → ⊥) → s.due ≤ done → same ≡ is_covered done same s
  unfolding is_covered
  covered_same h l = rw (ne_eqb s.due 0 h, le-leb s.due done l)

-- before `since` no time has passed
pub over_early : (t since wait : ℕ) → t < since → eqb wait 0 ≡ is_over t since wait
unfolding is_over
over_early t since wait l = go (eqb wait 0) refl
  where
    go : (b : Bool) → eqb wait 0 ≡ b → b ≡ leb wait (t - since)
    go true h = sym (le-leb wait (t - since) (omega (arith, eqb-true wait 0 h)))
    go false h = sym (lt-leb wait (t - since) (omega (arith, eqb-false wait 0 h)))

pub over_since : (t since wait : ℕ) → since ≤ t → leb wait (t - since) ≡ is_over t since wait
unfolding is_over
over_since t since wait l = refl

module _ (may : Bool) (s : Slot) where
  pub name_not : may ≡ false → false ≡ name_due may s
  unfolding name_due
  name_not h = rw h

  pub name_may : may ≡ true → not (eqb s.named 1) ≡ name_due may s
  unfolding name_due
  name_may h = rw h

module _ (may same : Bool) (s : Slot) where
  pub report_not : may ≡ false → false ≡ report_due may same s
  unfolding report_due
  report_not h = rw h

  pub report_other : may ≡ true → same ≡ false → false ≡ report_due may same s
  unfolding report_due
  report_other h g = rw (h, g)

  pub report_may : may ≡ true → same ≡ true → not (eqb s.reported 1) ≡ report_due may same s
  unfolding report_due
  report_may h g = rw (h, g)

module _ (complete : Bool) (t : ℕ) (w : Waits) (s : Slot) where
  pub end_lingered : s.reported ≡ 1 → is_over t s.heard w.linger ≡ is_at_end complete t w s
  unfolding is_at_end
  end_lingered h = rw (eq-eqb s.reported 1 h)

  pub end_complete : (s.reported ≡ 1 → ⊥) → complete ≡ true → false ≡ is_at_end complete t w s
  unfolding is_at_end
  end_complete h g = rw (ne_eqb s.reported 1 h, g)

  pub end_never : (s.reported ≡ 1 → ⊥) → complete ≡ false → w.forget ≡ 0 → false ≡ is_at_end complete t w s
  unfolding is_at_end
  end_never h g n = rw (ne_eqb s.reported 1 h, g, eq-eqb w.forget 0 n)

  pub end_forgotten : (s.reported ≡ 1 → ⊥) → complete ≡ false → (w.forget ≡ 0 → ⊥) → is_over t s.heard w.forget ≡ is_at_end complete t w s
  unfolding is_at_end
  end_forgotten h g n = rw (ne_eqb s.reported 1 h, g, ne_eqb w.forget 0 n)
