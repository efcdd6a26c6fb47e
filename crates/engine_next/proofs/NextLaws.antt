-- What is said of a transfer by its number, whether a sync is urgent for it, and what is said of a state: case by case.
-- Assumes nothing.
use Prim.Native.Nat.{ℕ, ◌≤◌, ◌<◌}
use mathlib.Core.Path.{◌≡◌, ap}
use mathlib.Core.Bool.{true, false, not}
use mathlib.Core.List.{List}
use lib.Dec.{eqb}
use borrow.Author.Tests.{lt-ltb, le-ltb, eq-eqb, ne_eqb}
use Rattle.refusals.specs.Refusals.{refusal_of}
use Rattle.refusals.specs.declared.Refusal.{Refusal}
use Rattle.area.specs.Places.{read_table}
use Rattle.engine_slots.specs.declared.Slot.{Slot}
use Rattle.engine_state.specs.State.{engine_in, held_state}
use Rattle.engine_due.specs.declared.Waits.{Waits}
use Rattle.engine_next.specs.declared.Page.{Page}
use Rattle.engine_next.specs.declared.Next.TheVariants.{Answer, Name, Report, Close}
use Rattle.engine_next.specs.Next.{next_by, is_urgent, first_next, next_state}
use Rattle.std.specs.Prelude.{Ok, Err}

module _ (k : ℕ) (x : Page) where
  pub by_answer : k ≡ 2 → Answer x.id ≡ next_by k x
  unfolding next_by
  by_answer h = rw h

  pub by_name : k ≡ 3 → Name x ≡ next_by k x
  unfolding next_by
  by_name h = rw h

  pub by_report : k ≡ 4 → Report x ≡ next_by k x
  unfolding next_by
  by_report h = rw h

  pub by_close : (k ≡ 2 → ⊥) → (k ≡ 3 → ⊥) → (k ≡ 4 → ⊥) → Close x.id ≡ next_by k x
  unfolding next_by
  by_close a b c = rw (ne_eqb k 2 a, ne_eqb k 3 b, ne_eqb k 4 c)

module _ (done : ℕ) (s : Slot) where
  pub urgent_answer : done < s.due → true ≡ is_urgent done s
  unfolding is_urgent
  urgent_answer h = rw (lt-ltb done s.due h)

  pub urgent_not : s.due ≤ done → (s.named ≡ 1 → ⊥) → false ≡ is_urgent done s
  unfolding is_urgent
  urgent_not h g = rw (le-ltb done s.due h, ne_eqb s.named 1 g)

  pub urgent_name : s.due ≤ done → s.named ≡ 1 → not (eqb s.reported 1) ≡ is_urgent done s
  unfolding is_urgent
  urgent_name h g = rw (le-ltb done s.due h, eq-eqb s.named 1 g)

-- ---- the first of all

module _ (s : List ℕ) (t : ℕ) (w : Waits) (from : ℕ) where
  pub next_refused : held_state s ≡ false → (r : Refusal) → r ≡ refusal_of 22 → Err r ≡ next_state s t w from
  unfolding next_state
  next_refused h r e = rw h (ap Err e)

  pub next_held : held_state s ≡ true → Ok (first_next (engine_in s) t w from (read_table s)) ≡ next_state s t w from
  unfolding next_state
  next_held h = rw h
