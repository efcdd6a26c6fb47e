-- `engine_next::any_urgent` meets its contract: what is left of the slots decides. Assumes nothing.
use Prim.Native.Nat.{◌-◌, ◌≤◌}
use mathlib.Core.Path.{◌≡◌}
use Rattle.engine_slots.specs.Slots.{slots_from}
use Rattle.engine_next.specs.Next.{any_urgent}
use Rattle.engine_next.proofs.any_urgent.Given as goal

abbrev pub invariant-loop-i : goal.invariant-loop-i
invariant-loop-i l = (l.i ≤ l.n) × (any_urgent l.done (slots_from l.state l.i (l.n - l.i)) ≡ any_urgent l.done (slots_from l.state 0 l.n))
