-- `engine_next::first_next` meets its contract: what is left of the table decides. Assumes nothing.
use Prim.Native.Nat.{◌-◌, ◌≤◌}
use mathlib.Core.Path.{◌≡◌}
use Rattle.area.specs.Places.{transfers_from}
use Rattle.engine_state.specs.State.{engine_in}
use Rattle.engine_next.specs.Next.{first_next}
use Rattle.engine_next.proofs.first_next.Given as goal

abbrev pub invariant-loop-i : goal.invariant-loop-i
invariant-loop-i l =
    (l.i ≤ l.n) × (first_next (engine_in l.state) l.time l.waits l.from (transfers_from l.state l.i (l.n - l.i)) ≡ first_next (engine_in l.state) l.time l.waits l.from (transfers_from l.state 0 l.n))
