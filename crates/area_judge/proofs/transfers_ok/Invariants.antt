-- `area_judge::transfers_ok` meets its contract.
-- Assumes nothing.
use borrow.Author.Rules.{rules}
use native.Mathlib.Omega.{arith}
use Prim.Native.Nat.{◌-◌, ◌≤◌}
use mathlib.Core.Path.{◌≡◌, sym, ◌∙◌}
use native.Mathlib.Nat.{sub-zero}
use Rattle.area.specs.Places.{transfers_from}
use Rattle.area.specs.Judge.{fine_test}
use Rattle.area_judge.proofs.LoopLaws.{id_small, fine_low, fine_not, fine_more, fine_end}
use Rattle.area_judge.proofs.transfers_ok.Given as goal

abbrev pub invariant-loop-i : goal.invariant-loop-i
invariant-loop-i l = (l.i ≤ l.n) × (fine_test l.least (transfers_from l.area l.i (l.n - l.i)) ≡ fine_test 0 (transfers_from l.area 0 l.n))
