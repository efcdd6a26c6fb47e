-- `marked_runs::skip_words` meets its contract: a word that is blank is passed over. Assumes nothing.
use Prim.Native.Nat.{◌*◌, ◌≤◌}
use mathlib.Core.Bool.{not}
use Rattle.marks.specs.Marks.{marked, mark_count}
use Rattle.marks.specs.Walk.{AllAre}
use Rattle.marked_runs.proofs.skip_words.Given as goal

abbrev pub invariant-loop-k : goal.invariant-loop-k
invariant-loop-k l = AllAre (marked l.marks) (not l.wanted) (l.from * 64) (l.k * 64) × (l.k * 64 ≤ mark_count)
