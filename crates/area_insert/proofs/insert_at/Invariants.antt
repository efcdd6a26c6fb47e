-- `area_insert::insert_at` meets its contract. The loop's invariant: the places after q are those of the table that comes,
-- the others as they were.
-- Assumes nothing.
use borrow.Author.Rules.{rules}
use native.Mathlib.Omega.{arith}
use Rattle.transfer.specs.Transfers.{empty}
use Rattle.area.proofs.JudgeLaws.{judged_passed}
use Rattle.area_insert.proofs.PutInLaws.{Opening, open_start, open_long, open_fits, open_next, open_end}
use Rattle.area_insert.proofs.insert_at.Given as goal

abbrev pub invariant-loop-q : goal.invariant-loop-q
invariant-loop-q l = Opening l.initial.area l.area l.place l.n l.q (empty l.key)
