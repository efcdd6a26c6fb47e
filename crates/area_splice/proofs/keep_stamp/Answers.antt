-- `area_splice::keep_stamp` meets its contract: the head, and both halves as they came; without a timestamp nothing.
-- Assumes nothing.
use borrow.Author.Rules.{rules}
use native.Mathlib.Omega.{arith}
use Prim.Native.Nat.{◌≤◌}
use lib.ListN.{length}
use Rattle.area_splice.proofs.KeepLaws.{nothing_brought, halves_brought}
use Rattle.area_splice.proofs.keep_stamp.Goals as goal

pub returns-then-n-eq0 : goal.returns-then-n-eq0
returns-then-n-eq0 c =
    nothing_brought _ _ c.args.n _ (omega arith)

pub returns : goal.returns
returns c =
    halves_brought _ _ _ _ _ _ c.args.n _ _ _ _ (λ z. omega arith) c.requires.2 c.head_at.ensures c.stamp_at-at.ensures
    c.read_low_eight-first.ensures c.read_low_eight-last.ensures c.put_word.ensures c.put_word-2.ensures c.put_word-3.ensures
