-- `area_judge::judge` meets its contract.
-- Assumes nothing.
use native.Mathlib.Omega.{arith}
use borrow.Author.Rules.{rules}
use Rattle.area_judge.proofs.LoopLaws.{judged_short, judged_many, judged_rest}
use Rattle.area_judge.proofs.judge.Goals as goal

pub returns-then-area-lt-AREA_OCTETS : goal.returns-then-area-lt-AREA_OCTETS
returns-then-area-lt-AREA_OCTETS c =
    judged_short c.args.area.now (omega arith)

pub returns-then-n : goal.returns-then-n
returns-then-n c =
    judged_many c.args.area.now _ (omega arith) c.open_count-n.ensures (omega arith)

pub returns : goal.returns
returns c =
    let w = c.open_count-n in
    judged_rest c.args.area.now w.result (omega arith) w.ensures _ (omega arith) c.transfers_ok.ensures
