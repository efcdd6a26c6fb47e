-- `area_join::progress_with` meets its contract: a run below the new one decides, and else the new one. Assumes nothing.
use borrow.Author.Rules.{rules}
use native.Mathlib.Omega.{arith}
use mathlib.Core.Path.{sym, ◌∙◌}
use Rattle.run_rows.specs.Rows.{runs_in}
use Rattle.area_join.proofs.AheadLaws.{progress_with_below, progress_with_high, progress_with_low}
use Rattle.area_join.proofs.progress_with.Goals as goal

pub returns-then-i-gt0 : goal.returns-then-i-gt0
returns-then-i-gt0 c =
    let a = c.args in
    c.progress_of.ensures ∙ sym (progress_with_below (runs_in a.area.now a.rows) a.i a.lo a.hi (omega arith))

pub returns-then-lo-ne0 : goal.returns-then-lo-ne0
returns-then-lo-ne0 c =
    let a = c.args in sym (progress_with_high (runs_in a.area.now a.rows) a.i a.lo a.hi (omega arith) (omega arith))

pub returns : goal.returns
returns c =
    let a = c.args in sym (progress_with_low (runs_in a.area.now a.rows) a.i a.lo a.hi (omega arith) (omega arith))
