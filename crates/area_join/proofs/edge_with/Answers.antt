-- `area_join::edge_with` meets its contract: a run above the new one has the edge, and else the new one. Assumes nothing.
use borrow.Author.Rules.{rules}
use native.Mathlib.Omega.{arith}
use mathlib.Core.Path.{sym, ◌∙◌}
use Rattle.area_join.proofs.AheadLaws.{edge_with_above, edge_with_joined}
use Rattle.area_join.proofs.edge_with.Goals as goal

pub returns-then-j-rows : goal.returns-then-j-rows
returns-then-j-rows c =
    let a = c.args in
    c.edge_of.ensures ∙ sym (edge_with_above a.area.now a.rows a.j a.hi (omega arith))

pub returns : goal.returns
returns c =
    let a = c.args in sym (edge_with_joined a.area.now a.rows a.j a.hi (omega arith))
