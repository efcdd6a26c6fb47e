-- `engine_data::stretch_at` meets its contract: the rows of the place say how far octets are alike. Assumes nothing.
use native.Mathlib.Omega.{arith}
use Rattle.engine_data.proofs.StretchLaws.{place_asks, rows_asks, is_known, is_new}
use Rattle.engine_data.proofs.stretch_at.Goals as goal

pub rows_at-rows-requires : goal.rows_at-rows-requires
rows_at-rows-requires c =
    place_asks _ _ c.requires.0 _ c.requires.1

pub overflow_add-d : goal.overflow_add-d
overflow_add-d c =
    let f = c.requires.0.stop_fits in omega arith

pub reach_from-reach-requires : goal.reach_from-reach-requires
reach_from-reach-requires c =
    rows_asks _ _ c.requires.0 _ c.requires.1 _ c.rows_at-rows.ensures

pub overflow_add-x : goal.overflow_add-x
overflow_add-x c =
    let f = c.requires.0.start_fits in omega arith

pub returns-then-reach : goal.returns-then-reach
returns-then-reach c =
    is_known _ _ c.requires.0 _ c.requires.1 _ c.rows_at-rows.ensures _ _ c.requires.2 _ c.reach_from-reach.ensures c.if-reach.true

pub returns : goal.returns
returns c =
    is_new _ _ c.requires.0 _ c.requires.1 _ c.rows_at-rows.ensures _ _ c.requires.2 _ c.reach_from-reach.ensures c.if-reach.false
