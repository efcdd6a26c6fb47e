-- A place of an area that holds a transfer.
-- Assumes nothing.
use Rattle.std.specs.Prelude.{ℕ, ◌≤◌, ◌<◌, List, length}
use Rattle.octets.specs.Numbers.{Width}
use Rattle.words.specs.Words.{word_at}
use Rattle.run_rows.specs.Rows.{RowsFine}
use Rattle.area.specs.Layout.{transfer_places, area_octets, stamped_field, head_at}
use Rattle.area.specs.Places.{key_at, rows_at}

-- place i of a is in the layout, and what it holds is a transfer's
pub record UsedPlace (a : List ℕ) (i : ℕ) : Type 0 where
  pub long : area_octets ≤ length a
  pub low : i < transfer_places
  pub rows : RowsFine a (rows_at a i)
  pub width : Width (key_at a i).width
  pub told : word_at a (head_at i stamped_field) ≤ 1
