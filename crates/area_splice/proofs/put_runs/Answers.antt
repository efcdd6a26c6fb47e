-- `area_splice::put_runs` meets its contract: the starts, the stops, and their number.
-- Assumes nothing.
use borrow.Author.Rules.{rules}
use Prim.Native.Nat.{ℕ}
use mathlib.Core.Path.{◌≡◌, ◌∙◌}
use mathlib.Core.List.{List}
use Rattle.words.specs.Words.{put_word, spliced_row}
use Rattle.area.specs.Layout.{count_field, head_at, run_at}
use Rattle.area_splice.specs.Splice.{runs_after, spliced_area}
use Rattle.area_splice.proofs.put_runs.Goals as goal

put_chain : (a x y z : List ℕ) (p n i j lo hi s e h : ℕ) → s ≡ run_at 0 p 0 → e ≡ run_at 1 p 0 → h ≡ head_at p count_field
    → x ≡ spliced_row a s n i j lo → y ≡ spliced_row x e n i j hi → z ≡ put_word h (runs_after n i j) y → z ≡ spliced_area a p n i j lo hi
unfolding spliced_area
put_chain a x y z p n i j lo hi s e h u v w f g k = k ∙ rw (g, f, u, v, w)

pub returns : goal.returns
returns c =
    put_chain _ _ _ _ _ _ _ _ _ _ _ _ _ c.starts_at.ensures c.stops_at.ensures c.head_at.ensures c.splice.ensures
    c.splice-2.ensures c.put_word.ensures
