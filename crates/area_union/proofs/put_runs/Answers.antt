-- `area_union::put_runs` meets its contract: the starts, the stops, and their number. Assumes nothing.
use borrow.Author.Rules.{rules}
use native.Mathlib.Omega.{arith}
use mathlib.Core.Path.{ap, ◌∙◌}
use Prim.Native.Nat.{ℕ}
use Rattle.words.specs.Words.{put_word}
use Rattle.area_union.proofs.PutLaws.{words_at_lem, runs_put}
use Rattle.area_union.proofs.put_runs.Goals as goal

pub returns : goal.returns
returns c =
    runs_put c.args.area.now _ _ _ c.args.place c.args.n c.args.starts.now c.args.stops.now (omega arith) (omega arith) (omega arith)
    (words_at_lem _ c.put_row.ensures c.starts_at.ensures) (words_at_lem _ c.put_row-2.ensures c.stops_at.ensures)
    (c.put_word.ensures ∙ ap (λ (q : ℕ). put_word q c.args.n c.put_row-2.new.area) c.head_at.ensures)
