-- The lines of an `M` and the area after it, by the Id that was read from its body and what merging it answered and left.
-- Assumes nothing.
use Prim.Native.Nat.{ℕ}
use mathlib.Core.Path.{◌≡◌, ap, ◌∙◌}
use mathlib.Core.List.{List}
use lib.ListN.{length}
use borrow.Author.Tests.{eq-eqb}
use Rattle.area_merge.specs.Merge.{merge_area}
use Rattle.replay_lines.specs.Body.{number_at}
use Rattle.replay_merge.specs.MergeLines.{merge_text, merge_lines, merge_after}
use Rattle.std.specs.Prelude.{Result}
use Rattle.refusals.specs.declared.Refusal.{Refusal}
use Rattle.transfer.specs.declared.Reached.{Reached}

module _ (body area other : List ℕ) {id : ℕ} (h : length body ≡ 8) (read : id ≡ number_at 0 8 body) where
  pub merge_lines_are : (n : ℕ) {x : Result Reached Refusal} → x ≡ (merge_area area other id).answer → merge_text n id x ≡ merge_lines n body area other
  unfolding merge_lines
  merge_lines_are n e =
      rw (eq-eqb (length body) 8 h)
      (ap (merge_text n id) e ∙ ap (λ (i : ℕ). merge_text n i (merge_area area other i).answer) read)

  pub merge_after_is : {l : List ℕ} → l ≡ (merge_area area other id).area → l ≡ merge_after body area other
  unfolding merge_after
  merge_after_is e = rw (eq-eqb (length body) 8 h) (e ∙ ap (λ (i : ℕ). (merge_area area other i).area) read)
