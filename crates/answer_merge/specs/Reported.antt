-- R15.1, R15.3: what C is told of a merge, by the octets that either area has received.
-- Assumes nothing.
use Rattle.std.specs.Prelude.{ℕ, ◌≡◌, true, List, ◌↔◌}
use Rattle.transfer.specs.declared.Reached.{Reached}
use Rattle.area_merge.specs.Merging.{AreaMerging}
use Rattle.answer_merge.specs.declared.MergedAnswer.{MergedAnswer}

-- the Id of b was merged into a, which became c, and edge and completeness of the joined set were answered
pub record MergeReported (a b c : List ℕ) (id : ℕ) (r : MergedAnswer) : Type 0 where
  pub told : Reached
  pub merging : AreaMerging a b c id told
  pub same_edge : r.edge ≡ told.edge
  pub complete_iff : (r.complete ≡ 1) ↔ (told.complete ≡ true)
