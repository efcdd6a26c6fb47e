-- `marked_runs::skip_words` meets its contract: a word that is blank is passed over. Assumes nothing.
use native.Mathlib.Omega.{arith}
use Rattle.marked_runs.proofs.WalkLaws.{words_step}
use Rattle.marked_runs.proofs.skip_words.Goals as goal

pub loop-k-preserved : goal.loop-k-preserved
loop-k-preserved c =
    let a = c.args in (
      words_step a.marks.now a.wanted a.from c.loop-k.k (λ i. (c.shared_slice_known-1.given i).fits) (omega arith)
          (omega (arith, c.word.ensures, c.blank_word-blank.ensures)) c.loop-k.invariant.0,
      omega arith,
    )
