-- `engine_calls::sync` meets its contract: what `begin` answers, in numbers. Assumes nothing.
use mathlib.Core.Path.{ap, ◌∙◌}
use Rattle.engine_answers.specs.EngineAnswers.{sync_answer}
use Rattle.engine_calls.proofs.sync.Goals as goal

pub returns : goal.returns
returns c =
    (c.sync_answer.ensures ∙ ap sync_answer c.begin.ensures.0, c.begin.ensures.1)
