-- `engine_calls::start` meets its contract: what `start` answers, in numbers. Assumes nothing.
use mathlib.Core.Path.{ap, ◌∙◌}
use Rattle.engine_answers.specs.EngineAnswers.{done_by}
use Rattle.engine_calls.proofs.start.Goals as goal

pub returns : goal.returns
returns c =
    (c.done_answer.ensures ∙ ap done_by c.start.ensures.0, c.start.ensures.1)
