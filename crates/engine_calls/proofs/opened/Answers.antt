-- `engine_calls::opened` meets its contract: what `open` answers, in numbers. Assumes nothing.
use mathlib.Core.Path.{ap, ◌∙◌}
use Rattle.engine_answers.specs.EngineAnswers.{meeting_answer}
use Rattle.engine_calls.proofs.opened.Goals as goal

pub returns : goal.returns
returns c =
    (c.meeting_answer.ensures ∙ ap meeting_answer c.open.ensures.0, c.open.ensures.1)
