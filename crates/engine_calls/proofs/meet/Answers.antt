-- `engine_calls::meet` meets its contract: what `meet` answers, in numbers. Assumes nothing.
use mathlib.Core.Path.{ap, ◌∙◌}
use Rattle.engine_answers.specs.EngineAnswers.{meeting_answer}
use Rattle.engine_calls.proofs.meet.Goals as goal

pub returns : goal.returns
returns c =
    c.meeting_answer.ensures ∙ ap meeting_answer c.meet.ensures
