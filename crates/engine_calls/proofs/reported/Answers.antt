-- `engine_calls::reported` meets its contract: what `reported` answers, in numbers. Assumes nothing.
use mathlib.Core.Path.{ap, ◌∙◌}
use Rattle.engine_answers.specs.EngineAnswers.{done_by}
use Rattle.engine_calls.proofs.reported.Goals as goal

pub returns : goal.returns
returns c =
    (c.done_answer.ensures ∙ ap done_by c.reported.ensures.0, c.reported.ensures.1)
