-- `engine_calls::close` meets its contract: what `close` answers, in numbers. Assumes nothing.
use mathlib.Core.Path.{ap, ◌∙◌}
use Rattle.engine_answers.specs.EngineAnswers.{closed_answer}
use Rattle.engine_calls.proofs.close.Goals as goal

pub returns : goal.returns
returns c =
    (c.closed_answer.ensures ∙ ap closed_answer c.close.ensures.0, c.close.ensures.1)
