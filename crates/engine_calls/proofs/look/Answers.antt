-- `engine_calls::look` meets its contract: what `look` answers, in numbers. Assumes nothing.
use mathlib.Core.Path.{ap, ◌∙◌}
use Rattle.engine_answers.specs.EngineAnswers.{look_answer}
use Rattle.engine_calls.proofs.look.Goals as goal

pub returns : goal.returns
returns c =
    c.look_answer.ensures ∙ ap look_answer c.look.ensures
