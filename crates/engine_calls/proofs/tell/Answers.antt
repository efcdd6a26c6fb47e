-- `engine_calls::tell` meets its contract: what `tell` answers, in numbers. Assumes nothing.
use mathlib.Core.Path.{ap, ◌∙◌}
use Rattle.engine_answers.specs.EngineAnswers.{letter_answer}
use Rattle.engine_calls.proofs.tell.Goals as goal

pub returns : goal.returns
returns c =
    (c.letter_answer.ensures ∙ ap letter_answer c.tell.ensures.0, c.tell.ensures.1, c.tell.ensures.2)
