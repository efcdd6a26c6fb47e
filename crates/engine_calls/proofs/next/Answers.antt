-- `engine_calls::next` meets its contract: what `decide` answers, in numbers. Assumes nothing.
use mathlib.Core.Path.{ap, ◌∙◌}
use Rattle.engine_answers.specs.EngineAnswers.{next_answer}
use Rattle.engine_calls.proofs.next.Goals as goal

pub returns : goal.returns
returns c =
    c.next_answer.ensures ∙ ap next_answer c.decide.ensures
