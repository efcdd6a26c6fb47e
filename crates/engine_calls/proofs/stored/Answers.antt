-- `engine_calls::stored` meets its contract: what `store` answers, in numbers. Assumes nothing.
use mathlib.Core.Path.{ap, ◌∙◌}
use Rattle.engine_answers.specs.EngineAnswers.{look_answer}
use Rattle.engine_calls.proofs.stored.Goals as goal

pub returns : goal.returns
returns c =
    (c.look_answer.ensures ∙ ap look_answer c.store.ensures.0, c.store.ensures.1)
