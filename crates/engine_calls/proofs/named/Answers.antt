-- `engine_calls::named` meets its contract: what `named` answers, in numbers. Assumes nothing.
use mathlib.Core.Path.{ap, ◌∙◌}
use Rattle.engine_answers.specs.EngineAnswers.{done_by}
use Rattle.engine_calls.proofs.named.Goals as goal

pub returns : goal.returns
returns c =
    (c.done_answer.ensures ∙ ap done_by c.named.ensures.0, c.named.ensures.1)
