-- `engine_calls::synced` meets its contract: what `end` answers, in numbers. Assumes nothing.
use mathlib.Core.Path.{ap, ◌∙◌}
use Rattle.engine_answers.specs.EngineAnswers.{done_by}
use Rattle.engine_calls.proofs.synced.Goals as goal

pub returns : goal.returns
returns c =
    (c.done_answer.ensures ∙ ap done_by c.end.ensures.0, c.end.ensures.1)
