-- `replay_fields::put_reached` meets its contract: one part after the other. Assumes nothing.
use mathlib.Core.Path.{ap}
use Rattle.text.proofs.AddedLaws.{◌then◌, added_as}
use Rattle.replay_fields.specs.Fields.{field}
use Rattle.replay_fields.specs.LineWords.{w_complete}
use Rattle.replay_fields.proofs.put_reached.Goals as goal

pub returns : goal.returns
returns c =
    c.put_field-next.ensures
    then added_as (ap (field w_complete) c.flag_of.ensures) c.put_field.ensures
