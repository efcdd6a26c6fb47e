-- `replay_lines::put_opened` meets its contract: one part after the other. Assumes nothing.
use mathlib.Core.Path.{ap}
use Rattle.text.proofs.AddedLaws.{◌then◌, added_as}
use Rattle.replay_fields.specs.Fields.{field}
use Rattle.replay_fields.specs.LineWords.{w_width}
use Rattle.replay_lines.specs.Lines.{opened_line}
use Rattle.replay_lines.proofs.put_opened.Goals as goal

pub returns : goal.returns
unfolding opened_line
returns c =
    c.put_decimal-at.ensures
    then c.put_field-at.ensures
    then added_as (ap (field w_width) c.bits_of.ensures) c.put_field-at-2.ensures
    then c.put_field-at-3.ensures
    then c.put_reached-at.ensures
    then c.put_text.ensures
