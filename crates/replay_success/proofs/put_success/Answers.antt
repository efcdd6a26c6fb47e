-- `replay_success::put_success` meets its contract: one part after the other. Assumes nothing.
use mathlib.Core.Path.{ap}
use borrow.Author.Rules.{rules}
use Rattle.text.proofs.AddedLaws.{◌then◌, added_as}
use Rattle.replay_fields.specs.Fields.{octets_field}
use Rattle.replay_fields.specs.LineWords.{w_timestamp}
use Rattle.replay_success.specs.SuccessLine.{success_line}
use Rattle.replay_success.proofs.put_success.Goals as goal

pub returns : goal.returns
unfolding success_line
returns c =
    c.put_head-a.ensures
    then added_as (ap (octets_field w_timestamp) c.part.ensures) c.put_octets-b.ensures
    then c.put_field-c.ensures
    then c.put_field-d.ensures
    then c.put_text-e.ensures
    then c.put_holes-f.ensures
    then c.push.ensures
