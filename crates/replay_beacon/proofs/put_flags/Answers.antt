-- `replay_beacon::put_flags` meets its contract: one part after the other. Assumes nothing.
use mathlib.Core.Path.{ap}
use Rattle.text.proofs.AddedLaws.{◌then◌, added_as}
use Rattle.replay_fields.specs.Fields.{field}
use Rattle.replay_fields.specs.LineWords.{w_largest}
use borrow.Author.Rules.{rules}
use Rattle.replay_beacon.proofs.put_flags.Goals as goal

pub returns : goal.returns
returns c =
    c.put_decimal-a.ensures
    then c.put_number-c.ensures
    then added_as (ap (field w_largest) c.bits_of.ensures) c.put_field-d.ensures
    then c.put_field-e.ensures
    then c.put_field.ensures
