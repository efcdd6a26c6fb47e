-- `replay_beacon::put_beacon` meets its contract: one part after the other. Assumes nothing.
use mathlib.Core.Path.{ap}
use Rattle.text.proofs.AddedLaws.{◌then◌, added_as}
use Rattle.replay_fields.specs.Fields.{octets_field}
use Rattle.replay_fields.specs.LineWords.{w_endpoint}
use Rattle.replay_beacon.specs.BeaconLine.{beacon_line}
use borrow.Author.Rules.{rules}
use Rattle.replay_beacon.proofs.put_beacon.Goals as goal

pub returns : goal.returns
unfolding beacon_line
returns c =
    c.put_flags-a.ensures
    then c.put_states-c.ensures
    then c.put_free-d.ensures
    then added_as (ap (octets_field w_endpoint) c.part.ensures) c.put_octets-e.ensures
    then c.push.ensures
