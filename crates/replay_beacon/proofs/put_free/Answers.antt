-- `replay_beacon::put_free` meets its contract: one part after the other. Assumes nothing.
use mathlib.Core.Path.{ap}
use borrow.Author.Tests.{eq-eqb, ne_eqb}
use Rattle.text.proofs.AddedLaws.{◌then◌, added_as}
use Rattle.replay_fields.specs.Fields.{field}
use Rattle.replay_fields.specs.LineWords.{w_free_width}
use borrow.Author.Rules.{rules}
use Rattle.replay_beacon.proofs.put_free.Goals as goal

pub returns-then-width-eq0 : goal.returns-then-width-eq0
returns-then-width-eq0 c =
    rw (eq-eqb c.args.width 0 c.if-width-eq0.true) (c.put_text-a.ensures then c.put_text.ensures)

pub returns : goal.returns
returns c =
    rw (ne_eqb c.args.width 0 c.if-width-eq0.false)
    (added_as (ap (field w_free_width) c.bits_of.ensures) c.put_field-b.ensures
    then c.put_field.ensures)
