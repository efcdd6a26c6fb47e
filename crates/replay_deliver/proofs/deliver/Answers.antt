-- `replay_deliver::deliver` meets its contract: what each type of packet gets. Assumes nothing.
use mathlib.Core.Path.{refl, sym, ap, ◌∙◌}
use Rattle.std.specs.Prelude.{Ok}
use borrow.Author.Rules.{rules}
use Rattle.replay_deliver.specs.Deliver.{deliver_lines, deliver_area}
use Rattle.replay_deliver.proofs.CaseLaws.{of_packet}
use Rattle.replay_deliver.proofs.deliver.Goals as goal

pub returns-in-Beacon : goal.returns-in-Beacon
unfolding deliver_lines deliver_area
returns-in-Beacon c =
    let a = c.args in
    of_packet a.number a.p.now a.area.now a.lent.now (ap Ok (sym c.in-Beacon.is) ∙ sym c.in-Ok.is ∙ c.read_packet.ensures)
    (c.put_beacon.ensures, refl)

pub returns-in-Metadata : goal.returns-in-Metadata
unfolding deliver_lines deliver_area
returns-in-Metadata c =
    let a = c.args in
    of_packet a.number a.p.now a.area.now a.lent.now (ap Ok (sym c.in-Metadata.is) ∙ sym c.in-Ok.is ∙ c.read_packet.ensures)
    c.«open».ensures

pub returns-in-Data : goal.returns-in-Data
unfolding deliver_lines deliver_area
returns-in-Data c =
    let a = c.args in
    of_packet a.number a.p.now a.area.now a.lent.now (ap Ok (sym c.in-Data.is) ∙ sym c.in-Ok.is ∙ c.read_packet.ensures)
    c.«record».ensures

pub returns-in-Success : goal.returns-in-Success
unfolding deliver_lines deliver_area
returns-in-Success c =
    let a = c.args in
    of_packet a.number a.p.now a.area.now a.lent.now (ap Ok (sym c.in-Success.is) ∙ sym c.in-Ok.is ∙ c.read_packet.ensures)
    (c.put_success.ensures, refl)

pub returns-in-Failure : goal.returns-in-Failure
unfolding deliver_lines deliver_area
returns-in-Failure c =
    let a = c.args in
    of_packet a.number a.p.now a.area.now a.lent.now (ap Ok (sym c.in-Failure.is) ∙ sym c.in-Ok.is ∙ c.read_packet.ensures)
    (c.put_failure.ensures, refl)

pub returns-in-Err : goal.returns-in-Err
unfolding deliver_lines deliver_area
returns-in-Err c =
    let a = c.args in
    of_packet a.number a.p.now a.area.now a.lent.now (sym c.in-Err.is ∙ c.read_packet.ensures)
    (c.put_refusal.ensures, refl)
