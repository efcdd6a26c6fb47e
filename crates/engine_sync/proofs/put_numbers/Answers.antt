-- `engine_sync::put_numbers` meets its contract: one number after the other. Assumes nothing.
use Rattle.engine_sync.proofs.StartLaws.{six_put}
use Rattle.engine_sync.proofs.put_numbers.Goals as goal

pub returns : goal.returns
returns c =
    let a = c.args in
    six_put _ _ _ _ _ _ _ a.way a.number a.done a.next a.changed a.begun c.set_number.ensures c.set_number-2.ensures
    c.set_number-3.ensures c.set_number-4.ensures c.set_number-5.ensures c.set_number-6.ensures
