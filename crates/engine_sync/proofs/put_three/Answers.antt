-- `engine_sync::put_three` meets its contract: what was saved is copied three times. Assumes nothing.
use native.Mathlib.Omega.{arith}
use lib.ListN.{length-take}
use Rattle.engine_sync.proofs.StartLaws.{three_put}
use Rattle.engine_sync.proofs.put_three.Goals as goal

pub copy_into-requires : goal.copy_into-requires
copy_into-requires c =
    simp length-take (omega arith)

pub copy_into-requires-2 : goal.copy_into-requires-2
copy_into-requires-2 c =
    simp length-take (omega arith)

pub copy_into-requires-3 : goal.copy_into-requires-3
copy_into-requires-3 c =
    simp length-take (omega arith)

pub returns : goal.returns
returns c =
    let a = c.args in
    three_put a.state.now a.saved.now _ _ _ c.copy_into.ensures c.copy_into-2.ensures c.copy_into-3.ensures
