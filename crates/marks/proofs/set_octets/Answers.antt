-- `marks::set_octets` meets its contract: an octet whose marks are all set is 255. Assumes nothing.
use Rattle.marks.proofs.LoopLaws.{ones_set}
use Rattle.marks.proofs.set_octets.Goals as goal

pub returns : goal.returns
returns c =
    let a = c.args in
    ones_set a.from a.to a.marks.now _ c.requires.0 c.requires.1 (λ i. (c.slice_known-1.given i).fits) (c.fill.ensures.after (λ y e. e))
