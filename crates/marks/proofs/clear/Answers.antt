-- `marks::clear` meets its contract: the octets of the marks are zeros then. Assumes nothing.
use Rattle.marks.proofs.LoopLaws.{zeros_cleared}
use Rattle.marks.proofs.clear.Goals as goal

pub returns : goal.returns
returns c = zeros_cleared c.args.marks.now _ c.requires (c.fill.ensures.after (λ y e. e))
