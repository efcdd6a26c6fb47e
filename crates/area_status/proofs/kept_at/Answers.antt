-- `area_status::kept_at` meets its contract: 16 octets of the area, or none, by the head's last word.
-- Assumes nothing.
use mathlib.Core.Path.{◌∙◌}
use borrow.Author.Rules.{rules}
use native.Mathlib.Omega.{arith}
use Rattle.area.proofs.StampLaws.{stamp_read}
use Rattle.area_status.proofs.kept_at.Goals as goal

pub returns : goal.returns
returns c =
    let a = c.args in
    c.read_stamp.ensures
    ∙ stamp_read a.area.now a.i _ _ (λ i. (c.shared_slice_known-1.given i).fits) c.requires.long c.requires.low c.head-stamped.ensures c.requires.told c.stamp_at.ensures
