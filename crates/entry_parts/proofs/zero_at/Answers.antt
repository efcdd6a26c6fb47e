-- `entry_parts::zero_at` meets its contract: `position` gives the first octet that passes the test. Assumes nothing.
use Rattle.std.proofs.Common.{rules, tests}
use Rattle.std.proofs.lemmas.Iterator.{YieldsList-from_slice}
use Rattle.std.proofs.lemmas.Iterator.Search.{position_from_yields_List}
use mathlib.Core.Path.{◌∙◌}
use Rattle.entry_parts.proofs.PathLaws.{is_zero, zero_found}
use Rattle.entry_parts.proofs.zero_at.Goals as goal

pub returns : goal.returns
returns c =
    c.unwrap_or.ensures
    ∙ zero_found c.args.r.now c.position.result
    (position_from_yields_List is_zero _ _ c.position.result c.position.ensures.ran (YieldsList-from_slice c.args.r.now cc) (λ x b q k. search (rules, tests)))
