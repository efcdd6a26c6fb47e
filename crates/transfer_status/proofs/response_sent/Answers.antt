-- `transfer_status::response_sent` meets its contract: nothing is taken from a length of 0.
-- Assumes nothing.
use mathlib.Core.Path.{◌≡◌, sym, ◌∙◌}
use mathlib.Core.Bool.{true}
use borrow.Author.Rules.{rules}
use native.Mathlib.Omega.{arith}
use Rattle.transfer_status.proofs.StatusResponse.{last_is}
use Rattle.transfer_status.proofs.response_sent.Goals as goal

pub returns : goal.returns
returns c =
    let e : c.args.complete ≡ true = c.if-not-complete.false in
    rw (e, last_is) (search rules)
