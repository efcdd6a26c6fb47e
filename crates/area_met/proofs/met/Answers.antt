-- `area_met::met` meets its contract: 18, or already open.
-- Assumes nothing.
use native.Mathlib.Omega.{arith}
use borrow.Author.Rules.{rules}
use mathlib.Core.Path.{sym, ap, ◌∙◌}
use Rattle.transfer.specs.Transfers.{reached}
use Rattle.table.specs.declared.Opened.TheVariants as opened
use Rattle.area.proofs.KeptLaws.{kept_known, kept_rows, kept_runs_in}
use Rattle.area_met.proofs.OpenLaws.{met_width, met_length, met_same}
use Rattle.std.specs.Prelude.{Ok, Err}
use Rattle.transfer.specs.declared.Reached.{Reached}
use Rattle.area_met.proofs.met.Goals as goal

pub key_at-held-requires : goal.key_at-held-requires
key_at-held-requires c =
    kept_known c.args.area.now c.args.key.id c.args.i c.requires.1 c.requires.0

pub returns-then-held-key : goal.returns-then-held-key
returns-then-held-key c =
    ap Err c.into.ensures
    ∙ sym (met_width c.args.area.now c.args.key c.args.i c.requires.1 c.key_at-held.result c.key_at-held.ensures (λ q. omega arith))

pub returns-then-held-key-2 : goal.returns-then-held-key-2
returns-then-held-key-2 c =
    ap Err c.into-then-held-key-2.ensures
    ∙ sym (met_length c.args.area.now c.args.key c.args.i c.requires.1 c.key_at-held.result c.key_at-held.ensures (omega arith) (λ q. omega arith))

pub rows_at-rows-requires : goal.rows_at-rows-requires
rows_at-rows-requires c =
    kept_known c.args.area.now c.args.key.id c.args.i c.requires.1 c.requires.0

pub reached_in-requires : goal.reached_in-requires
reached_in-requires c =
    kept_rows c.args.area.now c.args.key.id c.args.i c.requires.1 c.requires.0 c.rows_at-rows.result c.rows_at-rows.ensures

pub returns : goal.returns
returns c =
    let a = c.args.area.now in
    let x = c.args.key in
    ap (λ (r : Reached). Ok (opened.AlreadyOpen r))
    (c.reached_in.ensures ∙ ap (reached x) (kept_runs_in a x.id c.args.i c.requires.1 c.rows_at-rows.result c.rows_at-rows.ensures))
    ∙ sym (met_same a x c.args.i c.requires.1 c.key_at-held.result c.key_at-held.ensures (omega arith) (omega arith))
