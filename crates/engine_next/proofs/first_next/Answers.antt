-- `engine_next::first_next` meets its contract: what is left of the table decides. Assumes nothing.
use Prim.Native.Nat.{ℕ, ◌<◌}
use native.Mathlib.Omega.{arith}
use native.Mathlib.Nat.{sub-zero}
use mathlib.Core.Path.{◌≡◌, sym, ap, ◌∙◌}
use mathlib.Core.Bool.{Bool, cond}
use lib.ListN.{length}
use Rattle.area.specs.Places.{transfers_from, read_table}
use Rattle.engine_state.specs.State.{engine_in}
use Rattle.engine_due.proofs.PlaceLaws.{Walked, walked}
use Rattle.engine_next.specs.declared.Next.TheVariants.{Sync, Nothing}
use Rattle.engine_next.specs.Next.{first_next}
use Rattle.engine_next.proofs.PlaceLaws.{next_here, next_later, next_none}
use Rattle.engine_next.proofs.first_next.Goals as goal

pub open_count-n-requires : goal.open_count-n-requires
open_count-n-requires c =
    let known : Walked c.args.state.now = walked c.args.state.now c.requires in
    omega (arith, known.long)

pub loop-i-init : goal.loop-i-init
loop-i-init c =
    (omega arith, rw sub-zero)

pub kind_from-kind-requires : goal.kind_from-kind-requires
kind_from-kind-requires c =
    let known : Walked c.args.state.now = walked c.args.state.now c.requires in
    let inside : c.loop-i.i < length (read_table c.args.state.now) = omega (arith, known.count, c.open_count-n.ensures, c.loop-i-test.true) in
    (c.requires, inside)

pub head-requires : goal.head-requires
head-requires c =
    let known : Walked c.args.state.now = walked c.args.state.now c.requires in
    let inside : c.loop-i.i < length (read_table c.args.state.now) = omega (arith, known.count, c.open_count-n.ensures, c.loop-i-test.true) in
    let w = known in (omega (arith, w.long), omega (arith, inside, w.few), omega arith)

pub returns-then-kind-ne0 : goal.returns-then-kind-ne0
returns-then-kind-ne0 c =
    let all : let a = c.args.state.now in first_next (engine_in a) c.args.time c.args.waits c.args.from (transfers_from a 0 c.open_count-n.result) ≡ first_next (engine_in a) c.args.time c.args.waits c.args.from (read_table a) = let a = c.args.state.now in ap (λ (n : ℕ). first_next (engine_in a) c.args.time c.args.waits c.args.from (transfers_from a 0 n)) c.open_count-n.ensures in
    next_here c.args.state.now _ _ _ _ _ c.loop-i-test.true c.requires c.open_count-n.ensures c.kind_from-kind.result c.kind_from-kind.ensures _
    c.loop-i.invariant.1 (omega arith) _ c.head.ensures _ c.page_of-page.ensures _ c.next_by.ensures
    ∙ all

pub loop-i-preserved : goal.loop-i-preserved
loop-i-preserved c = (
  omega arith,
  next_later c.args.state.now _ _ _ _ _ c.loop-i-test.true c.requires c.open_count-n.ensures c.kind_from-kind.result
      c.kind_from-kind.ensures _ c.loop-i.invariant.1 (omega arith),
)

pub returns-then-sync_due : goal.returns-then-sync_due
returns-then-sync_due c =
    let all : let a = c.args.state.now in first_next (engine_in a) c.args.time c.args.waits c.args.from (transfers_from a 0 c.open_count-n.result) ≡ first_next (engine_in a) c.args.time c.args.waits c.args.from (read_table a) = let a = c.args.state.now in ap (λ (n : ℕ). first_next (engine_in a) c.args.time c.args.waits c.args.from (transfers_from a 0 n)) c.open_count-n.ensures in
    let past : let a = c.args.state.now in cond c.sync_due.result Sync Nothing ≡ first_next (engine_in a) c.args.time c.args.waits c.args.from (read_table a) = next_none c.args.state.now _ _ _ _ _ _ c.loop-i-test.false c.loop-i.invariant.1 c.sync_due.result c.sync_due.ensures ∙ all in
    ap (λ (b : Bool). cond b Sync Nothing) (sym c.if-sync_due.true) ∙ past

pub returns : goal.returns
returns c =
    let all : let a = c.args.state.now in first_next (engine_in a) c.args.time c.args.waits c.args.from (transfers_from a 0 c.open_count-n.result) ≡ first_next (engine_in a) c.args.time c.args.waits c.args.from (read_table a) = let a = c.args.state.now in ap (λ (n : ℕ). first_next (engine_in a) c.args.time c.args.waits c.args.from (transfers_from a 0 n)) c.open_count-n.ensures in
    let past : let a = c.args.state.now in cond c.sync_due.result Sync Nothing ≡ first_next (engine_in a) c.args.time c.args.waits c.args.from (read_table a) = next_none c.args.state.now _ _ _ _ _ _ c.loop-i-test.false c.loop-i.invariant.1 c.sync_due.result c.sync_due.ensures ∙ all in
    ap (λ (b : Bool). cond b Sync Nothing) (sym c.if-sync_due.false) ∙ past
