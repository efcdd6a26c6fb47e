-- `engine_meet::meet_open` meets its contract: kept or 18, nothing yet, or what a new transfer meets. Assumes nothing.
use Prim.Native.Nat.{◌<◌, ◌≤◌}
use mathlib.Core.Path.{◌≡◌, ◌∙◌}
use mathlib.Core.Bool.{true}
use native.Mathlib.Omega.{arith}
use Rattle.words.specs.Words.{word_at}
use Rattle.area.specs.Layout.{transfer_places}
use Rattle.area.specs.Judge.{judged}
use Rattle.engine_state.specs.Layout.{state_octets}
use Rattle.engine_state.proofs.StateLaws.{held_known, kept_used}
use lib.ListN.{length}
use Rattle.engine_meet.proofs.SlotLaws.{kept_told, other_waits, other_opens}
use Rattle.refusals.specs.Faults.{refused}
use Rattle.engine_meet.proofs.meet_open.Goals as goal

pub slot_at-slot-requires : goal.slot_at-slot-requires
slot_at-slot-requires c =
    let held : judged c.args.state.now ≡ true = (held_known c.args.state.now c.requires.0).now_judged in
    let known : (state_octets ≤ length c.args.state.now) × (c.args.at < transfer_places) × (0 < word_at c.args.state.now 0) = let a = c.args.state.now in let u = kept_used a c.args.key.id c.args.at held c.requires.1 in ((held_known a c.requires.0).long, omega (arith, u.0, u.1), omega (arith, u.0)) in
    let k = known in (omega (arith, k.0), k.1)

pub key_at-requires : goal.key_at-requires
key_at-requires c =
    let held : judged c.args.state.now ≡ true = (held_known c.args.state.now c.requires.0).now_judged in
    let known : (state_octets ≤ length c.args.state.now) × (c.args.at < transfer_places) × (0 < word_at c.args.state.now 0) = let a = c.args.state.now in let u = kept_used a c.args.key.id c.args.at held c.requires.1 in ((held_known a c.requires.0).long, omega (arith, u.0, u.1), omega (arith, u.0)) in
    let k = known in (omega (arith, k.0), k.1)

pub returns-then-same_digest : goal.returns-then-same_digest
returns-then-same_digest c =
    let g = c.args in
    kept_told g.state.now g.key g.digest g.next (refused g.unwanted) g.at c.requires.1 c.slot_at-slot.result c.slot_at-slot.ensures _ c.same_digest.ensures
    c.if-same_digest.true c.key_at.result c.key_at.ensures _ c.meet_same.ensures

pub busy-requires : goal.busy-requires
busy-requires c =
    let held : judged c.args.state.now ≡ true = (held_known c.args.state.now c.requires.0).now_judged in
    held

pub returns-then-busy : goal.returns-then-busy
returns-then-busy c =
    let g = c.args in
    other_waits g.state.now g.key g.digest g.next (refused g.unwanted) g.at c.requires.1 c.slot_at-slot.result c.slot_at-slot.ensures _ c.same_digest.ensures
    c.if-same_digest.false _ c.busy.ensures c.if-busy.true

pub open_count-others-requires : goal.open_count-others-requires
open_count-others-requires c =
    let held : judged c.args.state.now ≡ true = (held_known c.args.state.now c.requires.0).now_judged in
    let known : (state_octets ≤ length c.args.state.now) × (c.args.at < transfer_places) × (0 < word_at c.args.state.now 0) = let a = c.args.state.now in let u = kept_used a c.args.key.id c.args.at held c.requires.1 in ((held_known a c.requires.0).long, omega (arith, u.0, u.1), omega (arith, u.0)) in
    omega (arith, known.0)

pub overflow_sub-others : goal.overflow_sub-others
overflow_sub-others c =
    let held : judged c.args.state.now ≡ true = (held_known c.args.state.now c.requires.0).now_judged in
    let known : (state_octets ≤ length c.args.state.now) × (c.args.at < transfer_places) × (0 < word_at c.args.state.now 0) = let a = c.args.state.now in let u = kept_used a c.args.key.id c.args.at held c.requires.1 in ((held_known a c.requires.0).long, omega (arith, u.0, u.1), omega (arith, u.0)) in
    omega (arith, c.open_count-others.ensures, known.2)

pub returns : goal.returns
returns c =
    let held : judged c.args.state.now ≡ true = (held_known c.args.state.now c.requires.0).now_judged in
    let known : (state_octets ≤ length c.args.state.now) × (c.args.at < transfer_places) × (0 < word_at c.args.state.now 0) = let a = c.args.state.now in let u = kept_used a c.args.key.id c.args.at held c.requires.1 in ((held_known a c.requires.0).long, omega (arith, u.0, u.1), omega (arith, u.0)) in
    let g = c.args in
    c.meet_new.ensures
    ∙ other_opens g.state.now g.key g.digest g.next (refused g.unwanted) g.at c.requires.1 c.slot_at-slot.result c.slot_at-slot.ensures _ c.same_digest.ensures
    c.if-same_digest.false _ c.busy.ensures c.if-busy.false held _ (omega (arith, c.open_count-others.ensures, known.2))
