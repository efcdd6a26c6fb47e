-- `engine_may::may_report` meets its contract: where the page is complete on disk, its slot there is looked at. Assumes nothing.
use Prim.Native.Nat.{ℕ, ◌≤◌}
use native.Mathlib.Omega.{arith}
use mathlib.Core.Path.{◌≡◌, sym, ap, subst, ◌∙◌}
use mathlib.Core.Bool.{true}
use mathlib.Core.List.{List}
use lib.ListN.{length, drop, length-drop}
use Rattle.area.specs.Judge.{judged}
use Rattle.engine_slots.specs.Layout.{snapshot_octets}
use Rattle.engine_state.specs.Layout.{synced_octet}
use Rattle.engine_state.proofs.StateLaws.{rest_is, Held, held_known}
use Rattle.engine_may.proofs.MayLaws.{rest, report_not, place_few, report_complete}
use Rattle.engine_may.proofs.may_report.Goals as goal

pub slice_bounds-synced-count : goal.slice_bounds-synced-count
slice_bounds-synced-count c =
    let known : Held c.args.state.now = held_known c.args.state.now c.requires in
    omega (arith, known.long)

pub slice_bounds-synced-start : goal.slice_bounds-synced-start
slice_bounds-synced-start c =
    let known : Held c.args.state.now = held_known c.args.state.now c.requires in
    omega (arith, known.long)

pub is_complete-requires : goal.is_complete-requires
is_complete-requires c =
    let known : Held c.args.state.now = held_known c.args.state.now c.requires in
    let synced : judged (rest c.args.state.now) ≡ true = ap judged (rest_is synced_octet c.args.state.now) ∙ known.synced_judged in
    synced

pub returns-then-not-is_complete : goal.returns-then-not-is_complete
returns-then-not-is_complete c =
    report_not c.args.state.now _ c.is_complete.result c.is_complete.ensures
    (c.if-not-is_complete.true)

pub find_place-at-requires : goal.find_place-at-requires
find_place-at-requires c =
    let known : Held c.args.state.now = held_known c.args.state.now c.requires in
    let synced : judged (rest c.args.state.now) ≡ true = ap judged (rest_is synced_octet c.args.state.now) ∙ known.synced_judged in
    synced

pub slot_at-requires : goal.slot_at-requires
slot_at-requires c =
    let known : Held c.args.state.now = held_known c.args.state.now c.requires in
    let a = c.args.state.now in
    let l : snapshot_octets ≤ length (drop synced_octet a) = omega (arith, length-drop synced_octet a, known.long) in (
      subst (λ (x : List ℕ). snapshot_octets ≤ length x) (sym (rest_is synced_octet a)) l,
      place_few a _ c.is_complete.result c.is_complete.ensures c.requires (c.if-not-is_complete.false) c.find_place-at.result c.find_place-at.ensures,
    )

pub returns : goal.returns
returns c =
    report_complete c.args.state.now _ c.is_complete.result c.is_complete.ensures c.requires (c.if-not-is_complete.false)
    c.find_place-at.result c.find_place-at.ensures c.slot_at.result c.slot_at.ensures
