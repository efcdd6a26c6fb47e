-- `engine_next::page_of` meets its contract: where the Id is open on disk, its file and its length there. Assumes nothing.
use Prim.Native.Nat.{ℕ, ◌≤◌}
use native.Mathlib.Omega.{arith}
use borrow.Author.Tests.{not-true, not-false}
use mathlib.Core.Path.{refl, sym, ap, subst, ◌∙◌}
use mathlib.Core.List.{List}
use lib.ListN.{length, drop, length-drop}
use Rattle.area.specs.Judge.{judged}
use Rattle.engine_slots.specs.Layout.{snapshot_octets}
use Rattle.engine_state.specs.Layout.{synced_octet}
use Rattle.engine_state.proofs.StateLaws.{rest_is, Held, held_known}
use Rattle.engine_may.proofs.MayLaws.{rest}
use Rattle.engine_next.proofs.PageLaws.{page_none, page_few, page_kept}
use Rattle.engine_next.proofs.page_of.Goals as goal

pub slice_bounds-synced-count : goal.slice_bounds-synced-count
slice_bounds-synced-count c =
    let known : Held c.args.state.now = held_known c.args.state.now c.requires in
    omega (arith, known.long)

pub slice_bounds-synced-start : goal.slice_bounds-synced-start
slice_bounds-synced-start c =
    let known : Held c.args.state.now = held_known c.args.state.now c.requires in
    omega (arith, known.long)

pub find_place-kept-requires : goal.find_place-kept-requires
find_place-kept-requires c =
    let known : Held c.args.state.now = held_known c.args.state.now c.requires in
    ap judged (rest_is synced_octet c.args.state.now) ∙ known.synced_judged

pub returns-then-not-kept : goal.returns-then-not-kept
returns-then-not-kept c =
    page_none c.args.state.now _ c.requires c.find_place-kept.result c.find_place-kept.ensures
    (not-true c.find_place-kept.result.«open» c.if-not-kept.true) _ refl

pub slot_at-requires : goal.slot_at-requires
slot_at-requires c =
    let known : Held c.args.state.now = held_known c.args.state.now c.requires in
    let long : snapshot_octets ≤ length (rest c.args.state.now) = let a = c.args.state.now in let l : snapshot_octets ≤ length (drop synced_octet a) = omega (arith, length-drop synced_octet a, known.long) in subst (λ (x : List ℕ). snapshot_octets ≤ length x) (sym (rest_is synced_octet a)) l in (
      long,
      page_few c.args.state.now _ c.requires c.find_place-kept.result c.find_place-kept.ensures
          (not-false c.find_place-kept.result.«open» c.if-not-kept.false),
    )

pub head-requires : goal.head-requires
head-requires c =
    let known : Held c.args.state.now = held_known c.args.state.now c.requires in
    let long : snapshot_octets ≤ length (rest c.args.state.now) = let a = c.args.state.now in let l : snapshot_octets ≤ length (drop synced_octet a) = omega (arith, length-drop synced_octet a, known.long) in subst (λ (x : List ℕ). snapshot_octets ≤ length x) (sym (rest_is synced_octet a)) l in (
      omega (arith, long),
      page_few c.args.state.now _ c.requires c.find_place-kept.result c.find_place-kept.ensures
          (not-false c.find_place-kept.result.«open» c.if-not-kept.false),
      omega arith,
    )

pub returns : goal.returns
returns c =
    page_kept c.args.state.now _ c.requires c.find_place-kept.result c.find_place-kept.ensures
    (not-false c.find_place-kept.result.«open» c.if-not-kept.false) c.slot_at.result c.head.result c.slot_at.ensures c.head.ensures
