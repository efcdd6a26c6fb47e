-- `engine_state::same_file` meets its contract: it is open here, and there, and then the files are compared. Assumes nothing.
use Prim.Native.Nat.{ℕ, ◌≤◌}
use mathlib.Core.Path.{◌≡◌, sym, ap, subst, ◌∙◌}
use mathlib.Core.List.{List}
use native.Mathlib.Omega.{arith}
use borrow.Author.Rules.{rules}
use borrow.Author.Tests.{not-true, not-false}
use lib.ListN.{length, drop, length-drop}
use Rattle.area.specs.Places.{read_table, place_in, KeptAt}
use Rattle.area.specs.Judge.{judged}
use Rattle.area.proofs.KeptLaws.{place_open}
use Rattle.engine_slots.specs.Layout.{snapshot_octets}
use Rattle.engine_slots.specs.Slots.{slot_at}
use Rattle.engine_state.specs.Layout.{synced_octet}
use Rattle.engine_state.proofs.StateLaws.{rest_is, Held, held_known, open_told, same_none, same_gone, same_files, kept_used}
use Rattle.engine_state.proofs.same_file.Goals as goal

pub find_place-here-requires : goal.find_place-here-requires
find_place-here-requires c =
    let known : Held c.args.state.now = held_known c.args.state.now c.requires in
    known.now_judged

pub returns-then-not-here : goal.returns-then-not-here
returns-then-not-here c =
    let known : Held c.args.state.now = held_known c.args.state.now c.requires in
    let a = c.args.state.now in
    same_none a (drop synced_octet a) c.args.id
    (sym (open_told a c.args.id known.now_judged c.find_place-here.result c.find_place-here.ensures) ∙ not-true c.find_place-here.result.«open» c.if-not-here.true)

pub slice_bounds-synced-count : goal.slice_bounds-synced-count
slice_bounds-synced-count c =
    let known : Held c.args.state.now = held_known c.args.state.now c.requires in
    omega (arith, known.long)

pub slice_bounds-synced-start : goal.slice_bounds-synced-start
slice_bounds-synced-start c =
    let known : Held c.args.state.now = held_known c.args.state.now c.requires in
    omega (arith, known.long)

pub find_place-there-requires : goal.find_place-there-requires
find_place-there-requires c =
    let known : Held c.args.state.now = held_known c.args.state.now c.requires in
    ap judged (rest_is synced_octet c.args.state.now) ∙ known.synced_judged

pub returns-then-not-there : goal.returns-then-not-there
returns-then-not-there c =
    let known : Held c.args.state.now = held_known c.args.state.now c.requires in
    let here : KeptAt c.args.id (read_table c.args.state.now) c.find_place-here.result.at = place_open c.args.id (read_table c.args.state.now) c.find_place-here.result c.find_place-here.ensures (not-false c.find_place-here.result.«open» c.if-not-here.false) in
    let found : c.find_place-there.result ≡ place_in c.args.id (read_table (drop synced_octet c.args.state.now)) = c.find_place-there.ensures ∙ ap (λ (l : List ℕ). place_in c.args.id (read_table l)) (rest_is synced_octet c.args.state.now) in
    let a = c.args.state.now in
    same_gone a (drop synced_octet a) c.args.id _ here
    (sym (open_told (drop synced_octet a) c.args.id known.synced_judged c.find_place-there.result found)
    ∙ not-true c.find_place-there.result.«open» c.if-not-there.true)

pub slot_at-requires : goal.slot_at-requires
slot_at-requires c =
    let known : Held c.args.state.now = held_known c.args.state.now c.requires in
    let here : KeptAt c.args.id (read_table c.args.state.now) c.find_place-here.result.at = place_open c.args.id (read_table c.args.state.now) c.find_place-here.result c.find_place-here.ensures (not-false c.find_place-here.result.«open» c.if-not-here.false) in
    let k = known in
    let u = kept_used c.args.state.now c.args.id _ k.now_judged here in
    (omega (arith, k.long), omega arith)

pub slot_at-requires-2 : goal.slot_at-requires-2
slot_at-requires-2 c =
    let known : Held c.args.state.now = held_known c.args.state.now c.requires in
    let found : c.find_place-there.result ≡ place_in c.args.id (read_table (drop synced_octet c.args.state.now)) = c.find_place-there.ensures ∙ ap (λ (l : List ℕ). place_in c.args.id (read_table l)) (rest_is synced_octet c.args.state.now) in
    let there : KeptAt c.args.id (read_table (drop synced_octet c.args.state.now)) c.find_place-there.result.at = place_open c.args.id (read_table (drop synced_octet c.args.state.now)) c.find_place-there.result found (not-false c.find_place-there.result.«open» c.if-not-there.false) in
    let a = c.args.state.now in
    let k = known in
    let u = kept_used (drop synced_octet a) c.args.id _ k.synced_judged there in
    let l : snapshot_octets ≤ length (drop synced_octet a) = omega (arith, length-drop synced_octet a, k.long) in
    (subst (λ (x : List ℕ). snapshot_octets ≤ length x) (sym (rest_is synced_octet a)) l, omega arith)

pub returns : goal.returns
returns c =
    let here : KeptAt c.args.id (read_table c.args.state.now) c.find_place-here.result.at = place_open c.args.id (read_table c.args.state.now) c.find_place-here.result c.find_place-here.ensures (not-false c.find_place-here.result.«open» c.if-not-here.false) in
    let found : c.find_place-there.result ≡ place_in c.args.id (read_table (drop synced_octet c.args.state.now)) = c.find_place-there.ensures ∙ ap (λ (l : List ℕ). place_in c.args.id (read_table l)) (rest_is synced_octet c.args.state.now) in
    let there : KeptAt c.args.id (read_table (drop synced_octet c.args.state.now)) c.find_place-there.result.at = place_open c.args.id (read_table (drop synced_octet c.args.state.now)) c.find_place-there.result found (not-false c.find_place-there.result.«open» c.if-not-there.false) in
    let a = c.args.state.now in
    same_files a (drop synced_octet a) c.args.id _ here _ there c.slot_at.result c.slot_at-2.result c.slot_at.ensures
    (c.slot_at-2.ensures ∙ ap (λ (l : List ℕ). slot_at l c.find_place-there.result.at) (rest_is synced_octet a))
