-- `area_merge::merge_tables` meets its contract: 12 for either table, 13 and 18, and else what the joined runs give.
-- Assumes nothing.
use borrow.Author.Rules.{rules}
use native.Mathlib.Omega.{arith}
use borrow.Author.Tests.{not-true, not-false}
use mathlib.Core.Path.{refl, ap, ◌∙◌}
use Rattle.octets.specs.Numbers.{Octets}
use Rattle.area.specs.Places.{read_table, KeptAt}
use Rattle.area.proofs.KeptLaws.{place_open, kept_known}
use Rattle.area_union.proofs.JoinLaws.{both, both_as}
use Rattle.area_merge.proofs.MergeLaws.{first_missing, second_missing, other_key, merge_joined}
use Rattle.std.specs.Prelude.{Err}
use Rattle.std.proofs.lemmas.Result.{err_from_is_err_and}
use Rattle.refusals.proofs.FaultLaws.{fault_some}
use Rattle.area_merge.proofs.merge_tables.Goals as goal

pub returns-then-not-place : goal.returns-then-not-place
returns-then-not-place c =
    let octets : Octets c.args.area.now = λ i. (c.slice_known-1.given i).fits in
    both (ap Err c.into.ensures)
    (first_missing c.args.area.now c.args.other.now c.args.id c.requires.0 c.requires.1 octets
    c.find_place-place.result c.find_place-place.ensures (not-true _ c.if-not-place.true))

pub returns-then-not-source : goal.returns-then-not-source
returns-then-not-source c =
    let octets : Octets c.args.area.now = λ i. (c.slice_known-1.given i).fits in
    let first_open : KeptAt c.args.id (read_table c.args.area.now) c.find_place-place.result.at = place_open c.args.id (read_table c.args.area.now) c.find_place-place.result c.find_place-place.ensures (not-false _ c.if-not-place.false) in
    both (ap Err c.into-then-not-source.ensures)
    (second_missing c.args.area.now c.args.other.now c.args.id c.requires.0 c.requires.1 octets _ first_open
    c.find_place-source.result c.find_place-source.ensures (not-true _ c.if-not-source.true))

pub key_at-key-requires : goal.key_at-key-requires
key_at-key-requires c =
    let first_open : KeptAt c.args.id (read_table c.args.area.now) c.find_place-place.result.at = place_open c.args.id (read_table c.args.area.now) c.find_place-place.result c.find_place-place.ensures (not-false _ c.if-not-place.false) in
    kept_known c.args.area.now c.args.id _ first_open c.requires.0

pub key_at-requires : goal.key_at-requires
key_at-requires c =
    let second_open : KeptAt c.args.id (read_table c.args.other.now) c.find_place-source.result.at = place_open c.args.id (read_table c.args.other.now) c.find_place-source.result c.find_place-source.ensures (not-false _ c.if-not-source.false) in
    kept_known c.args.other.now c.args.id _ second_open c.requires.1

pub returns-in_err-keys_refusal : goal.returns-in_err-keys_refusal
returns-in_err-keys_refusal c =
    let octets : Octets c.args.area.now = λ i. (c.slice_known-1.given i).fits in
    let first_open : KeptAt c.args.id (read_table c.args.area.now) c.find_place-place.result.at = place_open c.args.id (read_table c.args.area.now) c.find_place-place.result c.find_place-place.ensures (not-false _ c.if-not-place.false) in
    let second_open : KeptAt c.args.id (read_table c.args.other.now) c.find_place-source.result.at = place_open c.args.id (read_table c.args.other.now) c.find_place-source.result c.find_place-source.ensures (not-false _ c.if-not-source.false) in
    let f = c.in_err-keys_refusal.field-0.0 in
    let p = err_from_is_err_and c.from_residual.result c.from_residual.ensures.1 in
    both (p.1 ∙ ap Err p.2)
    (other_key c.args.area.now c.args.other.now c.args.id c.requires.0 c.requires.1 octets _ first_open _ second_open
    c.key_at-key.result c.key_at.result c.key_at-key.ensures c.key_at.ensures _ c.in_err-keys_refusal.ensures (fault_some f))

pub join_places-requires : goal.join_places-requires
join_places-requires c =
    let first_open : KeptAt c.args.id (read_table c.args.area.now) c.find_place-place.result.at = place_open c.args.id (read_table c.args.area.now) c.find_place-place.result c.find_place-place.ensures (not-false _ c.if-not-place.false) in
    let second_open : KeptAt c.args.id (read_table c.args.other.now) c.find_place-source.result.at = place_open c.args.id (read_table c.args.other.now) c.find_place-source.result c.find_place-source.ensures (not-false _ c.if-not-source.false) in
    (c.requires.0, first_open.inside, c.requires.1, second_open.inside)

pub returns : goal.returns
returns c =
    let octets : Octets c.args.area.now = λ i. (c.slice_known-1.given i).fits in
    let first_open : KeptAt c.args.id (read_table c.args.area.now) c.find_place-place.result.at = place_open c.args.id (read_table c.args.area.now) c.find_place-place.result c.find_place-place.ensures (not-false _ c.if-not-place.false) in
    let second_open : KeptAt c.args.id (read_table c.args.other.now) c.find_place-source.result.at = place_open c.args.id (read_table c.args.other.now) c.find_place-source.result c.find_place-source.ensures (not-false _ c.if-not-source.false) in
    both_as c.join_places.ensures
    (merge_joined c.args.area.now c.args.other.now c.args.id c.requires.0 c.requires.1 octets _ first_open _ second_open
    c.key_at-key.result c.key_at.result c.key_at-key.ensures c.key_at.ensures _ c.in_ok-keys_refusal.ensures refl)
