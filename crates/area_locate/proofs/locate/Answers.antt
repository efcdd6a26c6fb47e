-- `area_locate::locate` meets its contract: 12, the refusals of the key, and else the place of the Id. Assumes nothing.
use native.Mathlib.Omega.{arith}
use borrow.Author.Rules.{rules}
use borrow.Author.Tests.{not-true, not-false}
use mathlib.Core.Path.{◌≡◌, refl, sym, ap, ◌∙◌}
use mathlib.Core.Bool.{true}
use Rattle.octets.specs.Numbers.{Octets}
use Rattle.transfer.specs.declared.Key.{Key}
use Rattle.transfer.specs.Record.{stop_of}
use Rattle.transfer.proofs.ExtendLaws.{key_stop}
use Rattle.area.specs.Places.{read_table, KeptAt}
use Rattle.area.proofs.KeptLaws.{place_open, kept_known}
use Rattle.area_locate.specs.Record.{offsets_given}
use Rattle.std.proofs.lemmas.Result.{err_from_is_err_and}
use Rattle.refusals.specs.Faults.{number_of}
use Rattle.refusals.proofs.FaultLaws.{fault_some}
use Rattle.area_locate.proofs.RecordLaws.{fields_missing, fields_refused, fields_extended}
use Rattle.area_locate.proofs.locate.Goals as goal

pub returns-then-not-kept : goal.returns-then-not-kept
returns-then-not-kept c =
    let octets : Octets c.args.area.now = λ i. omega (arith, c.type_inv.area i) in
    fields_missing c.args.area.now c.requires.0 c.args.d c.find_place-kept.result c.find_place-kept.ensures (not-true _ c.if-not-kept.true) octets

pub key_at-key-requires : goal.key_at-key-requires
key_at-key-requires c =
    let open_known : KeptAt c.args.d.id (read_table c.args.area.now) c.find_place-kept.result.at = place_open c.args.d.id (read_table c.args.area.now) c.find_place-kept.result c.find_place-kept.ensures (not-false _ c.if-not-kept.false) in
    kept_known c.args.area.now c.args.d.id _ open_known c.requires.0

pub returns-in_err-key_refusal : goal.returns-in_err-key_refusal
returns-in_err-key_refusal c =
    let octets : Octets c.args.area.now = λ i. omega (arith, c.type_inv.area i) in
    let open_known : KeptAt c.args.d.id (read_table c.args.area.now) c.find_place-kept.result.at = place_open c.args.d.id (read_table c.args.area.now) c.find_place-kept.result c.find_place-kept.ensures (not-false _ c.if-not-kept.false) in
    let f = c.in_err-key_refusal.field-0.0 in
    let p = err_from_is_err_and c.from_residual.result c.from_residual.ensures.1 in
    rw (p.1, p.2)
    (fields_refused c.args.area.now c.requires.0 c.args.d c.find_place-kept.result c.find_place-kept.ensures open_known c.key_at-key.result c.key_at-key.ensures
    (number_of f) c.in_err-key_refusal.ensures (fault_some f) octets)

pub overflow_add-to : goal.overflow_add-to
overflow_add-to c =
    let d = c.args.d in
    let stop = key_stop c.key_at-key.result d (sym c.in_ok-key_refusal.ensures) in
    omega arith

pub returns : goal.returns
returns c =
    let octets : Octets c.args.area.now = λ i. omega (arith, c.type_inv.area i) in
    let open_known : KeptAt c.args.d.id (read_table c.args.area.now) c.find_place-kept.result.at = place_open c.args.d.id (read_table c.args.area.now) c.find_place-kept.result c.find_place-kept.ensures (not-false _ c.if-not-kept.false) in
    let d = c.args.d in
    let a = c.args.area.now in
    let p = c.find_place-kept.result.at in (
      record {
        held = c.requires.0;
        there = open_known.inside;
        some = let z = c.requires.1 in omega arith;
        length_is = ap (λ (x : Key). x.length) c.key_at-key.ensures;
      },
      λ y.
          ap (λ (x : Key). offsets_given a p x d.offset (stop_of d) y) (sym c.key_at-key.ensures)
          ∙ fields_extended a c.requires.0 d c.find_place-kept.result c.find_place-kept.ensures open_known c.key_at-key.result c.key_at-key.ensures
          0 c.in_ok-key_refusal.ensures refl octets y,
    )
