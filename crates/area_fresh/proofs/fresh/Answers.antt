-- `area_fresh::fresh` meets its contract: 20, or every number of the layout 0. Assumes nothing.
use native.Mathlib.Omega.{arith}
use borrow.Author.Rules.{rules}
use mathlib.Core.Path.{sym, ap, ◌∙◌}
use Rattle.area.specs.Layout.{id_field, head_at, run_at, half_at}
use Rattle.area.specs.Operations.{OnArea}
use Rattle.area.proofs.OperationLaws.{fresh_refused, fresh_done}
use Rattle.area_fresh.proofs.FreshLaws.{words_at_lem, fresh_stored}
use Rattle.std.specs.Prelude.{Result, Err, ⊤}
use Rattle.refusals.specs.declared.Refusal.{Refusal}
use Rattle.area_fresh.proofs.fresh.Goals as goal

pub returns-then-area-lt-AREA_OCTETS : goal.returns-then-area-lt-AREA_OCTETS
returns-then-area-lt-AREA_OCTETS c =
    let e = fresh_refused c.args.area.now (omega arith) in (
      ap Err c.into.ensures ∙ sym (ap (λ (f : OnArea (Result ⊤ Refusal)). f.answer) e),
      sym (ap (λ (f : OnArea (Result ⊤ Refusal)). f.area) e),
    )

pub returns : goal.returns
returns c =
    let a = c.args.area.now in
    let e = fresh_done a (omega arith) in (
      sym (ap (λ (f : OnArea (Result ⊤ Refusal)). f.answer) e),
      fresh_stored a _ _ _ _ _ c.no_numbers-n.result c.no_numbers-n.ensures (omega arith) c.put_word.ensures
          (words_at_lem (head_at 0 id_field) c.put_words.ensures c.head_at.ensures)
          (words_at_lem (run_at 0 0 0) c.put_words-2.ensures c.starts_at.ensures)
          (words_at_lem (run_at 1 0 0) c.put_words-3.ensures c.stops_at.ensures)
          (words_at_lem (half_at 0 0) c.put_words-4.ensures c.stamp_at.ensures)
          (λ i. (c.slice_known-6-1.given i).fits)
          ∙ sym (ap (λ (f : OnArea (Result ⊤ Refusal)). f.area) e),
    )
