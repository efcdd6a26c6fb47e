-- `area_listing::transfer` meets its contract: 22, then 12, then the transfer with the index.
-- Assumes nothing.
use Prim.Native.Nat.{◌<◌}
use mathlib.Core.Path.{◌≡◌, sym, ap, ◌∙◌}
use mathlib.Core.Bool.{true}
use borrow.Author.Rules.{rules}
use borrow.Author.Tests.{not-true, not-false}
use native.Mathlib.Omega.{arith}
use Rattle.words.specs.Words.{word_at}
use Rattle.area.specs.Judge.{judged}
use Rattle.area.proofs.JudgeLaws.{judged_passed}
use Rattle.area.proofs.AreaLaws.{judged_unheld}
use Rattle.area.proofs.UsedLaws.{used_place}
use Rattle.area_listing.proofs.ListingLaws.{listed_unheld, listed_past_count, listed_at}
use Rattle.std.specs.Prelude.{Ok}
use Rattle.area_listing.proofs.transfer.Goals as goal

pub returns-then-not-judge : goal.returns-then-not-judge
returns-then-not-judge c =
    let a = c.args in
    let j = c.judge in
    rw c.into.ensures (sym (listed_unheld a.area.now a.index (judged_unheld a.area.now (sym j.ensures ∙ c.if-not-judge.true))))

pub open_count-requires : goal.open_count-requires
open_count-requires c =
    let passed : judged c.args.area.now ≡ true = sym c.judge.ensures ∙ c.if-not-judge.false in
    (judged_passed c.args.area.now passed).0

pub returns-then-open_count-index : goal.returns-then-open_count-index
returns-then-open_count-index c =
    let passed : judged c.args.area.now ≡ true = sym c.judge.ensures ∙ c.if-not-judge.false in
    let a = c.args in
    rw c.into-then-open_count-index.ensures (sym (listed_past_count a.area.now a.index passed (omega (arith, c.open_count.ensures))))

pub listing_at-requires : goal.listing_at-requires
listing_at-requires c =
    let passed : judged c.args.area.now ≡ true = sym c.judge.ensures ∙ c.if-not-judge.false in
    let below : c.args.index < word_at c.args.area.now 0 = omega (arith, c.open_count.ensures) in
    let a = c.args in
    used_place a.area.now a.index passed below

pub returns : goal.returns
returns c =
    let passed : judged c.args.area.now ≡ true = sym c.judge.ensures ∙ c.if-not-judge.false in
    let below : c.args.index < word_at c.args.area.now 0 = omega (arith, c.open_count.ensures) in
    let a = c.args in
    ap Ok c.listing_at.ensures ∙ sym (listed_at a.area.now a.index passed below)
