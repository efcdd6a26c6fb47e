-- `md5_blocks::run_blocks` meets its contract: it is a fold over the whole blocks (`fold_run`). Assumes nothing.
use Rattle.std.proofs.Common.{rules, ◌≡◌, ◌∙◌, refl}
use Rattle.std.specs.List.{fold}
use Rattle.std.proofs.lemmas.Fn.{fold_over, fronts, slice_gives}
use Rattle.std.proofs.lemmas.Grind.{fold-append}
use Rattle.md5_blocks.specs.Md5.{after_block}
use Rattle.md5_blocks.proofs.BlockLaws.{fold_run}
use Rattle.md5_blocks.proofs.run_blocks.Goals as goal

pub returns : goal.returns
returns c =
    let v = c.args.v in
    let s = c.args.s.now in
    let folded : c.fold.result ≡ fold after_block v c.iter.result.rest.now =
    fold_over fronts (λ y. y.now) _ (λ ys a. a ≡ fold after_block v ys) _
    (λ ys a x b f' j k. (rw (fold-append, ← j) k.met, search rules))
    _ _ _ _ (slice_gives c.iter.result) refl c.fold.ensures.ran in
    folded ∙ rw (c.iter.ensures.rest, c.as_chunks.ensures.front) (fold_run v s)
