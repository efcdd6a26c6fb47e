-- `md5_feed::feed` meets its contract, where the part fills the block begun (`add_long`). Assumes nothing.
use Rattle.std.proofs.Common.{refl, arith}
use Rattle.md5_feed.proofs.FeedLaws.{add_long}
use Rattle.md5_feed.proofs.feed.Goals as goal

pub returns : goal.returns
returns c =
    let cut = c.split_at.ensures in
    add_long c.args.state.now c.args.part.now _ _ _ _ c.count-n.result _ c.requires c.count-n.ensures c.four_words-v.ensures refl
    c.copy_begun.ensures _ _ _ _ _ _ (omega (arith, c.if-part-room.false)) cut.front cut.back
    c.copy_into-2.ensures c.run_blocks-w.ensures c.run_blocks-x.ensures c.as_chunks.ensures.back
    c.copy_into-3.ensures c.store-2.ensures
