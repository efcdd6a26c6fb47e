-- `md5_digest::last_words` meets its contract: the number of bits ends one last block, or two (`ended`). Assumes nothing.
use Rattle.md5_digest.proofs.EndLaws.{ended}
use Rattle.md5_digest.proofs.last_words.Goals as goal

pub returns : goal.returns
returns c =
    let n = c.count-n.result in
    let place = c.number_at-at.ensures in
    ended c.args.state.now c.requires n c.count-n.ensures _ _ _ c.copy_begun.ensures c.write_low_eight.ensures
    place.0 place.1 place.2 _ _ c.four_words-v.ensures c.run_blocks.ensures
