-- `md5_verdict::agrees` meets its contract: the digest is written whole into 16 octets (`digest_same`). Assumes nothing.
use Rattle.md5_verdict.proofs.VerdictLaws.{digest_same}
use Rattle.md5_verdict.proofs.agrees.Goals as goal

pub returns : goal.returns
returns c = digest_same c.args.packet.now c.args.state.now _ _ _ c.eq.ensures c.last_words.ensures c.write_words.ensures
