-- `marked_runs::skip_octets` meets its contract: an octet that is blank is passed over, and after the last octet of a word the words after it.
-- Assumes nothing.
use mathlib.Core.Path.{◌≡◌}
use native.Mathlib.Omega.{arith}
use lib.ListN.{get_or}
use Rattle.marks.specs.Walk.{blank_octet}
use Rattle.marked_runs.proofs.WalkLaws.{octets_passed, octets_skipped}
use Rattle.marked_runs.proofs.skip_octets.Goals as goal

pub loop-k-preserved-then-k-eq0 : goal.loop-k-preserved-then-k-eq0
loop-k-preserved-then-k-eq0 c =
    let is_blank : let a = c.args in get_or a.marks.now c.loop-k.k 0 ≡ blank_octet a.wanted = omega (arith, c.blank_octet-blank.ensures) in
    let a = c.args in (
      octets_skipped a.marks.now a.wanted a.from c.loop-k.k c.skip_words-k.result is_blank (omega arith) c.loop-k.invariant.0 c.skip_words-k.ensures.0,
      omega (arith, c.skip_words-k.ensures.1),
    )

pub loop-k-preserved : goal.loop-k-preserved
loop-k-preserved c =
    let is_blank : let a = c.args in get_or a.marks.now c.loop-k.k 0 ≡ blank_octet a.wanted = omega (arith, c.blank_octet-blank.ensures) in
    let a = c.args in
    (octets_passed a.marks.now a.wanted a.from c.loop-k.k is_blank c.loop-k.invariant.0, omega arith)
