-- `varint::read` meets its contract: nothing wraps, and each octet goes from what is left to what was read. Assumes nothing.
use Rattle.std.proofs.Common.{◌+◌, ◌*◌, ◌-◌, ◌^◌, ◌<◌, arith}
use Rattle.std.proofs.lemmas.List.{take_rest}
use Rattle.varint.proofs.ReadingLaws.{last_fits, next_below, next_scale, reading_next}
use Rattle.varint.proofs.read.Goals as goal

last : (c : goal.Then-x-lt128) → c.loop-k.value + c.from-x.result * c.loop-k.scale < 2 ^ 64
last c = last_fits _ _ _ _ _ c.loop-k.invariant (rw take_rest at c.loop-k-test.true) (rw take_rest at c.from-x.ensures) c.in_ok-octet_refusal.ensures c.if-x-lt128.true

next : (c : goal.Else-x-lt128) → let l = c.loop-k in (l.value + (c.from-x.result - 128) * l.scale < l.scale * 128) × (l.scale * 128 < 2 ^ 64)
next c =
    let i = c.loop-k.invariant in
    let here = rw take_rest at c.loop-k-test.true in
    let is = rw take_rest at c.from-x.ensures in
    let none = c.in_ok-octet_refusal.ensures in
    let more = c.if-x-lt128.false in
    (next_below _ _ _ _ _ i here is none more (omega arith), next_scale _ _ _ _ _ i here is none more (omega arith))

pub overflow_mul-result : goal.overflow_mul-result
overflow_mul-result c = omega (arith, last c)

pub overflow_add-result : goal.overflow_add-result
overflow_add-result c = omega (arith, last c)

pub overflow_mul-value : goal.overflow_mul-value
overflow_mul-value c = omega (arith, next c)

pub overflow_add-value : goal.overflow_add-value
overflow_add-value c = omega (arith, next c)

pub overflow_mul-scale : goal.overflow_mul-scale
overflow_mul-scale c = omega (arith, next c)

pub loop-k-preserved : goal.loop-k-preserved
loop-k-preserved c =
    reading_next _ _ _ _ _ c.loop-k.invariant (rw take_rest at c.loop-k-test.true) (rw take_rest at c.from-x.ensures) c.in_ok-octet_refusal.ensures c.if-x-lt128.false (omega arith)
