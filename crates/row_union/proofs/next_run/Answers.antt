-- `row_union::next_run` meets its contract: the next run of the first rows where it starts no later, and else that of the second.
-- Assumes nothing.
use native.Mathlib.Omega.{arith}
use Rattle.row_union.proofs.StepLaws.{first_there, second_there, step_first, step_second}
use Rattle.row_union.proofs.next_run.Goals as goal

pub returns-then-first-second : goal.returns-then-first-second
returns-then-first-second c =
    let a = c.args in
    let r = c.requires in
    let there = first_there a.a.now a.x a.i a.first a.b.now a.y a.j a.second r.0 r.1 r.2 r.3 r.4 (λ i. (c.shared_slice_known-2-1.given i).fits) (omega arith) in
    step_first a.a.now a.x a.i a.first a.b.now a.y a.j a.second r.0 r.1 r.2 r.3 r.4 _ _ there c.word.ensures (omega arith) c.start_ahead.ensures

pub returns : goal.returns
returns c =
    let a = c.args in
    let r = c.requires in
    let there = second_there a.a.now a.x a.i a.first a.b.now a.y a.j a.second r.0 r.1 r.2 r.3 r.4 (λ i. (c.shared_slice_known-1.given i).fits) (omega arith) in
    step_second a.a.now a.x a.i a.first a.b.now a.y a.j a.second r.0 r.1 r.2 r.3 r.4 _ _ there c.word-2.ensures (omega arith) c.start_ahead-2.ensures
