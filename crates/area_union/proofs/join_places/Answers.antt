-- `area_union::join_places` meets its contract: 16 where the joined runs are too many, and else they are put. Assumes nothing.
use borrow.Author.Rules.{rules}
use native.Mathlib.Omega.{arith}
use Prim.Native.Nat.{ℕ, ◌≤◌}
use mathlib.Core.Path.{◌≡◌, refl, ap, ◌∙◌}
use lib.ListN.{length, length-replicate}
use Rattle.area.specs.Layout.{run_places}
use Rattle.area_union.proofs.JoinLaws.{both, place_known, rows_fine, join_over, join_fit, join_done}
use Rattle.std.specs.Prelude.{Err}
use Rattle.area_union.proofs.join_places.Goals as goal

pub rows_at-x-requires : goal.rows_at-x-requires
rows_at-x-requires c =
    place_known c.args.area.now c.args.at c.requires.0 c.requires.1

pub rows_at-y-requires : goal.rows_at-y-requires
rows_at-y-requires c =
    place_known c.args.other.now c.args.from c.requires.2 c.requires.3

pub join_rows-n-requires : goal.join_rows-n-requires
join_rows-n-requires c = (
  rows_fine c.args.area.now c.args.at c.requires.0 c.requires.1 _ c.rows_at-x.ensures,
  rows_fine c.args.other.now c.args.from c.requires.2 c.requires.3 _ c.rows_at-y.ensures,
)

pub returns-then-n-gt-RUNS : goal.returns-then-n-gt-RUNS
returns-then-n-gt-RUNS c =
    both (ap Err c.into.ensures)
    (join_over c.args.area.now c.args.at c.requires.0 c.requires.1 _ c.rows_at-x.ensures c.args.other.now c.args.from c.requires.2 c.requires.3
    _ c.rows_at-y.ensures _ _ _ c.join_rows-n.ensures c.args.key (omega arith))

pub put_runs-requires : goal.put_runs-requires
put_runs-requires c =
    let sizes : (length c.join_rows-n.new.starts ≡ 64) × (length c.join_rows-n.new.stops ≡ 64) = (c.join_rows-n.auto.starts ∙ length-replicate {A = ℕ} 64 0, c.join_rows-n.auto.stops ∙ length-replicate {A = ℕ} 64 0) in
    let room : let n = c.join_rows-n.result in (n ≤ run_places) × (n ≤ length c.join_rows-n.new.starts) × (n ≤ length c.join_rows-n.new.stops) = let z = sizes in (omega arith, omega arith, omega arith) in
    let k = place_known c.args.area.now c.args.at c.requires.0 c.requires.1 in
    let l = place_known c.args.other.now c.args.from c.requires.2 c.requires.3 in
    let z = room in
    (k.0, omega arith, z.0, z.1, z.2)

pub reached_in-requires : goal.reached_in-requires
reached_in-requires c =
    let sizes : (length c.join_rows-n.new.starts ≡ 64) × (length c.join_rows-n.new.stops ≡ 64) = (c.join_rows-n.auto.starts ∙ length-replicate {A = ℕ} 64 0, c.join_rows-n.auto.stops ∙ length-replicate {A = ℕ} 64 0) in
    let room : let n = c.join_rows-n.result in (n ≤ run_places) × (n ≤ length c.join_rows-n.new.starts) × (n ≤ length c.join_rows-n.new.stops) = let z = sizes in (omega arith, omega arith, omega arith) in
    let z = room in
    join_fit c.args.area.now c.args.at c.requires.0 c.requires.1 _ c.rows_at-x.ensures c.args.other.now c.args.from c.requires.2 c.requires.3
    _ c.rows_at-y.ensures _ _ _ c.join_rows-n.ensures c.args.key z.0 _ c.put_runs.ensures.size

pub returns : goal.returns
returns c =
    let sizes : (length c.join_rows-n.new.starts ≡ 64) × (length c.join_rows-n.new.stops ≡ 64) = (c.join_rows-n.auto.starts ∙ length-replicate {A = ℕ} 64 0, c.join_rows-n.auto.stops ∙ length-replicate {A = ℕ} 64 0) in
    let room : let n = c.join_rows-n.result in (n ≤ run_places) × (n ≤ length c.join_rows-n.new.starts) × (n ≤ length c.join_rows-n.new.stops) = let z = sizes in (omega arith, omega arith, omega arith) in
    let z = room in
    both refl
    (join_done c.args.area.now c.args.at c.requires.0 c.requires.1 _ c.rows_at-x.ensures c.args.other.now c.args.from c.requires.2 c.requires.3
    _ c.rows_at-y.ensures _ _ _ c.join_rows-n.ensures c.args.key z.0 z.1 z.2 _ c.put_runs.ensures
    _ c.reached_in.ensures (λ i. (c.slice_known-1.given i).fits) (λ i. (c.slice_known-2-1.given i).fits))
