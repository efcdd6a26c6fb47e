-- `area_join::join` meets its contract: the joined run, the edge and completeness after the splice, and whether it is new.
-- Assumes nothing.
use native.Mathlib.Omega.{arith}
use Prim.Native.Nat.{ℕ, ◌≤◌}
use mathlib.Core.Path.{◌≡◌, refl, sym, ap, ◌∙◌}
use lib.ListN.{length}
use lib.Dec.{leb}
use Rattle.run_rows.specs.Rows.{runs_in, CutTo, CutBelow}
use Rattle.run_rows.specs.declared.Rows.{Rows}
use Rattle.run_rows.proofs.RowsLaws.{length_runs}
use Rattle.transfer.specs.declared.Reached.{Reached}
use Rattle.area.specs.Places.{key_at, rows_at}
use Rattle.area_join.proofs.ExtendLaws.{PlaceKnown, known, extend_taken}
use Rattle.area_join.proofs.AheadLaws.{reached_with}
use Rattle.area_join.proofs.join.Goals as goal

pub rows_at-rows-requires : goal.rows_at-rows-requires
rows_at-rows-requires c =
    let place : let a = c.args.area.now in let t = c.args.t in PlaceKnown a t.place c.requires.0.held c.requires.0.there (rows_at a t.place) = known c.args.area.now c.args.t.place c.requires.0.held c.requires.0.there _ refl in
    let k = place in (k.long, k.place)

pub joined_start-lo-requires : goal.joined_start-lo-requires
joined_start-lo-requires c =
    let rows : PlaceKnown c.args.area.now c.args.t.place c.requires.0.held c.requires.0.there c.rows_at-rows.result = known c.args.area.now c.args.t.place c.requires.0.held c.requires.0.there _ c.rows_at-rows.ensures in
    let count_is : c.args.c.count ≡ c.rows_at-rows.result.count = c.requires.1.count_is ∙ sym (ap (λ (x : Rows). x.count) c.rows_at-rows.ensures) in
    let upper : CutTo c.args.area.now c.rows_at-rows.result.starts c.rows_at-rows.result.count c.args.t.to c.args.c.j = rw (rows.starts, ← count_is) c.requires.1.upper in
    (rows.fit, upper.inside)

pub joined_stop-hi-requires : goal.joined_stop-hi-requires
joined_stop-hi-requires c =
    let rows : PlaceKnown c.args.area.now c.args.t.place c.requires.0.held c.requires.0.there c.rows_at-rows.result = known c.args.area.now c.args.t.place c.requires.0.held c.requires.0.there _ c.rows_at-rows.ensures in
    let count_is : c.args.c.count ≡ c.rows_at-rows.result.count = c.requires.1.count_is ∙ sym (ap (λ (x : Rows). x.count) c.rows_at-rows.ensures) in
    let upper : CutTo c.args.area.now c.rows_at-rows.result.starts c.rows_at-rows.result.count c.args.t.to c.args.c.j = rw (rows.starts, ← count_is) c.requires.1.upper in
    (rows.fit, upper.inside)

pub edge_with-edge-requires : goal.edge_with-edge-requires
edge_with-edge-requires c =
    let rows : PlaceKnown c.args.area.now c.args.t.place c.requires.0.held c.requires.0.there c.rows_at-rows.result = known c.args.area.now c.args.t.place c.requires.0.held c.requires.0.there _ c.rows_at-rows.ensures in
    rows.fit

pub progress_with-progress-requires : goal.progress_with-progress-requires
progress_with-progress-requires c =
    let rows : PlaceKnown c.args.area.now c.args.t.place c.requires.0.held c.requires.0.there c.rows_at-rows.result = known c.args.area.now c.args.t.place c.requires.0.held c.requires.0.there _ c.rows_at-rows.ensures in
    rows.fit

pub adds_of-adds-requires : goal.adds_of-adds-requires
adds_of-adds-requires c =
    let rows : PlaceKnown c.args.area.now c.args.t.place c.requires.0.held c.requires.0.there c.rows_at-rows.result = known c.args.area.now c.args.t.place c.requires.0.held c.requires.0.there _ c.rows_at-rows.ensures in
    let count_is : c.args.c.count ≡ c.rows_at-rows.result.count = c.requires.1.count_is ∙ sym (ap (λ (x : Rows). x.count) c.rows_at-rows.ensures) in
    let upper : CutTo c.args.area.now c.rows_at-rows.result.starts c.rows_at-rows.result.count c.args.t.to c.args.c.j = rw (rows.starts, ← count_is) c.requires.1.upper in
    let lower : CutBelow c.args.area.now c.rows_at-rows.result.stops c.args.c.j c.args.t.from c.args.c.i = rw rows.stops c.requires.1.lower in
    (rows.fit, lower.inside, upper.inside)

pub returns : goal.returns
returns c =
    let rows : PlaceKnown c.args.area.now c.args.t.place c.requires.0.held c.requires.0.there c.rows_at-rows.result = known c.args.area.now c.args.t.place c.requires.0.held c.requires.0.there _ c.rows_at-rows.ensures in
    let count_is : c.args.c.count ≡ c.rows_at-rows.result.count = c.requires.1.count_is ∙ sym (ap (λ (x : Rows). x.count) c.rows_at-rows.ensures) in
    let upper : CutTo c.args.area.now c.rows_at-rows.result.starts c.rows_at-rows.result.count c.args.t.to c.args.c.j = rw (rows.starts, ← count_is) c.requires.1.upper in
    let lower : CutBelow c.args.area.now c.rows_at-rows.result.stops c.args.c.j c.args.t.from c.args.c.i = rw rows.stops c.requires.1.lower in
    let inside : c.args.c.i ≤ length (runs_in c.args.area.now c.rows_at-rows.result) = let w = c.rows_at-rows.result in omega (arith, length_runs c.args.area.now w.starts w.stops w.count, lower.inside, upper.inside) in
    let a = c.args.area.now in
    let t = c.args.t in let k = c.args.c in let f = c.requires.0 in let p = c.requires.1 in
    let told : ◌≡◌ {A = Reached} (record { edge = c.edge_with-edge.result; complete = leb t.length c.progress_with-progress.result }) _ =
    ap (λ (n : ℕ). record { edge = c.edge_with-edge.result; complete = leb n c.progress_with-progress.result }) f.length_is
    ∙ reached_with (key_at a t.place) (runs_in a c.rows_at-rows.result) k.i k.j c.joined_start-lo.result c.joined_stop-hi.result c.edge_with-edge.result
    c.progress_with-progress.result inside c.edge_with-edge.ensures c.progress_with-progress.ensures in
    record {
      fits = record {
        long = rows.long;
        place_low = rows.place;
        order = p.lower.inside;
        inside = p.upper.inside;
        few = omega (arith, rows.few_runs, count_is);
        room = p.room;
      };
      is = λ y brings.
          rw count_is
          (extend_taken a t.place f.held f.there _ c.rows_at-rows.ensures t.from t.to k.i k.j f.some upper lower
          c.joined_start-lo.result c.joined_stop-hi.result c.joined_start-lo.ensures c.joined_stop-hi.ensures (omega arith) (omega arith)
          (rw (← count_is) p.room) (λ i. omega (arith, c.type_inv.area i)) y brings (key_at a t.place) _ _ _ c.adds_of-adds.ensures told);
    }
