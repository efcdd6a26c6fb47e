-- Demand 3 on areas: an area holds a table, and each call on it does what it does on that table.
-- Assumes nothing.
use Prim.Native.Nat.{ℕ, ◌≤◌}
use mathlib.Core.Path.{◌≡◌, sym, ap, subst, ◌∙◌}
use mathlib.Core.Bool.{Bool}
use mathlib.Core.List.{List, []}
use mathlib.Core.Option.{some}
use native.Mathlib.Omega.{arith}
use lib.ListN.{length, take, drop, get_or}
use Rattle.refusals.specs.Refusals.{refusal_of}
use Rattle.transfer.specs.Transfers.{Transfer}
use Rattle.table.specs.Tables.{Valid}
use Rattle.table.specs.Open.{open_packet, open_accepted}
use Rattle.table.specs.Record.{record_packet, record_accepted}
use Rattle.table.specs.WriteStatus.{status_written, status_buffer}
use Rattle.table.specs.declared.Opened.{Opened}
use Rattle.area.specs.Layout.{area_octets}
use Rattle.area.specs.Stored.{stored_in}
use Rattle.area.specs.Judge.{table_of}
use Rattle.area.specs.Operations.{OnArea, open_area, record_area, from_found, from_table, area_status_written, area_status_buffer}
use Rattle.area.proofs.StoredLaws.{stored_held, length_stored}
use Rattle.area.proofs.AreaLaws.{length_fresh}
use Rattle.area.proofs.OperationLaws.{on_held, fresh_done, fresh_leaves}
use Rattle.any_order.specs.Order.{Call, opening, recording, taken}
use Rattle.any_order.specs.TableDemand3.{call_table, KeepsLast, SameEnd}
use Rattle.any_order.specs.Demand3.{call_area, SameStatus, Carries, made, Demand3, Demand3ByTransfer}
use Rattle.table.proofs.ValidLaws.{fresh_valid}
use Rattle.any_order.proofs.CallLaws.{call_valid}
use Rattle.any_order.proofs.KeptOrder.{kept_order}
use Rattle.any_order.proofs.Sorting.{sort_sorts}
use Rattle.std.specs.Prelude.{Result, Err, ⊤}
use Rattle.refusals.specs.declared.Refusal.{Refusal}
use Rattle.transfer.specs.declared.Receipt.{Receipt}

-- ---- the calls

-- a call on an area that holds the table t
call_stored : (a : List ℕ) (t : List Transfer) (c : Call) → table_of a ≡ some t
    → ((call_area a c).0 ≡ (call_table t c).0) × ((call_area a c).1 ≡ stored_in a (call_table t c).1)
unfolding call_area call_table open_area record_area
call_stored a t (opening p) e =
    let o = on_held (Err (refusal_of 22)) (λ u. open_packet u p.octets) a t e in
    (ap (λ (x : OnArea (Result Opened Refusal)). open_accepted x.answer) o, ap (λ (x : OnArea (Result Opened Refusal)). x.area) o)
call_stored a t (recording p) e =
    let o = on_held (Err (refusal_of 22)) (λ u. record_packet u p.octets) a t e in
    (ap (λ (x : OnArea (Result Receipt Refusal)). record_accepted x.answer) o, ap (λ (x : OnArea (Result Receipt Refusal)). x.area) o)

record Keeps (a : List ℕ) (t : List Transfer) : Type 0 where
  long : area_octets ≤ length a
  valid : Valid t
  held : table_of a ≡ some t

stored_keeps : (a : List ℕ) (t : List Transfer) → area_octets ≤ length a → Valid t → Keeps (stored_in a t) t
stored_keeps a t l v = record { long = omega (arith, length_stored a t l); valid = v; held = stored_held a t v }

call_keeps : (a : List ℕ) (t : List Transfer) (c : Call) → Keeps a t
    → ((call_area a c).0 ≡ (call_table t c).0) × Keeps (call_area a c).1 (call_table t c).1
call_keeps a t c h =
    let s = call_stored a t c h.held in
    (s.0, subst (λ (x : List ℕ). Keeps x (call_table t c).1) (sym s.1) (stored_keeps a (call_table t c).1 h.long (call_valid t c h.valid)))

made_keeps : (a : List ℕ) → area_octets ≤ length a → Keeps (made a) []
made_keeps a l =
    record {
      long = let e = ap (λ (x : OnArea (Result ⊤ Refusal)). length x.area) (fresh_done a l) in omega (arith, length_fresh a l);
      valid = fresh_valid;
      held = fresh_leaves a l;
    }

-- STATUS from an area that holds a table is the table's
status_held : (a : List ℕ) (t : List Transfer) → table_of a ≡ some t → (id k : ℕ) (unasked : Bool) (buffer : List ℕ)
    → (area_status_written a id k unasked buffer ≡ status_written t id k unasked buffer) × (area_status_buffer a id k unasked buffer ≡ status_buffer t id k unasked buffer)
unfolding area_status_written area_status_buffer from_table from_found
status_held a t e id k unasked buffer = (rw e, rw e)

carries : (a : List ℕ) (t : List Transfer) (done : List Call) → table_of a ≡ some t → KeepsLast t done → Carries a done
carries a t done e h id k unasked buffer size w s =
    let f = status_held a t e id k unasked buffer in
    ap (λ (l : List ℕ). take 16 (drop 8 l)) f.1 ∙ h.carried id k unasked buffer size (sym f.0 ∙ w) s

same_status : (a b : List ℕ) (t u : List Transfer) (done redone : List Call) → table_of a ≡ some t → table_of b ≡ some u → SameEnd t u done redone
    → SameStatus a b t done
same_status a b t u done redone e f h =
    record {
      same_answer = λ id k unasked buffer.
          (status_held b u f id k unasked buffer).0 ∙ h.alike.same_answer id k unasked buffer ∙ sym (status_held a t e id k unasked buffer).0;
      same_length = λ id k unasked buffer.
          ap length (status_held b u f id k unasked buffer).1
          ∙ h.alike.same_length id k unasked buffer ∙ ap length (sym (status_held a t e id k unasked buffer).1);
      same_octets = λ id k unasked buffer n w.
          ap (λ (l : List ℕ). get_or l n 0) (status_held b u f id k unasked buffer).1
          ∙ h.alike.same_octets id k unasked buffer n w ∙ ap (λ (l : List ℕ). get_or l n 0) (sym (status_held a t e id k unasked buffer).1);
      same_refused = λ id k unasked buffer r w.
          (status_held b u f id k unasked buffer).1
          ∙ h.alike.same_refused id k unasked buffer r (sym (status_held a t e id k unasked buffer).0 ∙ w) ∙ sym (status_held a t e id k unasked buffer).1;
      same_buffer = λ id k unasked buffer w.
          (status_held b u f id k unasked buffer).1 ∙ h.same_buffer id k unasked buffer w ∙ sym (status_held a t e id k unasked buffer).1;
    }

-- demand 3
pub demand3 : Demand3
demand3 a b la lb cs s σ =
    let r = kept_order call_area Keeps call_keeps (made a) (made b) (made_keeps a la) (made_keeps b lb) cs s σ in
    record {
      none_refused = r.none_refused;
      first = r.first;
      second = r.second;
      first_held = r.first_kept.held;
      second_held = r.second_kept.held;
      same_end = r.same_end;
      same_status = same_status _ _ r.first r.second _ _ r.first_kept.held r.second_kept.held r.same_end;
      first_carries = carries _ r.first _ r.first_kept.held r.same_end.first_keeps;
      second_carries = carries _ r.second _ r.second_kept.held r.same_end.second_keeps;
      valid = r.first_kept.valid;
      brought = r.brought;
    }

-- and in its own words
pub demand3_by_transfer : Demand3ByTransfer
demand3_by_transfer a b la lb cs =
    record {
      first_made = ap (λ (x : OnArea (Result ⊤ Refusal)). x.answer) (fresh_done a la);
      second_made = ap (λ (x : OnArea (Result ⊤ Refusal)). x.answer) (fresh_done b lb);
      ends = λ s τ. demand3 a b la lb cs s τ.sorted;
      some_order = sort_sorts (taken call_area (made a) cs);
    }
