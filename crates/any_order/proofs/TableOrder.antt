-- The order theorem on tables.
-- Assumes nothing.
use Prim.Native.Nat.{ℕ}
use mathlib.Core.Path.{◌≡◌, sym, ap, ◌∙◌}
use mathlib.Core.Bool.{Bool, true, cond}
use mathlib.Core.List.{List, []}
use mathlib.Core.Logic.{◌⊎◌, inl, inr}
use mathlib.Core.Option.{some}
use native.Mathlib.Omega.{arith}
use lib.ListN.{length, take, drop, get_or}
use Rattle.refusals.specs.declared.Refusal.{Refusal}
use Rattle.transfer.specs.declared.Key.{Key}
use Rattle.timestamp.specs.Timestamps.{stamped}
use Rattle.transfer.specs.Transfers.{Transfer}
use Rattle.table.specs.Tables.{Valid, keys, find, runs_of, stamp_of}
use Rattle.table.specs.WriteStatus.{status_written, status_buffer}
use Rattle.any_order.specs.Order.{Call, recordings, any_stamp, last_stamp, Sorted}
use Rattle.any_order.specs.TableDemand3.{call_table, accepted, ending, Elsewhere, KeepsLast, SortedEnd, TableDemand3}
use Rattle.table.proofs.FineLaws.{table_unique}
use Rattle.table.proofs.StatusAlike.{stamp_valid, same_written, same_long, same_outside, same_buffer, carried, refused_buffer}
use Rattle.timestamp.proofs.StampLaws.{stamped_none, none_stamped, stamp_length}
use Rattle.table.proofs.ValidLaws.{fresh_valid}
use Rattle.any_order.proofs.FillLaws.{fill, fill_only, fill_holds}
use Rattle.any_order.proofs.LastLaws.{none_any, last_none, last_is}
use Rattle.any_order.proofs.LeadLaws.{leads_taken, leads_all, leads_after}
use Rattle.any_order.proofs.CallLaws.{call_kept}
use Rattle.any_order.proofs.AlongLaws.{Moves, valid_along, found_only, found_all, ends, ends_stamp, ends_stamped}
use Rattle.any_order.proofs.SortedLaws.{Led, sorted_leads, sorted_any}
use Rattle.any_order.proofs.Sorting.{sort_sorts}
use Rattle.std.specs.Prelude.{Err}

nothing_open : (k : Key) → find k.id (keys []) ≡ some k → ⊥
unfolding keys find
nothing_open k e = let z : ◌≡◌ {A = ℕ} 0 1 = cc in omega arith

-- what a list leads to
leads : (cs : List Call) → Moves [] (accepted cs) (ending cs)
leads cs = leads_taken call_table call_kept [] cs

ending_valid : (cs : List Call) → Valid (ending cs)
ending_valid cs = valid_along [] (accepted cs) (ending cs) (leads cs) fresh_valid

-- any list of calls, by itself
keeps_last : (cs : List Call) → KeepsLast (ending cs) (accepted cs)
keeps_last cs =
    let kept : (i : ℕ) → stamp_of (ending cs) i ≡ last_stamp i (recordings (accepted cs)) = ends_stamp (accepted cs) (ending cs) (leads cs) in
    let whether : (i : ℕ) → stamped (stamp_of (ending cs) i) ≡ any_stamp i (recordings (accepted cs)) = ends_stamped (accepted cs) (ending cs) (leads cs) in
    let sixteen : (i : ℕ) → any_stamp i (recordings (accepted cs)) ≡ true → length (stamp_of (ending cs) i) ≡ 16 =
    λ i e. stamp_length (stamp_of (ending cs) i) (stamp_valid i (ending cs) (ending_valid cs)) ∙ ap (λ (b : Bool). cond b 16 0) (whether i ∙ e) in
    record {
      kept = kept;
      kept_last = λ i earlier p later e id bit none. kept i ∙ ap (last_stamp i) e ∙ last_is i earlier p later id bit none;
      kept_none = λ i none. kept i ∙ last_none i (recordings (accepted cs)) (none_any i (recordings (accepted cs)) none);
      whether = whether;
      sixteen = sixteen;
      carried = λ id k unasked buffer size w e.
          ap (λ (n : ℕ). take n (drop 8 (status_buffer (ending cs) id k unasked buffer))) (sym (sixteen id e))
          ∙ carried (ending cs) (ending_valid cs) id k unasked buffer size w ∙ kept id;
    }

module _ (cs s : List Call) (σ : Sorted (accepted cs) s) where
  led : Led (ending cs) s
  led = sorted_leads (accepted cs) s (ending cs) (leads cs) σ

  all_accepted : accepted s ≡ s
  all_accepted = leads_all call_table [] s led.to led.moves

  arrives : ending s ≡ led.to
  arrives = leads_after call_table [] s led.to led.moves

  end_keys : keys (ending s) ≡ keys (ending cs)
  end_keys = ap keys arrives ∙ led.keys_same

  end_runs : (i : ℕ) → runs_of (ending s) i ≡ runs_of (ending cs) i
  end_runs i = ap (λ (t : List Transfer). runs_of t i) arrives ∙ led.runs_same i

  end_stamped : (i : ℕ) → stamped (stamp_of (ending s) i) ≡ stamped (stamp_of (ending cs) i)
  end_stamped i =
      (keeps_last s).whether i
      ∙ ap (λ (x : List Call). any_stamp i (recordings x)) all_accepted ∙ sorted_any (accepted cs) s σ i ∙ sym ((keeps_last cs).whether i)

  -- where the one keeps none, the other keeps none
  end_stamp : (i : ℕ) → stamp_of (ending cs) i ≡ [] → stamp_of (ending s) i ≡ stamp_of (ending cs) i
  end_stamp i e = stamped_none (stamp_of (ending s) i) (end_stamped i ∙ ap stamped e ∙ none_stamped) ∙ sym e

  module _ (id k : ℕ) (unasked : Bool) (buffer : List ℕ) where
    abbrev first : List ℕ
    first = status_buffer (ending cs) id k unasked buffer

    abbrev second : List ℕ
    second = status_buffer (ending s) id k unasked buffer

    answers : status_written (ending s) id k unasked buffer ≡ status_written (ending cs) id k unasked buffer
    answers =
        same_written (ending cs) (ending s) (ending_valid cs) (ending_valid s) id (ap (find id) end_keys) (end_runs id) (end_stamped id) k unasked buffer

    lengths : length second ≡ length first
    lengths = same_long (ending cs) (ending s) (ending_valid cs) (ending_valid s) id (ap (find id) end_keys) (end_runs id) (end_stamped id) k unasked buffer

    buffers : stamp_of (ending cs) id ≡ [] → second ≡ first
    buffers e =
        same_buffer (ending cs) (ending s) (ending_valid cs) (ending_valid s) id (ap (find id) end_keys) (end_runs id) (end_stamped id) k unasked buffer (end_stamp id e)

    octets : (n : ℕ) → Elsewhere (ending cs) id n → get_or second n 0 ≡ get_or first n 0
    octets n (inl e) = ap (λ (l : List ℕ). get_or l n 0) (buffers e)
    octets n (inr h) =
        same_outside (ending cs) (ending s) (ending_valid cs) (ending_valid s) id (ap (find id) end_keys) (end_runs id) (end_stamped id) k unasked buffer n h

    refused : (r : Refusal) → status_written (ending cs) id k unasked buffer ≡ Err r → second ≡ first
    refused r e =
        refused_buffer (ending s) (ending_valid s) id k unasked buffer r (answers ∙ e)
        ∙ sym (refused_buffer (ending cs) (ending_valid cs) id k unasked buffer r e)

  sorted_end : SortedEnd cs s
  sorted_end =
      record {
        none_refused = all_accepted;
        same_end = record {
          alike = record {
            same_keys = end_keys;
            same_runs = end_runs;
            both_or_neither = end_stamped;
            same_answer = answers;
            same_length = lengths;
            same_octets = octets;
            same_refused = refused;
          };
          first_keeps = keeps_last cs;
          second_keeps = keeps_last s;
          same_buffer = λ id k unasked buffer none. buffers id k unasked buffer ((keeps_last cs).kept_none id none);
          same_table = λ none.
              table_unique (ending s) (ending cs) (ending_valid s) (ending_valid cs) (λ i. ap (find i) end_keys) end_runs
              (λ i. end_stamp i ((keeps_last cs).kept_none i (none i)));
        };
      }

pub table_order : TableDemand3
table_order cs =
    record {
      sorted = sorted_end cs;
      by_transfer = λ s τ. sorted_end cs s τ.sorted;
      some_order = sort_sorts (accepted cs);
      valid = ending_valid cs;
      brought = record {
        opened = λ k. (
          (λ h. from_fresh k (found_only [] (accepted cs) (ending cs) k (leads cs) h)),
          (λ h. found_all [] (accepted cs) (ending cs) k (leads cs) h),
        );
        received = λ i n.
            let e : runs_of (ending cs) i ≡ fill [] i (recordings (accepted cs)) = ends (accepted cs) (ending cs) (leads cs) i in (
              (λ h. from_none (fill_only [] i _ n (rw e at h))),
              (λ h. rw e (fill_holds [] i _ n h)),
            );
      };
    }
  where
    from_none : {A : Type 0} → ⊥ ⊎ A → A
    from_none (inl x) = absurd x
    from_none (inr x) = x

    from_fresh : {A : Type 0} (k : Key) → (find k.id (keys []) ≡ some k) ⊎ A → A
    from_fresh k (inl x) = absurd (nothing_open k x)
    from_fresh k (inr x) = x
