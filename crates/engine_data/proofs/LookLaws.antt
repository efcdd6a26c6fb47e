-- The ways through looking at any packet: 22, a refusal of the table, or DATA that it takes.
-- Assumes nothing.
use Prim.Native.Nat.{ℕ}
use mathlib.Core.Path.{◌≡◌, sym, ap, ◌∙◌}
use mathlib.Core.Bool.{true, false}
use mathlib.Core.List.{List}
use Rattle.refusals.specs.Refusals.{refusal_of}
use Rattle.refusals.specs.declared.Refusal.{Refusal}
use Rattle.packet_data.specs.Data.{data_refusal, data_of, read_data}
use Rattle.packet_data.specs.declared.Data.{Data}
use Rattle.packet_data.proofs.DataLaws.{data_accepted}
use Rattle.transfer.specs.declared.Receipt.{Receipt}
use Rattle.table.specs.Record.{record_packet}
use Rattle.area.specs.Places.{read_table}
use Rattle.area.specs.Operations.{OnArea, record_area}
use Rattle.area.proofs.AreaLaws.{judged_held}
use Rattle.area.proofs.OperationLaws.{record_held_lem}
use Rattle.engine_slots.specs.declared.Sender.{Sender}
use Rattle.engine_model.specs.Stretches.{look_owned, look_judged, look_data}
use Rattle.engine_state.specs.State.{snapshot_in, held_state}
use Rattle.engine_state.proofs.StateLaws.{held_known}
use Rattle.engine_data.specs.Store.{look_state}
use Rattle.std.specs.Prelude.{Result, Ok, Err}

module _ (s : List ℕ) (r : Sender) (p : List ℕ) (from : ℕ) where
  pub look_unheld : held_state s ≡ false → Err (refusal_of 22) ≡ look_state s r p from
  unfolding look_state
  look_unheld e = rw e

  module _ (e : held_state s ≡ true) where
    answer_is : (record_area s p).answer ≡ (record_packet (read_table s) p).answer
    answer_is = ap (λ (o : OnArea (Result Receipt Refusal)). o.answer) (record_held_lem s p (read_table s) (judged_held s (held_known s e).now_judged))

    judged_as : (x : Result Receipt Refusal) → (record_area s p).answer ≡ x → look_state s r p from ≡ look_judged (snapshot_in s) r from x (read_data p)
    unfolding look_state look_data
    judged_as x f = rw e (ap (λ (y : Result Receipt Refusal). look_judged (snapshot_in s) r from y (read_data p)) (sym answer_is ∙ f))

    pub look_refused : (n : Refusal) → (record_area s p).answer ≡ Err n → Err n ≡ look_state s r p from
    unfolding look_judged
    look_refused n f = sym (judged_as (Err n) f)

    pub look_taken : (x : Receipt) → (record_area s p).answer ≡ Ok x → data_refusal p ≡ 0 → (d : Data) → d ≡ data_of p
        → look_owned (snapshot_in s) r d from ≡ look_state s r p from
    unfolding look_judged
    look_taken x f z d i =
        sym (judged_as (Ok x) f ∙ ap (λ (y : Result Data Refusal). look_judged (snapshot_in s) r from (Ok x) y) (data_accepted p z)
        ∙ ap (λ (y : Data). look_owned (snapshot_in s) r y from) (sym i))
