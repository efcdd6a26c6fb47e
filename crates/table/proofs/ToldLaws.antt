-- What opening and recording answer is what the table that they leave has received, how many runs went into it, and whether it is new.
-- Assumes nothing.
use Prim.Native.Nat.{ℕ, ◌<◌}
use mathlib.Core.Path.{◌≡◌, refl, ap, ◌∙◌}
use mathlib.Core.List.{List, []}
use mathlib.Core.Logic.{◌⊎◌, ⊎_elim, ◌↔◌}
use native.Mathlib.Omega.{arith}
use Rattle.packet_metadata.specs.Metadata.{read_metadata}
use Rattle.packet_metadata.specs.declared.Metadata.{Metadata}
use Rattle.packet_data.specs.Data.{read_data}
use Rattle.packet_data.specs.declared.Data.{Data}
use Rattle.transfer.specs.declared.Reached.{Reached}
use Rattle.transfer.specs.declared.Receipt.{Receipt}
use Rattle.transfer.specs.Transfers.{Transfer, key_of, reached}
use Rattle.transfer.specs.Record.{stamp_in, receipt}
use Rattle.runs.specs.Runs.{Canonical}
use Rattle.transfer.proofs.FieldLaws.{data_some}
use Rattle.transfer.proofs.ReachedLaws.{reached_tells}
use Rattle.table.specs.Tables.{Valid, find, runs_of, set_runs}
use Rattle.table.specs.Outcome.{Outcome}
use Rattle.table.specs.Open.{open_packet}
use Rattle.table.specs.Record.{grown, absorbed_in, adds_in, record_packet}
use Rattle.table.specs.Told.{Told, Counted}
use Rattle.table.specs.declared.Opened.{Opened}
use Rattle.table.specs.declared.Opened.TheVariants as opened
use Rattle.table.proofs.TableLaws.{find_add_same, runs_add_same, keys_set, runs_set_same}
use Rattle.table.proofs.FineLaws.{runs_canonical}
use Rattle.table.proofs.OpenLaws.{open_cases}
use Rattle.table.proofs.RecordLaws.{record_cases, grown_canonical, grown_count}
use Rattle.table.proofs.RepeatLaws.{Known, grown_new, grown_same, grown_stays}
use Rattle.std.specs.Prelude.{Result, Ok}
use Rattle.refusals.specs.declared.Refusal.{Refusal}

-- an accepted recording tells of the packet's Id in the table after it, and of the runs that were there before it: how many were
-- absorbed, and whether something was added, which is so unless all its offsets were received, and unless the received set stays as it
-- is; where it brings no timestamp, unless the table stays
pub record Recording (t u : List Transfer) (packet : List ℕ) (x : Receipt) : Type 0 where
  pub brought : Data
  pub read : read_data packet ≡ Ok brought
  pub told : Told u brought.id x.reached
  pub number : x.absorbed ≡ absorbed_in t brought
  pub counted : Counted t u brought.id x.absorbed
  pub new : (x.adds ≡ 0) ↔ Known t brought
  pub same : (x.adds ≡ 0) ↔ (runs_of u brought.id ≡ runs_of t brought.id)
  pub stays : stamp_in packet brought ≡ [] → (x.adds ≡ 0) ↔ (u ≡ t)

pub record_told : (t : List Transfer) (packet : List ℕ) (x : Receipt) → Valid t → (record_packet t packet).answer ≡ Ok x
    → Recording t (record_packet t packet).table packet x
record_told t packet x v a =
    record_cases (λ (o : Outcome (Result Receipt Refusal)). o.answer ≡ Ok x → Recording t o.table packet x) t packet
    (λ r q. absurd (let z : ◌≡◌ {A = ℕ} 0 1 = cc in omega arith))
    (λ d k e f j l q.
    let is : receipt k (grown t d) (absorbed_in t d) (adds_in t d) ≡ x = cc in
    let some : 0 < d.length = data_some packet d e in
    let canonical : Canonical (runs_of t d.id) = runs_canonical d.id t v in
    let has : runs_of (set_runs d.id (grown t d) (stamp_in packet d) t) d.id ≡ grown t d = runs_set_same d.id (grown t d) (stamp_in packet d) t k f in
    rw (← is)
    (record {
      brought = d;
      read = e;
      told = record {
        key = k;
        found = ap (find d.id) (keys_set d.id (grown t d) (stamp_in packet d) t) ∙ f;
        tells = rw has (reached_tells k (grown t d) (grown_canonical t d some canonical));
      };
      number = refl;
      counted = rw has (grown_count t d some canonical);
      new = grown_new t d some canonical;
      same = grown_same t d k (stamp_in packet d) f some canonical;
      stays = grown_stays t d k (stamp_in packet d) f some canonical;
    }))
    a

-- and so does an opening: a transfer that is new, or that was open already
pub open_told : (t : List Transfer) (packet : List ℕ) (x : Reached) → Valid t
    → ((open_packet t packet).answer ≡ Ok (opened.New x)) ⊎ ((open_packet t packet).answer ≡ Ok (opened.AlreadyOpen x))
    → (m : Metadata) × (read_metadata packet ≡ Ok m) × Told (open_packet t packet).table m.id x
open_told t packet x v a =
    open_cases
    (λ (o : Outcome (Result Opened Refusal)). (o.answer ≡ Ok (opened.New x)) ⊎ (o.answer ≡ Ok (opened.AlreadyOpen x))
    → (m : Metadata) × (read_metadata packet ≡ Ok m) × Told o.table m.id x)
    t packet
    (λ r q. absurd (⊎_elim (λ p. let z : ◌≡◌ {A = ℕ} 0 1 = cc in omega arith) (λ p. let z : ◌≡◌ {A = ℕ} 0 1 = cc in omega arith) q))
    (λ m e f q.
    let is : reached (key_of m) (runs_of t m.id) ≡ x = ⊎_elim (λ p. absurd (let z : ◌≡◌ {A = ℕ} 0 1 = cc in omega arith)) (λ p. cc) q in (
      m,
      e,
      rw (← is) (record { key = key_of m; found = f; tells = reached_tells (key_of m) (runs_of t m.id) (runs_canonical m.id t v) }),
    ))
    (λ m e f w l q.
    let is : reached (key_of m) [] ≡ x = ⊎_elim (λ p. cc) (λ p. absurd (let z : ◌≡◌ {A = ℕ} 0 1 = cc in omega arith)) q in (
      m,
      e,
      rw (← is)
          (record {
            key = key_of m;
            found = find_add_same (key_of m) t f;
            tells = rw (runs_add_same (key_of m) t f) (reached_tells (key_of m) [] tt);
          }),
    ))
    a
