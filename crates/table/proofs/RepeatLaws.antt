-- R6.7: a repeat adds nothing and is accepted. It absorbs one run, the one that it lies in. With bit 12 set it renews the timestamp.
-- Assumes nothing.
use Prim.Native.Nat.{ℕ, ◌<◌, ◌≤◌}
use mathlib.Core.Path.{◌≡◌, refl, sym, ap, ap₂, ◌∙◌}
use mathlib.Core.Bool.{true}
use mathlib.Core.List.{List, [], ◌∷◌}
use mathlib.Core.Logic.{inl, ◌↔◌}
use mathlib.Core.Option.{some}
use native.Mathlib.Omega.{arith}
use lib.ListN.{length}
use Rattle.octets.specs.Numbers.{Octets}
use Rattle.timestamp.specs.Timestamps.{renewed}
use Rattle.timestamp.proofs.StampLaws.{none_renewed, renewed_twice}
use Rattle.packet_data.specs.Data.{read_data}
use Rattle.packet_data.specs.declared.Data.{Data}
use Rattle.runs.specs.Runs.{Run, Member, Canonical}
use Rattle.transfer.specs.declared.Key.{Key}
use Rattle.transfer.specs.Transfers.{Transfer}
use Rattle.transfer.specs.Record.{stop_of, stamp_in, key_refusal, receipt}
use Rattle.transfer.proofs.ExtendLaws.{extended_member, extended_known, one_absorbed, none_added, same_extended}
use Rattle.transfer.proofs.FieldLaws.{data_some}
use Rattle.table.specs.Tables.{Valid, keys, find, runs_of, stamp_of, set_runs}
use Rattle.table.specs.Outcome.{Outcome}
use Rattle.table.specs.Record.{data_judged, grown, absorbed_in, adds_in, record_packet, record_accepted}
use Rattle.table.proofs.TableLaws.{set_cases, keys_set, runs_head, runs_tail, runs_set_same, stamp_head, stamp_tail, stamp_set_same}
use Rattle.table.proofs.FindLaws.{found_fine}
use Rattle.table.proofs.RecordLaws.{record_cases, record_taken, recorded_as}
use Rattle.table.proofs.ValidLaws.{record_valid}
use Rattle.std.specs.Prelude.{Result, Ok, Err}
use Rattle.refusals.specs.declared.Refusal.{Refusal}
use Rattle.transfer.specs.declared.Receipt.{Receipt}

-- the runs that an Id has, set again, with a timestamp that renews nothing
set_known : (i : ℕ) (rs : List Run) (s : List ℕ) (t : List Transfer) → runs_of t i ≡ rs → renewed s (stamp_of t i) ≡ stamp_of t i → set_runs i rs s t ≡ t
unfolding set_runs
set_known i rs s [] e f = refl
set_known i rs s (x ∷ t) e f =
    set_cases (λ (u : List Transfer). u ≡ x ∷ t) i rs s x t
    (λ q.
    let is : x.runs ≡ rs = cc (runs_head i x t q) in
    let stays : renewed s x.stamp ≡ x.stamp = rw (stamp_head i x t q) at f in
    λ j. record { key = x.key; runs = sym is j; stamp = stays j } ∷ t)
    (λ q.
    let is : runs_of t i ≡ rs = cc (runs_tail i x t q) in
    ap (λ (u : List Transfer). x ∷ u) (set_known i rs s t is (rw (stamp_tail i x t q) at f)))

-- every offset that the packet brings was received
abbrev pub Known : List Transfer → Data → Type 0
Known t d = (o : ℕ) → d.offset ≤ o → o < stop_of d → Member (runs_of t d.id) o

-- nothing is added exactly then, and exactly when the received set stays as it is; so does the table, where the packet brings no timestamp
module _ (t : List Transfer) (d : Data) where
  pub grown_new : 0 < d.length → Canonical (runs_of t d.id) → (adds_in t d ≡ 0) ↔ Known t d
  unfolding adds_in
  grown_new p c = none_added (runs_of t d.id) d p c

  module _ (k : Key) (s : List ℕ) (f : find d.id (keys t) ≡ some k) (p : 0 < d.length) (c : Canonical (runs_of t d.id)) where
    pub grown_same : (adds_in t d ≡ 0) ↔ (runs_of (set_runs d.id (grown t d) s t) d.id ≡ runs_of t d.id)
    unfolding adds_in grown
    grown_same =
        let same = same_extended (runs_of t d.id) d p c in
        let has = runs_set_same d.id (grown t d) s t k f in
        ((λ e. has ∙ same.0 e), (λ e. same.1 (sym has ∙ e)))

    pub grown_stays : s ≡ [] → (adds_in t d ≡ 0) ↔ (set_runs d.id (grown t d) s t ≡ t)
    unfolding adds_in grown
    grown_stays none =
        let same = same_extended (runs_of t d.id) d p c in (
          (λ e. set_known d.id (grown t d) s t (sym (same.0 e)) (ap (λ (n : List ℕ). renewed n (stamp_of t d.id)) none ∙ none_renewed (stamp_of t d.id))),
          (λ e. grown_same.1 (ap (λ (u : List Transfer). runs_of u d.id) e)),
        )

-- where 12 to 15 are not given, DATA whose offsets were all received is accepted, adds nothing, and is told how far the transfer is,
-- that it absorbed one run, and that it added nothing. Where it brings a timestamp, that is kept
pub record_known : (t : List Transfer) (packet : List ℕ) (d : Data) (k : Key) → Valid t → read_data packet ≡ Ok d
    → find d.id (keys t) ≡ some k → key_refusal k d ≡ 0 → Known t d
    → record_packet t packet ≡ record { answer = Ok (receipt k (runs_of t d.id) 1 0); table = set_runs d.id (runs_of t d.id) (stamp_in packet d) t }
unfolding grown absorbed_in data_judged
record_known t packet d k v e f j known =
    let x = (found_fine t v d.id k f).fine in
    let same : grown t d ≡ runs_of t d.id =
    extended_known (runs_of t d.id) d (data_some packet d e) x.canonical known in
    let one : absorbed_in t d ≡ 1 = one_absorbed (runs_of t d.id) d (data_some packet d e) x.canonical known in
    let none : adds_in t d ≡ 0 = (grown_new t d (data_some packet d e) x.canonical).1 known in
    let few : length (grown t d) ≤ 64 = rw same x.few in
    record_taken t packet d k e f j few
    ∙ ap₂ (λ (rs : List Run) (n : ℕ). record { answer = Ok (receipt k rs n (adds_in t d)); table = set_runs d.id rs (stamp_in packet d) t }) same one
    ∙ ap (λ (m : ℕ). record { answer = Ok (receipt k (runs_of t d.id) 1 m); table = set_runs d.id (runs_of t d.id) (stamp_in packet d) t }) none

-- the answer of a recording, with one run absorbed and nothing added
abbrev pub with_one : Result Receipt Refusal → Result Receipt Refusal
with_one (Ok x) = Ok (record { reached = x.reached; absorbed = 1; adds = 0 })
with_one (Err r) = Err r

abbrev pub repeated : Outcome (Result Receipt Refusal) → Outcome (Result Receipt Refusal)
repeated o = record { answer = with_one o.answer; table = o.table }

-- an accepted packet that is recorded again right away: the table stays, the transfer has come as far, one run is absorbed,
-- and nothing is added
pub record_repeat : (t : List Transfer) (packet : List ℕ) → Octets packet → Valid t → record_accepted (record_packet t packet).answer ≡ true
    → record_packet (record_packet t packet).table packet ≡ repeated (record_packet t packet)
unfolding grown data_judged
record_repeat t packet o v a =
    record_cases (λ (o : Outcome (Result Receipt Refusal)). record_accepted o.answer ≡ true → record_packet o.table packet ≡ repeated o) t packet
    (λ r q. absurd (let z : ◌≡◌ {A = ℕ} 0 1 = cc in omega arith)) (λ d k e f j l q. again d k e f j l) a
  where
    again : (d : Data) (k : Key) → read_data packet ≡ Ok d → find d.id (keys t) ≡ some k → data_judged (some k) d ≡ 0
        → length (grown t d) ≤ 64 → record_packet (recorded_as t packet d k).table packet ≡ repeated (recorded_as t packet d k)
    again d k e f j l =
        let s : List ℕ = stamp_in packet d in
        let u : List Transfer = set_runs d.id (grown t d) s t in
        let has : runs_of u d.id ≡ grown t d = runs_set_same d.id (grown t d) s t k f in
        let kept : stamp_of u d.id ≡ renewed s (stamp_of t d.id) = stamp_set_same d.id (grown t d) s t k f in
        record_known u packet d k (rw (record_taken t packet d k e f j l) at (record_valid t packet o v)) e
        (ap (find d.id) (keys_set d.id (grown t d) s t) ∙ f) j
        (λ o p q. rw has ((extended_member (runs_of t d.id) d o).1 (inl (p, q))))
        ∙ ap (λ (v : List Transfer). record { answer = Ok (receipt k (runs_of u d.id) 1 0); table = v })
        (set_known d.id (runs_of u d.id) s u refl (ap (renewed s) kept ∙ renewed_twice s (stamp_of t d.id) ∙ sym kept))
        ∙ ap (λ (rs : List Run). record { answer = Ok (receipt k rs 1 0); table = u }) has
