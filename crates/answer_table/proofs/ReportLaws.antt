-- What `record` and `open` answer of a transfer is what the area that they leave has received; and the runs that a packet absorbed, and
-- whether it added something, as `record` tells them.
-- Assumes nothing.
use Prim.Native.Nat.{ℕ, ◌+◌}
use mathlib.Core.Path.{◌≡◌, refl}
use mathlib.Core.Bool.{true, false, true≢false, false≢true}
use mathlib.Core.List.{List}
use mathlib.Core.Option.{some}
use mathlib.Core.Logic.Iff
use mathlib.Core.Logic.{◌⊎◌, inl, inr, ◌↔◌}
use Rattle.octets.specs.Numbers.{Octets}
use Rattle.packet_metadata.specs.Metadata.{read_metadata}
use Rattle.packet_metadata.specs.declared.Metadata.{Metadata}
use Rattle.packet_data.specs.Data.{read_data}
use Rattle.packet_data.specs.declared.Data.{Data}
use Rattle.transfer.specs.declared.Reached.{Reached}
use Rattle.refusals.specs.Tests.{bit}
use Rattle.refusals.proofs.TestLaws.{bit_iff}
use Rattle.transfer.specs.Transfers.{Transfer}
use Rattle.table.specs.Tables.{runs_of}
use Rattle.table.specs.Open.{open_accepted}
use Rattle.table.specs.Record.{record_accepted}
use Rattle.table.specs.declared.Opened.{Opened}
use Rattle.table.specs.declared.Opened.TheVariants as opened
use Rattle.area.specs.Judge.{table_of}
use Rattle.area.specs.Operations.{open_area, record_area, runs_held}
use Rattle.area.proofs.ToldLaws.{AreaTold, area_open_told, AreaRecording, area_record_told, area_record_adds}
use Rattle.answers.specs.Answers.{recorded_answer}
use Rattle.answer_table.specs.TableAnswers.{opened_answer}
use Rattle.answer_table.specs.Reported.{Reported}
use Rattle.std.specs.Prelude.{Result, Ok, Err}
use Rattle.refusals.specs.declared.Refusal.{Refusal}
use Rattle.transfer.specs.declared.Receipt.{Receipt}

-- the two numbers of an answer, from what is told
abbrev pub reported : (a : List ℕ) (id : ℕ) (x : Reached) → AreaTold a id x → Reported a id x.edge (bit x.complete)
reported a id x h =
    let t = h.told in
    record {
      table = h.table;
      held = h.held;
      key = t.key;
      found = t.found;
      complete_iff = Iff.trans (bit_iff x.complete) t.tells.complete_iff;
      edge_iff = t.tells.edge_iff;
      edge_none = t.tells.edge_none;
    }

module _ (a packet : List ℕ) where
  -- an accepted recording
  pub record_reports : Octets packet → record_accepted (record_area a packet).answer ≡ true
      → (d : Data) × (read_data packet ≡ Ok d)
      × Reported (record_area a packet).area d.id (recorded_answer (record_area a packet).answer).edge (recorded_answer (record_area a packet).answer).complete
  record_reports octets = go (record_area a packet).answer refl
    where
      go : (r : Result Receipt Refusal) → (record_area a packet).answer ≡ r → record_accepted r ≡ true
          → (d : Data) × (read_data packet ≡ Ok d)
          × Reported (record_area a packet).area d.id (recorded_answer r).edge (recorded_answer r).complete
      go (Ok x) e h = let q = area_record_told a packet x octets e in (q.brought, q.read, reported (record_area a packet).area q.brought.id x.reached q.told)
      go (Err r) e h = absurd (false≢true h)

  -- R5.8: the runs after are those before, plus one, minus those absorbed
  pub record_counts : Octets packet → record_accepted (record_area a packet).answer ≡ true
      → (d : Data) × (read_data packet ≡ Ok d)
      × (runs_held (record_area a packet).area d.id + (recorded_answer (record_area a packet).answer).absorbed ≡ runs_held a d.id + 1)
  record_counts octets = go (record_area a packet).answer refl
    where
      go : (r : Result Receipt Refusal) → (record_area a packet).answer ≡ r → record_accepted r ≡ true
          → (d : Data) × (read_data packet ≡ Ok d)
          × (runs_held (record_area a packet).area d.id + (recorded_answer r).absorbed ≡ runs_held a d.id + 1)
      go (Ok x) e h = let q = area_record_told a packet x octets e in (q.brought, q.read, q.counted)
      go (Err r) e h = absurd (false≢true h)

  -- an accepted recording tells that it added nothing exactly when the received set of its Id is as before
  pub record_adds : Octets packet → record_accepted (record_area a packet).answer ≡ true
      → (t : List Transfer) × (u : List Transfer) × (d : Data) × (table_of a ≡ some t) × (table_of (record_area a packet).area ≡ some u) × (read_data packet ≡ Ok d)
      × (((recorded_answer (record_area a packet).answer).adds ≡ 0) ↔ (runs_of u d.id ≡ runs_of t d.id))
  record_adds octets = go (record_area a packet).answer refl
    where
      go : (r : Result Receipt Refusal) → (record_area a packet).answer ≡ r → record_accepted r ≡ true
          → (t : List Transfer) × (u : List Transfer) × (d : Data) × (table_of a ≡ some t) × (table_of (record_area a packet).area ≡ some u) × (read_data packet ≡ Ok d)
          × (((recorded_answer r).adds ≡ 0) ↔ (runs_of u d.id ≡ runs_of t d.id))
      go (Ok x) e h = let q = area_record_told a packet x octets e in (q.before, q.after, q.brought, q.held, q.left, q.read, q.same)
      go (Err r) e h = absurd (false≢true h)

  -- and, where it brings no timestamp, exactly when every octet of the area is as before
  pub record_stays : Octets a → Octets packet → (d : Data) → read_data packet ≡ Ok d → d.timestamp ≡ 0 → record_accepted (record_area a packet).answer ≡ true
      → ((recorded_answer (record_area a packet).answer).adds ≡ 0) ↔ ((record_area a packet).area ≡ a)
  record_stays o octets d read none = go (record_area a packet).answer refl
    where
      go : (r : Result Receipt Refusal) → (record_area a packet).answer ≡ r → record_accepted r ≡ true → ((recorded_answer r).adds ≡ 0) ↔ ((record_area a packet).area ≡ a)
      go (Ok x) e h = area_record_adds a packet x d read none o octets e
      go (Err r) e h = absurd (false≢true h)

  -- an accepted opening, of a transfer that is new or that was open already
  pub open_reports : Octets packet → open_accepted (open_area a packet).answer ≡ true
      → (m : Metadata) × (read_metadata packet ≡ Ok m)
      × Reported (open_area a packet).area m.id (opened_answer (open_area a packet).answer).edge (opened_answer (open_area a packet).answer).complete
  open_reports octets = go (open_area a packet).answer refl
    where
      told : (x : Reached) → ((open_area a packet).answer ≡ Ok (opened.New x)) ⊎ ((open_area a packet).answer ≡ Ok (opened.AlreadyOpen x))
          → (m : Metadata) × (read_metadata packet ≡ Ok m) × Reported (open_area a packet).area m.id x.edge (bit x.complete)
      told x e = let q = area_open_told a packet x octets e in (q.0, q.1, reported (open_area a packet).area q.0.id x q.2)

      go : (r : Result Opened Refusal) → (open_area a packet).answer ≡ r → open_accepted r ≡ true
          → (m : Metadata) × (read_metadata packet ≡ Ok m)
          × Reported (open_area a packet).area m.id (opened_answer r).edge (opened_answer r).complete
      go (Ok (opened.New x)) e h = told x (inl e)
      go (Ok (opened.AlreadyOpen x)) e h = told x (inr e)
      go (Err r) e h = absurd (false≢true h)

  -- a refused call reports nothing complete, no run absorbed, and nothing added
  pub record_refused_none : record_accepted (record_area a packet).answer ≡ false
      → ((recorded_answer (record_area a packet).answer).complete ≡ 0) × ((recorded_answer (record_area a packet).answer).absorbed ≡ 0)
      × ((recorded_answer (record_area a packet).answer).adds ≡ 0)
  record_refused_none = go (record_area a packet).answer
    where
      go : (r : Result Receipt Refusal) → record_accepted r ≡ false → ((recorded_answer r).complete ≡ 0) × ((recorded_answer r).absorbed ≡ 0) × ((recorded_answer r).adds ≡ 0)
      go (Ok x) h = absurd (true≢false h)
      go (Err r) h = (refl, refl, refl)

  pub open_refused_none : open_accepted (open_area a packet).answer ≡ false → (opened_answer (open_area a packet).answer).complete ≡ 0
  open_refused_none = go (open_area a packet).answer
    where
      go : (r : Result Opened Refusal) → open_accepted r ≡ false → (opened_answer r).complete ≡ 0
      go (Ok (opened.New x)) h = absurd (true≢false h)
      go (Ok (opened.AlreadyOpen x)) h = absurd (true≢false h)
      go (Err r) h = refl
