-- R6.5, R6.8: what opening and recording tell on areas, by the table that the area holds after the call; how many runs a packet
-- absorbed; and that it added nothing exactly when the received set is as before and, where it brings no timestamp, every octet of the area.
-- A repeat is one such packet.
-- Assumes nothing.
use Prim.Native.Nat.{ℕ, ◌+◌}
use mathlib.Core.Path.{◌≡◌, sym, ap, ◌∙◌}
use mathlib.Core.Bool.{true}
use mathlib.Core.List.{List, []}
use mathlib.Core.Logic.{◌⊎◌, ⊎_elim, ◌↔◌}
use mathlib.Core.Option.{some}
use native.Mathlib.Omega.{arith}
use lib.ListN.{take, drop}
use Rattle.octets.specs.Numbers.{Octets}
use Rattle.refusals.specs.Refusals.{refusal_of}
use Rattle.packet_metadata.specs.Metadata.{read_metadata}
use Rattle.packet_metadata.specs.declared.Metadata.{Metadata}
use Rattle.packet_data.specs.Data.{read_data}
use Rattle.packet_data.specs.declared.Data.{Data}
use Rattle.transfer.specs.declared.Reached.{Reached}
use Rattle.transfer.specs.declared.Receipt.{Receipt}
use Rattle.transfer.specs.Transfers.{Transfer}
use Rattle.transfer.specs.Record.{stamp_in}
use Rattle.table.specs.Open.{open_packet}
use Rattle.table.specs.Record.{absorbed_in, record_packet, record_accepted}
use Rattle.table.specs.Tables.{Valid, runs_of}
use Rattle.table.specs.Told.{Told}
use Rattle.table.specs.declared.Opened.{Opened}
use Rattle.table.specs.declared.Opened.TheVariants as opened
use Rattle.table.proofs.ValidLaws.{record_valid}
use Rattle.table.proofs.ToldLaws.{open_told, Recording, record_told}
use Rattle.table.proofs.RepeatLaws.{Known, with_one, record_repeat}
use Rattle.area.specs.Judge.{table_of}
use Rattle.area.specs.Stored.{stored_in}
use Rattle.area.specs.Operations.{OnArea, leaves, open_area, record_area, runs_held}
use Rattle.area.proofs.JudgeLaws.{held_valid}
use Rattle.area.proofs.StoredLaws.{held_stored, stored_held}
use Rattle.area.proofs.AreaLaws.{stored_octets, held_once}
use Rattle.area.proofs.OperationLaws.{on_cases, record_held_lem, open_leaves, record_leaves, runs_held_lem}
use Rattle.std.specs.Prelude.{Result, Ok, Err}
use Rattle.refusals.specs.declared.Refusal.{Refusal}

-- the area holds a table, and x tells of the Id's transfer in it
pub record AreaTold (a : List ℕ) (id : ℕ) (x : Reached) : Type 0 where
  pub table : List Transfer
  pub held : table_of a ≡ some table
  pub told : Told table id x

-- an accepted recording leaves the area b of the area a: x tells of the packet's Id in b, how many of its runs in a were absorbed, and
-- whether it brought something new
pub record AreaRecording (a b packet : List ℕ) (x : Receipt) : Type 0 where
  pub before : List Transfer
  pub held : table_of a ≡ some before
  pub brought : Data
  pub read : read_data packet ≡ Ok brought
  pub told : AreaTold b brought.id x.reached
  pub number : x.absorbed ≡ absorbed_in before brought
  pub counted : runs_held b brought.id + x.absorbed ≡ runs_held a brought.id + 1
  pub new : (x.adds ≡ 0) ↔ Known before brought
  pub after : List Transfer
  pub left : table_of b ≡ some after
  pub same : (x.adds ≡ 0) ↔ (runs_of after brought.id ≡ runs_of before brought.id)

module _ (a packet : List ℕ) (x : Receipt) where
  pub area_record_told : Octets packet → (record_area a packet).answer ≡ Ok x → AreaRecording a (record_area a packet).area packet x
  area_record_told octets = by_table
    where
      Goal : OnArea (Result Receipt Refusal) → Type 0
      Goal o = o.answer ≡ Ok x → AreaRecording a (record_area a packet).area packet x

      recording : (t : List Transfer) → table_of a ≡ some t → Recording t (record_packet t packet).table packet x
          → AreaRecording a (record_area a packet).area packet x
      recording t h r =
          let left : table_of (record_area a packet).area ≡ some (record_packet t packet).table = record_leaves a t h packet octets in
          let d : Data = r.brought in
          record {
            before = t;
            held = h;
            brought = d;
            read = r.read;
            told = record { table = (record_packet t packet).table; held = left; told = r.told };
            number = r.number;
            counted = rw (runs_held_lem (record_area a packet).area (record_packet t packet).table d.id left, runs_held_lem a t d.id h) r.counted;
            new = r.new;
            after = (record_packet t packet).table;
            left = left;
            same = r.same;
          }

      by_table : Goal (record_area a packet)
      by_table =
          unfold record_area in
          on_cases (Err (refusal_of 22)) (λ t. record_packet t packet) a Goal
          (λ e. absurd (let z : ◌≡◌ {A = ℕ} 0 1 = cc in omega arith))
          (λ t h e. recording t h (record_told t packet x (held_valid a t h) e))

  -- where the packet brings no timestamp: it tells that nothing was added exactly when every octet of the area is as before
  module _ (d : Data) (read : read_data packet ≡ Ok d) (none : d.timestamp ≡ 0) where
    without : (y : Data) → read_data packet ≡ Ok y → stamp_in packet y ≡ []
    unfolding stamp_in
    without y e = let is : y ≡ d = cc in ap (λ (z : Data). take z.timestamp (drop 8 packet)) is ∙ ap (λ (n : ℕ). take n (drop 8 packet)) none

    pub area_record_adds : Octets a → Octets packet → (record_area a packet).answer ≡ Ok x → (x.adds ≡ 0) ↔ ((record_area a packet).area ≡ a)
    area_record_adds o octets = by_table
      where
        Goal : OnArea (Result Receipt Refusal) → Type 0
        Goal y = y.answer ≡ Ok x → (x.adds ≡ 0) ↔ (y.area ≡ a)

        stays : (t : List Transfer) → table_of a ≡ some t → Goal (leaves a (record_packet t packet))
        stays t h e =
            let u = (record_packet t packet).table in
            let valid : Valid u = record_valid t packet octets (held_valid a t h) in
            let r = record_told t packet x (held_valid a t h) e in
            let same = r.stays (without r.brought r.read) in (
              (λ z. ap (stored_in a) (same.0 z) ∙ held_stored a t o h),
              (λ z. same.1 (held_once a u t (ap table_of (sym z) ∙ stored_held a u valid) h)),
            )

        by_table : Goal (record_area a packet)
        by_table =
            unfold record_area in
            on_cases (Err (refusal_of 22)) (λ t. record_packet t packet) a Goal (λ e. absurd (let z : ◌≡◌ {A = ℕ} 0 1 = cc in omega arith)) stays

module _ (a packet : List ℕ) (x : Reached) where
  -- and so does an opening, of a transfer that is new or that was open already
  pub area_open_told : Octets packet → ((open_area a packet).answer ≡ Ok (opened.New x)) ⊎ ((open_area a packet).answer ≡ Ok (opened.AlreadyOpen x))
      → (m : Metadata) × (read_metadata packet ≡ Ok m) × AreaTold (open_area a packet).area m.id x
  area_open_told octets = by_table
    where
      Goal : OnArea (Result Opened Refusal) → Type 0
      Goal o = (o.answer ≡ Ok (opened.New x)) ⊎ (o.answer ≡ Ok (opened.AlreadyOpen x))
          → (m : Metadata) × (read_metadata packet ≡ Ok m) × AreaTold (open_area a packet).area m.id x

      by_table : Goal (open_area a packet)
      by_table =
          unfold open_area in
          on_cases (Err (refusal_of 22)) (λ t. open_packet t packet) a Goal
          (λ e. absurd (⊎_elim (λ p. let z : ◌≡◌ {A = ℕ} 0 1 = cc in omega arith) (λ p. let z : ◌≡◌ {A = ℕ} 0 1 = cc in omega arith) e))
          (λ t h e.
          let r = open_told t packet x (held_valid a t h) e in
          (r.0, r.1, record { table = (open_packet t packet).table; held = open_leaves a t h packet octets; told = r.2 }))

-- ---- R6.7: recording an accepted packet again changes no octet, the transfer has come as far, one
-- run is absorbed, and nothing is added
abbrev repeated : OnArea (Result Receipt Refusal) → OnArea (Result Receipt Refusal)
repeated o = record { answer = with_one o.answer; area = o.area }

pub area_record_repeat : (a packet : List ℕ) → Octets a → Octets packet → record_accepted (record_area a packet).answer ≡ true
    → record_area (record_area a packet).area packet ≡ repeated (record_area a packet)
area_record_repeat a packet o octets = by_table
  where
    Goal : OnArea (Result Receipt Refusal) → Type 0
    Goal x = record_accepted x.answer ≡ true → record_area x.area packet ≡ repeated x

    again : (t : List Transfer) → table_of a ≡ some t → Goal (leaves a (record_packet t packet))
    again t h e =
        let u = (record_packet t packet).table in
        let b = stored_in a u in
        let on : record_area a packet ≡ leaves a (record_packet t packet) = record_held_lem a packet t h in
        let held : table_of b ≡ some u = ap (λ (x : OnArea (Result Receipt Refusal)). table_of x.area) (sym on) ∙ record_leaves a t h packet octets in
        let same : record_packet u packet ≡ record { answer = with_one (record_packet t packet).answer; table = u } = record_repeat t packet octets (held_valid a t h) e in
        let next : record_area b packet ≡ leaves b (record_packet u packet) = record_held_lem b packet u held in
        next
        ∙ ap (leaves b) same
        ∙ ap (λ (c : List ℕ). record { answer = with_one (record_packet t packet).answer; area = c }) (held_stored b u (stored_octets a u o) held)

    by_table : Goal (record_area a packet)
    by_table =
        unfold record_area in
        on_cases (Err (refusal_of 22)) (λ t. record_packet t packet) a Goal (λ e. absurd (let z : ◌≡◌ {A = ℕ} 0 1 = cc in omega arith)) again
