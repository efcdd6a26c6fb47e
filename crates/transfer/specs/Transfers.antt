-- R6.1, R6.5, R6.14: one transfer: its key, its received offsets, the timestamp that it keeps, and how far it has come.
-- Assumes nothing.
use Rattle.std.specs.Prelude.{ℕ, suc, ◌^◌, ◌≤◌, ◌<◌, ◌≡◌, Bool, true, false, cond, List, [], ◌↔◌, length, ltb, eqb}
use Rattle.octets.specs.Numbers.{Width}
use Rattle.timestamp.specs.Timestamps.{Stamp, renewed}
use Rattle.packet_metadata.specs.declared.Metadata.{Metadata}
use Rattle.runs.specs.Runs.{Run, Member, Canonical, StopsTo}
use Rattle.runs.specs.Holes.{edge, complete}
use Rattle.transfer.specs.declared.Key.{Key}
use Rattle.transfer.specs.declared.Reached.{Reached}

-- R6.4: what METADATA opens: the packet's width, and the size as the length
abbrev pub key_of : Metadata → Key
key_of m = record { id = m.id; width = m.width; length = m.entry.size }

-- R6.1: a width and a length that an opening takes: the width is one of the four, and the length fits it and 64 bits
unfoldable pub length_test : ℕ → ℕ → Bool
length_test width length =
    cond (eqb width 2) (ltb length (256 ^ 2))
    (cond (eqb width 4) (ltb length (256 ^ 4)) (cond (eqb width 8) (ltb length (256 ^ 8)) (cond (eqb width 16) (ltb length (2 ^ 64)) false)))

-- R6.1, R6.14: a transfer: its key, the received offsets as their canonical list of runs, and the timestamp that it keeps
pub record Transfer : Type 0 where
  pub key : Key
  pub runs : List Run
  pub stamp : List ℕ

-- the one place where a transfer is made of its parts
abbrev pub transfer_of : Key → List Run → List ℕ → Transfer
transfer_of k rs s = record { key = k; runs = rs; stamp = s }

-- R6.4: nothing is received, and no timestamp is kept
abbrev pub empty : Key → Transfer
empty k = transfer_of k [] []

-- R6.6, R6.14: the transfer with other runs, and with the timestamp s where a packet brings one
abbrev pub with_received : Transfer → List Run → List ℕ → Transfer
with_received x rs s = transfer_of x.key rs (renewed s x.stamp)

-- R6.1: L fits the width and is below 2^64, whatever the width is; all received offsets are below L, in at most 64 runs
pub record TransferFine (x : Transfer) : Type 0 where
  pub id_fits : x.key.id < 2 ^ 32
  pub width_is : Width x.key.width
  pub length_fits : x.key.length < 256 ^ x.key.width
  pub length_held : x.key.length < 2 ^ 64
  pub few : length x.runs ≤ 64
  pub canonical : Canonical x.runs
  pub within : StopsTo x.key.length x.runs
  pub stamp_is : Stamp x.stamp

-- R6.5, R6.8: what opening and recording tell
unfoldable pub reached : Key → List Run → Reached
reached k rs = record { edge = edge rs; complete = complete k.length rs }

-- R5.7, R5.4: what such an answer must tell of the received offsets rs of a transfer of length L
pub record Tells (L : ℕ) (rs : List Run) (x : Reached) : Type 0 where
  pub complete_iff : (x.complete ≡ true) ↔ ((o : ℕ) → o < L → Member rs o)
  pub edge_iff : (o : ℕ) → (x.edge ≡ suc o) ↔ (Member rs o × ((p : ℕ) → Member rs p → p ≤ o))
  pub edge_none : (x.edge ≡ 0) ↔ ((o : ℕ) → Member rs o → ⊥)
