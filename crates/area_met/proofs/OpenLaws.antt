-- Opening by place: what the table's rule gives where an Id's place is known.
-- Assumes nothing.
use Prim.Native.Nat.{ℕ, zero, suc, ◌≤◌, ◌<◌}
use mathlib.Core.Path.{◌≡◌, refl, sym, ap, ◌∙◌}
use mathlib.Core.Bool.{Bool, true, false, cond, ◌&&◌}
use mathlib.Core.List.{List, []}
use mathlib.Core.Option.{none, some}
use lib.ListN.{length}
use lib.Dec.{eqb}
use borrow.Author.Tests.{lt-ltb, le-ltb, eq-eqb, ne_eqb}
use Rattle.refusals.specs.Refusals.{refusal_of}
use Rattle.packet_metadata.specs.Metadata.{metadata_refusal, metadata_of, read_metadata}
use Rattle.refusals.proofs.RefusalLaws.{answered_refused}
use Rattle.runs.specs.Runs.{Run}
use Rattle.transfer.specs.declared.Key.{Key}
use Rattle.transfer.specs.Transfers.{Transfer, empty, reached, key_of}
use Rattle.transfer.specs.Opening.{new_refusal}
use Rattle.table.specs.Tables.{FineFrom, keys, find}
use Rattle.table.specs.Open.{judge_found, judge_open, open_as, open_key, open_read, open_packet}
use Rattle.table.specs.Open.Verdict.{already, refuse}
use Rattle.table.specs.declared.Opened.TheVariants as opened
use Rattle.table.proofs.TableLaws.{length_keys}
use Rattle.area.specs.Layout.{transfer_places}
use Rattle.area.specs.Places.{key_at, read_table, nth, insert_at}
use Rattle.area.proofs.FindLaws.{found_at, runs_at, missing_at, add_at}
use Rattle.area.specs.Places.{KeptAt}
use Rattle.area.proofs.KeptLaws.{FreeAt, kept_placed, kept_transfer}
use Rattle.std.specs.Prelude.{Ok, Err}

-- ---- an Id that is open, with the key that is held at its place

module _ (a : List ℕ) (k : Key) (i : ℕ) (h : KeptAt k.id (read_table a) i) (held : Key) (e : held ≡ key_at a i) where
  found : find k.id (keys (read_table a)) ≡ some held
  found =
      found_at k.id (kept_placed h) h.inside h.same
      ∙ ap some (ap (λ (x : Transfer). x.key) (kept_transfer a k.id i h) ∙ sym e)

  pub met_width : (held.width ≡ k.width → ⊥) → (open_key (read_table a) 0 k).answer ≡ Err (refusal_of 18)
  unfolding open_key judge_open judge_found open_as
  met_width d = rw (found, ne_eqb held.width k.width d)

  module _ (w : held.width ≡ k.width) where
    pub met_length : (held.length ≡ k.length → ⊥) → (open_key (read_table a) 0 k).answer ≡ Err (refusal_of 18)
    unfolding open_key judge_open judge_found open_as
    met_length d = rw (found, eq-eqb held.width k.width w, ne_eqb held.length k.length d)

    pub met_same : held.length ≡ k.length → (open_key (read_table a) 0 k).answer ≡ Ok (opened.AlreadyOpen (reached k (nth (read_table a) i).runs))
    unfolding open_key judge_open judge_found open_as
    met_same l =
        rw (found, eq-eqb held.width k.width w, eq-eqb held.length k.length l)
        (ap (λ (rs : List Run). Ok (opened.AlreadyOpen (reached k rs))) (runs_at k.id (kept_placed h) h.inside h.same))

-- whatever a new Id would be refused with
pub met_any : (t : List Transfer) (n : ℕ) (k : Key) (i : ℕ) → KeptAt k.id t i → open_key t n k ≡ open_key t 0 k
unfolding open_key judge_open judge_found
met_any t n k i h = rw (found_at k.id (kept_placed h) h.inside h.same)

-- the table stays
pub met_table : (t : List Transfer) (n : ℕ) (k : Key) (i : ℕ) → KeptAt k.id t i → (open_key t n k).table ≡ t
unfolding open_key judge_open judge_found open_as
met_table t n k i h =
    rw (found_at k.id (kept_placed h) h.inside h.same)
    (go (eqb (nth t i).key.width k.width && eqb (nth t i).key.length k.length))
  where
    go : (b : Bool) → (open_as (cond b already (refuse 18)) t k).table ≡ t
    go true = refl
    go false = refl

-- ---- an Id that is not open

module _ (t : List Transfer) (k : Key) (p : ℕ) (h : FreeAt k.id t p) (f : FineFrom 0 t) where
  not_found : find k.id (keys t) ≡ none
  not_found = missing_at k.id 0 h.place f h.other

  -- R9.23: before room is looked at
  pub open_unwanted : (n : ℕ) → (n ≡ 0 → ⊥) → open_key t n k ≡ record { answer = Err (refusal_of n); table = t }
  unfolding open_key judge_open judge_found open_as
  open_unwanted zero d = absurd (d refl)
  open_unwanted (suc n) d = rw not_found

  pub open_full : (n : ℕ) → n ≡ 0 → transfer_places ≤ length t → open_key t n k ≡ record { answer = Err (refusal_of 17); table = t }
  unfolding open_key judge_open judge_found open_as
  open_full n z g = rw (z, not_found, length_keys t, le-ltb (length t) transfer_places g)

  pub open_new : (n : ℕ) → n ≡ 0 → length t < transfer_places → open_key t n k ≡ record { answer = Ok (opened.New (reached k [])); table = insert_at p (empty k) t }
  unfolding open_key judge_open judge_found open_as
  open_new n z g =
      rw (z, not_found, length_keys t, lt-ltb (length t) transfer_places g)
      (ap (λ (u : List Transfer). record { answer = Ok (opened.New (reached k [])); table = u }) (add_at k h.place h.other))

-- ---- METADATA that is refused, and that is not

pub packet_refused : (t : List Transfer) (s : List ℕ) → (metadata_refusal s ≡ 0 → ⊥)
    → open_packet t s ≡ record { answer = Err (refusal_of (metadata_refusal s)); table = t }
unfolding open_packet open_read read_metadata
packet_refused t s h = rw (← answered_refused Err (metadata_refusal s) (Ok (metadata_of s)) h)

pub packet_read : (t : List Transfer) (s : List ℕ) (n : ℕ) (k : Key) → metadata_refusal s ≡ 0 → n ≡ new_refusal (metadata_of s).flags → k ≡ key_of (metadata_of s)
    → open_packet t s ≡ open_key t n k
unfolding open_packet open_read read_metadata
packet_read t s n k h d e = rw (h, d, e)
