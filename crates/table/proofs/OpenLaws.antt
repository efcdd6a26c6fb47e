-- What opening does, case by case, and that it is judged by what is open alone.
-- Assumes nothing.
use Prim.Native.Nat.{ℕ, zero, suc, ◌<◌}
use mathlib.Core.Path.{◌≡◌, refl, sym, ap, ◌∙◌}
use mathlib.Core.Bool.{◌&&◌}
use mathlib.Core.List.{List, []}
use mathlib.Core.Option.{Option, none, some}
use lib.ListN.{length}
use lib.Dec.{ltb, eqb}
use borrow.Author.Tests.{eqb-true, ltb-true}
use Rattle.refusals.specs.Refusals.{refusal_of, answered}
use Rattle.refusals.proofs.TestLaws.{and_iff}
use Rattle.packet_metadata.specs.Metadata.{metadata_refusal, metadata_of, read_metadata}
use Rattle.packet_metadata.specs.declared.Metadata.{Metadata}
use Rattle.transfer.specs.declared.Key.{Key}
use Rattle.transfer.specs.Transfers.{Transfer, reached, key_of}
use Rattle.transfer.specs.Opening.{new_refusal}
use Rattle.table.specs.Tables.{keys, find, runs_of, add}
use Rattle.table.specs.Open.{Verdict, new, already, refuse, judge_new, judge_found, judge_open, open_as, open_key, open_read, open_packet, open_accepted}
use Rattle.table.specs.declared.Opened.TheVariants.{New, AlreadyOpen}
use Rattle.table.proofs.TableLaws.{by_test, find_id, add_key, keys_add}
use Rattle.table.specs.Outcome.{Outcome}
use Rattle.table.specs.declared.Opened.{Opened}
use Rattle.std.specs.Prelude.{Result, Ok, Err}
use Rattle.refusals.specs.declared.Refusal.{Refusal}

key_eq : (j k : Key) → j.id ≡ k.id → j.width ≡ k.width → j.length ≡ k.length → j ≡ k
key_eq j k p q r = λ i. record { id = p i; width = q i; length = r i }

-- refused, with a number that is not 0 (R1.5), and the table stays; or the Id is open with the packet's width and length, and the
-- table stays; or it is not open, there is room, and it is added
pub open_cases : (P : Outcome (Result Opened Refusal) → Type 0) (t : List Transfer) (packet : List ℕ)
    → ((n : ℕ) → P (record { answer = Err (refusal_of (suc n)); table = t }))
    → ((m : Metadata) → read_metadata packet ≡ Ok m → find m.id (keys t) ≡ some (key_of m)
    → P (record { answer = Ok (AlreadyOpen (reached (key_of m) (runs_of t m.id))); table = t }))
    → ((m : Metadata) → read_metadata packet ≡ Ok m → find m.id (keys t) ≡ none → new_refusal m.flags ≡ 0 → length (keys t) < 16
    → P (record { answer = Ok (New (reached (key_of m) [])); table = add (key_of m) t }))
    → P (open_packet t packet)
unfolding open_packet open_read open_key judge_open judge_found open_as read_metadata
open_cases P t packet refused old fresh = go (metadata_refusal packet) refl
  where
    found : (m : Metadata) → read_metadata packet ≡ Ok m → (o : Option Key) → find m.id (keys t) ≡ o
        → P (open_as (judge_found o (length (keys t)) (new_refusal m.flags) (key_of m)) t (key_of m))
    found m e none q = unmet (new_refusal m.flags) refl
      where
        unmet : (n : ℕ) → new_refusal m.flags ≡ n → P (open_as (judge_new n (length (keys t))) t (key_of m))
        unmet zero z =
            by_test (λ (v : Verdict). P (open_as v t (key_of m))) (ltb (length (keys t)) 16) new (refuse 17) (λ b. fresh m e q z (ltb-true _ _ b))
            (λ b. refused 16)
        unmet (suc n) z = refused n
    found m e (some j) q =
        by_test (λ (v : Verdict). P (open_as v t (key_of m))) (eqb j.width m.width && eqb j.length m.entry.size) already (refuse 18)
        (λ b. let c = (and_iff (eqb j.width m.width) (eqb j.length m.entry.size)).0 b in
        old m e (q ∙ ap some (key_eq j (key_of m) (find_id m.id (keys t) j q) (eqb-true _ _ c.0) (eqb-true _ _ c.1))))
        (λ b. refused 17)

    go : (n : ℕ) → metadata_refusal packet ≡ n → P (open_read t (answered Err n (Ok (metadata_of packet))))
    go zero e = found (metadata_of packet) (rw e) (find (metadata_of packet).id (keys t)) refl
    go (suc n) e = refused n

-- tables with the same keys accept the same openings, and then have the same keys
pub open_alike : (t u : List Transfer) (packet : List ℕ) → keys t ≡ keys u
    → (open_accepted (open_packet t packet).answer ≡ open_accepted (open_packet u packet).answer)
    × (keys (open_packet t packet).table ≡ keys (open_packet u packet).table)
unfolding open_packet open_read open_key open_as
open_alike t u packet e = go (read_metadata packet)
  where
    verdict : (k : Key) (v w : Verdict) → v ≡ w
        → (open_accepted (open_as v t k).answer ≡ open_accepted (open_as w u k).answer) × (keys (open_as v t k).table ≡ keys (open_as w u k).table)
    verdict k new w q = rw (← q) (refl, keys_add k t ∙ ap (add_key k) e ∙ sym (keys_add k u))
    verdict k already w q = rw (← q) (refl, e)
    verdict k (refuse n) w q = rw (← q) (refl, e)

    go : (r : Result Metadata Refusal) → (open_accepted (open_read t r).answer ≡ open_accepted (open_read u r).answer)
        × (keys (open_read t r).table ≡ keys (open_read u r).table)
    go (Ok m) =
        let n = new_refusal m.flags in
        verdict (key_of m) (judge_open (keys t) n (key_of m)) (judge_open (keys u) n (key_of m)) (ap (λ (ks : List Key). judge_open ks n (key_of m)) e)
    go (Err r) = (refl, e)
