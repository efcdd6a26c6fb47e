-- What the tests for the same sender, digest and file say.
-- Assumes nothing.
use Prim.Native.Nat.{ℕ}
use mathlib.Core.Path.{◌≡◌}
use mathlib.Core.Bool.{Bool, true, ◌&&◌}
use lib.Dec.{eqb}
use borrow.Author.Tests.{eqb-true}
use Rattle.refusals.proofs.TestLaws.{and_iff}
use Rattle.engine_slots.specs.declared.Sender.{Sender}
use Rattle.engine_slots.specs.declared.Digest.{Digest}
use Rattle.engine_model.specs.Snapshots.{Snapshot, is_open, file_of, same_sender, same_digest, same_file}

all_three : (a b c : Bool) → a && b && c ≡ true → (a ≡ true) × (b ≡ true) × (c ≡ true)
all_three a b c e =
    let l = (and_iff (a && b) c).0 e in
    let h = (and_iff a b).0 l.0 in
    (h.0, h.1, l.1)

pub same_sender_lem : (r s : Sender) → same_sender r s ≡ true → r ≡ s
unfolding same_sender
same_sender_lem r s e =
    let h = all_three (eqb r.high s.high) (eqb r.low s.low) (eqb r.port s.port) e in
    let high : r.high ≡ s.high = eqb-true _ _ h.0 in
    let low : r.low ≡ s.low = eqb-true _ _ h.1 in
    let port : r.port ≡ s.port = eqb-true _ _ h.2 in
    λ i. record { high = high i; low = low i; port = port i }

pub same_digest_lem : (d e : Digest) → same_digest d e ≡ true → d ≡ e
unfolding same_digest
same_digest_lem d e q =
    let h = (and_iff (eqb d.first e.first) (eqb d.second e.second)).0 q in
    let first : d.first ≡ e.first = eqb-true _ _ h.0 in
    let second : d.second ≡ e.second = eqb-true _ _ h.1 in
    λ i. record { first = first i; second = second i }

pub same_file_lem : (s t : Snapshot) (i : ℕ) → same_file s t i ≡ true → (is_open s i ≡ true) × (is_open t i ≡ true) × (file_of s i ≡ file_of t i)
unfolding same_file
same_file_lem s t i e =
    let h = all_three (is_open s i) (is_open t i) (eqb (file_of s i) (file_of t i)) e in
    (h.0, h.1, eqb-true _ _ h.2)
