-- What is known of an entry that is not refused, read or to be written. Assumes nothing.
use Prim.Native.Nat.{ℕ, ◌+◌, ◌-◌, ◌^◌, ◌<◌, ◌≤◌}
use mathlib.Core.Path.{◌≡◌}
use mathlib.Core.List.{List, ◌++◌, append_assoc}
use native.Mathlib.Omega.{arith}
use lib.ListN.{length, take, drop, length-append, length-drop}
use lib.Seq.{take_all}
use lib.Dec.{ltb}
use borrow.Author.Tests.{ltb-true, not-false}
use Rattle.octets.specs.Put.{put}
use Rattle.octets.proofs.NumberLaws.{length_digits}
use Rattle.octets.proofs.PutLaws.{put_next}
use Rattle.refusals.specs.Refusals.{when}
use Rattle.refusals.proofs.RefusalLaws.{first_none, rest_none, failed}
use Rattle.header.specs.Descriptor.{descriptor_refusal}
use Rattle.entry_parts.specs.Properties.{size_octets, path_at, property_refusal}
use Rattle.entry_parts.specs.Path.{zero_at, path_refusal}
use Rattle.directory_entry.specs.Entry.{properties_of, size_of, after_times, entry_refusal}
use Rattle.directory_entry.specs.WriteEntry.{entry_octets, entry_size}
use Rattle.entry_parts.proofs.PathLaws.{PathFine, path_fine}

-- the rest of a slice from a place on
pub rest_part : (s : List ℕ) (at : ℕ) → take (length s - at) (drop at s) ≡ drop at s
rest_part s at = take_all (length s - at) (drop at s) (simp length-drop (omega arith))

pub record EntryFine (d : ℕ) (e : List ℕ) : Type 0 where
  pub property : property_refusal (properties_of e) ≡ 0
  pub size : descriptor_refusal (size_octets (properties_of e)) 2 e ≡ 0
  pub path_none : path_refusal (after_times e) ≡ 0
  pub path : PathFine (after_times e)
  pub long : path_at (properties_of e) + zero_at (after_times e) + 1 ≡ length e
  pub size_fits : size_of e < 256 ^ d

pub entry_fine : (d : ℕ) (e : List ℕ) → entry_refusal d e ≡ 0 → EntryFine d e
unfolding entry_refusal
entry_fine d e q =
    let x = properties_of e in
    let r1 = rest_none (when (ltb (length e) 2) 1) _ q in
    let r2 = rest_none (property_refusal x) _ r1 in
    let r3 = rest_none (descriptor_refusal (size_octets x) 2 e) _ r2 in
    let r4 = rest_none (when (ltb (length e) (path_at x)) 1) _ r3 in
    let r5 = rest_none (path_refusal (after_times e)) _ r4 in
    let p : PathFine (after_times e) = path_fine (after_times e) (first_none _ _ r4) in
    record {
      property = first_none _ _ r1;
      size = first_none _ _ r2;
      path_none = first_none _ _ r4;
      path = p;
      long = omega (arith, p.some, p.closed, length-drop (path_at x) e);
      size_fits = ltb-true _ _ (not-false _ (failed _ 8 r5));
    }

-- six parts, put one after the other
pub puts : (a b c d e f old : List ℕ) (at k l m n o : ℕ) → at + length a ≡ k → k + length b ≡ l → l + length c ≡ m → m + length d ≡ n → n + length e ≡ o
    → o + length f ≤ length old
    → put o f (put n e (put m d (put l c (put k b (put at a old))))) ≡ put at (a ++ (b ++ (c ++ (d ++ (e ++ f))))) old
puts a b c d e f old at k l m n o hk hl hm hn ho h =
    let el : at + length (a ++ b) ≡ l = rw length-append (omega arith) in
    let em : at + length (a ++ b ++ c) ≡ m = rw length-append (omega arith) in
    let en : at + length (a ++ b ++ c ++ d) ≡ n = rw length-append (omega arith) in
    let eo : at + length (a ++ b ++ c ++ d ++ e) ≡ o = rw length-append (omega arith) in
    rw (
      put_next at k a b old hk (omega arith),
      put_next at l (a ++ b) c old el (omega arith),
      put_next at m (a ++ b ++ c) d old em (omega arith),
      put_next at n (a ++ b ++ c ++ d) e old en (omega arith),
      put_next at o (a ++ b ++ c ++ d ++ e) f old eo h,
    )
    (simp append_assoc)

pub length_entry : (properties size mtime ctime : ℕ) (path : List ℕ) → length (entry_octets properties size mtime ctime path) ≡ entry_size properties (length path)
unfolding entry_octets
length_entry properties size mtime ctime path = simp (length-append, length_digits) (omega arith)
