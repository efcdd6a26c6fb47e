-- Reading an entry that was written gives the same fields, and writing an entry that was read the same octets. Assumes nothing.
use Prim.Native.Nat.{ℕ, ◌+◌, ◌-◌, ◌^◌, ◌<◌}
use mathlib.Core.Path.{◌≡◌, refl, sym, ap, ◌∙◌}
use mathlib.Core.Bool.{not}
use mathlib.Core.List.{List, [], ◌∷◌, ◌++◌}
use native.Mathlib.Omega.{arith}
use lib.ListN.{length, take, drop, take-append-drop}
use lib.Seq.{take_at, drop_at, drop-drop}
use lib.Dec.{ltb}
use borrow.Author.Tests.{ltb-true, not-false, lt-ltb, le-ltb}
use Rattle.octets.specs.Numbers.{be_value, be_digits, Octets}
use Rattle.octets.proofs.PutLaws.{refold}
use Rattle.octets.proofs.UpperLaws.{digits_small}
use Rattle.octets.proofs.NumberLaws.{value_digits, length_digits, part_digits, part_lt}
use Rattle.refusals.specs.Refusals.{when}
use Rattle.refusals.proofs.RefusalLaws.{first_none, rest_none, failed}
use Rattle.header.specs.Descriptor.{descriptor_at}
use Rattle.header.proofs.DescriptorLaws.{descriptor_none}
use Rattle.entry_parts.specs.Properties.{size_octets, path_at, property_refusal}
use Rattle.entry_parts.specs.Path.{zero_at, path_write_refusal}
use Rattle.directory_entry.specs.Entry.{properties_of, size_of, after_times, entry_refusal, entry_of}
use Rattle.directory_entry.specs.WriteEntry.{entry_excess, entry_write_refusal, entry_octets, entry_size}
use Rattle.directory_entry.specs.declared.Entry.{Entry}
use Rattle.entry_parts.proofs.PathLaws.{closed_again, closed_fine, open_fine}
use Rattle.directory_entry.proofs.EntryLaws.{EntryFine, entry_fine, length_entry}

record ExcessFine (properties size mtime ctime : ℕ) : Type 0 where
  properties_fit : properties < 2 ^ 16
  size_fits : size < 256 ^ size_octets properties
  mtime_fits : mtime < 2 ^ 32
  ctime_fits : ctime < 2 ^ 32

excess_fine : (properties size mtime ctime : ℕ) → entry_excess properties size mtime ctime ≡ 0 → ExcessFine properties size mtime ctime
unfolding entry_excess
excess_fine properties size mtime ctime e =
    let r1 = rest_none (when (not (ltb properties (2 ^ 16))) 21) _ e in
    let r2 = rest_none (when (not (ltb size (256 ^ size_octets properties))) 21) _ r1 in
    let r3 = rest_none (when (not (ltb mtime (2 ^ 32))) 21) _ r2 in
    record {
      properties_fit = ltb-true _ _ (not-false _ (failed _ 20 (first_none _ _ e)));
      size_fits = ltb-true _ _ (not-false _ (failed _ 20 (first_none _ _ r1)));
      mtime_fits = ltb-true _ _ (not-false _ (failed _ 20 (first_none _ _ r2)));
      ctime_fits = ltb-true _ _ (not-false _ (failed _ 20 r3));
    }

record WriteFine (d properties size : ℕ) (path : List ℕ) : Type 0 where
  property : property_refusal properties ≡ 0
  path_fine : path_write_refusal path ≡ 0
  size_fits : size < 256 ^ d

write_fine : (d properties size : ℕ) (path : List ℕ) → entry_write_refusal d properties size path ≡ 0 → WriteFine d properties size path
unfolding entry_write_refusal
write_fine d properties size path e =
    let r1 = rest_none (property_refusal properties) _ e in
    record {
      property = first_none _ _ e;
      path_fine = first_none _ _ r1;
      size_fits = ltb-true _ _ (not-false _ (failed _ 8 (rest_none (path_write_refusal path) _ r1)));
    }

-- reading what was written; a size is handed over as a number of 64 bits
module _ (d properties size mtime ctime : ℕ) (path : List ℕ) (held : size < 2 ^ 64) (ok : entry_excess properties size mtime ctime ≡ 0) (may : entry_write_refusal d properties size path ≡ 0) where
  abbrev e : List ℕ
  e = entry_octets properties size mtime ctime path

  abbrev k : ℕ
  k = size_octets properties

  fit : ExcessFine properties size mtime ctime
  fit = excess_fine properties size mtime ctime ok

  properties_is : properties_of e ≡ properties
  unfolding entry_octets
  properties_is = value_digits 2 properties fit.properties_fit

  after_properties : drop 2 e ≡ be_digits k size ++ (be_digits 4 mtime ++ (be_digits 4 ctime ++ (path ++ (0 ∷ []))))
  unfolding entry_octets
  after_properties = refl

  after_size : drop (2 + k) e ≡ be_digits 4 mtime ++ (be_digits 4 ctime ++ (path ++ (0 ∷ [])))
  after_size = sym (drop-drop k 2 e) ∙ rw after_properties (drop_at (be_digits k size) _ k (length_digits k size))

  after_mtime : drop (6 + k) e ≡ be_digits 4 ctime ++ (path ++ (0 ∷ []))
  after_mtime =
      let n : 6 + k ≡ 2 + k + 4 = omega arith in
      rw (n, ← drop-drop 4 (2 + k) e, after_size)

  after_ctime : drop (10 + k) e ≡ path ++ (0 ∷ [])
  after_ctime =
      let n : 10 + k ≡ 6 + k + 4 = omega arith in
      rw (n, ← drop-drop 4 (6 + k) e, after_mtime)

  size_part : take k (drop 2 e) ≡ be_digits k size
  size_part = rw after_properties (take_at (be_digits k size) (be_digits 4 mtime ++ (be_digits 4 ctime ++ (path ++ (0 ∷ [])))) k (length_digits k size))

  size_is : descriptor_at k 2 e ≡ size
  size_is = rw size_part (value_digits k size fit.size_fits)

  mtime_is : be_value (take 4 (drop (2 + k) e)) ≡ mtime
  mtime_is = rw after_size (value_digits 4 mtime fit.mtime_fits)

  ctime_is : be_value (take 4 (drop (6 + k) e)) ≡ ctime
  ctime_is = rw after_mtime (value_digits 4 ctime fit.ctime_fits)

  pub entry_taken : entry_refusal d e ≡ 0
  unfolding entry_refusal
  entry_taken =
      let f = write_fine d properties size path may in
      let n = entry_size properties (length path) in
      rw (
        properties_is,
        descriptor_none k 2 e (omega (arith, length_entry properties size mtime ctime path)) (rw size_part (digits_small k size fit.size_fits held)),
        length_entry,
        after_ctime,
        size_is,
        le-ltb n 2 (omega arith),
        f.property,
        le-ltb n (path_at properties) (omega arith),
        closed_fine path f.path_fine,
        lt-ltb size (256 ^ d) f.size_fits,
      )

  pub entry_read_written : (at : ℕ)
      → entry_of at e
      ≡ record {
        properties = properties;
        size = size;
        mtime = mtime;
        ctime = ctime;
        path = at + path_at properties;
        length = length path;
      }
  unfolding entry_of
  entry_read_written at =
      let l : entry_size properties (length path) - path_at properties - 1 ≡ length path = omega arith in
      simp (properties_is, size_is, mtime_is, ctime_is, length_entry, l)

  pub path_written : take (length path) (drop (path_at properties) e) ≡ path
  path_written = rw after_ctime (take_at path (0 ∷ []) (length path) refl)

-- two parts of a list, joined again
join : (e a b c d p : List ℕ) (k : ℕ) → a ≡ take 2 e → b ≡ take k (drop 2 e) → c ≡ take 4 (drop (2 + k) e) → d ≡ take 4 (drop (6 + k) e) → p ≡ drop (10 + k) e
    → a ++ (b ++ (c ++ (d ++ p))) ≡ e
join e a b c d p k ea eb ec ed ep =
    rw (ea, eb, ec, ed, ep, refold e (6 + k) 4 (10 + k) (omega arith), refold e (2 + k) 4 (6 + k) (omega arith), refold e 2 k (2 + k) refl)
    (take-append-drop 2 e)

-- writing what was read
module _ (d at : ℕ) (e : List ℕ) (o : Octets e) (ok : entry_refusal d e ≡ 0) where
  abbrev f : Entry
  f = entry_of at e

  -- the octets of the path
  abbrev pub path_part : List ℕ
  path_part = take f.length (drop (path_at f.properties) e)

  fine : EntryFine d e
  fine = entry_fine d e ok

  path_is : path_part ≡ take (zero_at (after_times e)) (after_times e)
  unfolding entry_of
  path_is =
      let l : length e - path_at (properties_of e) - 1 ≡ zero_at (after_times e) = omega (arith, fine.long) in
      ap (λ (n : ℕ). take n (after_times e)) l

  pub entry_written_read : entry_octets f.properties f.size f.mtime f.ctime path_part ≡ e
  unfolding entry_octets entry_of
  entry_written_read =
      let k = size_octets (properties_of e) in
      let l = fine.long in
      join e _ _ _ _ _ k
      (part_digits e 0 2 o (omega arith))
      (part_digits e 2 k o (omega arith))
      (part_digits e (2 + k) 4 o (omega arith))
      (part_digits e (6 + k) 4 o (omega arith))
      (rw path_is (closed_again (after_times e) fine.path.closed))

  pub entry_fits : entry_excess f.properties f.size f.mtime f.ctime ≡ 0
  unfolding entry_excess entry_of
  entry_fits =
      let k = size_octets (properties_of e) in
      let l = fine.long in
      rw (
        lt-ltb (properties_of e) (2 ^ 16) (part_lt e 0 2 o (omega arith)),
        lt-ltb (size_of e) (256 ^ k) (part_lt e 2 k o (omega arith)),
        lt-ltb (be_value (take 4 (drop (2 + k) e))) (2 ^ 32) (part_lt e (2 + k) 4 o (omega arith)),
        lt-ltb (be_value (take 4 (drop (6 + k) e))) (2 ^ 32) (part_lt e (6 + k) 4 o (omega arith)),
      )

  pub entry_writable : entry_write_refusal d f.properties f.size path_part ≡ 0
  unfolding entry_write_refusal entry_of
  entry_writable =
      rw (path_is, fine.property, open_fine (after_times e) fine.path, lt-ltb (size_of e) (256 ^ d) fine.size_fits)
