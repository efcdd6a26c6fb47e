-- R2.8, R3.3: a directory entry, read: which entries are refused, and the fields of the others.
-- Assumes nothing.
use Rattle.std.specs.Prelude.{ℕ, ◌+◌, ◌-◌, ◌^◌, not, List, length, take, drop, ltb}
use Rattle.octets.specs.Numbers.{be_value}
use Rattle.refusals.specs.Refusals.{◌▹◌, when}
use Rattle.header.specs.Descriptor.{descriptor_at, descriptor_refusal}
use Rattle.entry_parts.specs.Properties.{size_octets, path_at, property_refusal}
use Rattle.entry_parts.specs.Path.{path_refusal}
use Rattle.directory_entry.specs.declared.Entry.{Entry}

abbrev pub properties_of : List ℕ → ℕ
properties_of e = be_value (take 2 e)

abbrev pub size_of : List ℕ → ℕ
size_of e = descriptor_at (size_octets (properties_of e)) 2 e

-- what follows Ctime
abbrev pub after_times : List ℕ → List ℕ
after_times e = drop (path_at (properties_of e)) e

-- R3.3: 1 for the properties, 6, 1 and 5 for the size, 1 for the times, the path (1 or 8), 9.
-- e is the entry, to the packet's end, and d the octets of the packet's own descriptors, which the size must fit too
unfoldable pub entry_refusal : ℕ → List ℕ → ℕ
entry_refusal d e =
    when (ltb (length e) 2) 1
    ▹ property_refusal (properties_of e)
    ▹ descriptor_refusal (size_octets (properties_of e)) 2 e
    ▹ when (ltb (length e) (path_at (properties_of e))) 1
    ▹ path_refusal (after_times e)
    ▹ when (not (ltb (size_of e) (256 ^ d))) 9

-- the fields of an entry that starts at the place `at` of its packet; the path's place is counted from the packet's start
unfoldable pub entry_of : ℕ → List ℕ → Entry
entry_of at e =
    let n = size_octets (properties_of e) in
    record {
      properties = properties_of e;
      size = size_of e;
      mtime = be_value (take 4 (drop (2 + n) e));
      ctime = be_value (take 4 (drop (6 + n) e));
      path = at + path_at (properties_of e);
      length = length e - path_at (properties_of e) - 1;
    }
