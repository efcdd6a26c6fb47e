-- What the readers give of octets: the fields of an accepted METADATA or DATA, and what is known of them.
-- Assumes nothing.
use Prim.Native.Nat.{ℕ, ◌^◌, ◌<◌}
use mathlib.Core.Path.{◌≡◌}
use mathlib.Core.List.{List}
use native.Mathlib.Omega.{arith}
use lib.ListN.{length, drop}
use Rattle.octets.specs.Numbers.{Octets, Width}
use Rattle.octets.proofs.NumberLaws.{part_lt, octets_drop}
use Rattle.header.specs.FirstWord.{descriptor_octets}
use Rattle.header.specs.Start.{word_of}
use Rattle.header.proofs.FirstWordLaws.{octets_width}
use Rattle.header.proofs.DescriptorLaws.{descriptor_lt}
use Rattle.entry_parts.specs.Properties.{size_octets}
use Rattle.directory_entry.specs.Entry.{properties_of, entry_of}
use Rattle.directory_entry.proofs.EntryLaws.{entry_fine}
use Rattle.packet_metadata.specs.Metadata.{entry_at, metadata_refusal, metadata_of, read_metadata}
use Rattle.packet_metadata.specs.declared.Metadata.{Metadata}
use Rattle.packet_metadata.proofs.MetadataLaws.{metadata_fine, metadata_given}
use Rattle.packet_data.specs.Data.{payload_at, data_refusal, data_of, read_data}
use Rattle.packet_data.specs.declared.Data.{Data}
use Rattle.packet_data.proofs.DataLaws.{data_fine, data_given}
use Rattle.std.specs.Prelude.{Ok}

pub record MetadataKnown (m : Metadata) : Type 0 where
  pub id_fits : m.id < 2 ^ 32
  pub width_is : Width m.width
  pub size_fits : m.entry.size < 256 ^ m.width
  pub size_held : m.entry.size < 2 ^ 64

fields_known : (s : List ℕ) → Octets s → metadata_refusal s ≡ 0 → MetadataKnown (metadata_of s)
unfolding metadata_of entry_of
fields_known s o z =
    let f = metadata_fine s z in
    let e = drop (entry_at (word_of s)) s in
    let g = entry_fine (descriptor_octets (word_of s)) e f.entry in
    record {
      id_fits = part_lt s 4 4 o f.start.long;
      width_is = octets_width (word_of s);
      size_fits = g.size_fits;
      size_held = descriptor_lt (size_octets (properties_of e)) 2 e (octets_drop (entry_at (word_of s)) s o) g.size;
    }

pub metadata_known : (s : List ℕ) (m : Metadata) → Octets s → read_metadata s ≡ Ok m → MetadataKnown m
metadata_known s m o e = let g = metadata_given s m e in rw (← g.1) (fields_known s o g.0)

some_payload : (s : List ℕ) → data_refusal s ≡ 0 → 0 < (data_of s).length
unfolding data_of
some_payload s z = let f = data_fine s z in let h : payload_at (word_of s) < length s = f.more in omega arith

-- R9.10: DATA that is taken has a payload
pub data_some : (s : List ℕ) (d : Data) → read_data s ≡ Ok d → 0 < d.length
data_some s d e = let g = data_given s d e in rw (← g.1) (some_payload s g.0)
