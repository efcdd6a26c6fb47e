-- What is shown for the kind that a record has is shown for the record. Assumes nothing.
use Prim.Native.Nat.{ℕ}
use mathlib.Core.Path.{◌≡◌}
use mathlib.Core.List.{List}
use Rattle.text.specs.Added.{Added}
use Rattle.replay_kinds.specs.ByKind.{no_table_lines, one_table_lines, one_table_after}

pub no_table_of : (n : ℕ) (body : List ℕ) {k j : ℕ} {o p : List ℕ} {r : ℕ} → k ≡ j → Added o 0 (no_table_lines n j body) p r → Added o 0 (no_table_lines n k body) p r
no_table_of n body e h = rw e h

pub one_table_of : (n : ℕ) (body area : List ℕ) {k j : ℕ} {o p l : List ℕ} {r : ℕ} → k ≡ j
    → (Added o 0 (one_table_lines n j body area) p r) × (l ≡ one_table_after j body area)
    → (Added o 0 (one_table_lines n k body area) p r) × (l ≡ one_table_after k body area)
one_table_of n body area e h = rw e h
