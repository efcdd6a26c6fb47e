-- What is shown for the kind that a record has is shown for the record. Assumes nothing.
use Prim.Native.Nat.{ℕ}
use mathlib.Core.Path.{◌≡◌}
use mathlib.Core.List.{List}
use Rattle.text.specs.Added.{Added}
use Rattle.replay_steps.specs.Records.{record_lines, area_after}

pub of_kind : (n : ℕ) (body area other room : List ℕ) {k j : ℕ} {o p l : List ℕ} {r : ℕ} → k ≡ j
    → (Added o 0 (record_lines n j body area other room) p r) × (l ≡ area_after j body area other)
    → (Added o 0 (record_lines n k body area other room) p r) × (l ≡ area_after k body area other)
of_kind n body area other room e h = rw e h
