-- R14.2: a record leaves the table that is not chosen, and all but merging looks at the chosen one alone. Assumes nothing.
use Prim.Native.Nat.{ℕ}
use mathlib.Core.Path.{◌≡◌, refl}
use mathlib.Core.List.{List}
use borrow.Author.Tests.{ne_eqb}
use Rattle.replay_steps.specs.Records.{record_lines, area_after, zero_after, one_after}

pub one_stays : (kind : ℕ) (body zero one : List ℕ) → one_after 0 kind body zero one ≡ one
unfolding one_after
one_stays kind body zero one = refl

pub zero_stays : (kind : ℕ) (body zero one : List ℕ) → zero_after 1 kind body zero one ≡ zero
unfolding zero_after
zero_stays kind body zero one = refl

module _ (kind : ℕ) (d : kind ≡ 0x4d → ⊥) (body area other others : List ℕ) where
  pub lines_alone : (n : ℕ) (room : List ℕ) → record_lines n kind body area other room ≡ record_lines n kind body area others room
  unfolding record_lines
  lines_alone n room = rw (ne_eqb kind 0x4d d)

  pub area_alone : area_after kind body area other ≡ area_after kind body area others
  unfolding area_after
  area_alone = rw (ne_eqb kind 0x4d d)
