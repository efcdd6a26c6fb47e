-- R15.5 to R15.8 worked out on short lists: of the wrong unions in must-fail/ each of these is refused by one.
-- Assumes nothing.
use mathlib.Core.Path.{◌≡◌, refl}
use mathlib.Core.List.{List, [], ◌∷◌}
use Rattle.runs.specs.Runs.{Run, run, insert}
use Rattle.run_union.specs.Union.{union}

abbrev xs : List Run
xs = run 0 4 ∷ run 20 24 ∷ []

abbrev ys : List Run
ys = run 10 14 ∷ []

abbrev zs : List Run
zs = run 4 6 ∷ run 30 31 ∷ []

-- in either order: first_forgotten, second_forgotten, one_octet_more
pub either_order : union xs ys ≡ union ys xs
unfolding union insert
either_order = refl

-- with itself: one_octet_more
pub with_itself : union xs xs ≡ xs
unfolding union insert
with_itself = refl

-- three in either grouping: one_octet_more
pub either_grouping : union (union xs ys) zs ≡ union xs (union ys zs)
unfolding union insert
either_grouping = refl

-- a stretch before or after: first_forgotten
pub before_or_after : union (insert 12 16 xs) ys ≡ insert 12 16 (union xs ys)
unfolding union insert
before_or_after = refl
