-- R5.1 to R5.3, R5.8, R5.9: the set of received offsets of one transfer, kept as its one canonical list of runs, lowest first.
-- Assumes nothing.
use Rattle.std.specs.Prelude.{ℕ, suc, ◌≤◌, ◌<◌, min, max, ◌≡◌, Bool, false, cond, ◌&&◌, ◌||◌, List, [], ◌∷◌, ◌⊎◌, ltb, leb, get_or}

-- R5.2: the offsets from start on, and stop is the first offset after them
pub record Run : Type 0 where
  pub start : ℕ
  pub stop : ℕ

abbrev pub run : ℕ → ℕ → Run
run start stop = record { start = start; stop = stop }

-- run i of a list, the first being run 0; past the last, an empty one stands for none
abbrev pub nth_run : List Run → ℕ → Run
nth_run rs i = get_or rs i (run 0 0)

-- offset x lies in the run
abbrev pub Within : Run → ℕ → Type 0
Within r x = (r.start ≤ x) × (x < r.stop)

-- R5.1: x is one of the received offsets
abbrev pub Member : List Run → ℕ → Type 0
Member [] x = ⊥
Member (r ∷ rs) x = Within r x ⊎ Member rs x

-- R5.2: a longest unbroken stretch: it isn't empty, all its offsets are received, the one before it, if there is one, is not, and
-- nor is the one after it
pub record LongestStretch (rs : List Run) (r : Run) : Type 0 where
  pub some : r.start < r.stop
  pub received : (x : ℕ) → Within r x → Member rs x
  pub none_before : (x : ℕ) → suc x ≡ r.start → Member rs x → ⊥
  pub none_after : Member rs r.stop → ⊥

-- `Member` as a test
unfoldable pub contains : List Run → ℕ → Bool
contains [] x = false
contains (r ∷ rs) x = (leb r.start x && ltb x r.stop) || contains rs x

-- R5.2: no run is empty, the first starts at k or later, and at least one offset lies between a run and the next
abbrev pub CanonicalFrom : ℕ → List Run → Type 0
CanonicalFrom k [] = Unit
CanonicalFrom k (r ∷ rs) = (k ≤ r.start) × (r.start < r.stop) × CanonicalFrom (suc r.stop) rs

abbrev pub Canonical : List Run → Type 0
Canonical rs = CanonicalFrom 0 rs

-- R6.1: no run stops above L
abbrev pub StopsTo : ℕ → List Run → Type 0
StopsTo L [] = Unit
StopsTo L (r ∷ rs) = (r.stop ≤ L) × StopsTo L rs

-- R5.3: the offsets from a on are added; b, above a, is the first after them. A run that lies below with an offset between stays as it
-- is, the new one goes before a run that lies above with an offset between, and a run that overlaps or touches is joined with it
unfoldable pub insert : ℕ → ℕ → List Run → List Run
insert a b [] = run a b ∷ []
insert a b (r ∷ rs) =
    let after = r ∷ insert a b rs in
    let joined = insert (min a r.start) (max b r.stop) rs in
    cond (ltb r.stop a) after (cond (ltb b r.start) (run a b ∷ r ∷ rs) joined)

-- R5.8: how many runs an insertion absorbs: those that overlap or touch it
unfoldable pub absorbed : ℕ → ℕ → List Run → ℕ
absorbed a b [] = 0
absorbed a b (r ∷ rs) =
    let rest = absorbed a b rs in
    cond (leb a r.stop && leb r.start b) (suc rest) rest

-- R5.9: whether an insertion brings an offset that was not received, 1 for yes: it doesn't where one run has all of them
unfoldable pub adds : ℕ → ℕ → List Run → ℕ
adds a b [] = 1
adds a b (r ∷ rs) =
    let rest = adds a b rs in
    cond (leb r.start a && leb b r.stop) 0 rest
