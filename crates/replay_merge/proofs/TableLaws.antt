-- R14.2: a body that names a table has one octet, and what is chosen is always one of the two. Assumes nothing.
use Prim.Native.Nat.{ℕ, ◌<◌}
use mathlib.Core.Path.{◌≡◌, refl}
use mathlib.Core.Bool.{Bool, true, false, cond}
use mathlib.Core.List.{List}
use native.Mathlib.Omega.{arith}
use lib.Dec.{eqb, ltb}
use lib.ListN.{length, get_or}
use borrow.Author.Tests.{eqb-true, ltb-true}
use Rattle.replay_merge.specs.MergeLines.{names_table, chosen_after}

pub names_one : (body : List ℕ) → names_table body ≡ true → length body ≡ 1
unfolding names_table
names_one body = go (eqb (length body) 1) refl
  where
    go : (b : Bool) → eqb (length body) 1 ≡ b → cond b (ltb (get_or body 0 0) 2) false ≡ true → length body ≡ 1
    go true p e = eqb-true (length body) 1 p
    go false p e = absurd (let z : ◌≡◌ {A = ℕ} 0 1 = cc in omega arith)

names_two : (body : List ℕ) → names_table body ≡ true → get_or body 0 0 < 2
unfolding names_table
names_two body = go (eqb (length body) 1)
  where
    go : (b : Bool) → cond b (ltb (get_or body 0 0) 2) false ≡ true → get_or body 0 0 < 2
    go true e = ltb-true (get_or body 0 0) 2 e
    go false e = absurd (let z : ◌≡◌ {A = ℕ} 0 1 = cc in omega arith)

pub chosen_of_two : (kind : ℕ) (body : List ℕ) (chosen : ℕ) → chosen < 2 → chosen_after kind body chosen < 2
unfolding chosen_after
chosen_of_two kind body chosen h = go (eqb kind 0x54) (names_table body) refl
  where
    go : (t b : Bool) → names_table body ≡ b → cond t (cond b (get_or body 0 0) chosen) chosen < 2
    go true true p = names_two body p
    go true false p = h
    go false b p = h
