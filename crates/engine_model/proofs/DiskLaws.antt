-- Writes with a property, and what is done to them.
-- Assumes nothing.
use Prim.Native.Nat.{ℕ, suc}
use mathlib.Core.Path.{◌≡◌, refl, sym, ap, subst, ◌∙◌}
use mathlib.Core.Bool.{Bool, true, false, cond, ◌&&◌, ◌||◌}
use mathlib.Core.List.{List, [], ◌∷◌, map}
use mathlib.Core.Logic.{◌⊎◌, inl, inr}
use mathlib.Core.Option.{Option, none, some}
use native.Mathlib.Omega.{arith}
use borrow.Author.Tests.{eq-eqb, eqb-true}
use lib.Dec.{eqb}
use Rattle.engine_model.specs.Disk.{Write, or_else, octet_in, content, as_due, as_forced, forced, as_left, left}

-- a write with the property q has an octet at the offset o of the part p of the file f of the Id i
pub record Has (q : Write → Bool) (w : Write) (i f p o : ℕ) : Type 0 where
  pub kind : q w ≡ true
  pub id_is : w.id ≡ i
  pub file_is : w.file ≡ f
  pub of_is : w.of ≡ p
  pub value : ℕ
  pub octet_is : w.octet o ≡ some value

abbrev pub Some : (q : Write → Bool) → List Write → ℕ → ℕ → ℕ → ℕ → Type 0
Some q [] i f p o = ⊥
Some q (w ∷ ws) i f p o = Has q w i f p o ⊎ Some q ws i f p o

abbrev pub any : Write → Bool
any w = true

abbrev pub is_due : Write → Bool
is_due w = w.due

abbrev pub is_durable : Write → Bool
is_durable w = w.durable

-- what has a write with q in ws has one with r in us
abbrev pub Carries : (q r : Write → Bool) → (ws us : List Write) → Type 0
Carries q r ws us = (i f p o : ℕ) → Some q ws i f p o → Some r us i f p o

-- a write that has the same octets as another
abbrev Alike : Write → Write → Type 0
Alike w u = (w.id ≡ u.id) × (w.file ≡ u.file) × (w.of ≡ u.of) × ((o : ℕ) → w.octet o ≡ u.octet o)

has_alike : (q r : Write → Bool) (w u : Write) (i f p o : ℕ) → Alike w u → (q w ≡ true → r u ≡ true) → Has q w i f p o → Has r u i f p o
has_alike q r w u i f p o a k m =
    record {
      kind = k m.kind;
      id_is = sym a.0 ∙ m.id_is;
      file_is = sym a.1 ∙ m.file_is;
      of_is = sym a.2 ∙ m.of_is;
      value = m.value;
      octet_is = sym (a.3 o) ∙ m.octet_is;
    }

mapped : (q r : Write → Bool) (g : Write → Write) → ((w : Write) → Alike w (g w)) → ((w : Write) → q w ≡ true → r (g w) ≡ true)
    → (ws : List Write) → Carries q r ws (map g ws)
mapped q r g a k [] i f p o m = absurd m
mapped q r g a k (w ∷ ws) i f p o (inl m) = inl (has_alike q r w (g w) i f p o (a w) (k w) m)
mapped q r g a k (w ∷ ws) i f p o (inr m) = inr (mapped q r g a k ws i f p o m)

pub later_write : (q : Write → Bool) (w : Write) (ws : List Write) → Carries q q ws (w ∷ ws)
later_write q w ws i f p o m = inr m

-- ---- a sync begins, has forced the files, and a crash

due_alike : (w : Write) → Alike w (as_due w)
unfolding as_due
due_alike w = (refl, refl, refl, λ o. refl)

pub due_of_any : (ws : List Write) → Carries any is_due ws (map as_due ws)
unfolding as_due
due_of_any ws = mapped any is_due as_due due_alike (λ w e. refl) ws

pub due_any : (ws : List Write) → Carries any any ws (map as_due ws)
due_any ws = mapped any any as_due due_alike (λ w e. refl) ws

pub due_durable : (ws : List Write) → Carries is_durable is_durable ws (map as_due ws)
unfolding as_due
due_durable ws = mapped is_durable is_durable as_due due_alike (λ w e. e) ws

pub or_left : (a b : Bool) → a ≡ true → (a || b) ≡ true
or_left true b e = refl
or_left false b e = absurd (let z : ◌≡◌ {A = ℕ} 0 1 = cc in omega arith)

pub or_right : (a b : Bool) → b ≡ true → (a || b) ≡ true
or_right true b e = refl
or_right false b e = e

forced_alike : (w : Write) → Alike w (as_forced w)
unfolding as_forced
forced_alike w = (refl, refl, refl, λ o. refl)

-- what was due when the sync began is durable when it has run
pub forced_due : (ws : List Write) → Carries is_due is_durable ws (forced ws)
unfolding as_forced forced
forced_due ws = mapped is_due is_durable as_forced forced_alike (λ w e. or_left w.due w.durable e) ws

pub forced_durable : (ws : List Write) → Carries is_durable is_durable ws (forced ws)
unfolding as_forced forced
forced_durable ws = mapped is_durable is_durable as_forced forced_alike (λ w e. or_right w.due w.durable e) ws

pub forced_any : (ws : List Write) → Carries any any ws (forced ws)
unfolding forced
forced_any ws = mapped any any as_forced forced_alike (λ w e. refl) ws

pub forced_still_due : (ws : List Write) → Carries is_due is_due ws (forced ws)
unfolding as_forced forced
forced_still_due ws = mapped is_due is_due as_forced forced_alike (λ w e. e) ws

-- what is on disk for good stays there
pub left_durable : (b : Bool) (c : ℕ → ℕ → Bool) (ws : List Write) → Carries is_durable is_durable ws (left b c ws)
unfolding left as_left
left_durable b c [] i f p o m = absurd m
left_durable b c (w ∷ ws) i f p o (inl m) =
    inl (record {
      kind = or_right b w.durable m.kind;
      id_is = m.id_is;
      file_is = m.file_is;
      of_is = m.of_is;
      value = m.value;
      octet_is = rw m.kind m.octet_is;
    })
left_durable b c (w ∷ ws) i f p o (inr m) = inr (left_durable b (λ n. c (suc n)) ws i f p o m)

pub durable_any : (ws : List Write) → Carries is_durable any ws ws
durable_any [] i f p o m = absurd m
durable_any (w ∷ ws) i f p o (inl m) = inl (has_alike is_durable any w w i f p o (refl, refl, refl, λ o. refl) (λ e. refl) m)
durable_any (w ∷ ws) i f p o (inr m) = inr (durable_any ws i f p o m)

-- ---- what the file holds

has_octet : (q : Write → Bool) (w : Write) (i f p o : ℕ) (m : Has q w i f p o) → octet_in w i f p o ≡ some m.value
unfolding octet_in
has_octet q w i f p o m =
    rw (eq-eqb w.id i m.id_is, eq-eqb w.file f m.file_is, eq-eqb w.of p m.of_is) m.octet_is

pub some_content : (q : Write → Bool) (ws : List Write) (i f p o : ℕ) → Some q ws i f p o → (v : ℕ) × (content ws i f p o ≡ some v)
unfolding content or_else
some_content q [] i f p o m = absurd m
some_content q (w ∷ ws) i f p o (inl m) = (m.value, ap (λ (x : Option ℕ). or_else x (content ws i f p o)) (has_octet q w i f p o m))
some_content q (w ∷ ws) i f p o (inr m) = go (octet_in w i f p o) (some_content q ws i f p o m)
  where
    go : (x : Option ℕ) → (v : ℕ) × (content ws i f p o ≡ some v) → (v : ℕ) × (or_else x (content ws i f p o) ≡ some v)
    go none r = r
    go (some v) r = (v, refl)

-- ---- every octet of every write is of a kind

abbrev pub Octet : Type 1
Octet = (i f p o v : ℕ) → Type 0

abbrev pub All : Octet → List Write → Type 0
All P [] = Unit
All P (w ∷ ws) = ((o v : ℕ) → w.octet o ≡ some v → P w.id w.file w.of o v) × All P ws

pub all_later : (P Q : Octet) → ((i f p o v : ℕ) → P i f p o v → Q i f p o v) → (ws : List Write) → All P ws → All Q ws
all_later P Q k [] m = tt
all_later P Q k (w ∷ ws) m = ((λ o v e. k w.id w.file w.of o v (m.0 o v e)), all_later P Q k ws m.1)

pub all_due : (P : Octet) (ws : List Write) → All P ws → All P (map as_due ws)
unfolding as_due
all_due P [] m = tt
all_due P (w ∷ ws) m = (m.0, all_due P ws m.1)

pub all_forced : (P : Octet) (ws : List Write) → All P ws → All P (forced ws)
unfolding as_forced forced
all_forced P [] m = tt
all_forced P (w ∷ ws) m = (m.0, all_forced P ws m.1)

pub cond_some : (b : Bool) (x : Option ℕ) (v : ℕ) → cond b x none ≡ some v → x ≡ some v
cond_some true x v e = e
cond_some false x v e = absurd (let z : ◌≡◌ {A = ℕ} 0 1 = cc in omega arith)

pub all_left : (P : Octet) (b : Bool) (c : ℕ → ℕ → Bool) (ws : List Write) → All P ws → All P (left b c ws)
unfolding as_left left
all_left P b c [] m = tt
all_left P b c (w ∷ ws) m =
    ((λ o v e. m.0 o v (cond_some (w.durable || c 0 o) (w.octet o) v e)), all_left P b (λ n. c (suc n)) ws m.1)

-- an octet that a file holds was written there
pub octet_in_lem : (w : Write) (i f p o v : ℕ) → octet_in w i f p o ≡ some v → (w.id ≡ i) × (w.file ≡ f) × (w.of ≡ p) × (w.octet o ≡ some v)
unfolding octet_in
octet_in_lem w i f p o v e = go (eqb w.id i) (eqb w.file f) (eqb w.of p) refl refl refl e
  where
    never : none ≡ some v → (w.id ≡ i) × (w.file ≡ f) × (w.of ≡ p) × (w.octet o ≡ some v)
    never e = absurd (let z : ◌≡◌ {A = ℕ} 0 1 = cc in omega arith)

    go : (a b c : Bool) → eqb w.id i ≡ a → eqb w.file f ≡ b → eqb w.of p ≡ c → cond (a && b && c) (w.octet o) none ≡ some v
        → (w.id ≡ i) × (w.file ≡ f) × (w.of ≡ p) × (w.octet o ≡ some v)
    go false b c x y z e = never e
    go true false c x y z e = never e
    go true true false x y z e = never e
    go true true true x y z e = (eqb-true w.id i x, eqb-true w.file f y, eqb-true w.of p z, e)

pub all_content : (P : Octet) (ws : List Write) (i f p o v : ℕ) → All P ws → content ws i f p o ≡ some v → P i f p o v
unfolding content or_else
all_content P [] i f p o v m e = absurd (let z : ◌≡◌ {A = ℕ} 0 1 = cc in omega arith)
all_content P (w ∷ ws) i f p o v m e = go (octet_in w i f p o) refl (λ x. all_content P ws i f p o v m.1 x) e
  where
    here : (w.id ≡ i) × (w.file ≡ f) × (w.of ≡ p) × (w.octet o ≡ some v) → P i f p o v
    here x =
        subst (λ (j : ℕ). P j f p o v) x.0
        (subst (λ (j : ℕ). P w.id j p o v) x.1 (subst (λ (j : ℕ). P w.id w.file j o v) x.2 (m.0 o v x.3)))

    go : (x : Option ℕ) → octet_in w i f p o ≡ x → (content ws i f p o ≡ some v → P i f p o v) → or_else x (content ws i f p o) ≡ some v → P i f p o v
    go none y k e = k e
    go (some u) y k e = here (octet_in_lem w i f p o v (y ∙ e))
