-- Lists of accepted calls, for any call that changes nothing where it is refused.
-- Assumes nothing.
use mathlib.Core.Path.{◌≡◌, refl, ap, subst}
use mathlib.Core.Bool.{Bool, true, false, cond}
use mathlib.Core.List.{List, [], ◌∷◌, ◌++◌}
use Rattle.any_order.specs.Order.{Call, taken, after}

module _ {S : Type 0} (call : S → Call → Bool × S) where
  -- from t the calls, all of them accepted, lead to u
  abbrev pub Leads : S → List Call → S → Type 0
  Leads t [] u = t ≡ u
  Leads t (c ∷ cs) u = ((call t c).0 ≡ true) × Leads (call t c).1 cs u

  pub leads_taken : ((t : S) (c : Call) → (call t c).0 ≡ false → (call t c).1 ≡ t) → (t : S) (cs : List Call) → Leads t (taken call t cs) (after call t cs)
  unfolding taken after
  leads_taken kept t [] = refl
  leads_taken kept t (c ∷ cs) = go (call t c).0 refl (leads_taken kept (call t c).1 cs)
    where
      go : (b : Bool) → (call t c).0 ≡ b → Leads (call t c).1 (taken call (call t c).1 cs) (after call (call t c).1 cs)
          → Leads t (cond b (c ∷ taken call (call t c).1 cs) (taken call (call t c).1 cs)) (after call (call t c).1 cs)
      go true e l = (e, l)
      go false e l = subst (λ (u : S). Leads u (taken call (call t c).1 cs) (after call (call t c).1 cs)) (kept t c e) l

  pub leads_all : (t : S) (cs : List Call) (u : S) → Leads t cs u → taken call t cs ≡ cs
  unfolding taken
  leads_all t [] u l = refl
  leads_all t (c ∷ cs) u l = rw l.0 (ap (λ (q : List Call). c ∷ q) (leads_all (call t c).1 cs u l.1))

  pub leads_after : (t : S) (cs : List Call) (u : S) → Leads t cs u → after call t cs ≡ u
  unfolding after
  leads_after t [] u l = l
  leads_after t (c ∷ cs) u l = leads_after (call t c).1 cs u l.1

  pub leads_append : (t : S) (cs : List Call) (v : S) (ds : List Call) (u : S) → Leads t cs v → Leads v ds u → Leads t (cs ++ ds) u
  leads_append t [] v ds u l m = rw l m
  leads_append t (c ∷ cs) v ds u l m = (l.0, leads_append (call t c).1 cs v ds u l.1 m)
