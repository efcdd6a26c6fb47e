-- Demand 3 for whatever keeps a table: where each call on it does what it does on the table that it keeps, it ends as tables do.
-- Assumes nothing.
use mathlib.Core.Path.{◌≡◌, refl, sym, subst, ◌∙◌}
use mathlib.Core.Bool.{Bool}
use mathlib.Core.List.{List, [], ◌∷◌}
use Rattle.transfer.specs.Transfers.{Transfer}
use Rattle.any_order.specs.Order.{Call, taken, after, Sorted}
use Rattle.any_order.specs.TableDemand3.{call_table, accepted, ending, SameEnd, Holds}
use Rattle.any_order.proofs.TableOrder.{table_order}

module _ {A : Type 0} (call : A → Call → Bool × A) (Keeps : A → List Transfer → Type 0)
    (same : (a : A) (t : List Transfer) (c : Call) → Keeps a t → ((call a c).0 ≡ (call_table t c).0) × Keeps (call a c).1 (call_table t c).1) where
  same_taken : (a : A) (t : List Transfer) (cs : List Call) → Keeps a t → taken call a cs ≡ taken call_table t cs
  unfolding taken
  same_taken a t [] h = refl
  same_taken a t (c ∷ cs) h =
      let s = same a t c h in
      rw (s.0, same_taken (call a c).1 (call_table t c).1 cs s.1)

  same_after : (a : A) (t : List Transfer) (cs : List Call) → Keeps a t → Keeps (after call a cs) (after call_table t cs)
  unfolding after
  same_after a t [] h = h
  same_after a t (c ∷ cs) h = same_after (call a c).1 (call_table t c).1 cs (same a t c h).1

  -- the list cs made on a, and the list s on b, both fresh
  pub record KeptEnd (a b : A) (cs s : List Call) : Type 0 where
    pub none_refused : taken call b s ≡ s
    pub first : List Transfer
    pub second : List Transfer
    pub first_kept : Keeps (after call a cs) first
    pub second_kept : Keeps (after call b s) second
    pub same_end : SameEnd first second (taken call a cs) (taken call b s)
    pub brought : Holds first (taken call a cs)

  pub kept_order : (a b : A) → Keeps a [] → Keeps b [] → (cs s : List Call) → Sorted (taken call a cs) s → KeptEnd a b cs s
  kept_order a b ka kb cs s σ =
      let e : taken call a cs ≡ accepted cs = same_taken a [] cs ka in
      let f : taken call b s ≡ accepted s = same_taken b [] s kb in
      let r = (table_order cs).sorted s (rw e at σ) in
      record {
        none_refused = f ∙ r.none_refused;
        first = ending cs;
        second = ending s;
        first_kept = same_after a [] cs ka;
        second_kept = same_after b [] s kb;
        same_end = rw (e, f) r.same_end;
        brought = subst (Holds (ending cs)) (sym e) (table_order cs).brought;
      }
