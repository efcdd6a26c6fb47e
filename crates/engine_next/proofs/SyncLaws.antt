-- Whether a sync is due: case by case, by what the calls gave.
-- Assumes nothing.
use Prim.Native.Nat.{ℕ}
use mathlib.Core.Path.{◌≡◌, refl, sym, ap, ◌∙◌}
use mathlib.Core.Bool.{Bool, true, false, ◌&&◌, ◌||◌}
use lib.Dec.{eqb}
use borrow.Author.Tests.{eq-eqb, ne_eqb}
use Rattle.engine_model.specs.Engine.{Engine, may_sync}
use Rattle.engine_due.specs.declared.Waits.{Waits}
use Rattle.engine_due.specs.Due.{is_over}
use Rattle.engine_next.specs.Next.{any_urgent, sync_due}

module _ (e : Engine) (t : ℕ) (w : Waits) where
  due_by : (a b c d : Bool) → eqb e.changed 1 ≡ a → may_sync e ≡ b → any_urgent e.done e.now.slots ≡ c → is_over t e.begun w.interval ≡ d
      → (a && b && (c || d)) ≡ sync_due e t w
  unfolding sync_due
  due_by a b c d f g h k = λ x. (sym f) x && (sym g) x && ((sym h) x || (sym k) x)

  module _ (changed : ℕ) (is : changed ≡ e.changed) where
    pub due_unchanged : (changed ≡ 1 → ⊥) → false ≡ sync_due e t w
    due_unchanged n = due_by false _ _ _ (ap (λ (x : ℕ). eqb x 1) (sym is) ∙ ne_eqb changed 1 n) refl refl refl

    module _ (one : changed ≡ 1) (may : Bool) (m : may ≡ may_sync e) where
      to_save : eqb e.changed 1 ≡ true
      to_save = ap (λ (x : ℕ). eqb x 1) (sym is) ∙ eq-eqb changed 1 one

      pub due_not : may ≡ false → false ≡ sync_due e t w
      due_not n = due_by true false _ _ to_save (sym m ∙ n) refl refl

      module _ (yes : may ≡ true) (urgent : Bool) (u : urgent ≡ any_urgent e.done e.now.slots) where
        pub due_urgent : urgent ≡ true → true ≡ sync_due e t w
        due_urgent n = due_by true true true _ to_save (sym m ∙ yes) (sym u ∙ n) refl

        pub due_over : urgent ≡ false → (begun : ℕ) → begun ≡ e.begun → is_over t begun w.interval ≡ sync_due e t w
        due_over n begun b = due_by true true false _ to_save (sym m ∙ yes) (sym u ∙ n) (ap (λ (x : ℕ). is_over t x w.interval) (sym b))
