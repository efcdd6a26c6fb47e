-- The operations on areas: a refused call leaves every octet of the area, an accepted one leaves an image of the table that its rule
-- gives, and none touches the octets past the layout.
-- Assumes nothing.
use Prim.Native.Nat.{ℕ, ◌≤◌, ◌<◌}
use mathlib.Core.Path.{◌≡◌, refl, ap, ◌∙◌}
use mathlib.Core.Bool.{true, false}
use mathlib.Core.List.{List, []}
use mathlib.Core.Option.{Option, none, some}
use mathlib.Core.Logic.{⊎_elim}
use lib.ListN.{length, drop}
use borrow.Author.Tests.{le-ltb, lt-ltb}
use Rattle.octets.specs.Numbers.{Octets}
use Rattle.refusals.specs.Refusals.{refusal_of}
use Rattle.refusals.specs.declared.Refusal.{Refusal}
use Rattle.runs.proofs.CompareLaws.{le_or_lt}
use Rattle.transfer.specs.Transfers.{Transfer}
use Rattle.table.specs.Tables.{Valid, runs_of}
use Rattle.table.specs.Outcome.{Outcome}
use Rattle.table.specs.Open.{open_packet}
use Rattle.table.specs.Record.{record_packet}
use Rattle.table.specs.Close.{close_id}
use Rattle.table.specs.declared.Opened.{Opened}
use Rattle.table.specs.declared.Opened.TheVariants as opened
use Rattle.table.proofs.ValidLaws.{open_valid, record_valid, close_valid}
use Rattle.table.proofs.OtherLaws.{open_refused, record_refused, close_refused}
use Rattle.area.specs.Layout.{area_octets}
use Rattle.area.specs.Places.{read_table}
use Rattle.area.specs.Judge.{judged, table_of}
use Rattle.area.specs.Stored.{stored_in, fresh_in}
use Rattle.area.specs.Operations.{OnArea, leaves, on_found, on_table, from_found, from_table, open_area, record_area, close_area, fresh_area, runs_held}
use Rattle.area.proofs.JudgeLaws.{held_valid}
use Rattle.area.proofs.StoredLaws.{stored_held, held_stored, stored_past, length_stored}
use Rattle.area.proofs.AreaLaws.{held_long, stored_octets, judged_held, judged_unheld, length_fresh, fresh_past, fresh_octets, fresh_held}
use Rattle.std.specs.Prelude.{Result, Ok, Err, ⊤}
use Rattle.transfer.specs.declared.Receipt.{Receipt}

-- ---- any operation, by what the area holds

module _ {A : Type 0} (refused : A) (operation : List Transfer → Outcome A) (a : List ℕ) where
  pub on_held : (t : List Transfer) → table_of a ≡ some t → on_table refused operation a ≡ leaves a (operation t)
  unfolding on_table on_found
  on_held t e = ap (on_found refused operation a) e

  pub on_unheld : table_of a ≡ none → on_table refused operation a ≡ record { answer = refused; area = a }
  unfolding on_table on_found
  on_unheld e = ap (on_found refused operation a) e

  -- as the code finds it: by the test
  pub on_judged : judged a ≡ true → on_table refused operation a ≡ leaves a (operation (read_table a))
  on_judged e = on_held (read_table a) (judged_held a e)

  pub on_unjudged : judged a ≡ false → on_table refused operation a ≡ record { answer = refused; area = a }
  on_unjudged e = on_unheld (judged_unheld a e)

  -- by cases
  pub on_cases : (P : OnArea A → Type 0) → P (record { answer = refused; area = a })
      → ((t : List Transfer) → table_of a ≡ some t → P (leaves a (operation t))) → P (on_table refused operation a)
  unfolding on_table on_found
  on_cases P n s = go (table_of a) refl
    where
      go : (x : Option (List Transfer)) → table_of a ≡ x → P (on_found refused operation a x)
      go none e = n
      go (some t) e = s t e

-- recording, on an area that holds a table
pub record_held_lem : (a packet : List ℕ) (t : List Transfer) → table_of a ≡ some t → record_area a packet ≡ leaves a (record_packet t packet)
unfolding record_area
record_held_lem a packet t e = on_held (Err (refusal_of 22)) (λ u. record_packet u packet) a t e

module _ {A : Type 0} (refused : A) (answer : List Transfer → A) (a : List ℕ) where
  pub from_held : (t : List Transfer) → table_of a ≡ some t → from_table refused answer a ≡ answer t
  unfolding from_table from_found
  from_held t e = ap (from_found refused answer) e

  pub from_judged : judged a ≡ true → from_table refused answer a ≡ answer (read_table a)
  from_judged e = from_held (read_table a) (judged_held a e)

  pub from_unjudged : judged a ≡ false → from_table refused answer a ≡ refused
  unfolding from_table from_found
  from_unjudged e = ap (from_found refused answer) (judged_unheld a e)

  -- by cases
  pub from_cases : (P : A → Type 0) → P refused → ((t : List Transfer) → table_of a ≡ some t → P (answer t)) → P (from_table refused answer a)
  unfolding from_table from_found
  from_cases P n s = go (table_of a) refl
    where
      go : (x : Option (List Transfer)) → table_of a ≡ x → P (from_found refused answer x)
      go none e = n
      go (some t) e = s t e

pub runs_held_lem : (a : List ℕ) (t : List Transfer) (id : ℕ) → table_of a ≡ some t → runs_held a id ≡ length (runs_of t id)
unfolding runs_held
runs_held_lem a t id e = from_held 0 (λ u. length (runs_of u id)) a t e

-- ---- R1.6: on refusal the area at exit is the area at entry
module _ (a : List ℕ) (o : Octets a) where
  same_stored : {A : Type 0} (Refused : A → Type 0) (refused : A) (operation : List Transfer → Outcome A)
      → ((t : List Transfer) → Refused (operation t).answer → (operation t).table ≡ t)
      → Refused (on_table refused operation a).answer → (on_table refused operation a).area ≡ a
  same_stored {A} Refused refused operation same =
      on_cases refused operation a (λ (x : OnArea A). Refused x.answer → x.area ≡ a) (λ r. refl)
      (λ t e r. ap (stored_in a) (same t r) ∙ held_stored a t o e)

  pub open_refused_same : (packet : List ℕ) (r : Refusal) → (open_area a packet).answer ≡ Err r → (open_area a packet).area ≡ a
  unfolding open_area
  open_refused_same packet r = same_stored (λ (x : Result Opened Refusal). x ≡ Err r) _ (λ t. open_packet t packet) (λ t e. open_refused t packet r e)

  pub record_refused_same : (packet : List ℕ) (r : Refusal) → (record_area a packet).answer ≡ Err r → (record_area a packet).area ≡ a
  unfolding record_area
  record_refused_same packet r = same_stored (λ (x : Result Receipt Refusal). x ≡ Err r) _ (λ t. record_packet t packet) (λ t e. record_refused t packet r e)

  pub close_refused_same : (id : ℕ) (r : Refusal) → (close_area a id).answer ≡ Err r → (close_area a id).area ≡ a
  unfolding close_area
  close_refused_same id r = same_stored (λ (x : Result ⊤ Refusal). x ≡ Err r) _ (λ t. close_id t id) (λ t e. close_refused t id r e)

-- ---- what any call leaves: an area of the same length, the same past the layout
pub record Kept (a b : List ℕ) : Type 0 where
  pub same_length : length b ≡ length a
  pub same_past : drop area_octets b ≡ drop area_octets a
  pub octets : Octets b

module _ (a : List ℕ) (o : Octets a) where
  kept_same : Kept a a
  kept_same = record { same_length = refl; same_past = refl; octets = o }

  pub kept_on : {A : Type 0} (refused : A) (operation : List Transfer → Outcome A) → Kept a (on_table refused operation a).area
  kept_on {A} refused operation =
      on_cases refused operation a (λ (x : OnArea A). Kept a x.area) kept_same
      (λ t e.
      record {
        same_length = length_stored a (operation t).table (held_long a t e);
        same_past = stored_past a (operation t).table;
        octets = stored_octets a (operation t).table o;
      })

  pub open_keeps : (packet : List ℕ) → Kept a (open_area a packet).area
  unfolding open_area
  open_keeps packet = kept_on _ (λ t. open_packet t packet)

  pub record_keeps : (packet : List ℕ) → Kept a (record_area a packet).area
  unfolding record_area
  record_keeps packet = kept_on _ (λ t. record_packet t packet)

  pub close_keeps : (id : ℕ) → Kept a (close_area a id).area
  unfolding close_area
  close_keeps id = kept_on _ (λ t. close_id t id)

  pub fresh_keeps : Kept a (fresh_area a).area
  unfolding fresh_area
  fresh_keeps =
      ⊎_elim
      (λ (h : area_octets ≤ length a).
      rw (le-ltb (length a) area_octets h) (record { same_length = length_fresh a h; same_past = fresh_past a; octets = fresh_octets a o }))
      (λ (h : length a < area_octets). rw (lt-ltb (length a) area_octets h) kept_same)
      (le_or_lt area_octets (length a))

-- ---- R8.3: what making an area fresh or any accepted call leaves is an image of the table that its rule gives
pub fresh_refused : (a : List ℕ) → length a < area_octets → fresh_area a ≡ record { answer = Err (refusal_of 20); area = a }
unfolding fresh_area
fresh_refused a h = rw (lt-ltb (length a) area_octets h)

pub fresh_done : (a : List ℕ) → area_octets ≤ length a → fresh_area a ≡ record { answer = Ok tt; area = fresh_in a }
unfolding fresh_area
fresh_done a h = rw (le-ltb (length a) area_octets h)

pub fresh_leaves : (a : List ℕ) → area_octets ≤ length a → table_of (fresh_area a).area ≡ some []
fresh_leaves a h = ap (λ (f : OnArea (Result ⊤ Refusal)). table_of f.area) (fresh_done a h) ∙ fresh_held a h

module _ (a : List ℕ) (t : List Transfer) (h : table_of a ≡ some t) where
  on_leaves : {A : Type 0} (refused : A) (operation : List Transfer → Outcome A) → Valid (operation t).table
      → table_of (on_table refused operation a).area ≡ some (operation t).table
  on_leaves {A} refused operation v = ap (λ (x : OnArea A). table_of x.area) (on_held refused operation a t h) ∙ stored_held a (operation t).table v

  pub open_leaves : (packet : List ℕ) → Octets packet → table_of (open_area a packet).area ≡ some (open_packet t packet).table
  unfolding open_area
  open_leaves packet p = on_leaves _ (λ t. open_packet t packet) (open_valid t packet p (held_valid a t h))

  pub record_leaves : (packet : List ℕ) → Octets packet → table_of (record_area a packet).area ≡ some (record_packet t packet).table
  unfolding record_area
  record_leaves packet p = on_leaves _ (λ t. record_packet t packet) (record_valid t packet p (held_valid a t h))

  pub close_leaves : (id : ℕ) → table_of (close_area a id).area ≡ some (close_id t id).table
  unfolding close_area
  close_leaves id = on_leaves _ (λ t. close_id t id) (close_valid t id (held_valid a t h))
