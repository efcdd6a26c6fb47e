-- What a list of accepted calls leaves on a table: the keys, the runs and the timestamps.
-- Assumes nothing.
use Prim.Native.Nat.{ℕ, ◌≤◌}
use mathlib.Core.Path.{◌≡◌, refl, sym, ap, subst, ◌∙◌}
use mathlib.Core.Bool.{Bool, true, false, cond, ◌||◌}
use mathlib.Core.List.{List, [], ◌∷◌, map}
use mathlib.Core.Logic.{◌⊎◌, inl, inr}
use mathlib.Core.Option.{some}
use native.Mathlib.Omega.{arith}
use lib.ListN.{length}
use Rattle.runs.specs.Runs.{Run, insert}
use Rattle.transfer.specs.declared.Key.{Key}
use Rattle.timestamp.specs.Timestamps.{stamped}
use Rattle.transfer.specs.Transfers.{Transfer}
use Rattle.table.specs.Tables.{Valid, keys, find, runs_of, stamp_of}
use Rattle.any_order.specs.Order.{Packet, Call, opening, recording, openings, recordings, offset_in, stop_in, In, stamp_octets, stamps, any_stamp, last_stamp, Brings, Brought}
use Rattle.any_order.specs.TableDemand3.{call_table}
use Rattle.timestamp.proofs.StampLaws.{none_stamped}
use Rattle.any_order.proofs.FillLaws.{one_cases, fill}
use Rattle.any_order.proofs.LastLaws.{last_none}
use Rattle.any_order.proofs.LeadLaws.{Leads}
use Rattle.any_order.proofs.CallLaws.{opened, recorded, call_valid, open_runs, open_stamp, open_finds, open_brings, open_only, Fit, fit_later, rec_keys, rec_runs, rec_stamp, rec_stamped, rec_fit, rec_room}

abbrev pub Moves : List Transfer → List Call → List Transfer → Type 0
Moves t cs u = Leads call_table t cs u

abbrev pub opens : List Packet → List Call
opens ps = map opening ps

abbrev pub records : List Packet → List Call
records ps = map recording ps

pub recordings_records : (ps : List Packet) → recordings (records ps) ≡ ps
unfolding recordings
recordings_records [] = refl
recordings_records (p ∷ ps) = ap (λ (q : List Packet). p ∷ q) (recordings_records ps)

pub recordings_opens : (ps : List Packet) → recordings (opens ps) ≡ []
unfolding recordings
recordings_opens [] = refl
recordings_opens (p ∷ ps) = recordings_opens ps

fit_along : (t : List Transfer) (cs : List Call) (u : List Transfer) (p : Packet) → Moves t cs u → Fit (keys t) p → Fit (keys u) p
unfolding call_table
fit_along t [] u p l f = rw (← l) f
fit_along t (opening o ∷ cs) u p l f = fit_along (opened t o) cs u p l.1 (fit_later t o p f)
fit_along t (recording q ∷ cs) u p l f = fit_along (recorded t q) cs u p l.1 (rw (rec_keys t q) f)

pub fit_all : (t : List Transfer) (cs : List Call) (u : List Transfer) → Moves t cs u → (p : Packet) → In p (recordings cs) → Fit (keys u) p
unfolding recordings call_table
fit_all t [] u l p m = absurd m
fit_all t (opening o ∷ cs) u l p m = fit_all (opened t o) cs u l.1 p m
fit_all t (recording q ∷ cs) u l p (inl e) =
    fit_along (recorded t q) cs u p l.1 (rw (rec_keys t q) (subst (λ (x : Packet). Fit (keys t) x) (sym e) (rec_fit t q l.0)))
fit_all t (recording q ∷ cs) u l p (inr m) = fit_all (recorded t q) cs u l.1 p m

pub runs_along : (t : List Transfer) (cs : List Call) (u : List Transfer) (i : ℕ) → Moves t cs u → runs_of u i ≡ fill (runs_of t i) i (recordings cs)
unfolding recordings fill call_table
runs_along t [] u i l = ap (λ (x : List Transfer). runs_of x i) (sym l)
runs_along t (opening o ∷ cs) u i l =
    runs_along (opened t o) cs u i l.1 ∙ ap (λ (rs : List Run). fill rs i (recordings cs)) (open_runs t o i)
runs_along t (recording q ∷ cs) u i l =
    runs_along (recorded t q) cs u i l.1 ∙ ap (λ (rs : List Run). fill rs i (recordings cs)) (rec_runs t q i l.0)

-- the timestamp of an Id: the last that the recordings bring, and where they bring none the one that was kept
stamp_along : (t : List Transfer) (cs : List Call) (u : List Transfer) (i : ℕ) → Moves t cs u
    → stamp_of u i ≡ cond (any_stamp i (recordings cs)) (last_stamp i (recordings cs)) (stamp_of t i)
unfolding recordings any_stamp last_stamp call_table
stamp_along t [] u i l = ap (λ (x : List Transfer). stamp_of x i) (sym l)
stamp_along t (opening o ∷ cs) u i l =
    stamp_along (opened t o) cs u i l.1
    ∙ ap (λ (s : List ℕ). cond (any_stamp i (recordings cs)) (last_stamp i (recordings cs)) s) (open_stamp t o i)
stamp_along t (recording q ∷ cs) u i l =
    stamp_along (recorded t q) cs u i l.1
    ∙ ap (λ (s : List ℕ). cond (any_stamp i (recordings cs)) (last_stamp i (recordings cs)) s) (rec_stamp t q i l.0)
    ∙ later (stamps i q) (any_stamp i (recordings cs)) (last_stamp i (recordings cs)) (stamp_octets q) (stamp_of t i)
  where
    later : (a b : Bool) (last s old : List ℕ) → cond b last (cond a s old) ≡ cond (a || b) (cond b last (cond a s [])) old
    later true true last s old = refl
    later true false last s old = refl
    later false true last s old = refl
    later false false last s old = refl

stamped_along : (t : List Transfer) (cs : List Call) (u : List Transfer) (i : ℕ) → Moves t cs u
    → stamped (stamp_of u i) ≡ (any_stamp i (recordings cs) || stamped (stamp_of t i))
unfolding recordings any_stamp call_table
stamped_along t [] u i l = ap (λ (x : List Transfer). stamped (stamp_of x i)) (sym l)
stamped_along t (opening o ∷ cs) u i l =
    stamped_along (opened t o) cs u i l.1 ∙ ap (λ (s : List ℕ). any_stamp i (recordings cs) || stamped s) (open_stamp t o i)
stamped_along t (recording q ∷ cs) u i l =
    stamped_along (recorded t q) cs u i l.1
    ∙ ap (λ (b : Bool). any_stamp i (recordings cs) || b) (rec_stamped t q i l.0)
    ∙ later (stamps i q) (any_stamp i (recordings cs)) (stamped (stamp_of t i))
  where
    later : (a b c : Bool) → b || (a || c) ≡ (a || b) || c
    later true true c = refl
    later true false c = refl
    later false true c = refl
    later false false c = refl

room_along : (t : List Transfer) (cs : List Call) (u : List Transfer) (i : ℕ) → Moves t cs u → length (runs_of t i) ≤ 64 → length (runs_of u i) ≤ 64
unfolding call_table
room_along t [] u i l h = rw (← l) h
room_along t (opening o ∷ cs) u i l h = room_along (opened t o) cs u i l.1 (rw (open_runs t o i) h)
room_along t (recording q ∷ cs) u i l h =
    room_along (recorded t q) cs u i l.1
    (rw (rec_runs t q i l.0)
    (one_cases (λ (x : List Run). length x ≤ 64) i q (runs_of t i)
    (λ e. subst (λ (x : ℕ). length (insert (offset_in q) (stop_in q) (runs_of t x)) ≤ 64) e (rec_room t q l.0)) (λ e. h)))

pub valid_along : (t : List Transfer) (cs : List Call) (u : List Transfer) → Moves t cs u → Valid t → Valid u
valid_along t [] u l v = rw (← l) v
valid_along t (c ∷ cs) u l v = valid_along (call_table t c).1 cs u l.1 (call_valid t c v)

-- what is open after a list: what was, and what its openings bring
pub found_only : (t : List Transfer) (cs : List Call) (u : List Transfer) (k : Key) → Moves t cs u → find k.id (keys u) ≡ some k
    → (find k.id (keys t) ≡ some k) ⊎ Brought k (openings cs)
unfolding openings call_table
found_only t [] u k l h = inl (rw l h)
found_only t (opening o ∷ cs) u k l h = go (found_only (opened t o) cs u k l.1 h)
  where
    low : (find k.id (keys t) ≡ some k) ⊎ Brings o k → (find k.id (keys t) ≡ some k) ⊎ Brought k (o ∷ openings cs)
    low (inl x) = inl x
    low (inr x) = inr (o, inl refl, x)

    go : (find k.id (keys (opened t o)) ≡ some k) ⊎ Brought k (openings cs) → (find k.id (keys t) ≡ some k) ⊎ Brought k (o ∷ openings cs)
    go (inl x) = low (open_only t o k x)
    go (inr x) = inr (x.0, inr x.1, x.2)
found_only t (recording q ∷ cs) u k l h = rw (rec_keys t q) at (found_only (recorded t q) cs u k l.1 h)

found_along : (t : List Transfer) (cs : List Call) (u : List Transfer) (k : Key) → Moves t cs u → find k.id (keys t) ≡ some k → find k.id (keys u) ≡ some k
unfolding call_table
found_along t [] u k l h = rw (← l) h
found_along t (opening o ∷ cs) u k l h = found_along (opened t o) cs u k l.1 (open_finds t o k.id k h)
found_along t (recording q ∷ cs) u k l h = found_along (recorded t q) cs u k l.1 (rw (rec_keys t q) h)

pub found_all : (t : List Transfer) (cs : List Call) (u : List Transfer) (k : Key) → Moves t cs u → Brought k (openings cs) → find k.id (keys u) ≡ some k
unfolding openings call_table
found_all t [] u k l (o, m, b) = absurd m
found_all t (opening q ∷ cs) u k l (o, inl e, b) =
    found_along (opened t q) cs u k l.1 (open_brings t q k l.0 (subst (λ (x : Packet). Brings x k) e b))
found_all t (opening q ∷ cs) u k l (o, inr m, b) = found_all (opened t q) cs u k l.1 (o, m, b)
found_all t (recording q ∷ cs) u k l b = found_all (recorded t q) cs u k l.1 b

-- ---- from a fresh table

pub ends : (cs : List Call) (u : List Transfer) → Moves [] cs u → (i : ℕ) → runs_of u i ≡ fill [] i (recordings cs)
unfolding runs_of
ends cs u l i = runs_along [] cs u i l

pub ends_room : (cs : List Call) (u : List Transfer) → Moves [] cs u → (i : ℕ) → length (runs_of u i) ≤ 64
unfolding runs_of
ends_room cs u l i = room_along [] cs u i l (omega arith)

pub ends_stamp : (cs : List Call) (u : List Transfer) → Moves [] cs u → (i : ℕ) → stamp_of u i ≡ last_stamp i (recordings cs)
unfolding stamp_of
ends_stamp cs u l i = stamp_along [] cs u i l ∙ go (any_stamp i (recordings cs)) refl
  where
    go : (b : Bool) → any_stamp i (recordings cs) ≡ b → cond b (last_stamp i (recordings cs)) [] ≡ last_stamp i (recordings cs)
    go true e = refl
    go false e = sym (last_none i (recordings cs) e)

pub ends_stamped : (cs : List Call) (u : List Transfer) → Moves [] cs u → (i : ℕ) → stamped (stamp_of u i) ≡ any_stamp i (recordings cs)
unfolding stamp_of
ends_stamped cs u l i = stamped_along [] cs u i l ∙ rw none_stamped (or_false (any_stamp i (recordings cs)))
  where
    or_false : (b : Bool) → b || false ≡ b
    or_false true = refl
    or_false false = refl
