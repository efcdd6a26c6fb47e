-- The sorted order of accepted calls: all are accepted again, and they lead to the same keys and the same runs.
-- Assumes nothing.
use Prim.Native.Nat.{ℕ, ◌≤◌, ◌<◌}
use mathlib.Core.Path.{◌≡◌, refl, sym, ap, ap₂, ◌∙◌}
use mathlib.Core.List.Permᴰ
use mathlib.Core.List.{List, [], ◌∷◌, ◌++◌}
use mathlib.Core.Logic.{inl, inr}
use native.Mathlib.Nat.{le_trans}
use lib.ListN.{length}
use Rattle.runs.specs.Runs.{Run, Canonical}
use Rattle.transfer.specs.Transfers.{Transfer}
use Rattle.table.specs.Tables.{keys, runs_of}
use Rattle.any_order.specs.Order.{Packet, Call, opening, recording, openings, recordings, id_in, offset_in, stop_in, In, any_stamp, Rising, Sorted}
use Rattle.any_order.specs.TableDemand3.{call_table}
use Rattle.table.proofs.OpenLaws.{open_alike}
use Rattle.any_order.proofs.FillLaws.{in_perm, one, one_same, one_canonical, fill, fill_nil, fill_same, fill_grows, Ahead, ahead_one}
use Rattle.any_order.proofs.LastLaws.{any_same}
use Rattle.any_order.proofs.LeadLaws.{leads_append}
use Rattle.any_order.proofs.CallLaws.{opened, recorded, Records, Fit, fit_filled, rec_keys, rec_runs, rec_takes}
use Rattle.any_order.proofs.AlongLaws.{Moves, opens, records, recordings_records, recordings_opens, fit_all, runs_along, ends, ends_room}

-- the openings alone, from a table with the same keys: all are accepted, and the keys end the same
opens_lead : (t : List Transfer) (cs : List Call) (u v : List Transfer) → Moves t cs u → keys t ≡ keys v
    → (w : List Transfer) × Moves v (opens (openings cs)) w × (keys w ≡ keys u)
unfolding openings call_table
opens_lead t [] u v l e = (v, refl, sym e ∙ ap keys l)
opens_lead t (opening o ∷ cs) u v l e =
    let a = open_alike t v o.octets e in
    let b = opens_lead (opened t o) cs u (opened v o) l.1 a.1 in
    (b.0, (sym a.0 ∙ l.0, b.1), b.2)
opens_lead t (recording q ∷ cs) u v l e = opens_lead (recorded t q) cs u v l.1 (rec_keys t q ∙ e)

records_keys : (t : List Transfer) (ps : List Packet) (u : List Transfer) → Moves t (records ps) u → keys u ≡ keys t
unfolding call_table
records_keys t [] u l = ap keys (sym l)
records_keys t (p ∷ ps) u l = records_keys (recorded t p) ps u l.1 ∙ rec_keys t p

opens_bare : (ps : List Packet) (v : List Transfer) → Moves [] (opens ps) v → (i : ℕ) → runs_of v i ≡ []
opens_bare ps v l i = ends (opens ps) v l i ∙ rw (recordings_opens ps) (fill_nil [] i)

records_end : (v : List Transfer) (ps : List Packet) (w : List Transfer) → Moves v (records ps) w → (i : ℕ) → runs_of v i ≡ [] → runs_of w i ≡ fill [] i ps
records_end v ps w l i e = runs_along v (records ps) w i l ∙ ap₂ (λ (rs : List Run) (qs : List Packet). fill rs i qs) e (recordings_records ps)

-- recordings that fit the keys, by rising offset, for which the runs that they end with have room: all are accepted
records_lead : (t : List Transfer) (ps : List Packet) → ((p : Packet) → In p ps → Fit (keys t) p) → Rising ps
    → ((i : ℕ) → Canonical (runs_of t i)) → ((i : ℕ) → Ahead i ps (runs_of t i)) → ((i : ℕ) → length (fill (runs_of t i) i ps) ≤ 64)
    → (u : List Transfer) × Moves t (records ps) u
unfolding fill call_table
records_lead t [] f h c u n = (t, refl)
records_lead t (p ∷ ps) f h c u n =
    let i : ℕ = id_in p in
    let full : (q : Packet) → In q (p ∷ ps) → offset_in q < stop_in q = λ q m. fit_filled (keys t) q (f q m) in
    let canon : (j : ℕ) → Canonical (one j p (runs_of t j)) = λ j. one_canonical j p (runs_of t j) (full p (inl refl)) (c j) in
    let ahead : (j : ℕ) → Ahead j ps (one j p (runs_of t j)) = λ j. ahead_one j p ps (runs_of t j) h (u j) in
    let room : length (one i p (runs_of t i)) ≤ 64 = le_trans (fill_grows _ i ps (λ q m. full q (inr m)) (canon i) h.1 (ahead i)) (n i) in
    let a : Records t p = rec_takes t p (f p (inl refl)) (rw (one_same i p (runs_of t i) refl) at room) in
    let b = records_lead (recorded t p) ps
    (λ q m. rw (rec_keys t p) (f q (inr m))) h.1
    (λ j. rw (rec_runs t p j a) (canon j))
    (λ j. rw (rec_runs t p j a) (ahead j))
    (λ j. rw (rec_runs t p j a) (n j)) in
    (b.0, (a, b.1))

-- accepted calls, and the same calls sorted: all are accepted again, and they lead to a table with the same keys and the same runs
pub record Led (u : List Transfer) (s : List Call) : Type 0 where
  pub to : List Transfer
  pub moves : Moves [] s to
  pub keys_same : keys to ≡ keys u
  pub runs_same : (i : ℕ) → runs_of to i ≡ runs_of u i

pub sorted_leads : (cs s : List Call) (u : List Transfer) → Moves [] cs u → Sorted cs s → Led u s
sorted_leads cs s u l σ = go (opens_lead [] cs u [] l refl)
  where
    same : (i : ℕ) → fill [] i σ.last ≡ runs_of u i
    same i =
        fill_same i σ.last (recordings cs) (λ p m. fit_filled (keys u) p (fit_all [] cs u l p m)) (λ p m. in_perm p σ.all m)
        (λ p m. in_perm p (Permᴰ.symm σ.all) m)
        ∙ sym (ends cs u l i)

    end : (v : List Transfer) → Moves [] (opens (openings cs)) v → keys v ≡ keys u → (w : List Transfer) × Moves v (records σ.last) w → Led u s
    end v a e (w, b) =
        record {
          to = w;
          moves = rw σ.is (leads_append call_table [] (opens (openings cs)) v (records σ.last) w a b);
          keys_same = records_keys v σ.last w b ∙ e;
          runs_same = λ i. records_end v σ.last w b i (opens_bare (openings cs) v a i) ∙ same i;
        }

    go : (v : List Transfer) × Moves [] (opens (openings cs)) v × (keys v ≡ keys u) → Led u s
    go (v, a, e) =
        let bare : (i : ℕ) → runs_of v i ≡ [] = opens_bare (openings cs) v a in
        end v a e
        (records_lead v σ.last (λ p m. rw e (fit_all [] cs u l p (in_perm p σ.all m))) σ.rising
        (λ i. rw (bare i) tt) (λ i p m k. rw (bare i) tt) (λ i. rw (bare i, same i) (ends_room cs u l i)))

-- the recordings of a sorted list are those of the list
recordings_append : (ps qs : List Packet) → recordings (opens ps ++ records qs) ≡ qs
unfolding recordings
recordings_append [] qs = recordings_records qs
recordings_append (p ∷ ps) qs = recordings_append ps qs

sorted_recordings : (cs s : List Call) (σ : Sorted cs s) → recordings s ≡ σ.last
sorted_recordings cs s σ = rw σ.is (recordings_append (openings cs) σ.last)

pub sorted_any : (cs s : List Call) → Sorted cs s → (i : ℕ) → any_stamp i (recordings s) ≡ any_stamp i (recordings cs)
sorted_any cs s σ i =
    rw (sorted_recordings cs s σ)
    (any_same i σ.last (recordings cs) (λ p m. in_perm p σ.all m) (λ p m. in_perm p (Permᴰ.symm σ.all) m))
