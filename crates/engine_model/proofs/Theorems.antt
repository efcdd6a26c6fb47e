-- The claims.
-- Assumes nothing.
use Prim.Native.Nat.{ℕ, ◌<◌, ◌≤◌}
use mathlib.Core.Path.{◌≡◌, sym, subst, ◌∙◌}
use mathlib.Core.Bool.{true}
use mathlib.Core.List.{List, [], ◌∷◌, ◌++◌}
use mathlib.Core.Option.{some}
use native.Mathlib.Omega.{arith}
use Rattle.engine_slots.specs.declared.Sender.{Sender}
use Rattle.engine_slots.specs.declared.Files.{Files}
use Rattle.engine_slots.specs.declared.Meeting.{Meeting}
use Rattle.engine_slots.specs.declared.Meeting.TheVariants as meeting
use Rattle.engine_model.specs.Snapshots.{Packet, Snapshot, is_open, is_complete, file_of}
use Rattle.engine_model.specs.Meetings.{meet}
use Rattle.engine_model.specs.Engine.{whole, Event, opening, naming, octets_part, name_part, opened_by, opened, with_now}
use Rattle.engine_model.specs.Disk.{Write, content, surviving}
use Rattle.engine_model.specs.World.{World, acts, step, run}
use Rattle.engine_model.specs.Claims.{FilesOnce, OwnersClaimed, Kept, Whole, ReportedWhole, AnsweredKept, AnsweredInArea, AreaHeld, Page, NamedWhole}
use Rattle.engine_model.proofs.SnapshotLaws.{open_key_lem, complete_open, complete_member}
use Rattle.engine_model.proofs.MeetLaws.{meet_make}
use Rattle.engine_model.proofs.DiskLaws.{is_durable, some_content, all_content, all_left, left_durable}
use Rattle.engine_model.proofs.Backing.{sound_open}
use Rattle.engine_model.proofs.History.{Known, Origin, Named, begun_along}
use Rattle.engine_model.proofs.Turns.{next_of}
use Rattle.engine_model.proofs.Invariant.{Inv, Fixed}
use Rattle.engine_model.proofs.Histories.{run_inv, run_leads}
use Rattle.engine_model.proofs.MarkTurns.{name_open}
use Rattle.engine_model.proofs.KeptLaws.{kept_of, token_stays, kept_along}
use Rattle.engine_model.proofs.Told.{Says, Completes, answer_says, report_completes}
use Rattle.std.specs.Prelude.{Result, Ok}
use Rattle.refusals.specs.declared.Refusal.{Refusal}

-- ---- (1)

pub reported_whole : ReportedWhole
reported_whole h x i f l m =
    let s : Completes (run h).engine i f l = report_completes (run h).engine x i f l m in
    let v : Inv h (run h) = run_inv h in
    let o : is_open (run h).engine.synced i ≡ true = complete_open (run h).engine.synced i s.all in
    subst (λ (j : ℕ). Whole h i j l) s.file_is
    (record {
      key = s.key;
      begun = (v.synced_sound.each i s.key s.found).begun;
      length_is = s.length_is;
      kept = λ o y. kept_of h i o (complete_member (run h).engine.synced i s.key o v.synced_sound.fit s.found s.all (rw s.length_is y));
      name_stays = token_stays h i (file_of (run h).engine.synced i) 0 0 ((v.synced_backed i).name o s.named);
      meta_stays = token_stays h i (file_of (run h).engine.synced i) 1 0 ((v.synced_backed i).meta o);
    })

-- ---- (2)

pub answered_kept : AnsweredKept
answered_kept h x i f to rs m o y =
    let s : Says (run h).engine i f rs = answer_says (run h).engine x i f to rs m in
    subst (λ (j : ℕ). Kept h i j o) s.file_is (kept_of h i o (rw s.runs_are y))

pub answered_in_area : AnsweredInArea
answered_in_area h x i f to rs m o y g e z =
    let s : Says (run h).engine i f rs = answer_says (run h).engine x i f to rs m in
    let u : Fixed (run h) i (file_of (run h).engine.synced i) o = (run_inv h).told i o (rw s.runs_are y) in
    ((run_leads g h).fixed i _ o u).in_area e (z ∙ sym s.file_is)

-- ---- (3)

pub area_held : AreaHeld
area_held h i o m c =
    let f : ℕ = file_of (run h).area i in
    let v : Inv h (run h) = run_inv h in
    let ws : List Write = surviving c (run h).writes in
    let x : (u : ℕ) × (content ws i f octets_part o ≡ some u) =
    some_content is_durable ws i f octets_part o (left_durable true c (run h).writes i f octets_part o ((v.area_backed i).octets o m)) in
    record {
      value = x.0;
      origin = all_content (Origin h) ws i f octets_part o x.0 (all_left (Origin h) true c (run h).writes v.from) x.1;
      holds = x.1;
    }

-- ---- (4)

pub named_whole : NamedWhole
named_whole h i f o v c e =
    let w : World = run h in
    let n : Named h i f =
    (all_content (Origin h) (surviving c w.writes) i f name_part o v (all_left (Origin h) true c w.writes (run_inv h).from) e).1 in
    rw n.split (page n)
  where
    -- it was complete on disk when it got its name
    page : (n : Named h i f) → Page (n.later ++ (naming i n.ended ∷ n.earlier)) i f
    page n =
        let g : List Event = n.earlier in
        let s : Snapshot = (run g).engine.synced in
        let v : Inv g (run g) = run_inv g in
        let all : is_complete s i ≡ true = (name_open (run g).engine i n.allowed).0 in
        let k = open_key_lem s i (complete_open s i all) in
        let x : Event = naming i n.ended in
        record {
          key = k.0;
          begun = rw (← n.of_file) (begun_along n.later (x ∷ g) i _ k.0 (begun_along (x ∷ []) g i _ k.0 (v.synced_sound.each i k.0 k.1).begun));
          kept = λ o y. rw (← n.of_file) (kept_along n.later (x ∷ g) i _ o
              (kept_along (x ∷ []) g i _ o (kept_of g i o (complete_member s i k.0 o v.synced_sound.fit k.1 all y))));
        }

-- ---- owners and files

pub owners_claimed : OwnersClaimed
owners_claimed h i e = (sound_open (Known h (next_of h)) (run h).engine.now i (run_inv h).now_sound e).1.claimed

-- an opening that makes files takes a number that no later one takes
opening_next : (h : List Event) (t : ℕ) (r : Sender) (p : Packet) (f : Files)
    → meet (run h).engine.now (next_of h) p.octets ≡ Ok (meeting.Make f) → next_of h < next_of (opening t r p whole ∷ h)
unfolding run step acts opened opened_by with_now
opening_next h t r p f e =
    subst (λ (y : Result Meeting Refusal). next_of h < (opened_by (run h).engine t r p.octets whole y).next) (sym e) (omega arith)

-- of two openings with one file number neither is before the other
once : (l m : List Event) (s t : ℕ) (x y : Sender) (p q : Packet) (f g : Files) (a b : List Event)
    → l ++ (opening s x p whole ∷ a) ≡ m ++ (opening t y q whole ∷ b) → next_of a ≡ next_of b
    → meet (run a).engine.now (next_of a) p.octets ≡ Ok (meeting.Make f) → meet (run b).engine.now (next_of b) q.octets ≡ Ok (meeting.Make g)
    → a ≡ b
once [] [] s t x y p q f g a b e n u v = cc
once [] (z ∷ m) s t x y p q f g a b e n u v =
    let r : a ≡ m ++ (opening t y q whole ∷ b) = cc in
    let i : next_of b < next_of (opening t y q whole ∷ b) = opening_next b t y q g v in
    let j : next_of (opening t y q whole ∷ b) ≤ next_of a = rw r (run_leads m (opening t y q whole ∷ b)).above in
    absurd (omega arith)
once (z ∷ l) [] s t x y p q f g a b e n u v =
    let r : b ≡ l ++ (opening s x p whole ∷ a) = cc in
    let i : next_of a < next_of (opening s x p whole ∷ a) = opening_next a s x p f u in
    let j : next_of (opening s x p whole ∷ a) ≤ next_of b = rw r (run_leads l (opening s x p whole ∷ a)).above in
    absurd (omega arith)
once (z ∷ l) (w ∷ m) s t x y p q f g a b e n u v = once l m s t x y p q f g a b (cc) n u v

-- the file that an opening makes has the next number
made_next : (h : List Event) (p : Packet) (f : Files) → meet (run h).engine.now (next_of h) p.octets ≡ Ok (meeting.Make f) → f.file ≡ next_of h
made_next h p f e = (meet_make (run h).engine.now (next_of h) p.octets f e).file_is

pub files_once : FilesOnce
files_once h i j f k l a b =
    once a.later b.later a.time b.time a.sender b.sender a.packet b.packet a.files b.files a.earlier b.earlier
    (sym a.split ∙ b.split)
    (sym (made_next a.earlier a.packet a.files a.makes) ∙ a.of_file ∙ sym b.of_file
    ∙ made_next b.earlier b.packet b.files b.makes)
    a.makes b.makes
