-- What is kept in every later history: the octets that `synced` has as received, and what is there or not.
-- Assumes nothing.
use Prim.Native.Nat.{ℕ, suc}
use mathlib.Core.Path.{◌≡◌, ap, ◌∙◌}
use mathlib.Core.Bool.{true}
use mathlib.Core.List.{List, ◌++◌, append_assoc}
use mathlib.Core.Option.{some}
use Rattle.runs.specs.Runs.{Member}
use Rattle.engine_model.specs.Snapshots.{file_of, received}
use Rattle.engine_model.specs.Engine.{Event, octets_part}
use Rattle.engine_model.specs.Disk.{Write, content, surviving}
use Rattle.engine_model.specs.World.{run}
use Rattle.engine_model.specs.Claims.{Stays, Kept}
use Rattle.engine_model.proofs.DiskLaws.{Some, is_durable, some_content, all_content, all_left, left_durable}
use Rattle.engine_model.proofs.FirmLaws.{firm_content}
use Rattle.engine_model.proofs.History.{Origin, origin_one, brought_along}
use Rattle.engine_model.proofs.Invariant.{Inv, Fixed}
use Rattle.engine_model.proofs.Histories.{run_inv, run_leads}

-- what `synced` has as received
pub kept_of : (h : List Event) (i o : ℕ) → Member (received (run h).engine.synced i) o → Kept h i (file_of (run h).engine.synced i) o
kept_of h i o m =
    let f : ℕ = file_of (run h).engine.synced i in
    let v : Inv h (run h) = run_inv h in
    let k : Fixed (run h) i f o = v.told i o m in
    let x : (u : ℕ) × (content (run h).writes i f octets_part o ≡ some u) =
    some_content is_durable (run h).writes i f octets_part o ((v.synced_backed i).octets o m) in
    record {
      value = x.0;
      origin = all_content (Origin h) (run h).writes i f octets_part o x.0 v.from x.1;
      stays = λ g c. firm_content i f octets_part o true c (run (g ++ h)).writes ((run_leads g h).fixed i f o k).firm
          ∙ (run_leads g h).same_content i f o k ∙ x.1;
    }

-- a name that is on disk for good, or METADATA
pub token_stays : (h : List Event) (i f p o : ℕ) → Some is_durable (run h).writes i f (suc p) o → Stays h i f (suc p) o 1
token_stays h i f p o m g c =
    let ws : List Write = (run (g ++ h)).writes in
    let x : (u : ℕ) × (content (surviving c ws) i f (suc p) o ≡ some u) =
    some_content is_durable (surviving c ws) i f (suc p) o (left_durable true c ws i f (suc p) o ((run_leads g h).durable i f (suc p) o m)) in
    let one : x.0 ≡ 1 =
    origin_one (g ++ h) i f p o x.0
    (all_content (Origin (g ++ h)) (surviving c ws) i f (suc p) o x.0 (all_left (Origin (g ++ h)) true c ws (run_inv (g ++ h)).from) x.1) in
    x.1 ∙ ap some one

-- what is kept, is so in every longer history
pub kept_along : (l h : List Event) (i f o : ℕ) → Kept h i f o → Kept (l ++ h) i f o
kept_along l h i f o k =
    record {
      value = k.value;
      origin = brought_along l h i f o k.value k.origin;
      stays = λ g c. rw (← append_assoc g l h) (k.stays (g ++ l) c);
    }
