-- `text::put_number` meets its contract. Assumes nothing.
use mathlib.Core.Path.{◌≡◌, ap, ◌∙◌}
use lib.ListN.{take}
use Rattle.octets.specs.Numbers.{be_digits}
use Rattle.octets.proofs.PutLaws.{take_put}
use Rattle.octets.proofs.NumberLaws.{length_digits}
use Rattle.text.specs.Hex.{hex_of}
use Rattle.text.proofs.AddedLaws.{added_as}
use Rattle.text.proofs.put_number.Goals as goal

pub returns : goal.returns
returns c =
    let a = c.args in
    let w = c.write_number in
    let e : take a.d w.new.out ≡ be_digits a.d a.v =
    ap (take a.d) w.ensures ∙ take_put a.d (be_digits a.d a.v) _ (length_digits a.d a.v) in
    added_as (ap hex_of e) c.put_hex.ensures
