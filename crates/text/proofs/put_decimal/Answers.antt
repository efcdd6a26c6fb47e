-- `text::put_decimal` meets its contract: the digits are those that the library writes. Assumes nothing.
use mathlib.Core.Path.{◌∙◌}
use Rattle.text.proofs.AddedLaws.{added_as}
use Rattle.text.proofs.DecimalLaws.{decimal_is}
use Rattle.text.proofs.put_decimal.Goals as goal

pub returns : goal.returns
returns c = added_as (c.as_bytes.ensures.value ∙ c.format.ensures.text ∙ decimal_is c.args.n c.ranges.n.fits) c.put_text.ensures
