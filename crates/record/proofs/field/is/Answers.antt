-- `is` is proved: `==` compares byte by byte. Assumes nothing.
use mathlib.Core.Path.{◌∙◌}
use Rattle.text.proofs.Bytes.{same_pointwise}
use Rattle.record.proofs.field.is.Goals as goal

pub returns : goal.returns
returns c = c.eq.ensures ∙ same_pointwise c.args.line.now c.args.bytes.now
