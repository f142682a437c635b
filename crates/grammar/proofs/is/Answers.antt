-- `is` is proved: `==` compares the bytes of the word with those of the name. Assumes nothing.
use mathlib.Core.Path.{◌∙◌}
use Rattle.text.proofs.Bytes.{same_pointwise}
use Rattle.grammar.proofs.is.Goals as goal

pub returns : goal.returns
returns c = c.eq.ensures ∙ same_pointwise c.args.word.now c.args.name.now
