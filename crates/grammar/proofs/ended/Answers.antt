-- `ended` is proved: the first word has no byte exactly where nothing but blanks is left. Assumes nothing.
use Rattle.grammar.proofs.Places.{blanks_left}
use Rattle.grammar.proofs.ended.Goals as goal

pub returns : goal.returns
returns c =
    rw c.next_word-w.ensures (blanks_left c.args.words.now.line.now c.args.words.now.at)
