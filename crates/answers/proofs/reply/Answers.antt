-- `answers::reply` is proved: the value and the line's end, or the refusal. Assumes nothing.
use Rattle.digits.proofs.Outs.{line}
use Rattle.answers.proofs.reply.Goals as goal

pub returns-in-Ok : goal.returns-in-Ok
returns-in-Ok g c =
    rw c.in-Ok.is (line c.args.out.now (g.T.Shown.text c.in-Ok.x) c.show.ensures c.end.ensures)
