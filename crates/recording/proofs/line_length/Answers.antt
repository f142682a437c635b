-- `line_length` is proved: what `take_while` counts are the bytes before the first LF, among so many. Assumes nothing.
use mathlib.Core.Path.{◌∙◌}
use lib.ListN.{take}
use Rattle.std.proofs.Common.{rules, tests}
use Rattle.std.proofs.lemmas.Iterator.{YieldsList-from_slice, YieldsList-from_take}
use Rattle.std.proofs.lemmas.Iterator.Consumers.{YieldsList-at, count_from_yields_List}
use Rattle.std.proofs.lemmas.Iterator.Search.{YieldsList-from_take_while}
use Rattle.std.proofs.lemmas.List.Folds.{length-prefix_len}
use Rattle.recording.proofs.Lines.{no_lf, counted}
use Rattle.recording.proofs.line_length.Goals as goal

pub returns : goal.returns
returns c =
    let s = c.args.s.now in
    let few = take c.args.most s in
    counted c.args.most s c.count.result (
    count_from_yields_List c.take_while.result _ c.count.ensures.ran
    (YieldsList-from_take_while _ no_lf (YieldsList-at c.take_while.ensures.source (YieldsList-from_take c.args.most (YieldsList-at c.take.ensures.source (YieldsList-from_slice s c.iter.ensures.rest)) c.take.ensures.count)) c.take_while.ensures.closure c.take_while.ensures.done (λ x b q k. search (rules, tests)))
    ∙ length-prefix_len no_lf few
    )
