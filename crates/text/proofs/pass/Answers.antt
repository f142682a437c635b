-- `text::pass` is proved: what `take_while` counts is the run behind the place. Assumes nothing.
use Prim.Native.Nat.{ℕ, ◌+◌}
use native.Mathlib.Omega.{arith}
use mathlib.Core.Path.{ap, ◌∙◌}
use lib.ListN.{drop_of_length-le}
use Rattle.std.proofs.Common.{rules, tests}
use Rattle.std.proofs.lemmas.Iterator.{YieldsList-from_slice}
use Rattle.std.proofs.lemmas.Iterator.Consumers.{count_from_yields_List}
use Rattle.std.proofs.lemmas.Iterator.Search.{YieldsList-from_take_while}
use Rattle.std.proofs.lemmas.List.Folds.{length-prefix_len}
use Rattle.text.specs.Words.{run, blanks}
use Rattle.text.proofs.Bytes.{onward}
use Rattle.text.proofs.Runs.{run_is}
use Rattle.text.proofs.pass.Goals as goal

pub returns-in-Some : goal.returns-in-Some
returns-in-Some c =
    let p = blanks c.args.blank in
    let rest = c.in-Some.rest.now in
    let counted =
    count_from_yields_List c.take_while.result _ c.count.ensures.ran
    (YieldsList-from_take_while _ p (YieldsList-from_slice rest cc) c.take_while.ensures.closure c.take_while.ensures.done (λ x b q k. search (rules, tests)))
    ∙ length-prefix_len p rest in
    ap (λ (n : ℕ). c.args.at + n) (counted ∙ run_is p rest ∙ ap (run p) (c.in-Some.ensures.lookup.0.2 ∙ onward c.args.s.now c.args.at))

pub returns-in-None : goal.returns-in-None
unfolding run
returns-in-None c = rw (drop_of_length-le c.args.s.now {i = c.args.at} (omega (arith, c.in-None.ensures.lookup))) (omega arith)
