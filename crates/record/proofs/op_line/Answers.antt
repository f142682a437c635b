-- `op_line` is proved: the row that is found is the first that has the line. Assumes nothing.
use mathlib.Core.Path.{refl, sym, ap, ◌∙◌}
use mathlib.Core.List.{List}
use Rattle.std.proofs.Common.{rules, tests}
use Rattle.std.proofs.lemmas.Iterator.{YieldsList-from_slice}
use Rattle.std.proofs.lemmas.Iterator.Search.{find_from_yields_List}
use Rattle.text.proofs.Tables.{Named, thing, is_named, among, found}
use Rattle.record.specs.Records.{op_of}
use Rattle.record.specs.declared.Op.{Op}
use Rattle.record.proofs.op_line.Goals as goal

pub returns-in_err-row : goal.returns-in_err-row
unfolding op_of among
returns-in_err-row c =
    let l = c.args.line.now in
    let all = c.iter.result.rest.now in
    let first = find_from_yields_List (is_named l) _ _ c.find.result c.find.ensures.ran (YieldsList-from_slice all refl) (λ x b q k. search (rules, tests)) in
    c.from_residual.ensures ∙ ap thing (sym c.in_err-row.was) ∙ found l all _ first ∙ ap (λ (ps : List (Named Op)). among l ps) c.iter.ensures.rest

pub returns : goal.returns
unfolding op_of among
returns c =
    let l = c.args.line.now in
    let all = c.iter.result.rest.now in
    let first = find_from_yields_List (is_named l) _ _ c.find.result c.find.ensures.ran (YieldsList-from_slice all refl) (λ x b q k. search (rules, tests)) in
    ap thing (sym c.in_ok-row.was) ∙ found l all _ first ∙ ap (λ (ps : List (Named Op)). among l ps) c.iter.ensures.rest
