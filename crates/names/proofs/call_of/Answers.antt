-- `call_of` is proved: the row that is found is the first of its letter that has the word. Assumes nothing.
use mathlib.Core.Path.{refl, sym, ap, ◌∙◌}
use Rattle.std.specs.Option.{option_copied}
use Rattle.std.proofs.Common.{rules, tests}
use Rattle.std.proofs.lemmas.Iterator.{YieldsList-from_slice}
use Rattle.std.proofs.lemmas.Iterator.Search.{find_from_yields_List}
use Rattle.text.proofs.Bytes.{same_pointwise}
use Rattle.text.proofs.Tables.{thing, is_named, found}
use Rattle.names.proofs.Letters.{by_first, without_first, among_part}
use Rattle.names.proofs.call_of.Goals as goal

pub returns-in_err-first : goal.returns-in_err-first
returns-in_err-first c = c.from_residual.ensures ∙ without_first c.args.word.now (ap option_copied (sym (c.in_err-first.was)) ∙ c.first.ensures.value)

pub returns-in_err-row : goal.returns-in_err-row
returns-in_err-row c =
    let w = c.args.word.now in
    let all = c.iter.result.rest.now in
    let first = find_from_yields_List (is_named w) _ _ c.find.result c.find.ensures.ran (YieldsList-from_slice all refl) (λ x b q k. search (rules, tests, same_pointwise)) in
    let answers = by_first w _ (ap option_copied (sym c.in_ok-first.was) ∙ c.first.ensures.value) c.together-from.ensures.enough in
    c.from_residual-in_err-row.ensures
    ∙ ap thing (sym c.in_err-row.was)
    ∙ found w all _ first
    ∙ among_part w all _ c.together-from.result.0 c.together-from.result.1 c.iter.ensures.rest refl
    ∙ answers

pub returns : goal.returns
returns c =
    let w = c.args.word.now in
    let all = c.iter.result.rest.now in
    let first = find_from_yields_List (is_named w) _ _ c.find.result c.find.ensures.ran (YieldsList-from_slice all refl) (λ x b q k. search (rules, tests, same_pointwise)) in
    let answers = by_first w _ (ap option_copied (sym c.in_ok-first.was) ∙ c.first.ensures.value) c.together-from.ensures.enough in
    ap thing (sym c.in_ok-row.was)
    ∙ found w all _ first
    ∙ among_part w all _ c.together-from.result.0 c.together-from.result.1 c.iter.ensures.rest refl
    ∙ answers
