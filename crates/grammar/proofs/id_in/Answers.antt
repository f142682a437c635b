-- `id_in` is proved: with no colon there is nothing behind it to read, and else the two parts are the definition's own.
-- Assumes nothing.
use Prim.Native.Nat.{◌+◌}
use mathlib.Core.Path.{sym, ◌∙◌}
use Rattle.std.proofs.Common.{rules, tests}
use Rattle.std.proofs.lemmas.Iterator.{YieldsList-from_slice}
use Rattle.std.proofs.lemmas.Iterator.Search.{position_from_yields_List}
use Rattle.text.proofs.Bytes.{onward}
use Rattle.grammar.specs.Grammar.{id_in}
use Rattle.grammar.proofs.Places.{is_colon, found_colon, no_colon_lem}
use Rattle.grammar.proofs.id_in.Goals as goal

pub returns-in_err-i : goal.returns-in_err-i
returns-in_err-i c to =
    let first = position_from_yields_List is_colon _ _ c.position.result c.position.ensures.ran (YieldsList-from_slice c.args.word.now c.iter.ensures.rest) (λ x b q k. search (rules, tests)) in
    rw c.from_residual.ensures (no_colon_lem c.args.word.now to (sym first ∙ c.in_err-i.was))

pub returns-in_err-decimal32 : goal.returns-in_err-decimal32
unfolding id_in
returns-in_err-decimal32 c to =
    let p = c.args.word.now in
    let first = position_from_yields_List is_colon _ _ c.position.result c.position.ensures.ran (YieldsList-from_slice p c.iter.ensures.rest) (λ x b q k. search (rules, tests)) in
    rw (c.from_residual-in_err-decimal32.ensures, ← found_colon p c.in_ok-i.i (sym first ∙ c.in_ok-i.was), ← c.in_err-decimal32.ensures)

pub returns-in_err-decimal32-2 : goal.returns-in_err-decimal32-2
unfolding id_in
returns-in_err-decimal32-2 c to =
    let p = c.args.word.now in
    let first = position_from_yields_List is_colon _ _ c.position.result c.position.ensures.ran (YieldsList-from_slice p c.iter.ensures.rest) (λ x b q k. search (rules, tests)) in
    rw (c.from_residual-in_err-decimal32-2.ensures, ← found_colon p c.in_ok-i.i (sym first ∙ c.in_ok-i.was), ← c.in_ok-decimal32.ensures, ← onward p (c.in_ok-i.i + 1), ← c.in_err-decimal32-2.ensures)

pub returns : goal.returns
unfolding id_in
returns c to =
    let p = c.args.word.now in
    let first = position_from_yields_List is_colon _ _ c.position.result c.position.ensures.ran (YieldsList-from_slice p c.iter.ensures.rest) (λ x b q k. search (rules, tests)) in
    rw (← found_colon p c.in_ok-i.i (sym first ∙ c.in_ok-i.was), ← c.in_ok-decimal32.ensures, ← onward p (c.in_ok-i.i + 1), ← c.in_ok-decimal32-2.ensures)
