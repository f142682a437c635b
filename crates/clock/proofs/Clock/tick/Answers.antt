-- `Clock::tick` meets its contract: its test and the ticks that it takes are those of the definition, by what its
-- callees give. Assumes nothing.
use mathlib.Core.Path.{◌≡◌}
use mathlib.Core.Bool.{◌||◌}
use lib.Ieee.{Float, binary64, of_bits, add, mul, le}
use Rattle.std.proofs.lemmas.Result.{err_from_is_err_and}
use Rattle.doubles.specs.Doubles.{one_f}
use Rattle.judge.specs.Judge.{number_of}
use Rattle.clock.specs.OneClock.{tick_of, fresh_of}
use Rattle.clock.proofs.Turns.{full_only, reported}
use Rattle.clock.proofs.Clock.tick.Goals as goal
use Rattle.clock.proofs.Clock.tick.Goals.{in-NotStarted, in_default, then-matches, else-matches}

pub returns-then-advance-clause-told : goal.returns-then-advance-clause-told
unfolding tick_of number_of of_bits
returns-then-advance-clause-told c = rw (← c.as_ticks_per_second.ensures, c.if-advance.true)

pub returns-in_err-to-clause-told : goal.returns-in_err-to-clause-told
unfolding tick_of number_of of_bits
returns-in_err-to-clause-told c =
    let p = err_from_is_err_and c.from_residual.result c.from_residual.ensures.1 in
    rw (
      p.1,
      p.2,
      ← c.as_ticks_per_second.ensures,
      c.if-advance.false,
      ← c.position-from.ensures,
      ← c.in_err-to.ensures,
      full_only _ _ _ c.in_err-to.ensures,
    )

pub returns-clause-told : goal.returns-clause-told
unfolding tick_of number_of of_bits
returns-clause-told c =
    let fresh : c.match-matches.matches ≡ fresh_of c.args.self.now.state =
    elim c.match-matches.branch [ in-NotStarted w ↦ rw (w.in-NotStarted.is, w.matches-is) | in_default w ↦ rw (w.in_default.is, w.matches-is) ] in
    let sum : Float = add binary64 c.position-from.result.fraction (mul binary64 c.as_ticks_per_second.result c.args.dt) in
    let told : c.if-matches.told ≡ (c.match-matches.matches || le one_f sum) =
    elim c.if-matches.branch [ then-matches w ↦ rw (w.told-is, w.if-matches.true) | else-matches w ↦ rw (w.told-is, w.if-matches.false) ] in
    rw (
      ← c.as_ticks_per_second.ensures,
      c.if-advance.false,
      ← c.position-from.ensures,
      ← c.in_ok-to.ensures,
      c.then_some.ensures,
      reported c.if-matches.told _,
      told,
      fresh,
    )
