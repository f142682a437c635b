-- The calls clock.* of docs/BENCH.md: the command that a line is, if it is one. Assumes nothing.
use Rattle.std.specs.Prelude.{ℕ, List, Option, None}
use Rattle.times.specs.declared.time.ClockId.{ClockId}
use Rattle.grammar.specs.Grammar.{id_at, speed_value_at, with_read, with_id}
use Rattle.names.specs.declared.OneClock.{OneClock}
use Rattle.names.specs.declared.OneClock.TheVariants as one
use Rattle.commands.specs.declared.clock_command.ClockCommand.{ClockCommand}
use Rattle.commands.specs.declared.clock_command.ClockCommand.TheVariants.{Add, Remove, Start, Stop, Reset, SetSpeed, Time, Ticking, Speed}
use Rattle.lines.specs.Things.{tween_at, whole}

-- "`clock.add SVAL`", behind its name
unfoldable pub add_line : List ℕ → ℕ → Option ClockCommand
add_line s at = with_read None (speed_value_at s at) (λ v to. whole s to (Add v))

-- "`clock.speed ID SVAL TWEEN`", behind its name
unfoldable pub set_speed_line : List ℕ → ℕ → Option ClockCommand
set_speed_line s at =
    with_id None (id_at s at) (λ slot generation a.
    with_read None (speed_value_at s a) (λ v b.
    with_read None (tween_at s b) (λ t to.
    whole s to (SetSpeed (record { slot = slot; generation = generation }) v t))))

-- the command that a call on one clock is
abbrev pub command_of : OneClock → ClockId → ClockCommand
command_of one.Drop id = Remove id
command_of one.Start id = Start id
command_of one.Stop id = Stop id
command_of one.Reset id = Reset id
command_of one.Time id = Time id
command_of one.Ticking id = Ticking id
command_of one.GetSpeed id = Speed id

-- "`clock.drop ID` `clock.start ID` `clock.stop ID` `clock.reset ID`", "`clock.time ID`", "`clock.ticking ID`",
-- "`clock.getspeed ID`", behind their names
unfoldable pub by_id_line : List ℕ → ℕ → OneClock → Option ClockCommand
by_id_line s at call =
    with_id None (id_at s at) (λ slot generation to.
    whole s to (command_of call (record { slot = slot; generation = generation })))
