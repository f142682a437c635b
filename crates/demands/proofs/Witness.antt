-- What `served` asks for can be met: one run from the fresh station, computed. A parameter waits for tick 1 and
-- fraction 0.5 of a clock in a slot that is used a second time; beside it a fast clock, a clock linked to a modulator,
-- a call on a dead id, a frame that the fast clock refuses, an update with a refused dt, and a change of speed between
-- the frames. The parameter is of kind f64 with a fixed target: no run of the speed kind or of a linked parameter is
-- computed, and `served` speaks of them too. RULES, served. Assumes nothing.
use Prim.Native.Nat.{ℕ, ◌*◌, ◌^◌}
use native.Mathlib.Omega.{arith}
use mathlib.Core.Path.{◌≡◌, refl, sym, ap, ◌∙◌}
use mathlib.Core.Bool.{true, false, false≢true}
use mathlib.Core.List.{List, [], ◌∷◌}
use lib.IntN.{pos, negsuc}
use lib.Dec.{lit≤}
use Rattle.std.specs.Prelude.{Some}
use lib.Ieee.{Float, fin, add, sub, mul, div, lt, le, eq, fits, to_unsigned, of_int}
use Rattle.doubles.specs.Doubles.{zero_f, one_f, half_f, scaled}
use Rattle.ids.specs.Keys.{free_of, lives_in, standing_of, find_of}
use Rattle.ids.specs.Lists.{read_at}
use Rattle.ticks.specs.WholeTicks.{room_for, taken_of}
use Rattle.times.specs.Durations.{seconds_of}
use Rattle.judge.specs.Judge.{number_of, first_fault}
use Rattle.judge.specs.Numbers.{«GONE», TOO_FAR, NEVER_ISSUED}
use Rattle.values.specs.Speeds.{interpolate_speed_of}
use Rattle.values.specs.Tweenables.{float_tweens}
use Rattle.times.specs.Times.{order_of, place_at}
use Rattle.values.specs.declared.clock_speed.ClockSpeed.TheVariants.{TicksPerSecond}
use Rattle.times.specs.declared.start_time.StartTime.TheVariants.{Immediate, At}
use Rattle.times.specs.declared.time.ClockId.{ClockId}
use Rattle.times.specs.Easings.{apply_of, tween_value_of}
use Rattle.values.specs.Values.{amount_of, map_of}
use Rattle.times.specs.declared.tween.Easing.TheVariants.{Linear}
use Rattle.times.specs.declared.tween.Tween.{Tween}
use Rattle.values.specs.declared.clock_speed.ClockSpeed.{ClockSpeed}
use Rattle.values.specs.declared.value.Value.{Value}
use Rattle.values.specs.declared.value.Value.TheVariants.{Fixed, FromModulator}
use Rattle.parameter.specs.Courses.{new_course, step_of}
use Rattle.parameter.specs.Parameters.{new_of, try_set_of, update_of, tweened_of, try_update_of}
use Rattle.parameter.specs.declared.Parameter.{Parameter}
use Rattle.info.specs.ParametersIn.{try_update_in}
use Rattle.info.specs.Infos.{when_to_start_of, modulator_value_of}
use Rattle.clock.specs.OneClock.{tick_of, update_clock_of}
use Rattle.clock_table.specs.ClockTables.{add_clock_of, remove_of, tick_on_of, set_speed_of}
use Rattle.modulator.specs.Tweeners.{update_tweener_of}
use Rattle.modulator_table.specs.ModulatorTables.{add_tweener_of}
use Rattle.commands.specs.ClockCommands.{run_clock_of}
use Rattle.commands.specs.ModulatorCommands.{run_modulator_of}
use Rattle.commands.specs.declared.clock_command.ClockCommand.TheVariants as command
use Rattle.commands.specs.declared.modulator_command.ModulatorCommand.TheVariants as modulators
use Rattle.station.specs.Frames.{modulator_turns, modulators_turned, clock_turns, clocks_turned, frame_of}
use Rattle.station.specs.Stations.{fresh_station, info_in}
use Rattle.station.specs.Turns.{turn_clock, turn_modulator}
use Rattle.station.specs.declared.Station.{Station}
use Rattle.laws.specs.Calls.{Call, clock, modulator, frame, after, after_all, of_clock, named, told, call_number}
use Rattle.laws.specs.SoundStation.{All}
use Rattle.demands.specs.Events.{Event, call, update, moves, advance_in, advances_of, total, sums_from, in_order, tests_of, first_pass, first_reach}
use Rattle.demands.specs.Kinds.{resting, running, course_of, progress_of}
use Rattle.demands.specs.Served.{started, Kept, Grid, Run, awaited, Begins, Served}
use Rattle.demands.proofs.FreshClocks.{Spares, reached_fresh}
use Rattle.demands.proofs.ServedOnTime.{served}

-- ---- the calls before

quarter : Float
quarter = fin false 1 (negsuc 1)

abbrev per_second : Float → Value ClockSpeed
per_second x = Fixed (TicksPerSecond x)

id_of : ℕ → ℕ → ClockId
id_of i g = record { slot = i; generation = g }

-- 131,072 ticks a second in slot 0; and slot 1, used and left
before : List Call
unfolding id_of
before = clock (command.Add (per_second (fin false 1 (pos 17)))) ∷ clock (command.Add (per_second one_f)) ∷ clock (command.Remove (id_of 1 1)) ∷ []

-- 1.5 ticks a second
pace : Value ClockSpeed
pace = per_second (fin false 3 (negsuc 0))

-- slot 1 again
ours : ClockId
unfolding id_of
ours = id_of 1 2

given : told (after_all fresh_station before) (clock (command.Add pace)) ≡ named of_clock 1 2
unfolding before id_of pace after_all run_clock_of add_clock_of remove_of free_of lives_in standing_of find_of read_at number_of first_fault le lt eq
given = refl

-- a modulator, a clock linked to it, the start of the fast clock, and a frame before ours is started
between : List Call
unfolding id_of quarter
between =
    modulator (modulators.AddTweener half_f)
    ∷ clock (command.Add (FromModulator (record { slot = 0; generation = 1 }) (record { in_lo = zero_f; in_hi = one_f; out_lo = TicksPerSecond one_f; out_hi = TicksPerSecond (fin false 3 (pos 0)); easing = Linear })))
    ∷ clock (command.Start (id_of 0 1))
    ∷ frame quarter
    ∷ []

spared : All (Spares ours) between
unfolding between ours id_of
spared = (
  record { start = λ e. no (cc); removal = λ e. no (cc) },
  (
    record { start = λ e. no (cc); removal = λ e. no (cc) },
    (
      record { start = λ e. let z : id_of 0 1 ≡ ours = cc in no (ap (λ (i : ClockId). i.slot) z); removal = λ e. no (cc) },
      (
        record { start = λ e. no (cc); removal = λ e. no (cc) },
        tt,
      ),
    ),
  ),
)
  where
    no : ◌≡◌ {A = ℕ} 0 1 → ⊥
    no z = omega arith

st : Station
unfolding before pace between
st = after_all (after (after_all fresh_station before) (clock (command.Add pace))) between

-- ---- the run

-- at once
abbrev at_once : Tween
at_once = record { start_time = Immediate; duration = 0; easing = Linear }

es : List Event
unfolding quarter id_of ours
es =
    -- refused: -0.0
    update (fin true 0 (pos 0))
    -- refused: the id that had the slot before
    ∷ call (clock (command.Start (id_of 1 1)))
    -- 0.375
    ∷ call (frame quarter) ∷ update quarter
    -- 3 ticks a second
    ∷ call (clock (command.SetSpeed ours (per_second (fin false 3 (pos 0))) at_once))
    -- refused: the fast clock would advance by 131,072
    ∷ call (frame one_f)
    -- 0.75, with other calls before the update
    ∷ call (frame quarter) ∷ call (clock (command.Remove (id_of 0 1))) ∷ call (clock (command.Start ours)) ∷ update quarter
    -- 0.75, and 0.75
    ∷ call (frame quarter) ∷ update quarter
    ∷ call (frame quarter) ∷ update quarter
    ∷ []

kept : Kept ours es
unfolding es ours id_of
kept = (refl, (refl, (refl, (refl, (refl, (refl, (refl, (refl, (refl, tt)))))))))

-- ---- the parameter: from 0 to 8 in half a second, once tick 1 and a half are reached

waits : Tween
unfolding ours
waits = record { start_time = At (awaited ours 1 half_f); duration = 500_000_000; easing = Linear }

rest : Parameter Float
rest = new_of (Fixed zero_f) zero_f

waiting : Parameter Float
unfolding rest waits
waiting = (try_set_of float_tweens rest (Fixed (fin false 1 (pos 3))) waits).parameter

-- ---- what is computed

record Computed : Type 0 where
  -- GONE for the clock that had the slot before, NEVER_ISSUED for the one that will have it next, and TOO_FAR
  dead : call_number (started st ours) (clock (command.Start (id_of 1 1))) ≡ «GONE»
  foreign : call_number (started st ours) (clock (command.Start (id_of 1 3))) ≡ NEVER_ISSUED
  far : call_number (started st ours) (frame one_f) ≡ TOO_FAR
  -- four of the five frames are accepted
  advances : advances_of ours (started st ours) es ≡ fin false 3 (negsuc 2) ∷ fin false 3 (negsuc 1) ∷ fin false 3 (negsuc 1) ∷ fin false 3 (negsuc 1) ∷ []
  ordered : in_order false (started st ours) es ≡ true
  accepts : (try_set_of float_tweens rest (Fixed (fin false 1 (pos 3))) waits).refused ≡ 0
  -- tick 1 alone is reached by the second update, tick 1 and a half by the third
  third : first_pass (tests_of (awaited ours 1 half_f) (started st ours) es) ≡ Some 2
  times : progress_of (course_of float_tweens (started st ours) waiting es) ≡ running (new_course waits) ∷ running (new_course waits) ∷ running (record { tween = waits; time = quarter }) ∷ resting ∷ []

computed : Computed
unfolding course_of progress_of tests_of first_pass advances_of advance_in in_order moves waiting waits rest es st ours before pace between quarter id_of try_update_in try_set_of update_of tweened_of try_update_of after_all run_clock_of run_modulator_of add_clock_of remove_of tick_on_of set_speed_of add_tweener_of free_of lives_in standing_of find_of read_at number_of first_fault le lt eq add sub mul div to_unsigned of_int seconds_of interpolate_speed_of apply_of tween_value_of amount_of map_of step_of modulator_value_of when_to_start_of order_of room_for taken_of tick_of update_clock_of update_tweener_of info_in turn_clock turn_modulator modulator_turns modulators_turned clock_turns clocks_turned frame_of
computed = record { dead = refl; foreign = refl; far = refl; advances = refl; ordered = refl; accepts = refl; third = refl; times = refl }

-- ---- the theorem, applied

slow : Grid (fin false 3 (negsuc 2))
unfolding scaled
slow = record { finite = refl; least = λ e. absurd (false≢true e); multiple = refl; most = lit≤ tt }

fast : Grid (fin false 3 (negsuc 1))
unfolding scaled
fast = record { finite = refl; least = λ e. absurd (false≢true e); multiple = refl; most = lit≤ tt }

run : Run st ours es
unfolding st ours id_of
run = record {
  fresh = reached_fresh before pace (id_of 1 2) between given spared;
  kept = kept;
  grid = rw computed.advances (slow, (fast, (fast, (fast, tt))));
  ordered = computed.ordered;
}

witness : Served st ours es 1 half_f
witness = served run 1 half_f (unfold fits in tt) (unfold lt in refl)

-- 2.625 ticks in all
sum_is : total (advances_of ours (started st ours) es) ≡ 21 * 2 ^ 1071
unfolding total scaled
sum_is = rw computed.advances

stands : place_at witness.sum.time.ticks witness.sum.time.fraction ≡ 21 * 2 ^ 1071
stands = witness.sum.place ∙ sum_is

-- the third sum is the first that reaches 1.5
reached : first_reach (place_at 1 half_f) (sums_from 0 (advances_of ours (started st ours) es)) ≡ Some 2
reached = sym witness.first ∙ computed.third

begins : Begins float_tweens (started st ours) ours es 1 half_f waiting waits
unfolding waiting waits
begins = witness.floats rest (Fixed (fin false 1 (pos 3))) waits refl computed.accepts
