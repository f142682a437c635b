-- 01, "Worked rows": the starred ones, two of them as document 02, Req 01, changes them, as one table with one claim.
-- Each row is computed through the very definitions that the entries' contracts cite. Doubles are written by their
-- bits. RULES, worked-rows. Assumes nothing.
use Rattle.std.specs.Prelude.{ℕ, Bool, true, false, Option, Some, None, List, [], ◌∷◌, ◌++◌, T, eqb, Float}
use Rattle.std.specs.Float.{binary64}
use Rattle.std.specs.Float.Ieee.{of_bits, to_bits, add, sub, mul, div, rem, lt, le, eq, to_unsigned, of_int}
use Rattle.doubles.specs.Doubles.{scaled}
use Rattle.judge.specs.Answer.{Answer, accepted, refused}
use Rattle.judge.specs.Judge.{number_of, first_fault}
use Rattle.judge.specs.Numbers.{BEFORE_ZERO}
use Rattle.values.specs.Speeds.{try_tps_of}
use Rattle.times.specs.Durations.{nanos_of, seconds_of}
use Rattle.times.specs.Times.{time_at, try_from_float_of, try_add_float_of, try_sub_float_of, later_of, earlier_of}
use Rattle.times.specs.declared.time.ClockId.{ClockId}
use Rattle.times.specs.declared.time.ClockTime.{ClockTime}
use Rattle.values.specs.declared.clock_speed.ClockSpeed.TheVariants.{TicksPerSecond, TicksPerMinute}
use Rattle.times.specs.declared.start_time.StartTime.TheVariants.{Delayed}
use Rattle.times.specs.declared.start_time.When.TheVariants.{Later}
use Rattle.times.specs.Easings.{try_apply_of, apply_of, in_out_of, power_of, tween_value_of}
use Rattle.values.specs.Tweenables.{float_tweens}
use Rattle.values.specs.Values.{try_map_of, map_of, amount_of}
use Rattle.waveform.specs.Waves.{try_wave_value_of, wave_value_of}
use Rattle.times.specs.declared.tween.Easing.TheVariants.{Linear, InOutPowi}
use Rattle.values.specs.declared.value.Value.TheVariants.{Fixed}
use Rattle.waveform.specs.declared.Waveform.TheVariants.{Triangle}
use Rattle.parameter.specs.Courses.{step_of}
use Rattle.parameter.specs.Parameters.{new_of, try_set_of, try_update_of, update_of, tweened_of}
use Rattle.parameter.specs.declared.Parameter.{Parameter}
use Rattle.ids.specs.Keys.{free_of, lives_in, standing_of, find_of}
use Rattle.ids.specs.Lists.{read_at}
use Rattle.ticks.specs.WholeTicks.{room_for, taken_of}
use Rattle.clock.specs.OneClock.{tick_of, update_clock_of}
use Rattle.clock_table.specs.ClockTables.{add_clock_of, tick_on_of, clock_time_of}
use Rattle.station.specs.Stations.{fresh_station, info_in}
use Rattle.station.specs.Turns.{turn_clock}
use Rattle.station.specs.Frames.{modulator_turns, modulators_turned, clock_turns, clocks_turned, frame_of}
use Rattle.station.specs.declared.Station.{Station}
use Rattle.commands.specs.ClockCommands.{run_clock_of}
use Rattle.commands.specs.declared.clock_command.ClockCommand.TheVariants.{Add, Start}
use Rattle.laws.specs.Calls.{clock, frame, after, after_all}

-- what is computed, and what it must be, as numbers: 0 (OK) and the values, or a refusal's number alone
pub record Row : Type 0 where
  pub computed : List ℕ
  pub expected : List ℕ

same : List ℕ → List ℕ → Bool
same [] [] = true
same [] (y ∷ ys) = false
same (x ∷ xs) [] = false
same (x ∷ xs) (y ∷ ys) = elim (eqb x y) [ true ↦ same xs ys | false ↦ false ]

pub all : List Row → Bool
unfolding same
all [] = true
all (r ∷ rs) = elim (same r.computed r.expected) [ true ↦ all rs | false ↦ false ]

-- an answer as numbers
told : {A : Type 0} → (A → List ℕ) → Answer A → List ℕ
told f (accepted a) = 0 ∷ f a
told f (refused n) = n ∷ []

float : ℕ → Float
unfolding of_bits
float b = of_bits binary64 b

bits : Float → List ℕ
unfolding to_bits
bits x = to_bits binary64 x ∷ []

-- ticks, and the fraction's bits
ticks : ClockTime → List ℕ
unfolding to_bits
ticks t = t.ticks ∷ to_bits binary64 t.fraction ∷ []

first : ClockId
first = record { slot = 0; generation = 1 }

-- ---- the kinds of rows

reads : ℕ → List ℕ → Row
unfolding told float ticks first try_from_float_of
reads x e = record { computed = told ticks (try_from_float_of first (float x)); expected = e }

plus : ℕ → ℕ → ℕ → List ℕ → Row
unfolding told float ticks first try_add_float_of later_of earlier_of
plus n f x e = record { computed = told ticks (try_add_float_of (time_at first n (float f)) (float x)); expected = e }

minus : ℕ → ℕ → ℕ → List ℕ → Row
unfolding told float ticks first try_sub_float_of later_of earlier_of
minus n f x e = record { computed = told ticks (try_sub_float_of (time_at first n (float f)) (float x)); expected = e }

per_minute : ℕ → List ℕ → Row
unfolding told float bits try_tps_of
per_minute x e = record { computed = told bits (try_tps_of (TicksPerMinute (float x))); expected = e }

-- input x of 0..10 to 100..200
mapped : ℕ → List ℕ → Row
unfolding told float bits try_map_of map_of amount_of apply_of
mapped x e =
    record {
      computed = told bits (try_map_of float_tweens (record { in_lo = float 0; in_hi = float 0x4024_0000_0000_0000; out_lo = float 0x4059_0000_0000_0000; out_hi = float 0x4069_0000_0000_0000; easing = Linear }) (float x));
      expected = e;
    }

in_out2 : ℕ → List ℕ → Row
unfolding told float bits try_apply_of apply_of in_out_of power_of
in_out2 x e = record { computed = told bits (try_apply_of (InOutPowi 2) (float x)); expected = e }

triangle : ℕ → List ℕ → Row
unfolding told float bits try_wave_value_of wave_value_of
triangle x e = record { computed = told bits (try_wave_value_of Triangle (float x)); expected = e }

-- a station with one clock at x ticks per second, started
running : ℕ → Station
unfolding float first
running x = after_all fresh_station (clock (Add (Fixed (TicksPerSecond (float x)))) ∷ clock (Start first) ∷ [])

-- what the first slot reported: 1 and the tick, or 0
reported : List (Option ℕ) → List ℕ
reported [] = []
reported (Some n ∷ rs) = 1 ∷ n ∷ []
reported (None ∷ rs) = 0 ∷ []

-- what a clock at x reports in two frames of a second
reports : ℕ → List ℕ → Row
unfolding float running reported
reports x e = record {
  computed =
      reported (frame_of (running x) (float 0x3ff0_0000_0000_0000)).reports
      ++ reported (frame_of (after (running x) (frame (float 0x3ff0_0000_0000_0000))) (float 0x3ff0_0000_0000_0000)).reports;
  expected = e;
}

-- where a clock at x stands after one frame of half a second, and after two
stands : ℕ → List ℕ → Row
unfolding told float ticks first running
stands x e = record {
  computed =
      told ticks (clock_time_of (after (running x) (frame (float 0x3fe0_0000_0000_0000))).clocks first)
      ++ told ticks (clock_time_of (after (after (running x) (frame (float 0x3fe0_0000_0000_0000))) (frame (float 0x3fe0_0000_0000_0000))).clocks first);
  expected = e;
}

-- one update by half a second
next : Parameter Float → Parameter Float
unfolding float
next p = (try_update_of float_tweens p (float 0x3fe0_0000_0000_0000) Later None).parameter

-- delayed by 1 s, then in 1 s Linear from 0 to 8
delayed : Parameter Float
unfolding float
delayed =
    (try_set_of float_tweens (new_of (Fixed (float 0)) (float 0)) (Fixed (float 0x4020_0000_0000_0000))
    (record { start_time = Delayed 1_000_000_000; duration = 1_000_000_000; easing = Linear })).parameter

values : List ℕ → Row
unfolding bits next delayed
values e = record {
  computed =
      bits (next delayed).raw ++ bits (next (next delayed)).raw ++ bits (next (next (next delayed))).raw
      ++ bits (next (next (next (next delayed)))).raw;
  expected = e;
}

-- ---- the table

pub rows : List Row
unfolding reads plus minus per_minute mapped in_out2 triangle reports stands values
rows =
    -- a double as a time
    reads 0x400c_0000_0000_0000 (0 ∷ 3 ∷ 0x3fe0_0000_0000_0000 ∷ [])
    -- 1.75 more
    ∷ plus 2 0x3fe0_0000_0000_0000 0x3ffc_0000_0000_0000 (0 ∷ 4 ∷ 0x3fd0_0000_0000_0000 ∷ [])
    -- 1.25 less
    ∷ minus 5 0x3fe0_0000_0000_0000 0x3ff4_0000_0000_0000 (0 ∷ 4 ∷ 0x3fd0_0000_0000_0000 ∷ [])
    -- half a tick less than a quarter of one: there is too little
    ∷ minus 0 0x3fd0_0000_0000_0000 0x3fe0_0000_0000_0000 (BEFORE_ZERO ∷ [])
    -- a difference that with a borrowed tick rounds to a whole one, and gives it back
    ∷ minus 5 0 0x3c30_0000_0000_0000 (0 ∷ 5 ∷ 0 ∷ [])
    -- 120 a minute, read in ticks per second
    ∷ per_minute 0x405e_0000_0000_0000 (0 ∷ 0x4000_0000_0000_0000 ∷ [])
    -- a clock at speed 0 reports its start once, and then no tick
    ∷ reports 0 (1 ∷ 0 ∷ 0 ∷ [])
    -- half a second at 5 ticks per second, and again
    ∷ stands 0x4014_0000_0000_0000 (0 ∷ 2 ∷ 0x3fe0_0000_0000_0000 ∷ 0 ∷ 5 ∷ 0 ∷ [])
    -- a delay of a second is used up in two updates; the tween begins in the third and ends in the fourth
    ∷ values (0 ∷ 0 ∷ 0x4010_0000_0000_0000 ∷ 0x4020_0000_0000_0000 ∷ [])
    -- an input inside the range, and one beyond it
    ∷ mapped 0x4014_0000_0000_0000 (0 ∷ 0x4062_c000_0000_0000 ∷ [])
    ∷ mapped 0x4034_0000_0000_0000 (0 ∷ 0x4069_0000_0000_0000 ∷ [])
    -- easing in and out by a power of 2, in each half
    ∷ in_out2 0x3fd0_0000_0000_0000 (0 ∷ 0x3fc0_0000_0000_0000 ∷ [])
    ∷ in_out2 0x3fe8_0000_0000_0000 (0 ∷ 0x3fec_0000_0000_0000 ∷ [])
    -- the triangle's start, its top, and one at a negative phase
    ∷ triangle 0 (0 ∷ 0 ∷ [])
    ∷ triangle 0x3fd0_0000_0000_0000 (0 ∷ 0x3ff0_0000_0000_0000 ∷ [])
    ∷ triangle 0xbfec_0000_0000_0000 (0 ∷ 0x3ff8_0000_0000_0000 ∷ [])
    ∷ []

-- the one claim
pub worked : T (all rows)
unfolding all rows number_of first_fault scaled add sub mul div rem lt le eq to_unsigned of_int nanos_of seconds_of apply_of tween_value_of step_of tweened_of update_of try_update_of try_set_of free_of lives_in standing_of find_of read_at room_for taken_of tick_of update_clock_of add_clock_of tick_on_of clock_time_of run_clock_of info_in turn_clock modulator_turns modulators_turned clock_turns clocks_turned frame_of after_all
worked = tt
