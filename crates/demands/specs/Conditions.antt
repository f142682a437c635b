-- Demand 1: which conditions of the refusal table hold of a call's arguments, each judged by itself, whatever else is
-- wrong. 01, "Refusal numbers". RULES, refusal-numbers. Assumes nothing.
use Rattle.std.specs.Prelude.{ℕ, zero, suc, ◌+◌, ◌-◌, ◌*◌, ◌^◌, Bool, true, false, not, ◌&&◌, ◌||◌, cond, Option, List, [], ◌∷◌, pos, length, ltb, eqb, Float}
use Rattle.std.specs.Float.{fin}
use Rattle.std.specs.Float.Ieee.{neg, lt}
use Rattle.doubles.specs.Doubles.{sign_of, scaled}
use Rattle.ids.specs.Keys.{lives_in, generation_at}
use Rattle.ids.specs.Lists.{read_at}
use Rattle.ids.specs.declared.Key.{Key}
use Rattle.ticks.specs.WholeTicks.{taken_of}
use Rattle.judge.specs.Answer.{Answer, accepted, refused, is_refused}
use Rattle.judge.specs.Judge.{Conditions, of_arguments, of_id, of_turn, no_faults, both_faults, dt_faults, float_faults}
use Rattle.judge.specs.Judge as judge
use Rattle.times.specs.Starts.{start_faults}
use Rattle.times.specs.Times.{clock_time_faults, shift_faults, ticks_more}
use Rattle.judge.specs.declared.Faults.{Faults}
use Rattle.times.specs.declared.time.ClockId.{ClockId}
use Rattle.times.specs.declared.time.ClockTime.{ClockTime}
use Rattle.times.specs.Easings.{tween_faults}
use Rattle.values.specs.Speeds.{speed_tweens}
use Rattle.values.specs.Tweenables.{Tweens, float_tweens}
use Rattle.values.specs.Values.{value_faults}
use Rattle.waveform.specs.Waves.{wave_faults}
use Rattle.times.specs.declared.tween.Tween.{Tween}
use Rattle.values.specs.declared.value.ModulatorId.{ModulatorId}
use Rattle.values.specs.declared.clock_speed.ClockSpeed.{ClockSpeed}
use Rattle.values.specs.declared.value.Value.{Value}
use Rattle.parameter.specs.Parameters.{set_faults, update_of}
use Rattle.parameter.specs.declared.Parameter.{Parameter}
use Rattle.info.specs.ParametersIn.{parameter_due_of, source_of}
use Rattle.info.specs.declared.info.Info.{Info}
use Rattle.clock.specs.OneClock.{position_of, advance_of, sum_of}
use Rattle.clock.specs.declared.Clock.{Clock}
use Rattle.modulator.specs.Tweeners.{tweener_faults}
use Rattle.modulator.specs.Lfos.{builder_faults}
use Rattle.modulator_table.specs.declared.Modulator.{Modulator}
use Rattle.modulator_table.specs.declared.Modulator.TheVariants.{OfTweener, OfLfo}
use Rattle.commands.specs.declared.clock_command.ClockCommand.{ClockCommand}
use Rattle.commands.specs.declared.clock_command.ClockCommand.TheVariants as clocks
use Rattle.commands.specs.declared.modulator_command.ModulatorCommand.{ModulatorCommand}
use Rattle.commands.specs.declared.modulator_command.ModulatorCommand.TheVariants as modulators
use Rattle.station.specs.Frames.{Try, went, stopped, no_reports, seeing, watching, turned, clock_turn}
use Rattle.station.specs.Stations.{info_in}
use Rattle.station.specs.declared.Station.{Station}
use Rattle.laws.specs.Calls.{Call, clock, modulator, frame, of_clock, of_modulator, keys_of, lives}
use Rattle.demands.specs.Entries.{Lent, Shift, add_ticks, sub_ticks, add_float, sub_float, OnKind, set, update, advance, read, make, Entry, on_station, on_float, on_speed, report, when, start_in, shift}
use Rattle.demands.specs.Events.{clock_in}

-- ---- GONE and NEVER_ISSUED, of an id: RULES, gone and never-issued

-- no id that the table has given out: of generation 0, of one above its slot's present generation, or of no slot of
-- the 16
abbrev pub ungiven : List Key → ℕ → ℕ → Bool
ungiven ks i g = eqb g 0 || ltb (generation_at ks i) g || not (ltb i 16)

abbrev pub gone_in : List Key → ℕ → ℕ → Bool
gone_in ks i g = not (lives_in ks i g) && not (ungiven ks i g)

abbrev pub never_in : List Key → ℕ → ℕ → Bool
never_in ks i g = not (lives_in ks i g) && ungiven ks i g

abbrev pub is_tweener : Modulator → Bool
is_tweener (OfTweener t) = true
is_tweener (OfLfo l) = false

abbrev pub is_lfo : Modulator → Bool
is_lfo m = not (is_tweener m)

-- a living modulator of the other kind than f tells
abbrev pub other_kind : (Modulator → Bool) → Station → ModulatorId → Bool
other_kind f st id = lives of_modulator st id.slot id.generation && not (read_at false (λ s. f s.modulator) st.modulators.slots id.slot)

-- a call by the id of a clock, of a modulator, and of a modulator of the kind that k tells
abbrev pub by_id : List Key → ℕ → ℕ → Faults → Conditions
by_id ks i g f = of_id (gone_in ks i g) (never_in ks i g) f

abbrev pub by_clock : Station → ClockId → Faults → Conditions
by_clock st id f = by_id (keys_of of_clock st) id.slot id.generation f

abbrev pub by_modulator : Station → ModulatorId → Faults → Conditions
by_modulator st id f = by_id (keys_of of_modulator st) id.slot id.generation f

abbrev pub by_kind : (Modulator → Bool) → Station → ModulatorId → Faults → Conditions
by_kind k st id f = of_id (gone_in (keys_of of_modulator st) id.slot id.generation) (never_in (keys_of of_modulator st) id.slot id.generation || other_kind k st id) f

-- ---- NO_ROOM, of an add: RULES, no-room

-- occupied, or used up: RULES, retired-slot
abbrev pub taken_or_retired : Key → Bool
taken_or_retired k = k.used || not (ltb k.generation 4294967295)

unfoldable pub every_taken : List Key → Bool
every_taken [] = true
every_taken (k ∷ ks) = taken_or_retired k && every_taken ks

-- ---- TOO_FAR and TICKS_FULL, of one clock in its turn by dt, with what it sees, as if dt were accepted

-- its speed, which is updated first: RULES, clock-update
abbrev pub sped_in : Info → Clock → Float → Parameter ClockSpeed
sped_in info c dt = (update_of speed_tweens c.speed dt (parameter_due_of info c.speed) (source_of info c.speed)).parameter

-- TOO_FAR: RULES, too-far
abbrev pub too_far_in : Info → Clock → Float → Bool
too_far_in info c dt = c.ticking && lt (fin false 1 (pos 16)) (advance_of (sped_in info c dt) dt)

-- TICKS_FULL: RULES, ticks-full
abbrev pub ticks_full_in : Info → Clock → Float → Bool
ticks_full_in info c dt = c.ticking && is_refused (taken_of (position_of c.state).ticks (sum_of (sped_in info c dt) c.state dt))

-- a frame is refused by the first slot in its order that is: of the clock in slot i, where it is occupied, the clocks
-- standing so: RULES, frame-refused
abbrev pub slot_in : (Info → Clock → Float → Bool) → Info → Float → List Key → ℕ → List Clock → Bool
slot_in f info dt keys i cs = read_at false (λ k. cond k.used (read_at false (λ c. f (watching info cs) c dt) cs i) false) keys i

-- the slots behind it are asked only where its turn goes
abbrev pub onward : (List Clock → List (Option ℕ) → Bool) → Try → Bool
onward g (went cs rs) = g cs rs
onward g (stopped n) = false

-- of n slots from slot i on
unfoldable pub lowest_in : (Info → Clock → Float → Bool) → Info → Float → List Key → ℕ → ℕ → List Clock → List (Option ℕ) → Bool
lowest_in f info dt keys zero i cs rs = false
lowest_in f info dt keys (suc n) i cs rs = slot_in f info dt keys i cs || onward (lowest_in f info dt keys n (i + 1)) (clock_turn info dt keys i cs rs)

-- the clocks see every modulator's new value: RULES, frame-sight
abbrev pub in_frame : (Info → Clock → Float → Bool) → Station → Float → Bool
in_frame f st dt = lowest_in f (seeing (info_in st) (turned (info_in st) dt st.modulators)) dt st.clocks.keys 16 0 st.clocks.clocks no_reports

-- ---- the conditions of a call

-- an add into a table with these keys
abbrev pub of_add : Faults → List Key → Conditions
of_add f ks = judge.of_add f (every_taken ks)

-- a set is judged by the present speed too (RULES, bad-reading); where no clock lives under the id, by the arguments
-- alone
abbrev pub set_faults_on : Answer Clock → Value ClockSpeed → Tween → Faults
set_faults_on (accepted c) v w = set_faults speed_tweens c.speed v w
set_faults_on (refused n) v w = both_faults (value_faults speed_tweens v) (tween_faults w)

abbrev pub of_clocks : Station → ClockCommand → Conditions
of_clocks st (clocks.Add v) = of_add (value_faults speed_tweens v) (keys_of of_clock st)
of_clocks st (clocks.Remove id) = by_clock st id no_faults
of_clocks st (clocks.Start id) = by_clock st id no_faults
of_clocks st (clocks.Stop id) = by_clock st id no_faults
of_clocks st (clocks.Reset id) = by_clock st id no_faults
of_clocks st (clocks.SetSpeed id v w) = by_clock st id (set_faults_on (clock_in st id) v w)
of_clocks st (clocks.Time id) = by_clock st id no_faults
of_clocks st (clocks.Ticking id) = by_clock st id no_faults
of_clocks st (clocks.Speed id) = by_clock st id no_faults

abbrev pub of_modulators : Station → ModulatorCommand → Conditions
of_modulators st (modulators.AddTweener x) = of_add (float_faults x) (keys_of of_modulator st)
of_modulators st (modulators.AddLfo b) = of_add (builder_faults b) (keys_of of_modulator st)
of_modulators st (modulators.Remove id) = by_modulator st id no_faults
of_modulators st (modulators.SetTweener id x w) = by_kind is_tweener st id (tweener_faults x w)
of_modulators st (modulators.SetParameter id p v w) = by_kind is_lfo st id (both_faults (value_faults float_tweens v) (tween_faults w))
of_modulators st (modulators.SetWaveform id w) = by_kind is_lfo st id (wave_faults w)
of_modulators st (modulators.SetPhase id x) = by_kind is_lfo st id (float_faults x)
of_modulators st (modulators.Value id) = by_modulator st id no_faults

abbrev pub of_frame : Station → Float → Conditions
of_frame st dt = of_turn (dt_faults dt) (in_frame too_far_in st dt) (in_frame ticks_full_in st dt)

abbrev pub of_call : Station → Call → Conditions
of_call st (clock c) = of_clocks st c
of_call st (modulator c) = of_modulators st c
of_call st (frame dt) = of_frame st dt

-- BUFFER: RULES, short-buffer
abbrev pub of_report : Station → ClockId → List ℕ → Conditions
of_report st id out = judge.of_report (gone_in (keys_of of_clock st) id.slot id.generation) (never_in (keys_of of_clock st) id.slot id.generation) (ltb (length out) 96)

-- ---- a time that is moved

-- TICKS_FULL: RULES, ticks-full
abbrev pub past : ℕ → Bool
past n = ltb (2 ^ 64 - 1) n

-- TICKS_FULL, of an amount that is added: RULES, add-double and ticks-full
abbrev pub past_by : ClockTime → Float → Bool
past_by t x = past (t.ticks + ticks_more t x)

-- BEFORE_ZERO, of an amount that is subtracted: ticks and fraction, as one exact number, are smaller: RULES,
-- before-zero. It is a matter of sizes: a fraction with a minus sign, and what is no number, is refused before it
abbrev pub smaller : ClockTime → Float → Bool
smaller t x = ltb (t.ticks * 2 ^ 1074 + scaled t.fraction) (scaled x)

-- Whole ticks: 10 for those that are added, 12 for those that are subtracted. A double with its sign bit set is the
-- opposite call (RULES, opposite), so 10 is asked where it is added in the end, and 12 where it is subtracted
abbrev pub of_shift : ClockTime → Shift → Conditions
of_shift t (add_ticks n) = judge.of_shift (clock_time_faults t) (past (t.ticks + n)) false
of_shift t (sub_ticks n) = judge.of_shift (clock_time_faults t) false (ltb t.ticks n)
of_shift t (add_float x) = judge.of_shift (shift_faults t x) (not (sign_of x) && past_by t x) (sign_of x && smaller t (neg x))
of_shift t (sub_float x) = judge.of_shift (shift_faults t x) (sign_of x && past_by t (neg x)) (not (sign_of x) && smaller t x)

-- ---- every call

-- on a parameter of a kind
abbrev pub of_parameter : {T : Type 0} → Tweens T → Parameter T → OnKind T → Conditions
of_parameter k p (set v w) = of_arguments (set_faults k p v w)
of_parameter k p (update dt) = of_arguments (dt_faults dt)
of_parameter k p (advance dt s) = of_arguments (dt_faults dt)
of_parameter k p (read v) = of_arguments (value_faults k v)
of_parameter k p (make v d) = of_arguments (both_faults (value_faults k v) (k.wrong d))

abbrev pub conditions_of : Lent → Entry → Conditions
conditions_of l (on_station c) = of_call l.station c
conditions_of l (on_float c) = of_parameter float_tweens l.float c
conditions_of l (on_speed c) = of_parameter speed_tweens l.speed c
conditions_of l (report id) = of_report l.station id l.buffer
conditions_of l (when t) = of_arguments (clock_time_faults t)
conditions_of l (start_in s dt) = of_arguments (both_faults (dt_faults dt) (start_faults s))
conditions_of l (shift t s) = of_shift t s
