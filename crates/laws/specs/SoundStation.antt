-- What holds of every clock, modulator and table that calls can reach: speeds that a clock can run at, fractions that
-- are not refused, ticks up to 2^64 − 1, values and phases that are numbers. 01, "clock.rs" and "modulator/tweener.rs,
-- lfo.rs"; RULES, no-nan. Assumes nothing.
use Rattle.std.specs.Prelude.{◌^◌, ◌<◌, ◌≡◌, true, false, List, [], ◌∷◌, T, Float}
use Rattle.std.specs.Float.Ieee.{le, lt}
use Rattle.std.specs.Float.Ieee.Scale.{finite}
use Rattle.doubles.specs.Doubles.{zero_f, one_f, sign_of}
use Rattle.ids.specs.Keys.{Numbered}
use Rattle.ticks.specs.declared.Position.{Position}
use Rattle.judge.specs.Judge.{no_faults, bad_fraction}
use Rattle.values.specs.Speeds.{tps_of}
use Rattle.waveform.specs.Waves.{wave_faults}
use Rattle.waveform.specs.declared.Waveform.{Waveform}
use Rattle.waveform.specs.declared.Waveform.TheVariants.{Triangle, Saw, Pulse}
use Rattle.clock.specs.OneClock.{position_of}
use Rattle.clock.specs.declared.Clock.{Clock}
use Rattle.clock_table.specs.declared.Clocks.{Clocks}
use Rattle.modulator.specs.declared.lfo.Lfo.{Lfo}
use Rattle.modulator.specs.declared.lfo.LfoBuilder.{LfoBuilder}
use Rattle.modulator.specs.declared.tweener.Tweener.{Tweener}
use Rattle.modulator.specs.declared.tweener.TweenerMove.{TweenerMove}
use Rattle.modulator.specs.declared.tweener.TweenerState.{TweenerState}
use Rattle.modulator.specs.declared.tweener.TweenerState.TheVariants as tweenerState
use Rattle.modulator_table.specs.declared.Modulator.{Modulator}
use Rattle.modulator_table.specs.declared.Modulator.TheVariants.{OfTweener, OfLfo}
use Rattle.modulator_table.specs.declared.Modulators.{Modulators}
use Rattle.modulator_table.specs.declared.Slot.{Slot}
use Rattle.commands.specs.declared.clock_command.ClockCommand.{ClockCommand}
use Rattle.commands.specs.declared.clock_command.ClockCommand.TheVariants as clocks
use Rattle.commands.specs.declared.modulator_command.ModulatorCommand.{ModulatorCommand}
use Rattle.commands.specs.declared.modulator_command.ModulatorCommand.TheVariants as modulators
use Rattle.modulator_table.specs.ModulatorTables.{slot_value}
use Rattle.station.specs.declared.Station.{Station}
use Rattle.laws.specs.Calls.{Call, clock, modulator, frame}
use Rattle.laws.specs.Sound.{Double, Sized, FloatDoubles, SpeedDoubles, SoundCourse, SoundFloat, SoundSpeed}

-- every element of a list
abbrev pub All : {A : Type 0} → (A → Type 0) → List A → Type 0
All P [] = Unit {0}
All P (x ∷ xs) = P x × All P xs

-- a double, neither NaN nor infinite
abbrev pub Number : Float → Type 0
Number x = Double x × T (finite x)

-- ---- clocks

-- a fraction that is not refused (RULES, bad-time), and ticks that fit 64 bits (RULES, ticks-full)
pub record SoundPosition (p : Position) : Type 0 where
  pub double : Double p.fraction
  pub accepted : bad_fraction p.fraction ≡ false
  pub room : p.ticks < 2 ^ 64

-- a clock that has not started stands at tick 0 and fraction 0.0: RULES, unstarted-clock
pub record SoundClock (c : Clock) : Type 0 where
  pub speed : SoundSpeed c.speed
  pub position : SoundPosition (position_of c.state)

-- of unused slots too: they hold what they held: RULES, empty-slot
pub record SoundClocks (t : Clocks) : Type 0 where
  pub keys : Numbered t.keys
  pub entries : All SoundClock t.clocks

-- ---- modulators

pub record SoundMove (m : TweenerMove) : Type 0 where
  pub start : Sized m.start
  pub target : Sized m.target
  pub course : SoundCourse m.course

abbrev pub SoundTweenerState : TweenerState → Type 0
SoundTweenerState tweenerState.Idle = Unit {0}
SoundTweenerState (tweenerState.Tweening m) = SoundMove m

pub record SoundTweener (t : Tweener) : Type 0 where
  pub state : SoundTweenerState t.state
  pub value : Sized t.value

abbrev pub WaveDoubles : Waveform → Type 0
WaveDoubles Triangle = Unit {0}
WaveDoubles Saw = Unit {0}
WaveDoubles (Pulse width) = Double width

pub record SoundWave (w : Waveform) : Type 0 where
  pub doubles : WaveDoubles w
  pub accepted : wave_faults w ≡ no_faults

-- an LFO's phase and its value are numbers: RULES, lfo-update
pub record SoundLfo (l : Lfo) : Type 0 where
  pub waveform : SoundWave l.waveform
  pub frequency : SoundFloat l.frequency
  pub amplitude : SoundFloat l.amplitude
  pub offset : SoundFloat l.offset
  pub phase : Sized l.phase
  pub value : Number l.value

abbrev pub SoundModulator : Modulator → Type 0
SoundModulator (OfTweener t) = SoundTweener t
SoundModulator (OfLfo l) = SoundLfo l

abbrev pub SoundSlot : Slot → Type 0
SoundSlot s = SoundModulator s.modulator

pub record SoundModulators (t : Modulators) : Type 0 where
  pub keys : Numbered t.keys
  pub entries : All SoundSlot t.slots

-- ---- the station

pub record SoundStation (st : Station) : Type 0 where
  pub clocks : SoundClocks st.clocks
  pub modulators : SoundModulators st.modulators

-- ---- calls: their floats are doubles

abbrev pub ClockDoubles : ClockCommand → Type 0
ClockDoubles (clocks.Add v) = SpeedDoubles v
ClockDoubles (clocks.Remove id) = Unit {0}
ClockDoubles (clocks.Start id) = Unit {0}
ClockDoubles (clocks.Stop id) = Unit {0}
ClockDoubles (clocks.Reset id) = Unit {0}
ClockDoubles (clocks.SetSpeed id v w) = SpeedDoubles v
ClockDoubles (clocks.Time id) = Unit {0}
ClockDoubles (clocks.Ticking id) = Unit {0}
ClockDoubles (clocks.Speed id) = Unit {0}

pub record BuilderDoubles (b : LfoBuilder) : Type 0 where
  pub waveform : WaveDoubles b.waveform
  pub frequency : FloatDoubles b.frequency
  pub amplitude : FloatDoubles b.amplitude
  pub offset : FloatDoubles b.offset
  pub phase : Double b.starting_phase

abbrev pub ModulatorDoubles : ModulatorCommand → Type 0
ModulatorDoubles (modulators.AddTweener x) = Double x
ModulatorDoubles (modulators.AddLfo b) = BuilderDoubles b
ModulatorDoubles (modulators.Remove id) = Unit {0}
ModulatorDoubles (modulators.SetTweener id x w) = Double x
ModulatorDoubles (modulators.SetParameter id p v w) = FloatDoubles v
ModulatorDoubles (modulators.SetWaveform id w) = WaveDoubles w
ModulatorDoubles (modulators.SetPhase id x) = Double x
ModulatorDoubles (modulators.Value id) = Unit {0}

-- a frame needs nothing of its dt but what is judged of it, and a tween nothing of its clock time
abbrev pub CallDoubles : Call → Type 0
CallDoubles (clock c) = ClockDoubles c
CallDoubles (modulator c) = ModulatorDoubles c
CallDoubles (frame dt) = Unit {0}

-- ---- what the customer sees of it

-- a clock's ticks per second are finite and not negative, and the fraction of its time lies in 0..1, is not 1 and is
-- not −0.0: RULES, no-nan
pub record Ticks (c : Clock) : Type 0 where
  pub rate : T (finite (tps_of c.speed.raw))
  pub forward : T (le zero_f (tps_of c.speed.raw))
  pub least : T (le zero_f (position_of c.state).fraction)
  pub below : lt (position_of c.state).fraction one_f ≡ true
  pub clear : sign_of (position_of c.state).fraction ≡ false

-- a modulator's value is finite
abbrev pub Shows : Slot → Type 0
Shows s = T (finite (slot_value s))
