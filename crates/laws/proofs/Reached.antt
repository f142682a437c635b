-- Every call keeps a sound station sound, frames and refused calls too, so every station that calls can reach is sound:
-- no NaN or infinity in a speed or a value, no fraction outside 0..1 (`no_nan`); and a sound parameter that the caller
-- updates there stays sound, so its value is finite (`float_value_lem`, `speed_rate`, which stands for a reader).
-- RULES, no-nan. Assumes nothing.
use Prim.Native.Nat.{ℕ, zero, suc, ◌+◌}
use mathlib.Core.Path.{◌≡◌, refl, subst}
use mathlib.Core.List.{List, [], ◌∷◌}
use lib.ListN.{set}
use lib.Dec.{T}
use lib.Ieee.{Float, eq, le, lt, fits}
use lib.Ieee.Scale.{finite}
use Rattle.doubles.specs.Doubles.{zero_f}
use Rattle.ids.specs.declared.Key.{Key}
use Rattle.ids.proofs.Names as names
use Rattle.ids.proofs.Places.{found_case}
use Rattle.judge.specs.Judge.{no_faults, dt_faults}
use Rattle.values.specs.Speeds.{tps_of, speed_tweens}
use Rattle.values.specs.Tweenables.{float_tweens}
use Rattle.values.specs.declared.clock_speed.ClockSpeed.{ClockSpeed}
use Rattle.values.specs.declared.clock_speed.ClockSpeed.TheVariants.{TicksPerSecond}
use Rattle.values.specs.declared.value.ModulatorId.{ModulatorId}
use Rattle.values.specs.declared.value.Value.{Value}
use Rattle.values.specs.declared.value.Value.TheVariants.{Fixed, FromModulator}
use Rattle.parameter.specs.declared.State.{State}
use Rattle.parameter.specs.declared.State.TheVariants.{Idle, Tweening}
use Rattle.parameter.specs.declared.Parameter.{Parameter}
use Rattle.info.specs.Infos.{value_found, modulator_value_of, input_of}
use Rattle.info.specs.ParametersIn.{parameter_due_of, source_in, source_of, sight_of, try_update_in}
use Rattle.info.specs.declared.info.Info.{Info}
use Rattle.clock.specs.OneClock.{new_clock, position_of}
use Rattle.clock.specs.declared.Clock.{Clock}
use Rattle.std.specs.Prelude.{Option, Some, None}
use Rattle.modulator.specs.Tweeners.{new_tweener}
use Rattle.modulator_table.specs.ModulatorTables.{value_of, slot_value, slot_of}
use Rattle.modulator_table.specs.declared.Modulator.{Modulator}
use Rattle.modulator_table.specs.declared.Modulator.TheVariants.{OfTweener, OfLfo}
use Rattle.modulator_table.specs.declared.Slot.{Slot}
use Rattle.station.specs.Frames.{Try, went, seeing, watching, modulator_turn, modulator_turns, placed, clock_turn, clock_turns, frame_of}
use Rattle.station.specs.Stations.{fresh_station, info_in}
use Rattle.station.specs.Turns.{tweener_due, turn_modulator, turn_clock}
use Rattle.station.specs.declared.Station.{Station}
use Rattle.laws.specs.Calls.{Call, clock, modulator, frame, after, after_all}
use Rattle.laws.specs.Sound.{Asked, floats, speeds, SoundInput, SoundParameter, SoundFloat, SoundSpeed}
use Rattle.laws.specs.SoundStation.{All, Number, SoundClock, SoundModulator, SoundSlot, SoundModulators, SoundStation, CallDoubles, Ticks, Shows}
use Rattle.laws.proofs.lemmas.Clear.{fraction_range}
use Rattle.laws.proofs.lemmas.ClocksKept.{SoundMoved, new_clock_lem, update_clock, run_clock_sound}
use Rattle.laws.proofs.lemmas.Cases.{slot_case, turn_case, Ends, next, turned_slots, turned_clocks, turned_to, frame_case}
use Rattle.laws.proofs.lemmas.Every.{all_set, all_replicate, all_map, all_weaker, all_read}
use Rattle.laws.proofs.lemmas.Floats.{float_mixes, sound_value}
use Rattle.laws.proofs.lemmas.ModulatorsKept.{new_tweener_lem, update_tweener, update_lfo, run_modulator_sound}
use Rattle.laws.proofs.lemmas.Signed.{within_finite}
use Rattle.laws.proofs.lemmas.Parameters.{Mixes, advance_sound}
use Rattle.laws.proofs.lemmas.Speeds.{speed_mixes, sound_rate}

-- ---- what is seen

slot_number : (s : Slot) → SoundSlot s → Number (slot_value s)
slot_number s h = go s.modulator h
  where
    go : (m : Modulator) → SoundModulator m → Number (value_of m)
    go (OfTweener t) h = (h.value.0, within_finite 40 t.value h.value.1)
    go (OfLfo l) h = h.value

module _ (info : Info) (h : All Number info.values) where
  value_seen : (id : ModulatorId) → SoundInput (modulator_value_of info id)
  unfolding modulator_value_of
  value_seen id =
      found_case info.modulator_keys id.slot id.generation (λ w. SoundInput (value_found info.values w)) (λ n z l. tt) (λ l.
      all_read Number SoundInput None (λ x. Some x) tt (λ x k. k) info.values id.slot h)

  module _ {A : Type 0} where
    input_seen : (v : Value A) → SoundInput (input_of info v)
    input_seen (Fixed x) = tt
    input_seen (FromModulator id m) = value_seen id

    source_seen : (s : State A) → SoundInput (source_in info s)
    source_seen (Idle v) = input_seen v
    source_seen (Tweening t) = input_seen t.target

-- ---- turns

module _ (dt : Float) (h : dt_faults dt ≡ no_faults) where
  modulator_turned : (info : Info) → All Number info.values → (m : Modulator) → SoundModulator m → SoundModulator (turn_modulator info m dt)
  unfolding turn_modulator
  modulator_turned info k (OfTweener t) s = update_tweener t dt (tweener_due info t) s h
  modulator_turned info k (OfLfo l) s =
      update_lfo l dt (record { frequency = sight_of info l.frequency; amplitude = sight_of info l.amplitude; offset = sight_of info l.offset }) s h
      (record { frequency = source_seen info k l.frequency.state; amplitude = source_seen info k l.amplitude.state; offset = source_seen info k l.offset.state })

  clock_turned : (info : Info) → All Number info.values → (c : Clock) → SoundClock c → SoundMoved (turn_clock info c dt)
  unfolding turn_clock
  clock_turned info k c s = update_clock c dt (parameter_due_of info c.speed) (source_of info c.speed) s h (source_seen info k c.speed.state)

  module _ (info : Info) (keys : List Key) where
    -- a slot that is not used, or is past the table, has no turn
    modulator_turn_lem : (i : ℕ) (ss : List Slot) → All SoundSlot ss → All SoundSlot (modulator_turn info dt keys i ss)
    modulator_turn_lem i ss k =
        slot_case (All SoundSlot) ss turn keys ss i k (all_read SoundSlot (All SoundSlot) ss turn k turn_kept ss i k)
      where
        to : Slot → Slot
        to s = slot_of (turn_modulator (seeing info ss) s.modulator dt)

        turn : Slot → List Slot
        turn s = set ss i (to s)

        turn_kept : (s : Slot) → SoundSlot s → All SoundSlot (turn s)
        turn_kept s q = all_set SoundSlot ss i (to s) (modulator_turned (seeing info ss) (all_map SoundSlot Number slot_value slot_number ss k) s.modulator q) k

    modulator_turns_lem : (n i : ℕ) (ss : List Slot) → All SoundSlot ss → All SoundSlot (modulator_turns info dt keys n i ss)
    unfolding modulator_turns
    modulator_turns_lem zero i ss k = k
    modulator_turns_lem (suc n) i ss k = modulator_turns_lem n (i + 1) (modulator_turn info dt keys i ss) (modulator_turn_lem i ss k)

    module _ (v : All Number info.values) where
      clock_turn_lem : (i : ℕ) (cs : List Clock) (rs : List (Option ℕ)) → All SoundClock cs → Ends (All SoundClock) (clock_turn info dt keys i cs rs)
      clock_turn_lem i cs rs k = slot_case (Ends (All SoundClock)) (went cs rs) turn keys cs i k (all_read SoundClock (Ends (All SoundClock)) (went cs rs) turn k turn_kept cs i k)
        where
          turn : Clock → Try
          turn c = placed i cs rs (turn_clock (watching info cs) c dt)

          turn_kept : (c : Clock) → SoundClock c → Ends (All SoundClock) (turn c)
          turn_kept c q =
              turn_case (watching info cs) c dt (λ m. SoundMoved m → Ends (All SoundClock) (placed i cs rs m)) (λ t s. all_set SoundClock cs i t.clock s k) (λ n y s. y)
              (clock_turned (watching info cs) v c q)

      clock_turns_lem : (n i : ℕ) (cs : List Clock) (rs : List (Option ℕ)) → All SoundClock cs → Ends (All SoundClock) (clock_turns info dt keys n i cs rs)
      unfolding clock_turns
      clock_turns_lem zero i cs rs k = k
      clock_turns_lem (suc n) i cs rs k =
          next (All SoundClock) (All SoundClock) (clock_turns info dt keys n (i + 1)) (λ cs rs q. clock_turns_lem n (i + 1) cs rs q) (clock_turn info dt keys i cs rs)
          (clock_turn_lem i cs rs k)

-- ---- calls

module _ (st : Station) (s : SoundStation st) where
  module _ (dt : Float) (h : dt_faults dt ≡ no_faults) where
    slots_kept : All SoundSlot (turned_slots st dt)
    slots_kept = modulator_turns_lem dt h (info_in st) st.modulators.keys 16 0 st.modulators.slots s.modulators.entries

    clocks_kept : Ends (All SoundClock) (turned_clocks st dt)
    clocks_kept =
        clock_turns_lem dt h (seeing (info_in st) (turned_slots st dt)) st.clocks.keys (all_map SoundSlot Number slot_value slot_number (turned_slots st dt) slots_kept) 16 0 st.clocks.clocks _
        s.clocks.entries

    modulators_kept : SoundModulators (turned_to st (turned_slots st dt))
    modulators_kept = record { keys = s.modulators.keys; entries = slots_kept }

  frame_sound : (dt : Float) → SoundStation (frame_of st dt).station
  frame_sound dt =
      frame_case st dt (λ r. SoundStation r.station)
      (λ h cs rs e. record { clocks = record { keys = s.clocks.keys; entries = subst (Ends (All SoundClock)) e (clocks_kept dt h) }; modulators = modulators_kept dt h })
      (λ n y. s)

  pub after_sound : (c : Call) → CallDoubles c → SoundStation (after st c)
  after_sound (clock c) F = record { clocks = run_clock_sound st.clocks s.clocks c F; modulators = s.modulators }
  after_sound (modulator c) F = record { clocks = s.clocks; modulators = run_modulator_sound st.modulators s.modulators c F }
  after_sound (frame dt) F = frame_sound dt

pub run_sound : (st : Station) → SoundStation st → (cs : List Call) → All CallDoubles cs → SoundStation (after_all st cs)
unfolding after_all
run_sound st s [] F = s
run_sound st s (c ∷ cs) F = run_sound (after st c) (after_sound st s c F.0) cs F.1

-- ---- the caller's parameters

-- the caller's own parameters, by what a sound station shows: RULES, own-parameters; a refused dt leaves a parameter as
-- it is
module _ (st : Station) (s : SoundStation st) (dt : Float) where
  shown : All Number (info_in st).values
  unfolding info_in
  shown = all_map SoundSlot Number slot_value slot_number st.modulators.slots s.modulators.entries

  pub parameter_sound : {A : Type 0} (q : Asked A) {Target : A → Type 0} → Mixes q Target → (p : Parameter A) → SoundParameter q p → SoundParameter q (try_update_in q.tweens (info_in st) p dt).parameter
  unfolding try_update_in
  parameter_sound q x p k = advance_sound q x p k dt (parameter_due_of (info_in st) p) (source_of (info_in st) p) (source_seen (info_in st) shown p.state)

  pub float_value_lem : (p : Parameter Float) → SoundFloat p → T (finite (try_update_in float_tweens (info_in st) p dt).parameter.raw)
  float_value_lem p k = sound_value (try_update_in float_tweens (info_in st) p dt).parameter (parameter_sound floats float_mixes p k)

  pub speed_rate :
      (p : Parameter ClockSpeed) → SoundSpeed p
      → T (finite (tps_of (try_update_in speed_tweens (info_in st) p dt).parameter.raw)) × T (le zero_f (tps_of (try_update_in speed_tweens (info_in st) p dt).parameter.raw))
  speed_rate p k = sound_rate (try_update_in speed_tweens (info_in st) p dt).parameter (parameter_sound speeds speed_mixes p k)

-- ---- from the beginning

pub fresh_sound : SoundStation fresh_station
fresh_sound = record {
  clocks = record {
    keys = names.start_numbered 16;
    entries = all_replicate SoundClock 16 (new_clock (Fixed (TicksPerSecond zero_f))) (new_clock_lem (Fixed (TicksPerSecond zero_f)) (unfold fits in tt) (unfold eq in refl));
  };
  modulators = record { keys = names.start_numbered 16; entries = all_replicate SoundSlot 16 (slot_of (OfTweener (new_tweener zero_f))) (new_tweener_lem zero_f (unfold fits in tt) (unfold lt in refl)) };
}

-- a station that calls have reached, from the beginning
module _ (cs : List Call) (F : All CallDoubles cs) where
  pub reached_sound : SoundStation (after_all fresh_station cs)
  reached_sound = run_sound fresh_station fresh_sound cs F

  pub no_nan : All Ticks (after_all fresh_station cs).clocks.clocks × All Shows (after_all fresh_station cs).modulators.slots
  no_nan = (
    all_weaker SoundClock Ticks ticks (after_all fresh_station cs).clocks.clocks reached_sound.clocks.entries,
    all_weaker SoundSlot Shows (λ v k. (slot_number v k).1) (after_all fresh_station cs).modulators.slots reached_sound.modulators.entries,
  )
    where
      ticks : (c : Clock) → SoundClock c → Ticks c
      ticks c k =
          let r = sound_rate c.speed k.speed in
          let f = fraction_range (position_of c.state).fraction k.position.accepted in
          record { rate = r.0; forward = r.1; least = f.1; below = f.2; clear = f.0 }
