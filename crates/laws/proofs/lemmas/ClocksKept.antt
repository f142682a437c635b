-- Every call on the clocks keeps them sound, and so does the update of a clock: what a ticking clock takes off its sum
-- leaves a fraction that is not refused and ticks below 2^64. RULES, no-nan. Assumes nothing.
use Prim.Native.Nat.{ℕ, ◌+◌, ◌-◌, ◌^◌, ◌≤◌, ◌<◌}
use native.Mathlib.Omega.{arith}
use mathlib.Core.Path.{◌≡◌, refl}
use mathlib.Core.Bool.{Bool, true, false, ◌||◌, cond}
use lib.IntN.{pos}
use Rattle.std.specs.Prelude.{Option}
use lib.Dec.{T, eqb, ltb}
use lib.Ieee.{Float, fin, binary64, add, mul, lt, le, eq, fits, is_nan}
use lib.Ieee.Fits.{add-fits, sub-fits}
use lib.Ieee.Scale.{finite}
use borrow.Author.Tests.{ltb-false}
use Rattle.doubles.specs.Doubles.{zero_f, one_f, sign_of, whole_of}
use Rattle.doubles.specs.Intervals.{Between}
use Rattle.doubles.proofs.Unit.{le_same, le_of_lt, le_of_not_lt, between_is, between_finite, finite_is, on_of_between, add_mono, mul_mono}
use Rattle.ids.specs.Keys.{lives_in}
use Rattle.judge.specs.Answer.{Answer, accepted, refused}
use Rattle.ids.proofs.Names as names
use Rattle.ticks.specs.WholeTicks.{room_for, taken_of}
use Rattle.ticks.specs.declared.Position.{Position}
use Rattle.ticks.proofs.Parts.{ticks_of}
use Rattle.ticks.proofs.Sums.{reached, kept, room}
use Rattle.judge.specs.Judge.{no_faults, dt_faults, number_of}
use Rattle.values.specs.Speeds.{tps_of, speed_tweens}
use Rattle.values.specs.declared.clock_speed.ClockSpeed.{ClockSpeed}
use Rattle.times.specs.declared.start_time.When.{When}
use Rattle.times.specs.declared.time.ClockId.{ClockId}
use Rattle.values.specs.Values.{value_faults}
use Rattle.values.specs.declared.value.Value.{Value}
use Rattle.parameter.specs.Parameters.{try_set_of, update_of}
use Rattle.parameter.specs.declared.Parameter.{Parameter}
use Rattle.clock.specs.OneClock.{Ticked, default_speed, new_clock, position_of, fresh_of, advance_of, sum_of, by_turn, no_report, ticking_of, sped_of, reset_of, tick_of, update_clock_of}
use Rattle.ids.specs.Tables.{refused_call, where_is, on_found, changed, freed}
use Rattle.clock_table.specs.ClockTables.{ClockDone, clock_table, add_clock_of, by_set, remove_of, tick_on_of, reset_clock_of, set_speed_of}
use Rattle.clock.specs.declared.Clock.{Clock}
use Rattle.clock.specs.declared.ClockState.{ClockState}
use Rattle.clock_table.specs.declared.Clocks.{Clocks}
use Rattle.commands.specs.ClockCommands.{run_clock_of}
use Rattle.commands.specs.declared.clock_command.ClockCommand.{ClockCommand}
use Rattle.commands.specs.declared.clock_command.ClockCommand.TheVariants as command
use Rattle.laws.specs.Sound.{speeds, SpeedDoubles, SoundInput, SoundSpeed}
use Rattle.laws.specs.SoundStation.{SoundPosition, SoundClock, SoundClocks, ClockDoubles}
use Rattle.laws.proofs.lemmas.Accepted.{dt_range}
use Rattle.laws.proofs.lemmas.Clear.{fraction_of, fraction_range, add_clear, fract_clear}
use Rattle.laws.proofs.lemmas.Cases.{cond_case, added_lem}
use Rattle.laws.proofs.lemmas.Every.{all_set, found_all}
use Rattle.laws.proofs.lemmas.Parameters.{new_sound, update_sound, change_sound}
use Rattle.laws.proofs.lemmas.Speeds.{speed_mixes, sound_rate}

-- ---- one clock

at_rest : SoundPosition (record { ticks = 0; fraction = zero_f })
at_rest = record { double = unfold fits in tt; accepted = unfold lt in refl; room = omega arith }

pub new_clock_lem : (v : Value ClockSpeed) → SpeedDoubles v → value_faults speed_tweens v ≡ no_faults → SoundClock (new_clock v)
new_clock_lem v F h = record { speed = new_sound speeds speed_mixes v default_speed F (unfold fits in tt) h (unfold eq le in refl); position = at_rest }

-- a time with a fraction that is a double, its sign clear where it is finite, and with ticks up to 2^64 − 1, or none
abbrev Roomy : Answer Position → Type 0
Roomy (accepted p) = T (fits binary64 p.fraction) × (T (finite p.fraction) → sign_of p.fraction ≡ false) × (p.ticks < 2 ^ 64)
Roomy (refused n) = Unit {0}

-- a sound time, or none
abbrev SoundTaken : Answer Position → Type 0
SoundTaken (accepted p) = SoundPosition p
SoundTaken (refused n) = Unit {0}

module _ (n : ℕ) (x : Float) (N : n < 2 ^ 64) (F : T (fits binary64 x)) (H : T (finite x)) (s : sign_of x ≡ false) where
  taken_roomy : Roomy (taken_of n x)
  unfolding taken_of room_for
  taken_roomy = go (le one_f x) (ltb (2 ^ 64 - 1) (n + ticks_of x)) (ltb-false (2 ^ 64 - 1) (n + ticks_of x))
    where
      go : (b t : Bool) → (t ≡ false → n + ticks_of x ≤ 2 ^ 64 - 1) → Roomy (cond b (room n x t) (kept n x))
      go true true k = tt
      go true false k = let l : n + ticks_of x ≤ 2 ^ 64 - 1 = k refl in (sub-fits binary64 x (whole_of x), fract_clear x F H s, omega arith)
      go false t k = (F, λ _. s, N)

  taken_sound : T (le zero_f x) → SoundTaken (taken_of n x)
  taken_sound h = go (taken_of n x) refl taken_roomy
    where
      go : (t : Answer Position) → taken_of n x ≡ t → Roomy t → SoundTaken t
      go (accepted p) e q =
          let r = reached n x p F H h e in
          let i : T (finite p.fraction) = between_finite zero_f p.fraction one_f tt tt (record { least = r.least; most = le_of_lt p.fraction one_f r.below }) in
          record { double = q.0; accepted = fraction_of p.fraction (q.1 i) r.below; room = q.2 }
      go (refused n) e q = tt

-- a sound clock, or a refusal
abbrev pub SoundMoved : Answer Ticked → Type 0
SoundMoved (accepted t) = SoundClock t.clock
SoundMoved (refused n) = Unit {0}

-- TOO_FAR is given to an advance beyond this: RULES, too-far
abbrev farthest : Float
farthest = fin false 1 (pos 16)

module _ (p : Parameter ClockSpeed) (s : SoundSpeed p) (dt : Float) (h : dt_faults dt ≡ no_faults) where
  advance_range : lt farthest (advance_of p dt) ≡ false → Between zero_f (advance_of p dt) farthest
  advance_range l =
      let tps : Float = tps_of p.raw in
      let r = sound_rate p s in
      let b : Between zero_f (advance_of p dt) (mul binary64 tps (fin false 15 (pos 2))) = mul_mono binary64 tps dt tps (fin false 15 (pos 2)) r.0 tt (record { least = r.1; most = le_same tps (finite_is tps r.0) }) (dt_range dt h) in
      record { least = b.least; most = le_of_not_lt farthest (advance_of p dt) (unfold is_nan in refl) (between_is zero_f (advance_of p dt) _ b) l }

  tick_sound : (st : ClockState) → SoundPosition (position_of st) → SoundMoved (tick_of p st dt)
  unfolding tick_of number_of
  tick_sound st q = go (lt farthest (advance_of p dt)) advance_range
    where
      told : Bool
      told = fresh_of st || le one_f (sum_of p st dt)

      stands : (t : Answer Position) → SoundTaken t → SoundMoved (by_turn p told false t)
      stands (accepted to) k = record { speed = s; position = k }
      stands (refused n) k = tt

      g : Float
      g = (position_of st).fraction

      -- the sum lies between 0 and 1 + 65,536, and its sign is clear
      summed : Between zero_f (advance_of p dt) farthest → T (finite (sum_of p st dt)) × (sign_of (sum_of p st dt) ≡ false) × T (le zero_f (sum_of p st dt))
      summed a =
          let f = fraction_range g q.accepted in
          let b : Between zero_f g one_f = record { least = f.1; most = le_of_lt g one_f f.2 } in
          let r : Between zero_f (sum_of p st dt) (add binary64 one_f farthest) = add_mono binary64 g (advance_of p dt) one_f farthest tt tt b a in
          let i : T (finite (sum_of p st dt)) = between_finite zero_f (sum_of p st dt) (add binary64 one_f farthest) tt (unfold add in tt) r in
          (i, add_clear binary64 g (advance_of p dt) (between_finite zero_f g one_f tt tt b) f.0 (on_of_between (advance_of p dt) farthest a tt) i, r.least)

      go : (b : Bool) → (b ≡ false → Between zero_f (advance_of p dt) farthest) → SoundMoved (by_turn p told b (taken_of (position_of st).ticks (sum_of p st dt)))
      go true k = tt
      go false k =
          let r = summed (k refl) in
          stands (taken_of (position_of st).ticks (sum_of p st dt))
          (taken_sound (position_of st).ticks (sum_of p st dt) q.room (add-fits binary64 g (advance_of p dt)) r.0 r.1 r.2)

pub update_clock : (c : Clock) (dt : Float) (w : When) (i : Option Float) → SoundClock c → dt_faults dt ≡ no_faults → SoundInput i → SoundMoved (update_clock_of c dt w i)
unfolding update_clock_of
update_clock c dt w i s h k =
    let p : Parameter ClockSpeed = (update_of speed_tweens c.speed dt w i).parameter in
    let q : SoundSpeed p = update_sound speeds speed_mixes c.speed s.speed dt w i h k in
    cond_case SoundMoved (tick_of p c.state dt) (accepted (record { clock = sped_of p c; report = no_report }))
    (tick_sound p q dt h c.state s.position) (record { speed = q; position = s.position }) c.ticking

-- ---- the table

module _ (t : Clocks) (s : SoundClocks t) where
  put_sound : (i : ℕ) (c : Clock) → SoundClock c → SoundClocks (changed clock_table t i c).table
  put_sound i c k = record { keys = s.keys; entries = all_set SoundClock t.clocks i c k s.entries }

  added_sound : (v : Value ClockSpeed) → SpeedDoubles v → SoundClocks (add_clock_of t v).table
  unfolding add_clock_of
  added_sound v F =
      added_lem clock_table t (value_faults speed_tweens v) (new_clock v) (λ r. SoundClocks r.table) (λ n z. s) (λ i g h e.
      record { keys = names.add_numbered t.keys i g e s.keys; entries = all_set SoundClock t.clocks i (new_clock v) (new_clock_lem v F h) s.entries })

  module _ (id : ClockId) where
    on_found_lem :
        (f : ℕ → Clock → ClockDone) → (lives_in t.keys id.slot id.generation ≡ true → (c : Clock) → SoundClock c → SoundClocks (f id.slot c).table)
        → SoundClocks (on_found clock_table t (where_is clock_table t id) f).table
    on_found_lem f h = found_all clock_table t id (λ r. SoundClocks r.table) SoundClock f (λ n. s) h s.entries

    -- by a clock that is sound where the one that was there is
    remade : (f : Clock → Clock) → ((c : Clock) → SoundClock c → SoundClock (f c)) → SoundClocks (on_found clock_table t (where_is clock_table t id) (λ i c. changed clock_table t i (f c))).table
    remade f h = on_found_lem (λ i c. changed clock_table t i (f c)) (λ l c k. put_sound id.slot (f c) (h c k))

  pub run_clock_sound : (c : ClockCommand) → ClockDoubles c → SoundClocks (run_clock_of t c).table
  unfolding run_clock_of remove_of tick_on_of reset_clock_of set_speed_of
  run_clock_sound (command.Add v) F = added_sound v F
  run_clock_sound (command.Remove id) F =
      on_found_lem id (λ i c. freed clock_table t i id.generation) (λ l c k. record { keys = names.remove_numbered t.keys id.slot id.generation l s.keys; entries = s.entries })
  run_clock_sound (command.Start id) F = remade id (ticking_of true) (λ c k. record { speed = k.speed; position = k.position })
  run_clock_sound (command.Stop id) F = remade id (ticking_of false) (λ c k. record { speed = k.speed; position = k.position })
  run_clock_sound (command.Reset id) F = remade id reset_of (λ c k. record { speed = k.speed; position = at_rest })
  run_clock_sound (command.SetSpeed id v w) F = on_found_lem id (λ i c. by_set t i c (try_set_of speed_tweens c.speed v w)) (λ l c k.
      let r = try_set_of speed_tweens c.speed v w in
      cond_case (λ (d : ClockDone). SoundClocks d.table) (changed clock_table t id.slot (sped_of r.parameter c)) (refused_call clock_table t r.refused)
      (put_sound id.slot (sped_of r.parameter c) (record { speed = change_sound speeds speed_mixes c.speed k.speed v w F; position = k.position })) s (eqb r.refused 0))
  run_clock_sound (command.Time id) F = s
  run_clock_sound (command.Ticking id) F = s
  run_clock_sound (command.Speed id) F = s
