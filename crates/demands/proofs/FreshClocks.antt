-- An accepted add leaves a fresh clock (`add_fresh`), and it stays fresh through every call, frames too, that does not
-- start or remove it (`fresh_kept`). RULES, run. Assumes nothing.
use Prim.Native.Nat.{ℕ, ◌<◌}
use native.Mathlib.Decide.{ℕ_discrete}
use native.Mathlib.Omega.{arith}
use mathlib.Core.Path.{◌≡◌, refl, ap, ◌∙◌}
use mathlib.Core.Bool.{false}
use mathlib.Core.List.{List, [], ◌∷◌}
use lib.ListN.{length}
use lib.Ieee.{Float}
use Rattle.ids.specs.Keys.{room_at, free_of}
use Rattle.ids.proofs.Names.{add_lives}
use Rattle.ids.proofs.Places.{read_set_same, room_inside}
use Rattle.judge.specs.Answer.{accepted, refused}
use Rattle.judge.specs.Numbers.{NEVER_ISSUED}
use Rattle.times.specs.declared.time.ClockId.{ClockId}
use Rattle.values.specs.Speeds.{speed_tweens}
use Rattle.values.specs.Values.{value_faults}
use Rattle.values.specs.declared.clock_speed.ClockSpeed.{ClockSpeed}
use Rattle.values.specs.declared.value.Value.{Value}
use Rattle.clock.specs.OneClock.{new_clock}
use Rattle.ids.specs.Tables.{placed_in}
use Rattle.clock_table.specs.ClockTables.{clock_table, add_clock_of}
use Rattle.clock.specs.declared.Clock.{Clock}
use Rattle.clock.specs.declared.ClockState.TheVariants.{NotStarted}
use Rattle.clock_table.specs.declared.Clocks.{Clocks}
use Rattle.commands.specs.ClockCommands.{added_as, run_clock_of}
use Rattle.commands.specs.declared.clock_command.ClockCommand.{ClockCommand}
use Rattle.commands.specs.declared.clock_command.ClockCommand.TheVariants as command
use Rattle.station.specs.Frames.{frame_of}
use Rattle.station.specs.Stations.{fresh_station}
use Rattle.station.specs.declared.Station.{Station}
use Rattle.laws.specs.Calls.{Call, clock, modulator, frame, after, after_all, of_clock, named, told}
use Rattle.laws.specs.SoundStation.{All}
use Rattle.laws.proofs.lemmas.Cases.{added_lem}
use Rattle.laws.proofs.lemmas.Entries.{Names, names_read}
use Rattle.laws.proofs.lemmas.OneClock.{Makes, leaves, starts, stops, resets, speeds, command_makes}
use Rattle.laws.proofs.lemmas.OneTurn.{frame_turns, frame_refused}
use Rattle.laws.proofs.lemmas.Sizes.{Full, Sixteen, reached_sixteen}
use Rattle.demands.specs.Served.{Fresh}
use Rattle.demands.proofs.lemmas.Standing.{rests}

-- a clock as an add leaves it: it does not tick, and is not started
pub record New (t : Clocks) (id : ClockId) : Type 0 where
  pub slot : id.slot < 16
  pub clock : Clock
  pub names : Names t id clock
  pub still : clock.ticking ≡ false
  pub unstarted : clock.state ≡ NotStarted

pub new_fresh : (st : Station) (id : ClockId) → New st.clocks id → Fresh st id
new_fresh st id n = record { slot = n.slot; clock = n.clock; lives = names_read st.clocks id n.clock n.names (λ c. c); unstarted = n.unstarted }

-- ---- the add

module _ (t : Clocks) (s : Full t.keys t.clocks) (v : Value ClockSpeed) (id : ClockId) where
  placed : (i g : ℕ) → free_of 0 t.keys ≡ room_at i g → named of_clock i g ≡ named of_clock id.slot id.generation → New (placed_in clock_table t (new_clock v) (room_at i g)).table id
  placed i g e a =
      let p : i ≡ id.slot = cc in
      let q : g ≡ id.generation = cc in
      let l : i < length t.keys = room_inside t.keys i g e in
      record {
        slot = omega (arith, s.keys);
        clock = new_clock v;
        names = rw (← p, ← q) (record { lives = add_lives t.keys i g e; holds = read_set_same (refused NEVER_ISSUED) (λ x. accepted x) t.clocks i (new_clock v) (omega (arith, s.keys, s.entries)) });
        still = refl;
        unstarted = refl;
      }

  added : (added_as (add_clock_of t v)).answer ≡ named of_clock id.slot id.generation → New (add_clock_of t v).table id
  unfolding add_clock_of
  added =
      added_lem clock_table t (value_faults speed_tweens v) (new_clock v) (λ r. (added_as r).answer ≡ named of_clock id.slot id.generation → New r.table id)
      (λ n z a. absurd (cc)) (λ i g z e. placed i g e)

pub add_fresh : (st : Station) → Sixteen of_clock st → (v : Value ClockSpeed) (id : ClockId) → told st (clock (command.Add v)) ≡ named of_clock id.slot id.generation → New (after st (clock (command.Add v))).clocks id
unfolding run_clock_of
add_fresh st s v id a = added st.clocks s v id a

-- ---- the calls between

-- the call does not start this clock, and does not remove it
pub record Spares (id : ClockId) (c : Call) : Type 0 where
  pub start : c ≡ clock (command.Start id) → ⊥
  pub removal : c ≡ clock (command.Remove id) → ⊥

module _ (st : Station) (id : ClockId) (n : New st.clocks id) where
  command_kept : (x : ClockCommand) → Spares id (clock x) → New (run_clock_of st.clocks x).table id
  command_kept x s =
      let m = command_makes st id n.clock n.names x (λ e. s.removal (ap clock e)) in
      let r = by x m.now s m.by in
      record { slot = n.slot; clock = m.now; names = m.names; still = r.0; unstarted = r.1 }
    where
      by : (x : ClockCommand) (d : Clock) → Spares id (clock x) → Makes id n.clock x d → (d.ticking ≡ false) × (d.state ≡ NotStarted)
      by x d s (leaves y o) = (n.still, n.unstarted)
      by x d s starts = absurd (s.start refl)
      by x d s stops = (refl, n.unstarted)
      by x d s resets = (n.still, refl)
      by x d s (speeds v w p) = (n.still, n.unstarted)

  frame_kept : (dt : Float) → New (frame_of st dt).station.clocks id
  frame_kept dt = go (ℕ_discrete (frame_of st dt).refused 0)
    where
      go : Dec ((frame_of st dt).refused ≡ 0) → New (frame_of st dt).station.clocks id
      go (no r) = rw (frame_refused st dt r) n
      go (yes e) =
          let m = frame_turns st dt id n.clock n.names n.slot e in
          let r = rests dt n.clock m.now m.turned n.still in
          record { slot = n.slot; clock = m.now; names = m.names; still = r.0; unstarted = r.1 ∙ n.unstarted }

  call_kept : (c : Call) → Spares id c → New (after st c).clocks id
  call_kept (clock x) s = command_kept x s
  call_kept (modulator x) s = n
  call_kept (frame dt) s = frame_kept dt

pub fresh_kept : (st : Station) (id : ClockId) (cs : List Call) → New st.clocks id → All (Spares id) cs → New (after_all st cs).clocks id
unfolding after_all
fresh_kept st id [] n s = n
fresh_kept st id (c ∷ cs) n s = fresh_kept (after st c) id cs (call_kept st id n c s.0) s.1

-- A clock that was added to a station in the course of its calls is fresh until it is started or removed, so `served`
-- can be asked of it: RULES, run. A clock that was started and then reset is fresh for `served` too, but nothing here
-- leads there.
pub reached_fresh :
    (cs : List Call) (v : Value ClockSpeed) (id : ClockId) (ds : List Call) → told (after_all fresh_station cs) (clock (command.Add v)) ≡ named of_clock id.slot id.generation → All (Spares id) ds
    → Fresh (after_all (after (after_all fresh_station cs) (clock (command.Add v))) ds) id
reached_fresh cs v id ds a s =
    new_fresh _ id (fresh_kept (after (after_all fresh_station cs) (clock (command.Add v))) id ds (add_fresh (after_all fresh_station cs) (reached_sixteen of_clock cs) v id a) s)
