-- What a command makes of the clock of an id that lives: its own calls start, stop, reset it or set its speed, and any
-- other leaves it as it was. RULES, commands. Assumes nothing.
use Prim.Native.Nat.{ℕ}
use mathlib.Core.Path.{◌≡◌, ap}
use mathlib.Core.Bool.{true, false}
use lib.Dec.{eqb}
use native.Mathlib.Decide.{ℕ_discrete}
use Rattle.times.specs.declared.time.ClockId.{ClockId}
use Rattle.times.specs.declared.tween.Tween.{Tween}
use Rattle.values.specs.declared.value.Value.{Value}
use Rattle.parameter.specs.Parameters.{try_set_of}
use Rattle.values.specs.Speeds.{speed_tweens}
use Rattle.values.specs.declared.clock_speed.ClockSpeed.{ClockSpeed}
use Rattle.parameter.specs.declared.Parameter.{Parameter}
use Rattle.clock.specs.OneClock.{ticking_of, sped_of, reset_of}
use Rattle.ids.specs.Tables.{where_is, on_found, changed, refused_call}
use Rattle.clock_table.specs.ClockTables.{ClockDone, clock_table, by_set, tick_on_of, reset_clock_of, set_speed_of}
use Rattle.clock.specs.declared.Clock.{Clock}
use Rattle.clock_table.specs.declared.Clocks.{Clocks}
use Rattle.commands.specs.ClockCommands.{run_clock_of}
use Rattle.commands.specs.declared.clock_command.ClockCommand.{ClockCommand}
use Rattle.commands.specs.declared.clock_command.ClockCommand.TheVariants as command
use Rattle.station.specs.declared.Station.{Station}
use Rattle.laws.specs.Calls.{clock, of_clock, clock_target, Touches}
use Rattle.laws.proofs.Apart.{apart}
use Rattle.laws.proofs.lemmas.Cases.{cond_case}
use Rattle.laws.proofs.lemmas.Entries.{holds_same, stays_held, Names, names_on}

-- what a command makes of the clock c of an id
pub data Makes (id : ClockId) (c : Clock) : ClockCommand → Clock → Type 0 where
  leaves : (x : ClockCommand) → (Touches (clock_target x) of_clock id.slot id.generation → ⊥) → Makes id c x c
  starts : Makes id c (command.Start id) (ticking_of true c)
  stops : Makes id c (command.Stop id) (ticking_of false c)
  resets : Makes id c (command.Reset id) (reset_of c)
  speeds : (v : Value ClockSpeed) (w : Tween) (p : Parameter ClockSpeed) → Makes id c (command.SetSpeed id v w) (sped_of p c)

-- the clock that the id has behind it
pub record Made (t : Clocks) (id : ClockId) (c : Clock) (x : ClockCommand) : Type 0 where
  pub now : Clock
  pub names : Names t id now
  pub by : Makes id c x now

-- an id is its slot and its generation
same_id_lem : (a b : ClockId) → a.slot ≡ b.slot → a.generation ≡ b.generation → a ≡ b
same_id_lem a b p q = go a.slot a.generation p q
  where
    go : (i g : ℕ) → i ≡ b.slot → g ≡ b.generation → record { slot = i; generation = g } ≡ b
    go i g p q = rw (p, q)

-- the id is this one, or another
which : {P : Type 0} (a b : ClockId) → (a ≡ b → P) → ((a.slot ≡ b.slot → a.generation ≡ b.generation → ⊥) → P) → P
which {P} a b s o = go (ℕ_discrete a.slot b.slot) (ℕ_discrete a.generation b.generation)
  where
    go : Dec (a.slot ≡ b.slot) → Dec (a.generation ≡ b.generation) → P
    go (yes p) (yes q) = s (same_id_lem a b p q)
    go (yes p) (no n) = o (λ _ q. n q)
    go (no n) (yes q) = o (λ p _. n p)
    go (no n) (no m) = o (λ p _. n p)

module _ (st : Station) (id : ClockId) (c : Clock) (n : Names st.clocks id c) where
  abbrev Done : ClockCommand → ClockDone → Type 0
  Done x r = Made r.table id c x

  -- a call that does not act on it
  elsewhere : (x : ClockCommand) → (Touches (clock_target x) of_clock id.slot id.generation → ⊥) → Made (run_clock_of st.clocks x).table id c x
  elsewhere x o = record {
    now = c;
    names = record {
      lives = (apart of_clock st (clock x) id.slot id.generation o n.lives).alive;
      holds = stays_held of_clock st id.slot id.generation n.lives (clock x) o c n.holds;
    };
    by = leaves x o;
  }

  -- its own
  own : (x : ClockCommand) (d : Clock) → Makes id c x d → Done x (changed clock_table st.clocks id.slot d)
  own x d m = record { now = d; names = record { lives = n.lives; holds = holds_same st.clocks.clocks id.slot c d n.holds }; by = m }

  found : (x : ClockCommand) (f : ℕ → Clock → ClockDone) → Done x (f id.slot c) → Done x (on_found clock_table st.clocks (where_is clock_table st.clocks id) f)
  found x f d = rw (names_on st.clocks id c n f) d

  pub command_makes : (x : ClockCommand) → (x ≡ command.Remove id → ⊥) → Made (run_clock_of st.clocks x).table id c x
  unfolding run_clock_of tick_on_of reset_clock_of set_speed_of
  command_makes (command.Add v) r = elsewhere (command.Add v) (λ e. e)
  command_makes (command.Remove j) r = elsewhere (command.Remove j) (λ e. r (ap command.Remove (same_id_lem j id (cc) (cc))))
  command_makes (command.Start j) r =
      which j id (λ e. rw e (found (command.Start id) (λ i x. changed clock_table st.clocks i (ticking_of true x)) (own (command.Start id) (ticking_of true c) starts)))
      (λ o. elsewhere (command.Start j) (λ e. o (cc) (cc)))
  command_makes (command.Stop j) r =
      which j id (λ e. rw e (found (command.Stop id) (λ i x. changed clock_table st.clocks i (ticking_of false x)) (own (command.Stop id) (ticking_of false c) stops)))
      (λ o. elsewhere (command.Stop j) (λ e. o (cc) (cc)))
  command_makes (command.Reset j) r =
      which j id (λ e. rw e (found (command.Reset id) (λ i x. changed clock_table st.clocks i (reset_of x)) (own (command.Reset id) (reset_of c) resets)))
      (λ o. elsewhere (command.Reset j) (λ e. o (cc) (cc)))
  command_makes (command.SetSpeed j v w) r = which j id (λ e. rw e set) (λ o. elsewhere (command.SetSpeed j v w) (λ e. o (cc) (cc)))
    where
      set : Done (command.SetSpeed id v w) (set_speed_of st.clocks id v w)
      set =
          let s = try_set_of speed_tweens c.speed v w in
          found (command.SetSpeed id v w) (λ i x. by_set st.clocks i x (try_set_of speed_tweens x.speed v w))
          (cond_case (Done (command.SetSpeed id v w)) (changed clock_table st.clocks id.slot (sped_of s.parameter c)) (refused_call clock_table st.clocks s.refused)
          (own (command.SetSpeed id v w) (sped_of s.parameter c) (speeds v w s.parameter))
          (record { now = c; names = n; by = speeds v w c.speed }) (eqb s.refused 0))
  command_makes (command.Time j) r = elsewhere (command.Time j) (λ e. e)
  command_makes (command.Ticking j) r = elsewhere (command.Ticking j) (λ e. e)
  command_makes (command.Speed j) r = elsewhere (command.Speed j) (λ e. e)
