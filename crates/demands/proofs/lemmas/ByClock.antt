-- The number that a call on the clocks is given: its id's where that names no living clock, else that of its
-- arguments, and of an add, NO_ROOM where there is none. RULES, order. Assumes nothing.
use Prim.Native.Nat.{ℕ}
use mathlib.Core.Path.{◌≡◌, refl, sym, ap, ◌∙◌}
use mathlib.Core.Bool.{true, false}
use Rattle.ids.specs.Tables.{where_is, on_found, refused_call, changed, freed}
use Rattle.judge.specs.Answer.{Answer, accepted, number_told}
use Rattle.judge.specs.Judge.{no_faults, first_fault}
use Rattle.times.specs.declared.time.ClockId.{ClockId}
use Rattle.values.specs.Speeds.{speed_tweens}
use Rattle.values.specs.Values.{value_faults}
use Rattle.values.specs.declared.clock_speed.ClockSpeed.{ClockSpeed}
use Rattle.parameter.specs.Parameters.{Set, set_of, set_faults, try_set_of}
use Rattle.clock.specs.OneClock.{new_clock, ticking_of, sped_of, reset_of}
use Rattle.clock.specs.declared.Clock.{Clock}
use Rattle.clock_table.specs.ClockTables.{clock_table, add_clock_of, by_set, remove_of, tick_on_of, reset_clock_of, set_speed_of, clock_time_of, clock_ticking_of, clock_speed_of, time_of, ClockDone}
use Rattle.commands.specs.Answers.{time, flag, speed}
use Rattle.commands.specs.ClockCommands.{done_as, run_clock_of}
use Rattle.commands.specs.declared.clock_command.ClockCommand.{ClockCommand}
use Rattle.commands.specs.declared.clock_command.ClockCommand.TheVariants as command
use Rattle.station.specs.declared.Station.{Station}
use Rattle.laws.specs.Calls.{clock, call_number}
use Rattle.laws.proofs.Refusals.{told_number}
use Rattle.laws.proofs.lemmas.Entries.{names_read}
use Rattle.demands.specs.Events.{clock_in}
use Rattle.demands.specs.Conditions.{set_faults_on, of_clocks}
use Rattle.demands.specs.Entries.{Sized}
use Rattle.demands.specs.Order.{order, holds, first_in}
use Rattle.demands.proofs.lemmas.Asked.{judged_number, id_given}
use Rattle.demands.proofs.lemmas.Lookups.{number_by_id, entry_number, read_number, add_number}

-- a call that changes a clock is judged by its id, and behind it by the number n
on_number :
    (st : Station) → Sized st.clocks.keys st.clocks.clocks → (id : ClockId) (f : ℕ → Clock → ClockDone) (n : ℕ)
    → ((c : Clock) → clock_in st id ≡ accepted c → (f id.slot c).refused ≡ n)
    → number_told (done_as (on_found clock_table st.clocks (where_is clock_table st.clocks id) f)).answer ≡ number_by_id st.clocks.keys id.slot id.generation n
on_number st w id f n h =
    let t = st.clocks in
    entry_number t.keys t.clocks w id.slot id.generation (λ (r : ClockDone). number_told (done_as r).answer) (refused_call clock_table t) told_number f n
    (λ l c k. told_number (f id.slot c).refused ∙ h c (names_read t id c (record { lives = l; holds = k }) (λ x. x)))

-- ---- every call

pub clock_number : (st : Station) → Sized st.clocks.keys st.clocks.clocks → (c : ClockCommand) → call_number st (clock c) ≡ first_in order (holds (of_clocks st c))
unfolding run_clock_of add_clock_of remove_of tick_on_of reset_clock_of set_speed_of clock_time_of clock_ticking_of clock_speed_of first_fault try_set_of
clock_number st w (command.Add v) = add_number clock_table st.clocks (value_faults speed_tweens v) (new_clock v) _
clock_number st w (command.Remove id) = on_number st w id (λ i c. freed clock_table st.clocks i id.generation) 0 (λ c e. refl) ∙ sym (id_given _ _ no_faults)
clock_number st w (command.Start id) = on_number st w id (λ i c. changed clock_table st.clocks i (ticking_of true c)) 0 (λ c e. refl) ∙ sym (id_given _ _ no_faults)
clock_number st w (command.Stop id) = on_number st w id (λ i c. changed clock_table st.clocks i (ticking_of false c)) 0 (λ c e. refl) ∙ sym (id_given _ _ no_faults)
clock_number st w (command.Reset id) = on_number st w id (λ i c. changed clock_table st.clocks i (reset_of c)) 0 (λ c e. refl) ∙ sym (id_given _ _ no_faults)
clock_number st w (command.SetSpeed id v x) =
    on_number st w id (λ i c. by_set st.clocks i c (try_set_of speed_tweens c.speed v x)) (first_fault (set_faults_on (clock_in st id) v x))
    (λ c e. set c ∙ ap (λ (a : Answer Clock). first_fault (set_faults_on a v x)) (sym e))
    ∙ sym (id_given _ _ (set_faults_on (clock_in st id) v x))
  where
    set : (c : Clock) → (by_set st.clocks id.slot c (try_set_of speed_tweens c.speed v x)).refused ≡ first_fault (set_faults speed_tweens c.speed v x)
    set c =
        let s = try_set_of speed_tweens c.speed v x in
        judged_number (λ (r : ClockDone). r.refused) (changed clock_table st.clocks id.slot (sped_of s.parameter c)) (refused_call clock_table st.clocks s.refused) s.refused refl refl
        ∙ judged_number (λ (r : Set ClockSpeed). r.refused) (record { refused = 0; parameter = set_of c.speed v x }) (record { refused = first_fault (set_faults speed_tweens c.speed v x); parameter = c.speed }) (first_fault (set_faults speed_tweens c.speed v x)) refl refl
clock_number st w (command.Time id) = read_number st.clocks.keys st.clocks.clocks w id.slot id.generation (time_of id) time ∙ sym (id_given _ _ no_faults)
clock_number st w (command.Ticking id) = read_number st.clocks.keys st.clocks.clocks w id.slot id.generation (λ (c : Clock). c.ticking) flag ∙ sym (id_given _ _ no_faults)
clock_number st w (command.Speed id) = read_number st.clocks.keys st.clocks.clocks w id.slot id.generation (λ (c : Clock). c.speed.raw) speed ∙ sym (id_given _ _ no_faults)
