-- What a frame answers, by what is wrong with dt, and by what the two loops leave of the tables. Assumes nothing.
use Prim.Native.Nat.{ℕ}
use mathlib.Core.Path.{◌≡◌}
use mathlib.Core.List.{List}
use lib.Ieee.{Float}
use Rattle.std.specs.Prelude.{Option, Ok, Err}
use Rattle.judge.specs.Answer.{number_of_refusal}
use Rattle.judge.specs.Judge.{dt_faults, first_fault}
use Rattle.judge.specs.declared.Refusal.{Refusal}
use Rattle.judge.proofs.Judged.{never_zero_number}
use Rattle.info.specs.declared.info.Info.{Info}
use Rattle.clock.specs.declared.Clock.{Clock}
use Rattle.modulator_table.specs.declared.Slot.{Slot}
use Rattle.station.specs.Stations.{info_in}
use Rattle.station.specs.Frames.{stopped, seeing, slots_turned, modulators_turned, tried, all_turns, clocks_turned, framed, framed_told, frame_of}
use Rattle.station.specs.declared.Station.{Station}

module _ (st : Station) (dt : Float) where
  -- undone by dt
  pub by_dt : (r : Refusal) → number_of_refusal r ≡ first_fault (dt_faults dt) → framed_told (Err r) st ≡ frame_of st dt
  unfolding frame_of
  by_dt r e = rw (← e, never_zero_number r)

  module _ (fine : 0 ≡ first_fault (dt_faults dt)) (before seen : Info) (slots : List Slot) (shown : before ≡ info_in st) (turned : slots ≡ slots_turned before dt st.modulators.keys st.modulators.slots) (sees : seen ≡ seeing before slots) where
    -- by what the clocks' turns came to
    by_turns : frame_of st dt ≡ framed st (record { keys = st.modulators.keys; slots = slots }) (clocks_turned seen dt st.clocks)
    unfolding frame_of modulators_turned
    by_turns = rw (← fine, ← shown, ← turned, sees)

    -- undone by a clock
    pub by_clock : (r : Refusal) → stopped (number_of_refusal r) ≡ all_turns seen dt st.clocks.keys st.clocks.clocks → framed_told (Err r) st ≡ frame_of st dt
    unfolding clocks_turned
    by_clock r e = rw (by_turns, ← e, never_zero_number r)

    pub went_on :
        (cs : List Clock) (rs : List (Option ℕ)) → tried (Ok rs) cs ≡ all_turns seen dt st.clocks.keys st.clocks.clocks
        → framed_told (Ok rs) (record { clocks = record { keys = st.clocks.keys; clocks = cs }; modulators = record { keys = st.modulators.keys; slots = slots } }) ≡ frame_of st dt
    unfolding clocks_turned
    went_on cs rs e = rw (by_turns, ← e)
