-- What a turn of a frame sees is what `info_in` shows of the station as it stands then: so the clocks see every
-- modulator's new value. These laws stand for a reader of `Frames`. RULES, frame-sight. Assumes nothing.
use mathlib.Core.Path.{◌≡◌, refl}
use mathlib.Core.List.{List}
use lib.Ieee.{Float}
use borrow.Author.Tests.{eq-eqb}
use Rattle.judge.specs.Judge.{dt_faults, first_fault}
use Rattle.clock.specs.declared.Clock.{Clock}
use Rattle.modulator_table.specs.declared.Slot.{Slot}
use Rattle.station.specs.Stations.{info_in}
use Rattle.station.specs.Frames.{seeing, turned, modulators_turned, watching, clocks_turned, framed, frame_of}
use Rattle.station.specs.declared.Station.{Station}

-- the station once its modulators have had their turns
abbrev pub between : Station → Float → Station
between st dt = record { clocks = st.clocks; modulators = (modulators_turned (info_in st) dt st.modulators).table }

module _ (st : Station) where
  pub modulator_sees : (slots : List Slot) → seeing (info_in st) slots ≡ info_in (record { clocks = st.clocks; modulators = record { keys = st.modulators.keys; slots = slots } })
  unfolding info_in
  modulator_sees slots = refl

  pub clock_sees : (cs : List Clock) → watching (info_in st) cs ≡ info_in (record { clocks = record { keys = st.clocks.keys; clocks = cs }; modulators = st.modulators })
  unfolding info_in
  clock_sees cs = refl

  -- what the modulators' turns hand on to the clocks
  pub handed_on : (dt : Float) → (modulators_turned (info_in st) dt st.modulators).info ≡ info_in (between st dt)
  unfolding modulators_turned
  handed_on dt = modulator_sees (turned (info_in st) dt st.modulators)

  pub clocks_last :
      (dt : Float) → first_fault (dt_faults dt) ≡ 0
      → frame_of st dt ≡ framed st (between st dt).modulators (clocks_turned (info_in (between st dt)) dt st.clocks)
  unfolding frame_of
  clocks_last dt z = rw (eq-eqb _ 0 z, ← handed_on dt)
