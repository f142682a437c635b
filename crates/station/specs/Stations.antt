-- Document 01, "info.rs, part": the whole state, and what an update sees of it. Assumes nothing.
use Rattle.std.specs.Prelude.{map}
use Rattle.info.specs.declared.info.Info.{Info}
use Rattle.clock.specs.OneClock.{info_of}
use Rattle.clock_table.specs.ClockTables.{no_clocks}
use Rattle.modulator_table.specs.ModulatorTables.{slot_value, no_modulators}
use Rattle.station.specs.declared.Station.{Station}

abbrev pub fresh_station : Station
fresh_station = record { clocks = no_clocks; modulators = no_modulators }

-- every clock's key, ticking and time, and every modulator's key and value, as they stand: RULES, info
unfoldable pub info_in : Station → Info
info_in st = record {
  clock_keys = st.clocks.keys;
  clocks = map info_of st.clocks.clocks;
  modulator_keys = st.modulators.keys;
  values = map slot_value st.modulators.slots;
}
