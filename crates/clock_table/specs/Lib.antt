pub mod ClockTables
