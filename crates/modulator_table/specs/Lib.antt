pub mod ModulatorTables
