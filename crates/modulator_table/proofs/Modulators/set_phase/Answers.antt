-- A set is found by the search. The answer to an id that does not live stands here, so that a must-fail edit can name
-- its goal.
use Rattle.std.proofs.Common.{rules}
use Rattle.modulator_table.specs.ModulatorTables.{set_phase_of}
use Rattle.modulator_table.proofs.Lookups.{found}
use Rattle.modulator_table.proofs.Modulators.set_phase.Goals as goal

pub returns-in_err-i : goal.returns-in_err-i
unfolding set_phase_of
returns-in_err-i c = search (rules, found)
