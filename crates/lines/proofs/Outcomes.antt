-- Any two outcomes that a statement allows coincide (`Rattle.doubles.proofs.Outcomes` has the law). RULES, one-outcome.
-- Assumes nothing.
use Rattle.doubles.proofs.Outcomes.{One, Same, equal}
use Rattle.text.proofs.Outcomes.{same}
use Rattle.lines.proofs.things.tween.Reads as tween
use Rattle.lines.proofs.things.tween.Kinds as tween-kinds
use Rattle.lines.proofs.clock_lines.add_line.Reads as add-clock
use Rattle.lines.proofs.clock_lines.add_line.Kinds as add-clock-kinds
use Rattle.lines.proofs.clock_lines.set_speed_line.Reads as set-clock-speed
use Rattle.lines.proofs.clock_lines.set_speed_line.Kinds as set-clock-speed-kinds
use Rattle.lines.proofs.clock_lines.by_id_line.Reads as clock-by-id
use Rattle.lines.proofs.clock_lines.by_id_line.Kinds as clock-by-id-kinds
use Rattle.lines.proofs.modulator_lines.add_tweener_line.Reads as add-tweener
use Rattle.lines.proofs.modulator_lines.add_tweener_line.Kinds as add-tweener-kinds
use Rattle.lines.proofs.modulator_lines.add_lfo_line.Reads as add-lfo
use Rattle.lines.proofs.modulator_lines.add_lfo_line.Kinds as add-lfo-kinds
use Rattle.lines.proofs.modulator_lines.by_id_line.Reads as modulator-by-id
use Rattle.lines.proofs.modulator_lines.by_id_line.Kinds as modulator-by-id-kinds

pub one_tween : Same 2 tween-kinds.ps tween-kinds.r tween.Post (λ κs s. s.0.now)
one_tween κs a x y s t = same

pub one_add_clock : One 1 add-clock-kinds.ps add-clock-kinds.r add-clock.Post
one_add_clock κs a x y s t = equal

pub one_set_clock_speed : One 1 set-clock-speed-kinds.ps set-clock-speed-kinds.r set-clock-speed.Post
one_set_clock_speed κs a x y s t = equal

pub one_clock_by_id : One 1 clock-by-id-kinds.ps clock-by-id-kinds.r clock-by-id.Post
one_clock_by_id κs a x y s t = equal

pub one_add_tweener : One 1 add-tweener-kinds.ps add-tweener-kinds.r add-tweener.Post
one_add_tweener κs a x y s t = equal

pub one_add_lfo : One 1 add-lfo-kinds.ps add-lfo-kinds.r add-lfo.Post
one_add_lfo κs a x y s t = equal

pub one_modulator_by_id : One 1 modulator-by-id-kinds.ps modulator-by-id-kinds.r modulator-by-id.Post
one_modulator_by_id κs a x y s t = equal
