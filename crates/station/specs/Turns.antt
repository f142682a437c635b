-- Document 01, "Frame (added)": one slot's turn, with what it sees. Assumes nothing.
use Rattle.std.specs.Prelude.{Float}
use Rattle.judge.specs.Answer.{Answer}
use Rattle.times.specs.declared.start_time.When.{When}
use Rattle.times.specs.declared.start_time.When.TheVariants.{Later}
use Rattle.info.specs.ParametersIn.{course_due_of, parameter_due_of, source_of, sight_of}
use Rattle.info.specs.declared.info.Info.{Info}
use Rattle.clock.specs.OneClock.{Ticked, update_clock_of}
use Rattle.clock.specs.declared.Clock.{Clock}
use Rattle.modulator.specs.Tweeners.{update_tweener_of}
use Rattle.modulator.specs.Lfos.{update_lfo_of}
use Rattle.modulator.specs.declared.tweener.Tweener.{Tweener}
use Rattle.modulator.specs.declared.tweener.TweenerState.{TweenerState}
use Rattle.modulator.specs.declared.tweener.TweenerState.TheVariants.{Idle, Tweening}
use Rattle.modulator.specs.declared.lfo.Lfo.{Lfo}
use Rattle.modulator_table.specs.ModulatorTables.{slot_of}
use Rattle.modulator_table.specs.declared.Modulator.{Modulator}
use Rattle.modulator_table.specs.declared.Slot.{Slot}
use Rattle.modulator_table.specs.declared.Modulator.TheVariants.{OfTweener, OfLfo}

abbrev pub tweener_due_in : Info → TweenerState → When
tweener_due_in info Idle = Later
tweener_due_in info (Tweening m) = course_due_of info m.course

abbrev pub tweener_due : Info → Tweener → When
tweener_due info t = tweener_due_in info t.state

abbrev pub turn_lfo : Info → Lfo → Float → Lfo
turn_lfo info l dt =
    update_lfo_of l dt
    (record { frequency = sight_of info l.frequency; amplitude = sight_of info l.amplitude; offset = sight_of info l.offset })

unfoldable pub turn_modulator : Info → Modulator → Float → Modulator
turn_modulator info (OfTweener t) dt = OfTweener (update_tweener_of t dt (tweener_due info t))
turn_modulator info (OfLfo l) dt = OfLfo (turn_lfo info l dt)

abbrev pub turn_slot : Info → Slot → Float → Slot
turn_slot info s dt = slot_of (turn_modulator info s.modulator dt)

unfoldable pub turn_clock : Info → Clock → Float → Answer Ticked
turn_clock info c dt = update_clock_of c dt (parameter_due_of info c.speed) (source_of info c.speed)
