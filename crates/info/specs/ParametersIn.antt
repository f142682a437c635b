-- Document 01, "parameter.rs" and "Frame": what a parameter sees of the clocks and the modulators as they stand, and
-- its update where it is the caller's own: RULES, own-parameters. Assumes nothing.
use Rattle.std.specs.Prelude.{Float, Option}
use Rattle.times.specs.declared.start_time.When.{When}
use Rattle.times.specs.declared.start_time.When.TheVariants.{Later}
use Rattle.values.specs.Tweenables.{Tweens}
use Rattle.parameter.specs.Parameters.{Advanced, try_update_of}
use Rattle.parameter.specs.declared.course.Course.{Course}
use Rattle.parameter.specs.declared.State.{State}
use Rattle.parameter.specs.declared.State.TheVariants.{Idle, Tweening}
use Rattle.parameter.specs.declared.Parameter.{Parameter}
use Rattle.parameter.specs.declared.Sight.{Sight}
use Rattle.info.specs.Infos.{start_due_of, input_of}
use Rattle.info.specs.declared.info.Info.{Info}

abbrev pub course_due_of : Info → Course → When
course_due_of info c = start_due_of info c.tween.start_time

abbrev pub parameter_due_in : {T : Type 0} → Info → State T → When
parameter_due_in info (Idle v) = Later
parameter_due_in info (Tweening t) = course_due_of info t.course

abbrev pub parameter_due_of : {T : Type 0} → Info → Parameter T → When
parameter_due_of info p = parameter_due_in info p.state

abbrev pub source_in : {T : Type 0} → Info → State T → Option Float
source_in info (Idle v) = input_of info v
source_in info (Tweening t) = input_of info t.target

abbrev pub source_of : {T : Type 0} → Info → Parameter T → Option Float
source_of info p = source_in info p.state

abbrev pub sight_of : {T : Type 0} → Info → Parameter T → Sight
sight_of info p = record { when = parameter_due_of info p; input = source_of info p }

unfoldable pub try_update_in : {T : Type 0} → Tweens T → Info → Parameter T → Float → Advanced T
try_update_in k info p dt = try_update_of k p dt (parameter_due_of info p) (source_of info p)
