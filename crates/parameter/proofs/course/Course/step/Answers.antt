-- `step` meets its contract: its tests are the definition's, of the start first and then of the time. Assumes nothing.
use mathlib.Core.Path.{sym, ◌∙◌}
use Rattle.parameter.specs.Courses.{step_of}
use Rattle.parameter.proofs.course.Course.step.Goals as goal

pub returns-then-not-started : goal.returns-then-not-started
unfolding step_of
returns-then-not-started c = rw (sym c.started.ensures ∙ c.if-not-started.true, c.waited-start_time.ensures)

pub returns-then-time-as_secs_f64 : goal.returns-then-time-as_secs_f64
unfolding step_of
returns-then-time-as_secs_f64 c =
    rw (sym c.started.ensures ∙ c.if-not-started.false, sym c.as_secs_f64.ensures, c.if-time-as_secs_f64.true)

pub returns : goal.returns
unfolding step_of
returns c =
    rw (sym c.started.ensures ∙ c.if-not-started.false, sym c.as_secs_f64.ensures, c.if-time-as_secs_f64.false)
