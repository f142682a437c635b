-- Document 01, "modulator/tweener.rs; lfo.rs": a tweener. It is timed as a parameter is, and shows the same value for
-- as long as it waits: RULES, tweener-update. Assumes nothing.
use Rattle.std.specs.Prelude.{Float}
use Rattle.judge.specs.Judge.{both_faults, float_faults}
use Rattle.values.specs.Tweenables.{interpolate_of}
use Rattle.judge.specs.declared.Faults.{Faults}
use Rattle.times.specs.declared.start_time.When.{When}
use Rattle.times.specs.Easings.{tween_faults}
use Rattle.times.specs.declared.tween.Tween.{Tween}
use Rattle.parameter.specs.Courses.{new_course, step_of, amount_at}
use Rattle.parameter.specs.declared.course.Course.{Course}
use Rattle.parameter.specs.declared.course.Stepped.{Stepped}
use Rattle.parameter.specs.declared.course.Stepped.TheVariants.{Waits, Goes, Ends}
use Rattle.modulator.specs.declared.tweener.TweenerMove.{TweenerMove}
use Rattle.modulator.specs.declared.tweener.TweenerState.{TweenerState}
use Rattle.modulator.specs.declared.tweener.TweenerState.TheVariants.{Idle, Tweening}
use Rattle.modulator.specs.declared.tweener.Tweener.{Tweener}

abbrev pub new_tweener : Float → Tweener
new_tweener x = record { state = Idle; value = x }

abbrev pub tweener_faults : Float → Tween → Faults
tweener_faults x t = both_faults (float_faults x) (tween_faults t)

-- a tween from the present value, at time 0: RULES, tweener
abbrev pub tweener_to_of : Float → Tween → Tweener → Tweener
tweener_to_of x w t = record {
  state = Tweening (record { start = t.value; target = x; course = new_course w });
  value = t.value;
}

abbrev pub on_course : TweenerMove → Course → Float → Tweener
on_course m c x = record { state = Tweening (record { start = m.start; target = m.target; course = c }); value = x }

-- waiting, under way, or at its target: RULES, tweener-update
abbrev pub by_step : TweenerMove → Stepped → Float → Tweener
by_step m (Waits c) x = on_course m c x
by_step m (Goes c) x = on_course m c (interpolate_of m.start m.target (amount_at c))
by_step m Ends x = record { state = Idle; value = m.target }

unfoldable pub moved_of : TweenerMove → Float → When → Float → Tweener
moved_of m dt w x = by_step m (step_of m.course dt w) x

abbrev pub by_state : Tweener → TweenerState → Float → When → Tweener
by_state t Idle dt w = t
by_state t (Tweening m) dt w = moved_of m dt w t.value

unfoldable pub update_tweener_of : Tweener → Float → When → Tweener
update_tweener_of t dt w = by_state t t.state dt w
