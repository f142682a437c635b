-- The value that a parameter shows or goes to, of any kind. RULES, parameter. Assumes nothing.
use Rattle.values.specs.declared.value.Value.{Value}
use Rattle.parameter.specs.declared.State.{State}
use Rattle.parameter.specs.declared.State.TheVariants.{Idle, Tweening}

abbrev pub value_in : {T : Type 0} → State T → Value T
value_in (Idle v) = v
value_in (Tweening t) = t.target
