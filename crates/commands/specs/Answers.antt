-- Document 01, "Refusal numbers": what a call on the station answers. Assumes nothing.
use Rattle.std.specs.Prelude.{ℕ, Bool, Result, Float}
use Rattle.judge.specs.Answer.{Answer, accepted, refused, on_accepted, told}
use Rattle.judge.specs.Judge.{decided}
use Rattle.judge.specs.declared.Refusal.{Refusal}
use Rattle.times.specs.declared.time.ClockTime.{ClockTime}
use Rattle.values.specs.declared.clock_speed.ClockSpeed.{ClockSpeed}
use Rattle.commands.specs.declared.CallAnswer.{CallAnswer}
use Rattle.commands.specs.declared.CallAnswer.TheVariants as answer

-- an id is of a clock or of a modulator: RULES, id
pub data Kind : Type 0 where
  of_clock : Kind
  of_modulator : Kind

-- what an accepted call gives: nothing, the id of the entry that was added (slot, then generation), or what was read
pub data Given : Type 0 where
  done : Given
  named : Kind → ℕ → ℕ → Given
  time : ClockTime → Given
  flag : Bool → Given
  speed : ClockSpeed → Given
  value : Float → Given

abbrev pub given : CallAnswer → Given
given answer.Done = done
given (answer.Clock id) = named of_clock id.slot id.generation
given (answer.Modulator id) = named of_modulator id.slot id.generation
given (answer.Time t) = time t
given (answer.Flag b) = flag b
given (answer.Speed s) = speed s
given (answer.Value x) = value x

abbrev pub told_answer : Result CallAnswer Refusal → Answer Given
told_answer r = on_accepted given (told r)

-- 0 is OK: RULES, ok
abbrev pub by_number : ℕ → Answer Given
by_number n = decided n (accepted done) refused

-- what a call answers, and the table that it leaves
pub record Left (T : Type 0) : Type 0 where
  pub answer : Answer Given
  pub table : T

abbrev pub left : {T : Type 0} → Result CallAnswer Refusal → T → Left T
left r t = record { answer = told_answer r; table = t }
