-- Any two outcomes that a statement allows coincide, for each public function of the crate: `Same` of the crate
-- `doubles` says it of the very clause that the check reads off the source, the result and what the table is at exit. A
-- clause says what the result tells, and no two results tell the same. RULES, one-outcome. Assumes nothing.
use mathlib.Core.Path.{◌≡◌, refl, sym, ap, ◌∙◌}
use Rattle.std.specs.Prelude.{Result, Ok, Err}
use Rattle.doubles.proofs.Outcomes.{Same, equal}
use Rattle.judge.specs.Answer.{number_of_refusal}
use Rattle.judge.specs.declared.Refusal.{Refusal}
use Rattle.judge.proofs.Outcomes.{same_refusal}
use Rattle.commands.specs.Answers.{Given, done, named, time, flag, speed, value, of_clock, of_modulator, given, told_answer, Left, left}
use Rattle.commands.specs.declared.CallAnswer.{CallAnswer}
use Rattle.commands.specs.declared.CallAnswer.TheVariants as answer
use Rattle.commands.proofs.clock_command.run_clock.Reads as run-clock
use Rattle.commands.proofs.clock_command.run_clock.Kinds as run-clock-kinds
use Rattle.commands.proofs.modulator_command.run_modulator.Reads as run-modulator
use Rattle.commands.proofs.modulator_command.run_modulator.Kinds as run-modulator-kinds

-- what is given is told whole: it can be read back
back : Given → CallAnswer
back done = answer.Done
back (named of_clock i g) = answer.Clock (record { slot = i; generation = g })
back (named of_modulator i g) = answer.Modulator (record { slot = i; generation = g })
back (time t) = answer.Time t
back (flag b) = answer.Flag b
back (speed s) = answer.Speed s
back (value x) = answer.Value x

read_back : (x : CallAnswer) → back (given x) ≡ x
unfolding back
read_back answer.Done = refl
read_back (answer.Clock id) = refl
read_back (answer.Modulator id) = refl
read_back (answer.Time t) = refl
read_back (answer.Flag b) = refl
read_back (answer.Speed s) = refl
read_back (answer.Value x) = refl

-- two answers that tell the same are one
pub same_answer : (x y : Result CallAnswer Refusal) → told_answer x ≡ told_answer y → x ≡ y
same_answer (Ok i) (Ok j) e =
    let g : given i ≡ given j = cc in
    ap Ok (sym (read_back i) ∙ ap back g ∙ read_back j)
same_answer (Ok i) (Err s) e = cc
same_answer (Err r) (Ok j) e = cc
same_answer (Err r) (Err s) e =
    let n : number_of_refusal r ≡ number_of_refusal s = cc in
    ap Err (same_refusal r s n)

-- two calls that tell the same are one, and leave the same table
same_left : {T : Type 0} {v : Left T} (x y : Result CallAnswer Refusal) (t u : T) → left x t ≡ v → left y u ≡ v → (x ≡ y) × (t ≡ u)
same_left {T} x y t u p q =
    let e : left x t ≡ left y u = equal p q in
    (same_answer x y (ap (λ (l : Left T). l.answer) e), ap (λ (l : Left T). l.table) e)

pub one_run_clock : Same 1 run-clock-kinds.ps run-clock-kinds.r run-clock.Post (λ κs s. s.0.now)
one_run_clock κs a x y s t = same_left x y s.0.now t.0.now

pub one_run_modulator : Same 1 run-modulator-kinds.ps run-modulator-kinds.r run-modulator.Post (λ κs s. s.0.now)
one_run_modulator κs a x y s t = same_left x y s.0.now t.0.now
