-- `take` meets its contract: each kind of record makes its call. Assumes nothing.
use mathlib.Core.Path.{refl, sym, ◌∙◌}
use Rattle.std.proofs.lemmas.Result.{err_from_is_err_and}
use Rattle.std.specs.Prelude.{Ok, Err}
use Rattle.commands.specs.ClockCommands.{run_clock_of}
use Rattle.commands.specs.declared.clock_command.ClockCommand.TheVariants as command
use Rattle.play.proofs.Turns.{command_took, frame_took, add_refused, add_other, add_taken, other_id, same_id}
use Rattle.play.proofs.take.Goals as goal

pub returns-in-Drop : goal.returns-in-Drop
unfolding run_clock_of
returns-in-Drop c = command_took _ _ (command.Remove _) (rw (c.in-Drop.is, c.id_of-in-Drop.ensures)) _ refl _ _ c.remove.ensures

pub returns-in-Start : goal.returns-in-Start
unfolding run_clock_of
returns-in-Start c = command_took _ _ (command.Start _) (rw (c.in-Start.is, c.id_of-in-Start.ensures)) _ refl _ _ c.start.ensures

pub returns-in-Stop : goal.returns-in-Stop
unfolding run_clock_of
returns-in-Stop c = command_took _ _ (command.Stop _) (rw (c.in-Stop.is, c.id_of-in-Stop.ensures)) _ refl _ _ c.stop.ensures

pub returns-in-Reset : goal.returns-in-Reset
unfolding run_clock_of
returns-in-Reset c = command_took _ _ (command.Reset _) (rw (c.in-Reset.is, c.id_of-in-Reset.ensures)) _ refl _ _ c.reset.ensures

pub returns-in-Speed : goal.returns-in-Speed
unfolding run_clock_of
returns-in-Speed c =
    command_took _ _ (command.SetSpeed _ _ _) (rw (c.in-Speed.is, c.id_of-in-Speed.ensures, c.speed_of-in-Speed.ensures, c.no_time.ensures)) _ refl _ _ c.set_speed.ensures

pub returns-in_err-add-in-Add : goal.returns-in_err-add-in-Add
returns-in_err-add-in-Add c =
    let p = err_from_is_err_and c.from_residual.result c.from_residual.ensures.1 in
    rw (p.1, p.2) (add_refused _ _ c.speed_of.result (rw (c.in-Add.is, c.speed_of.ensures)) _ _ c.in_err-add-in-Add.ensures, refl)

pub returns-then-ne : goal.returns-then-ne
returns-then-ne c =
    (add_other _ _ c.speed_of.result (rw (c.in-Add.is, c.speed_of.ensures)) _ _ c.in_ok-add-in-Add.ensures (other_id c.args.r _ _ c.id_of.ensures (sym c.ne.ensures ∙ c.if-ne.true)), refl)

pub returns-else-ne : goal.returns-else-ne
returns-else-ne c =
    (add_taken _ _ c.speed_of.result (rw (c.in-Add.is, c.speed_of.ensures)) _ _ c.in_ok-add-in-Add.ensures (same_id c.args.r _ _ c.id_of.ensures (sym c.ne.ensures ∙ c.if-ne.false)), tt)

pub returns-in_err-frame-in-Frame : goal.returns-in_err-frame-in-Frame
returns-in_err-frame-in-Frame c =
    let p = err_from_is_err_and c.from_residual-in_err-frame-in-Frame.result c.from_residual-in_err-frame-in-Frame.ensures.1 in
    rw (p.1, p.2) (frame_took _ _ c.of_bits.result (rw (c.in-Frame.is, c.of_bits.ensures)) (Err _) _ c.in_err-frame-in-Frame.ensures (Err _) refl refl)

pub returns-in_ok-frame-in-Frame : goal.returns-in_ok-frame-in-Frame
returns-in_ok-frame-in-Frame c =
    frame_took _ _ c.of_bits.result (rw (c.in-Frame.is, c.of_bits.ensures)) (Ok _) _ c.in_ok-frame-in-Frame.ensures (Ok tt) refl refl
