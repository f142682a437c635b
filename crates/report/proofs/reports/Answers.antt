-- `report::reports` is proved. The loop's invariant: what is put so far, with the lines of the slots that are left
-- behind it, is the lines of all slots, and the slots so far have no more than 96 bytes each. Assumes nothing.
use native.Mathlib.Omega.{arith}
use mathlib.Core.Path.{refl, ap, ◌∙◌}
use Rattle.std.proofs.Common.{rules}
use Rattle.digits.specs.declared.Out.{Out}
use Rattle.digits.specs.Outs.{placed}
use Rattle.report.proofs.Living.{all_left, slot_put, too_small_for_all, all_written}
use Rattle.report.proofs.reports.Goals as goal

pub returns-then-out-lt-ALL : goal.returns-then-out-lt-ALL
returns-then-out-lt-ALL c = too_small_for_all _ _ (omega (arith, c.if-out-lt-ALL.true))

pub loop-slot-init : goal.loop-slot-init
loop-slot-init c = record { left = all_left _ _; loan = refl; keys = λ h. omega arith }

pub loop-slot-preserved : goal.loop-slot-preserved
loop-slot-preserved c = record {
  left = slot_put c.args.t.now c.loop-slot.slot _ _ (omega arith) (omega arith) _ _ c.slot_lines.ensures.c_len_bound (ap placed c.slot_lines.ensures.puts) c.loop-slot.invariant.left;
  loan = ap (λ (o : Out). o.bytes.ghost_name) c.slot_lines.ensures.puts ∙ c.loop-slot.invariant.loan;
  keys = λ h. omega arith;
}

pub returns : goal.returns
returns c =
    let keys = c.loop-slot.invariant.keys (omega arith) in
    all_written c.args.t.now _ _ c.loop-slot.text (omega (arith, c.if-out-lt-ALL.false)) (omega arith) (omega arith) (search rules) c.place.ensures
    (rw c.new-text.ensures at c.loop-slot.invariant.left)
