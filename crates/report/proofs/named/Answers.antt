-- `report::named` is proved: it tells of the clock in the slot that was found. Assumes nothing.
use native.Mathlib.Omega.{arith}
use mathlib.Core.Path.{ap, ◌∙◌}
use Rattle.ids.proofs.Entries.{entry_found, entry_missing}
use Rattle.ids.proofs.Places.{found_slot, found_inside}
use Rattle.judge.specs.Answer.{accepted, refused}
use Rattle.judge.proofs.Judged.{handed_on}
use Rattle.report.specs.Reports.{report_text, into_buffer, report_of}
use Rattle.report.proofs.named.Goals as goal

pub returns-in_err-i : goal.returns-in_err-i
unfolding report_of
returns-in_err-i c =
    ap (λ a. record { answer = a; out = c.args.out.now }) (handed_on _ _ c.from_residual.ensures)
    ∙ ap (into_buffer c.args.out.now) (entry_missing refused c.args.clocks.now _ (λ i e. accepted (report_text c.args.id e)) _ c.in_err-i.ensures)

pub fill-requires : goal.fill-requires
fill-requires c =
    let same = found_slot _ _ _ _ c.in_ok-i.ensures in
    let inside = found_inside _ _ _ _ c.in_ok-i.ensures in
    omega arith

pub returns : goal.returns
unfolding report_of
returns c =
    let inside = found_inside _ _ _ _ c.in_ok-i.ensures in
    c.fill.ensures
    ∙ ap (into_buffer c.args.out.now) (entry_found refused c.args.clocks.now _ (λ i e. accepted (report_text c.args.id e)) c.in_ok-i.i _ c.in_ok-i.ensures (omega arith))
