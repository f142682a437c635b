-- `report::fill` is proved: the lines that `clock_lines` puts fit into any buffer that is not refused. Assumes nothing.
use native.Mathlib.Omega.{arith}
use mathlib.Core.Path.{ap, ◌∙◌}
use Rattle.std.proofs.Common.{rules}
use Rattle.digits.specs.declared.Out.{Out}
use Rattle.digits.specs.Outs.{placed, put_in}
use Rattle.digits.proofs.Outs.{by_end}
use Rattle.report.specs.Reports.{clock_lines}
use Rattle.report.proofs.Fits.{too_small, written}
use Rattle.report.proofs.fill.Goals as goal

pub returns-then-out-lt-LONGEST : goal.returns-then-out-lt-LONGEST
returns-then-out-lt-LONGEST c =
    too_small c.args.id c.args.c.now _ (omega (arith, c.if-out-lt-LONGEST.true))

pub returns : goal.returns
returns c =
    written c.args.id c.args.c.now _ (omega (arith, c.if-out-lt-LONGEST.false)) c.clock_lines.ensures.c_len_bound
    (by_end c.clock_lines.new.out (search rules) c.place.ensures ∙ ap placed (c.clock_lines.ensures.puts ∙ ap (λ (o : Out). put_in o (clock_lines c.args.id c.args.c.now)) c.new-text.ensures))
