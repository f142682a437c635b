-- `report::clock_lines` is proved: the lines of what is read off the clock, and no more than 96 bytes, since a
-- generation has 32 bits and a count of ticks 64. Assumes nothing.
use native.Mathlib.Omega.{arith}
use Rattle.report.proofs.Longest.{longest}
use Rattle.report.proofs.clock_lines.Goals as goal

pub returns : goal.returns
returns c =
    record {
      puts = rw (c.started.ensures, c.position.ensures) at c.lines.ensures;
      c_len_bound =
          longest c.args.id c.args.c.now
          c.requires
          (omega (arith, c.well_formed.1.0.1.1.1.0.1))
          (rw (← c.position.ensures) (omega (arith, c.position.type_inv)));
    }
