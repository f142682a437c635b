-- `together` is proved: no name before the place or behind the other one begins with the byte. Assumes nothing.
use borrow.Author.Tests.{ne_eqb}
use mathlib.Core.Path.{refl}
use native.Mathlib.Omega.{arith}
use Rattle.names.proofs.Letters.{avoids, enough}
use Rattle.names.proofs.together.Goals as goal

pub returns-in-99-clause-enough : goal.returns-in-99-clause-enough
unfolding avoids
returns-in-99-clause-enough c = enough (rw c.in-99.is refl)

pub returns-in-100-clause-enough : goal.returns-in-100-clause-enough
unfolding avoids
returns-in-100-clause-enough c = enough (rw c.in-100.is refl)

pub returns-in-101-clause-enough : goal.returns-in-101-clause-enough
unfolding avoids
returns-in-101-clause-enough c = enough (rw c.in-101.is refl)

pub returns-in-102-clause-enough : goal.returns-in-102-clause-enough
unfolding avoids
returns-in-102-clause-enough c = enough (rw c.in-102.is refl)

pub returns-in-108-clause-enough : goal.returns-in-108-clause-enough
unfolding avoids
returns-in-108-clause-enough c = enough (rw c.in-108.is refl)

pub returns-in-109-clause-enough : goal.returns-in-109-clause-enough
unfolding avoids
returns-in-109-clause-enough c = enough (rw c.in-109.is refl)

pub returns-in-110-clause-enough : goal.returns-in-110-clause-enough
unfolding avoids
returns-in-110-clause-enough c = enough (rw c.in-110.is refl)

pub returns-in-115-clause-enough : goal.returns-in-115-clause-enough
unfolding avoids
returns-in-115-clause-enough c = enough (rw c.in-115.is refl)

pub returns-in-116-clause-enough : goal.returns-in-116-clause-enough
unfolding avoids
returns-in-116-clause-enough c = enough (rw c.in-116.is refl)

pub returns-in-118-clause-enough : goal.returns-in-118-clause-enough
unfolding avoids
returns-in-118-clause-enough c = enough (rw c.in-118.is refl)

pub returns-in-119-clause-enough : goal.returns-in-119-clause-enough
unfolding avoids
returns-in-119-clause-enough c = enough (rw c.in-119.is refl)

pub returns-in_default-clause-enough : goal.returns-in_default-clause-enough
unfolding avoids
returns-in_default-clause-enough c =
    let first = c.args.first in
    enough (rw (
      ne_eqb first 0x63 (omega arith),
      ne_eqb first 0x64 (omega arith),
      ne_eqb first 0x65 (omega arith),
      ne_eqb first 0x66 (omega arith),
      ne_eqb first 0x6c (omega arith),
      ne_eqb first 0x6d (omega arith),
      ne_eqb first 0x6e (omega arith),
      ne_eqb first 0x73 (omega arith),
      ne_eqb first 0x74 (omega arith),
      ne_eqb first 0x76 (omega arith),
      ne_eqb first 0x77 (omega arith),
    ))
