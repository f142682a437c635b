-- `interpolate` of doubles is proved: it is the definition, operation by operation. Assumes nothing.
use mathlib.Core.Path.{refl}
use Rattle.values.proofs.tweenable.F64Tweenable.interpolate.Goals as goal

pub returns : goal.returns
returns c = refl
