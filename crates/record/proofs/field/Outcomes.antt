-- Any two outcomes that a statement allows coincide: `One` of the crate `doubles` says it of the very clause that the
-- check reads off the source. RULES, one-outcome. Assumes nothing.
use Rattle.doubles.proofs.Outcomes.{One, equal}
use Rattle.record.proofs.field.is.Reads as is
use Rattle.record.proofs.field.is.Kinds as is-kinds
use Rattle.record.proofs.field.decimal_behind.Reads as decimal-behind
use Rattle.record.proofs.field.decimal_behind.Kinds as decimal-behind-kinds
use Rattle.record.proofs.field.hex_behind.Reads as hex-behind
use Rattle.record.proofs.field.hex_behind.Kinds as hex-behind-kinds

pub one_is : One 2 is-kinds.ps is-kinds.r is.Post
one_is κs a x y s t = equal

pub one_decimal_behind : One 2 decimal-behind-kinds.ps decimal-behind-kinds.r decimal-behind.Post
one_decimal_behind κs a x y s t = equal

pub one_hex_behind : One 2 hex-behind-kinds.ps hex-behind-kinds.r hex-behind.Post
one_hex_behind κs a x y s t = equal
