-- Any two outcomes that a statement allows coincide (`Rattle.doubles.proofs.Outcomes` has the law). RULES, one-outcome.
-- Assumes nothing.
use Rattle.doubles.proofs.Outcomes.{One, equal}
use Rattle.names.proofs.call_of.Reads as call-of
use Rattle.names.proofs.call_of.Kinds as call-of-kinds

pub one_call_of : One 1 call-of-kinds.ps call-of-kinds.r call-of.Post
one_call_of κs a x y s t = equal
