-- `stepped` meets its contract: an ended tween leaves what `settled` gives of the target, and it stays if `is_fixed`
-- says so. Assumes nothing.
use Rattle.parameter.proofs.Parameter.stepped.Goals as goal

pub returns-in-Ends : goal.returns-in-Ends
returns-in-Ends g c = rw (c.in-Ends.is, c.settled-self.ensures, c.is_fixed-self.ensures)
