-- `judge::Faults::accept` is proved: at each return the tests passed are those that the list in order asks. Assumes
-- nothing.
use Rattle.judge.specs.Judge.{first_fault}
use Rattle.judge.proofs.Faults.accept.Goals as goal

pub returns-then-self : goal.returns-then-self
unfolding first_fault
returns-then-self c = rw c.if-self.true

pub returns-then-self-2 : goal.returns-then-self-2
unfolding first_fault
returns-then-self-2 c = rw (c.if-self.false, c.if-self-2.true)

pub returns-then-self-3 : goal.returns-then-self-3
unfolding first_fault
returns-then-self-3 c = rw (c.if-self.false, c.if-self-2.false, c.if-self-3.true)

pub returns-then-self-4 : goal.returns-then-self-4
unfolding first_fault
returns-then-self-4 c = rw (c.if-self.false, c.if-self-2.false, c.if-self-3.false, c.if-self-4.true)

pub returns-then-self-5 : goal.returns-then-self-5
unfolding first_fault
returns-then-self-5 c = rw (c.if-self.false, c.if-self-2.false, c.if-self-3.false, c.if-self-4.false, c.if-self-5.true)

pub returns-then-self-6 : goal.returns-then-self-6
unfolding first_fault
returns-then-self-6 c = rw (c.if-self.false, c.if-self-2.false, c.if-self-3.false, c.if-self-4.false, c.if-self-5.false, c.if-self-6.true)

pub returns : goal.returns
unfolding first_fault
returns c = rw (c.if-self.false, c.if-self-2.false, c.if-self-3.false, c.if-self-4.false, c.if-self-5.false, c.if-self-6.false)
