-- By the connective.
use Rattle.fork.proofs.algebra.connected.Goals as goal

pub returns-in-And : goal.returns-in-And
returns-in-And c = rw c.in-And.is c.meet.ensures

pub returns-in-Or : goal.returns-in-Or
returns-in-Or c = rw c.in-Or.is c.join.ensures

pub returns-in-Implies : goal.returns-in-Implies
returns-in-Implies c = rw c.in-Implies.is c.implication.ensures
