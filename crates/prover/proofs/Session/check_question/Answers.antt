-- 6, on a session in range and from an author.
use Rattle.ipl.specs.Book.{goal_refusal}
use Rattle.prover.proofs.Session.check_question.Goals as goal

pub returns-then-not-atom_or_bottom-clause-number : goal.returns-then-not-atom_or_bottom-clause-number
unfolding goal_refusal
returns-then-not-atom_or_bottom-clause-number c =
    rw (c.in_ok-check.ensures, c.in_ok-check_author.ensures, ← c.atom_or_bottom.ensures, c.if-not-atom_or_bottom.true)

pub returns-clause-number : goal.returns-clause-number
unfolding goal_refusal
returns-clause-number c = rw (c.in_ok-check.ensures, c.in_ok-check_author.ensures, ← c.atom_or_bottom.ensures, c.if-not-atom_or_bottom.false)
