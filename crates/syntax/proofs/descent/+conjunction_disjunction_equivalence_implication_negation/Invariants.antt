-- The cycle of calls of the reader functions: the bytes left fall. Each answer cites a law of Operand or Grouped.
use Prim.Native.Nat.{◌+◌, ◌-◌, ◌*◌}
use lib.ListN.{length}
use Rattle.syntax.proofs.Grouped.{conjunctions, disjunctions, Reached}
use Rattle.syntax.proofs.descent.+conjunction_disjunction_equivalence_implication_negation.Given as goal

-- What falls is the bytes left, and then the level.
abbrev pub decreases-conjunction : goal.decreases-conjunction
decreases-conjunction l = 5 * (length l.s.now - l.at) + 2

abbrev pub decreases-disjunction : goal.decreases-disjunction
decreases-disjunction l = 5 * (length l.s.now - l.at) + 3

abbrev pub decreases-equivalence : goal.decreases-equivalence
decreases-equivalence l = 5 * (length l.s.now - l.at) + 5

abbrev pub decreases-implication : goal.decreases-implication
decreases-implication l = 5 * (length l.s.now - l.at) + 4

abbrev pub decreases-negation : goal.decreases-negation
decreases-negation l = 5 * (length l.s.now - l.at) + 1

abbrev pub invariant-conjunction-loop-next : goal.invariant-conjunction-loop-next
invariant-conjunction-loop-next l = Reached l.s l.at l.fn.parts l.depth conjunctions l.parts l.whole

abbrev pub decreases-conjunction-loop-next : goal.decreases-conjunction-loop-next
decreases-conjunction-loop-next l = length l.s - l.whole.next

abbrev pub invariant-disjunction-loop-next : goal.invariant-disjunction-loop-next
invariant-disjunction-loop-next l = Reached l.s l.at l.fn.parts l.depth disjunctions l.parts l.whole

abbrev pub decreases-disjunction-loop-next : goal.decreases-disjunction-loop-next
decreases-disjunction-loop-next l = length l.s - l.whole.next
