-- By the tests.
use mathlib.Core.Path.{◌≡◌, ◌∙◌}
use native.Mathlib.Omega.{arith}
use borrow.Author.Rules.{rules}
use Rattle.syntax.proofs.Class.{same_class}
use Rattle.syntax.proofs.Position.{token_here, other_here, none_here}
use Rattle.syntax.proofs.bytes.after.Goals as goal
use Rattle.syntax.proofs.bytes.after.Goals.{else-i-s-via-then-i-s+else-eq, else-i-s-via-else-i-s}

pub returns-then-eq : goal.returns-then-eq
returns-then-eq c =
    let same : c.class_of.result ≡ c.args.class = search (rules, c.if-eq.ensures) in
    let k = c.past_spaces-i.ensures in
    (rw (← same, c.class_of.ensures) (token_here _ _ _ k c.if-i-s.true), omega (arith, k.forward), omega (arith, c.if-i-s.true))

pub returns : goal.returns
returns c = elim c.else-i-s.branch [
  | else-i-s-via-then-i-s+else-eq w ↦
      let other : w.class_of.result ≡ c.args.class → ⊥ = λ e. search (rules, w.if-eq.ensures) in
      other_here _ _ _ c.past_spaces-i.ensures _ w.if-i-s.true (λ e. other (same_class _ _ (w.class_of.ensures ∙ e)))
  | else-i-s-via-else-i-s w ↦ none_here _ _ _ c.past_spaces-i.ensures _ w.if-i-s.false
]
