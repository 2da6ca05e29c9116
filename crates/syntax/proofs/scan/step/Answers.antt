-- By the class.
use mathlib.Core.Bool.{true≢false}
use mathlib.Core.Logic.{inl, inr}
use mathlib.Core.Path.{◌≡◌, sym, ◌∙◌}
use borrow.Author.Rules.{rules}
use Rattle.syntax.specs.Scan.{move}
use Rattle.syntax.specs.declared.bytes.Class.TheVariants as class
use Rattle.syntax.proofs.Fault.{blank_stays, wanted_misfit, had_misfit}
use Rattle.syntax.proofs.scan.step.Goals as goal
use Rattle.syntax.proofs.scan.step.Goals.{in-Falsum, in_default, in-And, in_default-matches}

pub returns-then-eq : goal.returns-then-eq
returns-then-eq c =
    let is : c.args.class ≡ class.Blank = search (rules, c.if-eq.ensures) in
    rw is (sym (blank_stays _))

pub returns-then-eq-2 : goal.returns-then-eq-2
unfolding move
returns-then-eq-2 c =
    let is : c.args.class ≡ class.Not = search (rules, c.if-eq-2.ensures) in
    rw (c.if-operand.true, is)

pub returns-then-matches : goal.returns-then-matches
unfolding move
returns-then-matches c = elim c.match-matches.branch [
  | in-Falsum w ↦ elim w.in-Falsum.is [ inl e ↦ rw (c.if-operand.true, e) | inr (l, e) ↦ rw (c.if-operand.true, e) ]
  | in_default w ↦ absurd (true≢false (sym c.if-matches.true ∙ w.matches-is))
]

pub returns-then-operand : goal.returns-then-operand
returns-then-operand c =
    let no_blank : c.args.class ≡ class.Blank → ⊥ = λ e. search (rules, c.if-eq.ensures) in
    let no_not : c.args.class ≡ class.Not → ⊥ = λ e. search (rules, c.if-eq-2.ensures) in
    let no_opening : c.args.class ≡ class.Opening → ⊥ = λ e. search (rules, c.if-eq-3.ensures) in
    elim c.match-matches.branch [
      | in-Falsum w ↦ absurd (true≢false (sym w.matches-is ∙ c.if-matches.false))
      | in_default w ↦ let no = w.in_default in
          rw c.if-operand.true (wanted_misfit _ _ _ no_blank no_not no_opening no.not-Falsum no.not-Letter)
    ]

pub returns-then-matches-2 : goal.returns-then-matches-2
unfolding move
returns-then-matches-2 c = elim c.match-matches-2.branch [
  | in-And w ↦ elim w.in-And.is [ inl e ↦ rw (c.if-operand.false, e) | inr (inl e) ↦ rw (c.if-operand.false, e) | inr (inr e) ↦ rw (c.if-operand.false, e) ]
  | in_default-matches w ↦ absurd (true≢false (sym c.if-matches-2.true ∙ w.matches-is))
]

pub returns : goal.returns
returns c =
    let no_blank : c.args.class ≡ class.Blank → ⊥ = λ e. search (rules, c.if-eq.ensures) in
    let no_closing : c.args.class ≡ class.Closing → ⊥ = λ e. search (rules, c.if-eq-4.ensures) in
    let no_equals : c.args.class ≡ class.Equals → ⊥ = λ e. search (rules, c.if-eq-5.ensures) in
    elim c.match-matches-2.branch [
      | in-And w ↦ absurd (true≢false (sym w.matches-is ∙ c.if-matches-2.false))
      | in_default-matches w ↦ let no = w.in_default-matches in
          rw c.if-operand.false (had_misfit _ _ _ no_blank no_closing no_equals no.not-And no.not-Or no.not-Implies)
    ]
