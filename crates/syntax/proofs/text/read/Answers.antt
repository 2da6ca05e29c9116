-- Each answer by the line that was judged last; the laws stand in Judgement.
use mathlib.Core.Logic.{inl, inr}
use mathlib.Core.Path.{sym, ◌∙◌}
use borrow.Author.Tests.{eqb-true}
use Rattle.syntax.specs.Refusal.{line_1, line_2}
use Rattle.syntax.proofs.Judgement.{length_right, refused_fault, start_asks, refused_large, parts_once, refused_many, accepted}
use Rattle.syntax.proofs.text.read.Goals as goal

pub returns-then-is_empty : goal.returns-then-is_empty
returns-then-is_empty c = line_1 (elim c.then-is_empty.either [ inl e ↦ inl (eqb-true _ _ (sym c.is_empty.ensures ∙ e)) | inr (e, long) ↦ inr long ])

pub returns-then-too_deep : goal.returns-then-too_deep
returns-then-too_deep c = line_2 (length_right _ c.if-is_empty.ensures c.if-text-gt-MOST_BYTES.false) c.if-too_deep.ensures

pub returns-in-Some : goal.returns-in-Some
returns-in-Some c = refused_fault _ (length_right _ c.if-is_empty.ensures c.if-text-gt-MOST_BYTES.false) c.if-too_deep.ensures _ c.in-Some.ensures

pub equivalence-requires : goal.equivalence-requires
equivalence-requires c = start_asks _ c.in_default.ensures _ c.new-parts.ensures

pub returns-in_default-equivalence : goal.returns-in_default-equivalence
returns-in_default-equivalence c =
    refused_large _ (length_right _ c.if-is_empty.ensures c.if-text-gt-MOST_BYTES.false) c.if-too_deep.ensures c.in_default.ensures
    c.new-parts.result c.new-parts.ensures c.equivalence.new.parts c.in_default-equivalence.ensures

pub names-requires : goal.names-requires
names-requires c =
    parts_once _ (length_right _ c.if-is_empty.ensures c.if-text-gt-MOST_BYTES.false) c.if-too_deep.ensures c.in_default.ensures
    c.new-parts.result c.new-parts.ensures c.equivalence.new.parts _ c.in-Some-equivalence.ensures

pub returns-then-names-gt-MOST_NAMES : goal.returns-then-names-gt-MOST_NAMES
returns-then-names-gt-MOST_NAMES c =
    refused_many _ (length_right _ c.if-is_empty.ensures c.if-text-gt-MOST_BYTES.false) c.if-too_deep.ensures c.in_default.ensures
    c.new-parts.result c.new-parts.ensures c.equivalence.new.parts _ c.in-Some-equivalence.ensures _ c.names.ensures c.if-names-gt-MOST_NAMES.true

pub returns : goal.returns
returns c =
    let read = accepted _ (length_right _ c.if-is_empty.ensures c.if-text-gt-MOST_BYTES.false) c.if-too_deep.ensures c.in_default.ensures
    c.new-parts.result c.new-parts.ensures c.equivalence.new.parts _ c.in-Some-equivalence.ensures _ c.names.ensures c.if-names-gt-MOST_NAMES.false in
    (read, c.letters-letters.ensures)
