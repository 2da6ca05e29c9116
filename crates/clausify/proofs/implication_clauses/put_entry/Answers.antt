-- The implication of each kind of part.
use mathlib.Core.Logic.{inl, inr}
use Rattle.clausify.proofs.Written.{letter_calls, falsum_calls, compound_calls, appended_calls, appended_none}
use Rattle.clausify.proofs.implication_clauses.put_entry.Goals as goal

pub returns-in-Letter : goal.returns-in-Letter
returns-in-Letter c = elim c.in-Letter.is [
  | inl e ↦ appended_calls _ _ _ _ (letter_calls _ _ _ _ e.1) (appended_none _)
  | inr e ↦ appended_calls _ _ _ _ (falsum_calls _ _ _ e) (appended_none _)
]

pub returns-in-Compound : goal.returns-in-Compound
returns-in-Compound c =
    appended_calls _ _ _ _ (compound_calls _ _ _ _ _ _ c.in-Compound.is c.requires.1) (rw (c.from.ensures, c.from-in-Compound.ensures) at c.put_part.ensures)
