-- The clauses of each kind of part.
use mathlib.Core.Logic.{inl, inr}
use Rattle.clausify.specs.Additions.{flats_by}
use Rattle.clausify.proofs.Written.{put_none, letter_calls, falsum_calls, compound_calls, compound_room, put_calls}
use Rattle.clausify.proofs.flat_clauses.put_entry.Goals as goal

pub returns-in-Letter : goal.returns-in-Letter
unfolding flats_by
returns-in-Letter c = elim c.in-Letter.is [
  | inl e ↦ put_calls _ _ (letter_calls _ _ _ _ e.1) (put_none _)
  | inr e ↦ put_calls _ _ (falsum_calls _ _ _ e) (put_none _)
]

pub put_part-requires : goal.put_part-requires
put_part-requires c = rw (c.from.ensures, c.from-in-Compound.ensures) (compound_room _ _ _ _ _ _ c.in-Compound.is _ c.requires)

pub returns-in-Compound : goal.returns-in-Compound
returns-in-Compound c =
    put_calls _ _ (compound_calls _ _ _ _ _ _ c.in-Compound.is c.requires.parts) (rw (c.from.ensures, c.from-in-Compound.ensures) at c.put_part.ensures)
