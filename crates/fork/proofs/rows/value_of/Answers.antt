-- By the kind of the part.
use mathlib.Core.Path.{sym, ap, ◌∙◌}
use Rattle.syntax.specs.Parts.{entry_of}
use Rattle.syntax.specs.declared.Part.{Part}
use Rattle.fork.specs.Cells.{entry_value}
use Rattle.fork.proofs.Filling.{left_cell, right_cell}
use Rattle.fork.proofs.rows.value_of.Goals as goal

pub bounds-values-from : goal.bounds-values-from
bounds-values-from c = rw c.from.ensures (left_cell _ _ _ _ c.requires _ _ _ c.in-Compound.is)

pub bounds-values-from-in-Compound : goal.bounds-values-from-in-Compound
bounds-values-from-in-Compound c = rw c.from-in-Compound.ensures (right_cell _ _ _ _ c.requires _ _ _ c.in-Compound.is)

pub connected-requires : goal.connected-requires
connected-requires c = let r = c.requires in (r.good.sets _, r.good.sets _)

pub returns-in-Letter : goal.returns-in-Letter
returns-in-Letter c =
    let s = c.args in
    c.set_at.ensures ∙ sym (ap (λ (p : Part). entry_value s.values.now s.column s.number s.place (entry_of p)) c.in-Letter.is)

pub returns-in-Compound : goal.returns-in-Compound
returns-in-Compound c =
    let s = c.args in
    (rw (c.from.ensures, c.from-in-Compound.ensures) at c.connected.ensures) ∙ sym (ap (λ (p : Part). entry_value s.values.now s.column s.number s.place (entry_of p)) c.in-Compound.is)
