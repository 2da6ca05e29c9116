-- By the kind of the part.
use mathlib.Core.Path.{sym, ap}
use Rattle.syntax.specs.Parts.{entry_of}
use Rattle.syntax.specs.declared.Part.{Part}
use Rattle.syntax.specs.Letters.{letters_in}
use Rattle.syntax.proofs.text.letters_in.Goals as goal

pub returns-in-Letter : goal.returns-in-Letter
unfolding letters_in
returns-in-Letter c = sym (ap (λ (p : Part). letters_in (entry_of p)) c.in-Letter.is)

pub returns-in-Falsum : goal.returns-in-Falsum
unfolding letters_in
returns-in-Falsum c = sym (ap (λ (p : Part). letters_in (entry_of p)) c.in-Falsum.is)

pub returns-in-Compound : goal.returns-in-Compound
unfolding letters_in
returns-in-Compound c = sym (ap (λ (p : Part). letters_in (entry_of p)) c.in-Compound.is)
