-- What a table of the code holds.
use Rattle.std.specs.Prelude.{List, [], map, ◌≡◌, ℕ, ◌+◌, ◌≤◌, length, take}
use Rattle.syntax.specs.Nodes.{Connective, And, Or, Implies, Entry, letter, falsum, compound}
use Rattle.syntax.specs.Refusal.{most_names}
use Rattle.syntax.specs.declared.Connective as declared
use Rattle.syntax.specs.declared.Part.{Part}
use Rattle.syntax.specs.declared.Part.TheVariants.{Letter, Falsum, Compound}
use Rattle.syntax.specs.declared.Parts.{Parts}

abbrev pub connective_of : declared.Connective → Connective
connective_of declared.TheVariants.And = And
connective_of declared.TheVariants.Or = Or
connective_of declared.TheVariants.Implies = Implies

abbrev pub entry_of : Part → Entry
entry_of (Letter l) = letter l
entry_of Falsum = falsum
entry_of (Compound c a b) = compound (connective_of c) a b

-- The rows held.
abbrev pub held : Parts → List Entry
held p = map entry_of (take p.count p.nodes)

-- The rows of the table of parts: letters and names, and ⊥.
abbrev pub room : ℕ
room = most_names + 1

pub record Sound (p : Parts) : Type 0 where
  pub sized : length p.nodes ≡ room
  pub bounded : p.count ≤ room

-- The table without rows.
abbrev pub Empty : Parts → Type 0
Empty p = held p ≡ []
