-- What a list of additions brings to a book that refuses none of them.
use Rattle.std.specs.Prelude.{List, [], ◌∷◌, ◌++◌, ◌≡◌}
use Rattle.ipl.specs.Clause.{Flat, Implication, closings}
use Rattle.ipl.specs.Book.{Book, Addition, add_flat, add_implication, add, addition_refusal, next}
use Rattle.syntax.specs.Nodes.{Entry}
use Rattle.clausify.specs.Naming.{atom_count, calls}

-- The flat clauses, closing ones included.
unfoldable pub flats_by : List Addition → List Flat
flats_by [] = []
flats_by (add_flat f ∷ cs) = f ∷ flats_by cs
flats_by (add_implication i ∷ cs) = closings i ++ flats_by cs

unfoldable pub implications_by : List Addition → List Implication
implications_by [] = []
implications_by (add_flat f ∷ cs) = implications_by cs
implications_by (add_implication i ∷ cs) = i ∷ implications_by cs

-- What the clauses of a table's parts bring to an opening with its n.
abbrev pub table_book : List Entry → Book
table_book T = record { n = atom_count T; flats = flats_by (calls T); implications = implications_by (calls T); steps = []; marks = [] }

-- None of the additions is refused, one after the other.
abbrev pub Unrefused : Book → List Addition → Type 0
Unrefused k [] = Unit {0}
Unrefused k (c ∷ cs) = (addition_refusal k c ≡ 0) × Unrefused (next k (add c)) cs
