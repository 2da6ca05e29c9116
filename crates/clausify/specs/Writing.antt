-- The terms in which the functions that name parts and write clauses speak to each other.
use Rattle.std.specs.Prelude.{List, [], ◌∷◌, ◌++◌, ◌≡◌, ℕ, ◌+◌, ◌≤◌, ◌<◌, T, length, get_or}
use Rattle.atoms.specs.Sets.{limit}
use Rattle.ipl.specs.Lists.{All}
use Rattle.ipl.specs.Clause.{bot, Flat, Implication}
use Rattle.ipl.specs.Range.{flat_table, atom_or_bot}
use Rattle.ipl.specs.Book.{Addition}
use Rattle.prover.specs.State.{flats_of, implications_of}
use Rattle.prover.specs.declared.Flats.{Flats}
use Rattle.prover.specs.declared.Implications.{Implications}
use Rattle.syntax.specs.Nodes.{Entry, letter, falsum, compound, WellOrdered, named}
use Rattle.syntax.specs.Letters.{letters_in}
use Rattle.syntax.specs.Parts.{held, Sound}
use Rattle.syntax.specs.declared.Parts.{Parts}
use Rattle.clausify.specs.Naming.{atoms_from, atom_at, part_calls}
use Rattle.clausify.specs.declared.naming.Names.{Names}
use Rattle.clausify.specs.declared.naming.Next.{Next}

-- How many names one entry brings, and its calls where its atom is x and A has the atoms of all parts.
unfoldable pub names_in : Entry → ℕ
names_in (letter l) = 0
names_in falsum = 0
names_in (compound c a b) = 1

abbrev pub entry_calls : List ℕ → ℕ → Entry → List Addition
entry_calls A x (letter l) = []
entry_calls A x falsum = []
entry_calls A x (compound c a b) = part_calls c x (get_or A a bot) (get_or A b bot)

-- The entry e was passed and has this atom, and the rest goes on from the next letter and name.
pub record Passed (n : Next) (e : Entry) (atom : ℕ) (r : Next) : Type 0 where
  pub on : (T : List Entry) → atoms_from n.letter n.name (e ∷ T) ≡ atom ∷ atoms_from r.letter r.name T
  pub letter_more : r.letter ≡ n.letter + letters_in e
  pub name_more : r.name ≡ n.name + names_in e

-- The atoms of a table's parts, and how many there are.
pub record NamesOf (T : List Entry) (r : Names) : Type 0 where
  pub atoms : (i : ℕ) → i < length T → get_or r.atoms i bot ≡ atom_at T i
  pub count : r.count ≡ named T

-- The reader's table, with no more atoms than there is room for, and its names.
pub record Nameable (p : Parts) (r : Names) : Type 0 where
  pub sound : Sound p
  pub ordered : WellOrdered (held p)
  pub few : named (held p) ≤ limit
  pub names : NamesOf (held p) r

-- Each is an atom that there is room for, or ⊥.
abbrev pub AtomsIn : List ℕ → Type 0
AtomsIn l = All (λ x. T (atom_or_bot limit x)) l

-- The clauses F after those of t.
pub record Put (t : Flats) (F : List Flat) (r : Flats) : Type 0 where
  pub rows : flats_of r ≡ flats_of t ++ F
  pub more : r.count ≡ t.count + length F

-- A name has at most three flat clauses.
abbrev pub clauses_of_name : ℕ
clauses_of_name = 3

-- Room for the clauses of a name x with parts y and z.
pub record Room (t : Flats) (x y z : ℕ) : Type 0 where
  pub few : t.count + clauses_of_name ≤ flat_table
  pub name_atom : x < limit
  pub left_atom : T (atom_or_bot limit y)
  pub right_atom : T (atom_or_bot limit z)

-- A part of a compound has an atom, or is ⊥.
abbrev pub PartIn : List ℕ → ℕ → Type 0
PartIn A a = (a < length A) × T (atom_or_bot limit (get_or A a bot))

-- The atom x of a compound is no ⊥ either.
abbrev pub PartsIn : List ℕ → ℕ → Entry → Type 0
PartsIn A x (letter l) = Unit {0}
PartsIn A x falsum = Unit {0}
PartsIn A x (compound c a b) = (x < limit) × PartIn A a × PartIn A b

-- Room for the clauses of an entry whose atom is x.
pub record EntryRoom (t : Flats) (x : ℕ) (A : List ℕ) (e : Entry) : Type 0 where
  pub few : t.count + clauses_of_name ≤ flat_table
  pub parts : PartsIn A x e

-- The implications X after those of t.
pub record Appended (t : Implications) (X : List Implication) (r : Implications) : Type 0 where
  pub rows : implications_of r ≡ implications_of t ++ X
  pub more : r.count ≡ t.count + length X
