-- The parts of a formula as a table (document 01: "Each part of a formula is a letter, ⊥ or a connective with its two parts").
use Rattle.std.specs.Prelude.{Bool, true, false, cond, ◌&&◌, List, [], ◌∷◌, ◌++◌, ◌≡◌, ℕ, suc, ◌<◌, eqb, ltb, length, get_or}
use Rattle.ipl.specs.Formula.{Formula}

pub data Connective : Type 0 where
  And Or Implies : Connective

-- A part: the parts of a compound are earlier entries of the table.
pub data Entry : Type 0 where
  letter : ℕ → Entry
  falsum : Entry
  compound : Connective → ℕ → ℕ → Entry

-- A table of parts, and the index of one.
pub record Named : Type 0 where
  pub table : List Entry
  pub root : ℕ

-- A number for each connective, to tell them apart.
abbrev pub number_of : Connective → ℕ
number_of And = 0
number_of Or = 1
number_of Implies = 2

-- Two entries are the same: the letter, ⊥, or the connective and both indices. By a law (specs/Sharing.antt) these are the parts that
-- "are the same formula, sign for sign after the abbreviations are opened".
unfoldable pub same : Entry → Entry → Bool
same (letter k) (letter l) = eqb k l
same (letter k) falsum = false
same (letter k) (compound c a b) = false
same falsum (letter l) = false
same falsum falsum = true
same falsum (compound c a b) = false
same (compound c a b) (letter l) = false
same (compound c a b) falsum = false
same (compound c a b) (compound d i j) = eqb a i && eqb b j && eqb (number_of c) (number_of d)

-- The index of the first entry that is the same; the table's length where there is none.
unfoldable pub index_of : Entry → List Entry → ℕ
index_of e [] = 0
index_of e (x ∷ T) = cond (same x e) 0 (suc (index_of e T))

-- "One name, made where the first of them is complete": an entry is found again, or comes last.
unfoldable pub with_entry : List Entry → Entry → Named
with_entry T e = record { table = cond (ltb (index_of e T) (length T)) T (T ++ (e ∷ [])); root = index_of e T }

-- The table with a formula's parts: "inner before outer, left before right". Abbreviations are opened in a formula.
unfoldable pub with_formula : List Entry → Formula → Named
with_formula T (Formula.letter l) = with_entry T (letter l)
with_formula T Formula.falsum = with_entry T falsum
with_formula T (Formula.and p q) =
    let a = with_formula T p in
    let b = with_formula a.table q in
    with_entry b.table (compound And a.root b.root)
with_formula T (Formula.or p q) =
    let a = with_formula T p in
    let b = with_formula a.table q in
    with_entry b.table (compound Or a.root b.root)
with_formula T (Formula.implies p q) =
    let a = with_formula T p in
    let b = with_formula a.table q in
    with_entry b.table (compound Implies a.root b.root)

-- The parts of a formula.
unfoldable pub nodes : Formula → Named
nodes f = with_formula [] f

-- "Letters and names together": every part but ⊥.
unfoldable pub named : List Entry → ℕ
named [] = 0
named (letter l ∷ T) = suc (named T)
named (falsum ∷ T) = named T
named (compound c a b ∷ T) = suc (named T)

-- What a table stands for: the formula of each entry, from those of the entries before it.
unfoldable pub connected : Connective → Formula → Formula → Formula
connected And p q = Formula.and p q
connected Or p q = Formula.or p q
connected Implies p q = Formula.implies p q

unfoldable pub entry_formula : List Formula → Entry → Formula
entry_formula F (letter l) = Formula.letter l
entry_formula F falsum = Formula.falsum
entry_formula F (compound c a b) = connected c (get_or F a Formula.falsum) (get_or F b Formula.falsum)

unfoldable pub formulas_after : List Formula → List Entry → List Formula
formulas_after F [] = F
formulas_after F (e ∷ T) = formulas_after (F ++ (entry_formula F e ∷ [])) T

unfoldable pub formula_at : List Entry → ℕ → Formula
formula_at T i = get_or (formulas_after [] T) i Formula.falsum

-- The two parts of each compound are earlier entries.
abbrev pub Earlier : ℕ → Entry → Type 0
Earlier i (letter l) = Unit {0}
Earlier i falsum = Unit {0}
Earlier i (compound c a b) = (a < i) × (b < i)

abbrev pub WellOrdered : List Entry → Type 0
WellOrdered T = (i : ℕ) → i < length T → Earlier i (get_or T i falsum)

-- Each entry stands once: it is found at its own index.
abbrev pub Once : List Entry → Type 0
Once T = (i : ℕ) → i < length T → index_of (get_or T i falsum) T ≡ i
