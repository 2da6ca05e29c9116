-- Formulas of propositional logic (source 000, section 2; document 01: Formula text).
use Rattle.std.specs.Prelude.{ℕ}

-- "Each part of a formula is a letter, ⊥ or a connective with its two parts."
pub data Formula : Type 0 where
  letter : ℕ → Formula
  falsum : Formula
  and or implies : Formula → Formula → Formula

-- "p = q is (p > q) & (q > p)."
abbrev pub iff : Formula → Formula → Formula
iff p q = and (implies p q) (implies q p)
