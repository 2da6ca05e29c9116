-- What changes 2 and 4 come to on given texts, as sentences on the judgement and the table.
use Rattle.std.specs.Prelude.{[], ◌∷◌, ◌≡◌}
use Rattle.ipl.specs.Formula.{Formula, letter, and, or, implies, iff}
use Rattle.syntax.specs.Nodes as table
use Rattle.syntax.specs.Nodes.{And, Implies, compound, nodes, named}
use Rattle.syntax.specs.Judge.{refused, accepted, judge}

-- p, q and r, counted from a; their bytes are 112 to 114, `>` is 62, `=` is 61, `~` is 126, `0` is 48.
abbrev pub p : Formula
p = letter 15

abbrev pub q : Formula
q = letter 16

abbrev pub r : Formula
r = letter 17

pub record EqualsBelowImplies : Type 0 where
  -- "`p>q=r` is now (p > q) = r"
  pub weaker : judge (112 ∷ 62 ∷ 113 ∷ 61 ∷ 114 ∷ []) ≡ accepted (iff (implies p q) r)
  -- "`p=q=r` is no formula any more and meets 3 with place 3"
  pub once : judge (112 ∷ 61 ∷ 113 ∷ 61 ∷ 114 ∷ []) ≡ refused 3 3
  -- "Implication still groups to the right."
  pub to_the_right : judge (112 ∷ 62 ∷ 113 ∷ 62 ∷ 114 ∷ []) ≡ accepted (implies p (implies q r))

pub record EqualPartsShare : Type 0 where
  -- "after the abbreviations are opened": `~p` and `p>0` are one formula
  pub negation : judge (126 ∷ 112 ∷ []) ≡ judge (112 ∷ 62 ∷ 48 ∷ [])
  -- both halves of `p=p` are one part, and the whole has it twice
  pub halves : (nodes (iff p p)).table ≡ table.letter 15 ∷ compound Implies 0 0 ∷ compound And 1 1 ∷ []
  -- "sign for sign": p & q and q & p are two parts
  pub order : named (nodes (or (and p q) (and q p))).table ≡ 5
