-- What the functions of the descent ask and give. A position stands for the tokens from it on.
use Rattle.std.specs.Prelude.{List, [], ◌∷◌, ◌++◌, ◌≡◌, ℕ, suc, max, ◌+◌, ◌≤◌, ◌<◌, length, get_or, drop, Option, Some, None}
use Rattle.syntax.specs.Class.{Class, foreign, ampersand, bar, greater, equals, tokens}
use Rattle.syntax.specs.Code.{decode}
use Rattle.ipl.specs.Formula.{Formula}
use Rattle.syntax.specs.Grammar.{Level, negation, conjunction, disjunction, implication, equivalence, Parses}
use Rattle.syntax.specs.Nodes.{Entry, with_entry, with_formula, WellOrdered, Once}
use Rattle.syntax.specs.Refusal.{most_names}
use Rattle.syntax.specs.Parts.{held, room}
use Rattle.syntax.specs.Table.{Holds}
use Rattle.syntax.specs.declared.Parts.{Parts}
use Rattle.syntax.specs.declared.bytes.Token.{Token}
use Rattle.syntax.specs.declared.descent.Operand.{Operand}

abbrev pub rest : List ℕ → ℕ → List Class
rest s at = tokens (drop at s)

-- The first class, the foreign one where there is none; what comes after it.
abbrev pub head : List Class → Class
head [] = foreign
head (c ∷ l) = c

abbrev pub tail : List Class → List Class
tail [] = []
tail (c ∷ l) = l

-- A position past the spaces from another on.
pub record PastSpaces (s : List ℕ) (at r : ℕ) : Type 0 where
  pub same : rest s r ≡ rest s at
  pub forward : at ≤ r
  pub inside : r ≤ length s
  pub no_space : r < length s → get_or s r 0 ≡ 32 → ⊥

-- The first token from a position on, and the position after it.
pub record NextToken (s : List ℕ) (at : ℕ) (t : Token) : Type 0 where
  pub class_is : decode t.class ≡ head (rest s at)
  pub left : rest s t.next ≡ tail (rest s at)
  pub onward : at ≤ t.next
  pub forward : (decode t.class ≡ foreign → ⊥) → at < t.next
  pub inside : t.next ≤ length s

-- The class does not come next.
abbrev pub NotNext : Class → List Class → Type 0
NotNext c l = (m : List Class) → l ≡ c ∷ m → ⊥

-- The position behind a token of the class; or that class does not come next.
abbrev pub Comes : List ℕ → ℕ → Class → Option ℕ → Type 0
Comes s at c None = NotNext c (rest s at)
Comes s at c (Some n) = (rest s at ≡ c ∷ rest s n) × (at < n) × (n ≤ length s)

-- No operator of the level, or of one that binds tighter, comes next.
abbrev pub Stops : Level → List Class → Type 0
Stops negation l = Unit {0}
Stops conjunction l = NotNext ampersand l
Stops disjunction l = NotNext ampersand l × NotNext bar l
Stops implication l = NotNext ampersand l × NotNext bar l × NotNext greater l
Stops equivalence l = NotNext ampersand l × NotNext bar l × NotNext greater l × NotNext equals l

-- The tokens begin with an operand of the level, up to where no operator continues it.
pub record Stands (k : Level) (l : List Class) (f : Formula) (behind : List Class) : Type 0 where
  pub text : List Class
  pub parsed : Parses k text f
  pub split : l ≡ text ++ behind
  pub stops : Stops k behind

-- How many connectives of a formula stand within one another.
unfoldable pub height : Formula → ℕ
height (Formula.letter l) = 0
height Formula.falsum = 0
height (Formula.and p q) = suc (max (height p) (height q))
height (Formula.or p q) = suc (max (height p) (height q))
height (Formula.implies p q) = suc (max (height p) (height q))

-- A table has no room for the parts of a formula that stands within `depth` connectives; or too many stand within one another.
pub data Exceeds (T : List Entry) (depth : ℕ) (f : Formula) : Type 0 where
  by_rows : room < length (with_formula T f).table → Exceeds T depth f
  by_height : most_names < depth + height f → Exceeds T depth f

-- An operand stands at the position, within so many connectives, and the table has each part once.
pub record Asks (k : Level) (s : List ℕ) (at : ℕ) (p : Parts) (depth : ℕ) : Type 0 where
  pub formula : Formula
  pub behind : List Class
  pub stands : Stands k (rest s at) formula behind
  pub inside : at ≤ length s
  pub ordered : WellOrdered (held p)
  pub once : Once (held p)
  pub near : depth ≤ most_names

-- An operand was read to its end, and the table has its parts.
pub record Reads (s : List ℕ) (f : Formula) (behind : List Class) (p q : Parts) (o : Operand) : Type 0 where
  pub behind_is : rest s o.next ≡ behind
  pub holds : Holds (with_formula (held p) f) q o.root

-- So each operand that stands there was read; or its parts are too many.
abbrev pub Gives : Level → List ℕ → ℕ → Parts → ℕ → Parts → Option Operand → Type 0
Gives k s at p depth q (Some o) = (at < o.next) × (o.next ≤ length s) × ((f : Formula) (behind : List Class) → Stands k (rest s at) f behind → Reads s f behind p q o)
Gives k s at p depth q None = (f : Formula) (behind : List Class) → Stands k (rest s at) f behind → Exceeds (held p) depth f

-- A leaf was named, up to a position past the spaces; or the table has no room for it.
abbrev pub LeafRead : List ℕ → ℕ → Parts → Entry → Parts → Option Operand → Type 0
LeafRead s at p e q (Some o) = PastSpaces s at o.next × Holds (with_entry (held p) e) q o.root
LeafRead s at p e q None = room < length (with_entry (held p) e).table
