-- The refusals of a text (document 01: "The author of a text (checked 1 to 4 in order)").
use Rattle.std.specs.Prelude.{Bool, true, false, cond, List, [], ◌∷◌, ◌⊎◌, ◌≡◌, ℕ, suc, ◌+◌, ◌≤◌, ◌<◌, eqb, length, take}
use Rattle.ipl.specs.Formula.{Formula}
use Rattle.syntax.specs.Grammar.{Reads, IsFormula, Begins}
use Rattle.syntax.specs.Nodes.{nodes, named}

-- "1: empty, or over 4,096 bytes"
abbrev pub most_bytes : ℕ
most_bytes = 4096

abbrev pub BadLength : List ℕ → Type 0
BadLength s = (length s ≡ 0) ⊎ (most_bytes < length s)

-- How often a byte stands in a text.
unfoldable pub count : ℕ → List ℕ → ℕ
count x [] = 0
count x (b ∷ s) = cond (eqb b x) (suc (count x s)) (count x s)

-- "2: some beginning holds over 64 more `(` than `)`"
abbrev pub most_open : ℕ
most_open = 64

abbrev pub TooDeepAt : List ℕ → ℕ → Type 0
TooDeepAt s k = most_open + count 41 (take k s) < count 40 (take k s)

abbrev pub TooDeep : List ℕ → Type 0
TooDeep s = (k : ℕ) × TooDeepAt s k

-- "3: not a formula; with the length of the longest beginning that begins some formula"
pub record Longest (s : List ℕ) (place : ℕ) : Type 0 where
  pub within : place ≤ length s
  pub begins : Begins (take place s)
  pub last : (k : ℕ) → k ≤ length s → Begins (take k s) → k ≤ place

-- "4: letters and names together over 64". Change 4: "Refusal 4 counts names after sharing."
abbrev pub most_names : ℕ
most_names = 64

abbrev pub TooLarge : Formula → Type 0
TooLarge f = most_names < named (nodes f).table

-- The lines by their numbers.
pub data Line (s : List ℕ) : ℕ → Type 0 where
  by_length : BadLength s → Line s 1
  by_depth : TooDeep s → Line s 2
  by_grammar : ¬ IsFormula s → Line s 3
  by_size : {f : Formula} → Reads s f → TooLarge f → Line s 4

-- "Each number comes when its line holds and no earlier one does, and only then." The place is 0 where none is given.
pub data Refused (s : List ℕ) : ℕ → ℕ → Type 0 where
  line_1 : BadLength s → Refused s 1 0
  line_2 : ¬ BadLength s → TooDeep s → Refused s 2 0
  line_3 : {place : ℕ} → ¬ BadLength s → ¬ TooDeep s → ¬ IsFormula s → Longest s place → Refused s 3 place
  line_4 : {f : Formula} → ¬ BadLength s → ¬ TooDeep s → Reads s f → TooLarge f → Refused s 4 0

-- No line holds, and the text reads as the formula.
pub record Accepted (s : List ℕ) (f : Formula) : Type 0 where
  pub length_right : ¬ BadLength s
  pub depth_right : ¬ TooDeep s
  pub reads : Reads s f
  pub size_right : ¬ TooLarge f

-- A test's answer to whether P holds.
abbrev pub Decides : Bool → Type 0 → Type 0
Decides true P = P
Decides false P = P → ⊥
