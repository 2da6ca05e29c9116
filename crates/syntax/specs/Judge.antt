-- The judgement of a text as a function, so that it can be computed for a given text. It is proved to be that of the refusals' lines
-- (proofs/Judge.antt), so nothing about it need be believed.
use Rattle.std.specs.Prelude.{Bool, false, cond, ◌||◌, List, [], ◌∷◌, map, ℕ, ◌+◌, eqb, ltb, length}
use Rattle.std.proofs.Math.Option.{Option, none, some}
use Rattle.syntax.specs.Class.{class_of}
use Rattle.ipl.specs.Formula.{Formula}
use Rattle.syntax.specs.Reading.{reading}
use Rattle.syntax.specs.Nodes.{nodes, named}
use Rattle.syntax.specs.Refusal.{most_bytes, most_open, most_names, Refused, Accepted}
use Rattle.syntax.specs.Scan.{start, fitting}

pub data Judgement : Type 0 where
  refused : ℕ → ℕ → Judgement
  accepted : Formula → Judgement

abbrev pub is_byte : ℕ → ℕ → ℕ
is_byte x b = cond (eqb b x) 1 0

-- Some beginning is too deep, after so many opening and closing parentheses.
unfoldable pub deep_after : ℕ → ℕ → List ℕ → Bool
deep_after opened closed [] = false
deep_after opened closed (b ∷ s) =
    ltb (most_open + (closed + is_byte 41 b)) (opened + is_byte 40 b) || deep_after (opened + is_byte 40 b) (closed + is_byte 41 b) s

abbrev pub judge_reading : ℕ → Option Formula → Judgement
judge_reading place none = refused 3 place
judge_reading place (some f) = cond (ltb most_names (named (nodes f).table)) (refused 4 0) (accepted f)

unfoldable pub judge : List ℕ → Judgement
judge s =
    cond (eqb (length s) 0 || ltb most_bytes (length s)) (refused 1 0)
    (cond (deep_after 0 0 s) (refused 2 0) (judge_reading (fitting start (map class_of s)) (reading s)))

abbrev pub Right : List ℕ → Judgement → Type 0
Right s (refused number place) = Refused s number place
Right s (accepted f) = Accepted s f
