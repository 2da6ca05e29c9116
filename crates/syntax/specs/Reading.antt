-- The reading worked out token by token, as a function. It is proved to be the grammar's (proofs/Unique.antt), so nothing about it
-- need be believed; it serves to compute the reading of a given text.
use Rattle.std.specs.Prelude.{List, ℕ, zero, suc}
use Rattle.std.proofs.Math.Option.{Option, none, some}
use Rattle.syntax.specs.Class.{Class, foreign, closing, ampersand, bar, greater, equals, blank, tilde, opening, nought, lowercase, tokens, after}
use Rattle.ipl.specs.Formula.{Formula, letter, falsum, and, or, implies, iff}

-- What waits for an operand of `>` or `=`, or for a whole formula: nothing; a parenthesis, with the `~`, the left of `&` and the left of
-- `|` before it; the left of `>` or `=`.
pub data Outer : Type 0 where
  top : Outer
  paren : ℕ → Option Formula → Option Formula → Outer → Outer
  implied equated : Formula → Outer → Outer

-- An operand is wanted, after so many `~` and the left parts given; or one was read up to `&`.
pub data Reader : Type 0 where
  stuck : Reader
  want : ℕ → Option Formula → Option Formula → Outer → Reader
  have : Formula → Option Formula → Outer → Reader

unfoldable pub negated : ℕ → Formula → Formula
negated zero t = t
negated (suc n) t = negated n (implies t falsum)

abbrev pub join_left : (Formula → Formula → Formula) → Option Formula → Formula → Formula
join_left f none t = t
join_left f (some l) t = f l t

abbrev pub operand : ℕ → Option Formula → Formula → Formula
operand n a t = join_left and a (negated n t)

unfoldable pub shut : Formula → Outer → Reader
shut t top = stuck
shut t (paren n a o k) = have (operand n a t) o k
shut t (implied l k) = shut (implies l t) k
shut t (equated l k) = shut (iff l t) k

-- An `=`: the implications to its left are complete, and none has stood at its level.
unfoldable pub equate : Formula → Outer → Reader
equate t top = want 0 none none (equated t top)
equate t (paren n a o k) = want 0 none none (equated t (paren n a o k))
equate t (implied l k) = equate (implies l t) k
equate t (equated l k) = stuck

unfoldable pub finish : Formula → Outer → Option Formula
finish t top = some t
finish t (paren n a o k) = none
finish t (implied l k) = finish (implies l t) k
finish t (equated l k) = finish (iff l t) k

unfoldable pub read_token : Reader → Class → Reader
read_token stuck c = stuck
read_token (want n a o k) foreign = stuck
read_token (want n a o k) closing = stuck
read_token (want n a o k) ampersand = stuck
read_token (want n a o k) bar = stuck
read_token (want n a o k) greater = stuck
read_token (want n a o k) equals = stuck
read_token (want n a o k) blank = want n a o k
read_token (want n a o k) tilde = want (suc n) a o k
read_token (want n a o k) opening = want 0 none none (paren n a o k)
read_token (want n a o k) nought = have (operand n a falsum) o k
read_token (want n a o k) (lowercase l) = have (operand n a (letter l)) o k
read_token (have t o k) foreign = stuck
read_token (have t o k) closing = shut (join_left or o t) k
read_token (have t o k) ampersand = want 0 (some t) o k
read_token (have t o k) bar = want 0 none (some (join_left or o t)) k
read_token (have t o k) greater = want 0 none none (implied (join_left or o t) k)
read_token (have t o k) equals = equate (join_left or o t) k
read_token (have t o k) blank = have t o k
read_token (have t o k) tilde = stuck
read_token (have t o k) opening = stuck
read_token (have t o k) nought = stuck
read_token (have t o k) (lowercase l) = stuck

unfoldable pub result : Reader → Option Formula
result stuck = none
result (want n a o k) = none
result (have t o k) = finish (join_left or o t) k

unfoldable pub reading : List ℕ → Option Formula
reading s = result (after read_token (want 0 none none top) (tokens s))
