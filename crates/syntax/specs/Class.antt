-- The class of each byte (document 02, change 5: "the class of a byte is worked out by comparing").
use Rattle.std.specs.Prelude.{cond, ◌&&◌, List, [], ◌∷◌, ℕ, ◌-◌, eqb, leb}

pub data Class : Type 0 where
  foreign closing ampersand bar greater equals blank tilde opening nought : Class
  lowercase : ℕ → Class

-- "`~` not, `&` and, `|` or, `>` implies, `=` equivalent, `0` ⊥, letters a to z, parentheses, spaces": letters count from a.
unfoldable pub class_of : ℕ → Class
class_of b =
    cond (eqb b 126) tilde
    (cond (eqb b 38) ampersand
    (cond (eqb b 124) bar
    (cond (eqb b 62) greater
    (cond (eqb b 61) equals
    (cond (eqb b 48) nought
    (cond (eqb b 40) opening
    (cond (eqb b 41) closing
    (cond (eqb b 32) blank
    (cond (leb 97 b && leb b 122) (lowercase (b - 97)) foreign)))))))))

-- "Spaces anywhere": the classes of a text's bytes without its spaces.
unfoldable pub tokens : List ℕ → List Class
tokens [] = []
tokens (b ∷ s) = cond (eqb b 32) (tokens s) (class_of b ∷ tokens s)

-- What becomes of a state by one class after the other.
unfoldable pub after : {A : Type 0} → (A → Class → A) → A → List Class → A
after f a [] = a
after f a (c ∷ l) = after f (f a c) l
