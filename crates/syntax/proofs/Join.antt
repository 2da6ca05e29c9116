-- What `&`, `|` or `>` joins without parentheses is a formula, where at most the right part has an `=` at its own level.
use mathlib.Core.Bool.{Bool, true, false}
use mathlib.Core.List.{List, ◌∷◌, ◌++◌, append_assoc}
use mathlib.Core.Path.{sym, subst}
use Rattle.syntax.specs.Class.{Class, ampersand, bar, greater, equals, tilde}
use Rattle.ipl.specs.Formula.{Formula}
use Rattle.syntax.specs.Grammar.{Level, conjunction, disjunction, implication, equivalence, Parses, a_letter, a_falsum}
use Rattle.syntax.specs.Grammar.{by_not, inside, no_and, by_and, no_or, by_or, no_implies, by_implies, no_equal, by_equal}

-- The tokens are a formula of the level.
abbrev pub Some : Level → List Class → Type 0
Some k u = (t : Formula) × Parses k u t

pub not_some : {k : Level} {u : List Class} {t : Formula} → Parses k u t → Some k (tilde ∷ u)
not_some a_letter = (_, by_not a_letter)
not_some a_falsum = (_, by_not a_falsum)
not_some (by_not r) = (_, by_not (by_not r))
not_some (inside r) = (_, by_not (inside r))
not_some (no_and r) = let x = not_some r in (_, no_and x.1)
not_some (by_and r q) = let x = not_some r in (_, by_and x.1 q)
not_some (no_or r) = let x = not_some r in (_, no_or x.1)
not_some (by_or r q) = let x = not_some r in (_, by_or x.1 q)
not_some (no_implies r) = let x = not_some r in (_, no_implies x.1)
not_some (by_implies r q) = let x = not_some r in (_, by_implies x.1 q)
not_some (no_equal r) = let x = not_some r in (_, no_equal x.1)
not_some (by_equal r q) = let x = not_some r in (_, by_equal x.1 q)

-- The same tokens, grouped to the left or to the right.
to_left : {k : Level} (u v w : List Class) (c d : Class) → Some k ((u ++ (c ∷ v)) ++ (d ∷ w)) → Some k (u ++ (c ∷ (v ++ (d ∷ w))))
to_left {k} u v w c d x = subst (Some k) (append_assoc u (c ∷ v) (d ∷ w)) x

to_right : {k : Level} (u v w : List Class) (c d : Class) → Some k (u ++ (c ∷ (v ++ (d ∷ w)))) → Some k ((u ++ (c ∷ v)) ++ (d ∷ w))
to_right {k} u v w c d x = subst (Some k) (sym (append_assoc u (c ∷ v) (d ∷ w))) x

and_and : {u v : List Class} {p q : Formula} → Parses conjunction u p → Parses conjunction v q → Some conjunction (u ++ (ampersand ∷ v))
and_and r (no_and q) = (_, by_and r q)
and_and {u} r (by_and {u = a} {v = b} q s) = let x = and_and r q in to_left u a b ampersand ampersand (_, by_and x.1 s)

and_left : {u v : List Class} {p q : Formula} → Parses disjunction u p → Parses conjunction v q → Some disjunction (u ++ (ampersand ∷ v))
and_left (no_or r) q = let x = and_and r q in (_, no_or x.1)
and_left {v = v} (by_or {u = a} {v = b} r s) q = let x = and_and s q in to_right a b v bar ampersand (_, by_or r x.1)

and_or : {u v : List Class} {p q : Formula} → Parses disjunction u p → Parses disjunction v q → Some disjunction (u ++ (ampersand ∷ v))
and_or r (no_or q) = and_left r q
and_or {u} r (by_or {u = a} {v = b} q s) = let x = and_or r q in to_left u a b ampersand bar (_, by_or x.1 s)

or_or : {u v : List Class} {p q : Formula} → Parses disjunction u p → Parses disjunction v q → Some disjunction (u ++ (bar ∷ v))
or_or r (no_or q) = (_, by_or r q)
or_or {u} r (by_or {u = a} {v = b} q s) = let x = or_or r q in to_left u a b bar bar (_, by_or x.1 s)

-- What joins disjunctions joins implications: first with a disjunction to the left, then with any.
module _ (c : Class) (J : (u v : List Class) (p q : Formula) → Parses disjunction u p → Parses disjunction v q → Some disjunction (u ++ (c ∷ v))) where
  disjunction_left : {u v : List Class} {p q : Formula} → Parses disjunction u p → Parses implication v q → Some implication (u ++ (c ∷ v))
  disjunction_left {u} {v} {p} {q} r (no_implies s) = let x = J u v p q r s in (_, no_implies x.1)
  disjunction_left {u} {p = p} r (by_implies {u = a} {v = b} {p = y} s z) = let x = J u a p y r s in to_left u a b c greater (_, by_implies x.1 z)

-- The right part of an implication takes what follows.
module _ (c : Class) (L : (u v : List Class) (p q : Formula) → Parses disjunction u p → Parses implication v q → Some implication (u ++ (c ∷ v))) where
  implication_left : {u v : List Class} {p q : Formula} → Parses implication u p → Parses implication v q → Some implication (u ++ (c ∷ v))
  implication_left {u} {v} {p} {q} (no_implies r) s = L u v p q r s
  implication_left {v = v} (by_implies {u = a} {v = b} r z) s = let x = implication_left z s in to_right a b v greater c (_, by_implies r x.1)

-- The operators that may stand again and again at one level.
pub data Operator : Class → Type 0 where
  is_and : Operator ampersand
  is_or : Operator bar
  is_implies : Operator greater

join_implications : {u v : List Class} {c : Class} → Operator c → Some implication u → Some implication v → Some implication (u ++ (c ∷ v))
join_implications is_and x y = implication_left ampersand (λ u v p q. disjunction_left ampersand (λ u v p q. and_or)) x.1 y.1
join_implications is_or x y = implication_left bar (λ u v p q. disjunction_left bar (λ u v p q. or_or)) x.1 y.1
join_implications is_implies x y = implication_left greater (λ u v p q r s. (_, by_implies r s)) x.1 y.1

-- What may still be read at a level: after an `=` no other.
abbrev pub level_of : Bool → Level
level_of false = equivalence
level_of true = implication

pub raised : (e : Bool) {u : List Class} → Some implication u → Some (level_of e) u
raised false x = (_, no_equal x.1)
raised true x = x

pub join_some : (e : Bool) {u v : List Class} {c : Class} → Operator c → Some implication u → Some (level_of e) v → Some (level_of e) (u ++ (c ∷ v))
join_some true o x y = join_implications o x y
join_some false {u} {v} {c} o x (t, r) = go r
  where
    go : {w : List Class} {z : Formula} → Parses equivalence w z → Some equivalence (u ++ (c ∷ w))
    go (no_equal q) = raised false (join_implications o x (_, q))
    go (by_equal {u = a} {v = b} q s) = let y = join_implications o x (_, q) in to_left u a b c equals (_, by_equal y.1 s)
