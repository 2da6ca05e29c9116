-- What is known of a model, and what follows from it by propagation. P is what is asked of a model.
use Rattle.std.specs.Prelude.{◌≡◌, ℕ, Bool, false, ◌==◌, Option, None, Some}
use Rattle.atoms.specs.Sets.{union, common, minus, without_lowest}
use Rattle.atoms.specs.Words.{num, row_of}
use Rattle.sat.specs.Table.{Within, Apart, Passed, Proper}
use Rattle.sat.specs.declared.clauses.Clauses.{Clauses}
use Rattle.sat.specs.declared.known.Partial.{Partial}
use Rattle.sat.specs.declared.propagation.Reached.{Reached}
use Rattle.sat.specs.declared.propagation.Reached.TheVariants.{Model, Open}

-- p knows these two sets.
pub record PartialIs (p : Partial) (has lacks : ℕ) : Type 0 where
  pub has_is : num p.has ≡ has
  pub lacks_is : num p.lacks ≡ lacks

-- m has all of y and none of x.
pub record Extends (y x m : ℕ) : Type 0 where
  pub includes : Within y m
  pub avoids : Apart x m

abbrev pub Fits : Partial → ℕ → Type 0
Fits p m = Extends (num p.has) (num p.lacks) m

-- The clause is neither true under p nor has two atoms that p leaves open.
abbrev pub may_tell : ℕ → ℕ → Partial → Bool
may_tell l r p =
    (union (union (common l (num p.lacks)) (common r (num p.has))) (without_lowest (union (minus l (num p.has)) (minus r (num p.lacks)))) == 0)

-- No clause from `from` on and before r may say something.
abbrev pub PassedSilent : Clauses → Partial → ℕ → ℕ → Type 0
PassedSilent t p = Passed (λ i. may_tell (row_of t.left.now i) (row_of t.right.now i) p ≡ false)

-- y2 and x2 know what y and x do, and what P adds to it.
pub record Grown (P : ℕ → Type 0) (y x y2 x2 : ℕ) : Type 0 where
  pub more_has : Within y y2
  pub more_lacks : Within x x2
  pub proper : Proper y2 x2
  pub keeps : (m : ℕ) → Extends y x m → P m → Extends y2 x2 m

-- No model of P has what p says.
abbrev pub Contradicts : (ℕ → Type 0) → Partial → Type 0
Contradicts P p = (m : ℕ) → Fits p m → P m → ⊥

-- q follows from p and P.
abbrev pub Learns : (ℕ → Type 0) → Partial → Partial → Type 0
Learns P p q = Grown P (num p.has) (num p.lacks) (num q.has) (num q.lacks)

-- What follows from p and P: none is a conflict.
abbrev pub Forces : (ℕ → Type 0) → Partial → Option Partial → Type 0
Forces P p None = Contradicts P p
Forces P p (Some q) = Learns P p q

-- What propagation comes to: what follows from p and P, and that the atoms had are a model where it says so.
abbrev pub Propagates : (ℕ → Type 0) → Partial → Option Reached → Type 0
Propagates P p None = Contradicts P p
Propagates P p (Some (Model q)) = Learns P p q × P (num q.has)
Propagates P p (Some (Open q)) = Learns P p q
