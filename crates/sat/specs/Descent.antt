-- The search: what its answers say. P is what is asked of a model, p what is known of it.
use Rattle.std.specs.Prelude.{◌≡◌, ℕ, ◌+◌, ◌-◌, ◌^◌, ◌<◌, ◌≤◌, Bool, true, false, Option, None, Some}
use Rattle.atoms.specs.Sets.{bit_at, limit, union, minus}
use Rattle.atoms.specs.Words.{num, every_atom, single_or_empty, below}
use Rattle.sat.specs.Knowledge.{PartialIs, Extends, Grown}
use Rattle.atoms.specs.declared.AtomSet.{AtomSet}
use Rattle.sat.specs.declared.known.Partial.{Partial}
use Rattle.sat.specs.declared.search.Found.{Found}
use Rattle.sat.specs.declared.search.Found.TheVariants.{Least, Blocked, GaveUp}
use Rattle.sat.specs.declared.search.Step.{Step}
use Rattle.sat.specs.declared.search.Step.TheVariants as step

-- What a model that counters a question has and lacks: what is given, all atoms from n on, and the atom asked.
abbrev pub Base : ℕ → ℕ → ℕ → Partial → Type 0
Base n given asked p = PartialIs p given (union (minus every_atom (below n)) (single_or_empty asked))

-- m is a model of y and x.
pub record Model (P : ℕ → Type 0) (y x m : ℕ) : Type 0 where
  pub below : m < 2 ^ limit
  pub extends : Extends y x m
  pub holds : P m

pub record Smallest (P : ℕ → Type 0) (y x m : ℕ) : Type 0 where
  pub member : Model P y x m
  pub least : (k : ℕ) → Model P y x k → m ≤ k

-- There is no model of what is known.
abbrev pub NoModel : (ℕ → Type 0) → Partial → Type 0
NoModel P p = (m : ℕ) → Model P (num p.has) (num p.lacks) m → ⊥

-- The smallest model of what is known, or that there is none.
abbrev pub Settles : (ℕ → Type 0) → Partial → Option AtomSet → Type 0
Settles P p (Some s) = Smallest P (num p.has) (num p.lacks) (num s)
Settles P p None = NoModel P p

-- The same, where a model that is not the smallest may be enough.
abbrev pub Told : (ℕ → Type 0) → Partial → Bool → Option AtomSet → Type 0
Told P p smallest None = NoModel P p
Told P p true (Some s) = Smallest P (num p.has) (num p.lacks) (num s)
Told P p false (Some s) = Model P (num p.has) (num p.lacks) (num s)

-- The number of conflicts that is never used up.
abbrev pub no_limit : ℕ
no_limit = 2 ^ 64 - 1

-- After a conflict more of at most c, where f is no model: it stays without limit where it was, and is given up only where it was not.
abbrev pub Spent : ℕ → Found → Type 0
Spent c (Least s) = ⊥
Spent c (Blocked r) = c ≡ no_limit → r ≡ no_limit
Spent c GaveUp = c ≡ no_limit → ⊥

-- The same with at most c conflicts.
abbrev pub Answers : (ℕ → Type 0) → Partial → ℕ → Found → Type 0
Answers P p c (Least s) = Settles P p (Some s)
Answers P p c (Blocked r) = NoModel P p × Spent c (Blocked r)
Answers P p c GaveUp = Spent c GaveUp

-- t is the set of an atom that is open, and above which none is.
pub record Pick (y x t : ℕ) : Type 0 where
  pub atom : ℕ
  pub alone : t ≡ 2 ^ atom
  pub small : atom < limit
  pub open_has : bit_at y atom ≡ 0
  pub open_lacks : bit_at x atom ≡ 0
  pub above : (i : ℕ) → atom < i → i < limit → 1 ≤ bit_at y i + bit_at x i

-- What is known grows to q, and t is the atom to decide.
pub record Cut (P : ℕ → Type 0) (p q : Partial) (t : ℕ) : Type 0 where
  pub grown : Grown P (num p.has) (num p.lacks) (num q.has) (num q.lacks)
  pub pick : Pick (num q.has) (num q.lacks) t

abbrev pub Steps : (ℕ → Type 0) → Partial → Option Step → Type 0
Steps P p (Some (step.Least s)) = Settles P p (Some s)
Steps P p None = NoModel P p
Steps P p (Some (step.Split q t)) = Cut P p q (num t)
