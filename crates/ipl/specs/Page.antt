-- A page of goals (document 02, change 6; the field says batch of queries): which model refutes a goal without a search.
use Rattle.std.specs.Prelude.{cond, List, [], ◌∷◌, ℕ, get_or}
use Rattle.std.proofs.Math.Option.{Option, none, some}
use Rattle.atoms.specs.Sets.{has}
use Rattle.ipl.specs.Search.{Outcome, valid, refuted, refused, unfinished}

-- "At most 64."
abbrev pub goal_table : ℕ
goal_table = 64

-- "A model found earlier in this call": the goal that found it, "by its place in the list from 0", and the set of its root.
pub record Found : Type 0 where
  pub place : ℕ
  pub root : ℕ

-- "A goal lacking at the root of a model found earlier in this call is refuted by the earliest such model": the goal that found it.
unfoldable pub earliest : ℕ → List Found → Option ℕ
earliest g [] = none
earliest g (m ∷ M) = cond (has m.root g) (earliest g M) (some m.place)

-- What a goal gets: what its own search comes to, or that the model of the goal at a place refutes it.
pub data Entry : Type 0 where
  searched : Outcome → Entry
  refuted_by : ℕ → Entry

-- The model that an outcome has found for the goal at place i: "the worlds, root first".
abbrev pub found_as : ℕ → Outcome → List Found
found_as i (valid end) = []
found_as i (refuted end) = record { place = i; root = get_or end.worlds 0 0 } ∷ []
found_as i (refused number) = []
found_as i unfinished = []

abbrev pub found_by : ℕ → Entry → List Found
found_by i (searched o) = found_as i o
found_by i (refuted_by j) = []
