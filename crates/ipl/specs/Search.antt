-- The fixed search of document 01, points 1 to 4: one turn for each classical question, repeated within the two limits.
use Rattle.std.specs.Prelude.{Bool, true, false, cond, ◌&&◌, List, [], ◌∷◌, ◌++◌, map, ◌≡◌, ℕ, zero, suc, ◌*◌, ◌≤◌, ltb, length, get_or}
use Rattle.std.proofs.Math.Option.{Option, none, some, or_else}
use Rattle.atoms.specs.Sets.{has, insert, remove}
use Rattle.ipl.specs.Clause.{Flat, Implication, realizes, learned}
use Rattle.ipl.specs.Range.{step_table, world_table, set_in_range}
use Rattle.ipl.specs.Question.{ask}

-- "The learned step is (implication number, A)."
pub record Step : Type 0 where
  pub number : ℕ
  pub assumed : ℕ

-- A step in range, over n atoms and m implications.
unfoldable pub step_in_range : ℕ → ℕ → Step → Bool
step_in_range n m s = ltb s.number m && set_in_range n s.assumed

-- Implication number k.
abbrev pub implication_at : List Implication → ℕ → Implication
implication_at X k = get_or X k (record { a = 0; b = 0; c = 0 })

unfoldable pub clause_of : List Implication → Step → Flat
clause_of X s = learned (implication_at X s.number) s.assumed

-- R: "the flat clauses and the clauses of the steps".
unfoldable pub known : List Flat → List Implication → List Step → List Flat
known F X S = F ++ map (clause_of X) S

-- A world and an implication that it does not realize.
pub record Pair : Type 0 where
  pub world : ℕ
  pub number : ℕ
  pub implication : Implication

-- Point 2 at the world w: the implications, numbered from k, "in number order, to the first .. not realized".
unfoldable pub first_at : List ℕ → ℕ → ℕ → List Implication → Option Pair
first_at W w k [] = none
first_at W w k (i ∷ X) = cond (realizes W w i) (first_at W w (suc k) X) (some (record { world = w; number = k; implication = i }))

-- Point 2: "worlds in the order they came, and for each the implications".
unfoldable pub first_unrealized : List ℕ → List Implication → List ℕ → Option Pair
first_unrealized W X [] = none
first_unrealized W X (w ∷ ws) = or_else (first_at W w 0 X) (first_unrealized W X ws)

unfoldable pub is_none : Option ℕ → Bool
is_none none = true
is_none (some m) = false

-- Point 4: the atom k "is dropped if the rest still proves b"; `proves` is that test.
unfoldable pub drop_one : (ℕ → Bool) → ℕ → ℕ → ℕ
drop_one proves k A = cond (has A k && proves (remove A k)) (remove A k) A

-- Point 4: "in rising number", d atoms from k on.
unfoldable pub drop_from : (ℕ → Bool) → ℕ → ℕ → ℕ → ℕ
drop_from proves zero k A = A
drop_from proves (suc d) k A = drop_from proves d (suc k) (drop_one proves k A)

-- Where the search stands: all steps held, the worlds W in their order, the questions of points 1 and 3 so far.
pub record State : Type 0 where
  pub steps : List Step
  pub worlds : List ℕ
  pub questions : ℕ

-- What the search ends in. `unfinished` stands for more turns than there can be.
pub data Outcome : Type 0 where
  valid : State → Outcome
  refuted : State → Outcome
  refused : ℕ → Outcome
  unfinished : Outcome

pub data Turn : Type 0 where
  done : Outcome → Turn
  more : State → Turn

-- Point 1: "Does R prove g? If yes: valid. If not, W is the one world" of the answer.
unfoldable pub begin : State → Option ℕ → Turn
begin s none = done (valid (record { steps = s.steps; worlds = []; questions = suc s.questions }))
begin s (some m) = more (record { steps = s.steps; worlds = m ∷ []; questions = suc s.questions })

-- Point 4: the step learned at a pair, over n atoms.
unfoldable pub step_at : ℕ → List Flat → Pair → Step
step_at n R p =
    record {
      number = p.number;
      assumed = drop_from (λ B. is_none (ask n R B p.implication.b)) n 0 (insert p.world p.implication.a);
    }

-- Point 3, "if not": the answer's world joins W. Point 4, "if yes": the step joins the steps, and W is emptied.
unfoldable pub resolve : ℕ → List Flat → State → Pair → Option ℕ → Turn
resolve n R s p (some m) = more (record { steps = s.steps; worlds = s.worlds ++ (m ∷ []); questions = suc s.questions })
resolve n R s p none = more (record { steps = s.steps ++ (step_at n R p ∷ []); worlds = []; questions = suc s.questions })

-- Point 2: "none: refuted"; else point 3, "do R, w and a prove b?".
unfoldable pub look : ℕ → List Flat → State → Option Pair → Turn
look n R s none = done (refuted s)
look n R s (some p) = resolve n R s p (ask n R (insert p.world p.implication.a) p.implication.b)

-- Going on within the limits: "11: a 257th world; 12: a 513th step".
unfoldable pub go_on : (State → Outcome) → Turn → Outcome
go_on rest (done o) = o
go_on rest (more s) =
    cond (ltb world_table (length s.worlds)) (refused 11) (cond (ltb step_table (length s.steps)) (refused 12) (rest s))

-- "R at first the flat clauses and the clauses of the steps"; W is empty.
abbrev pub start : List Step → State
start S = record { steps = S; worlds = []; questions = 0 }

-- At most 513 times at point 1, each with at most 257 turns more: no more turns are needed.
abbrev pub most_turns : ℕ
most_turns = 513 * 258

-- Over n atoms, the flat clauses F, the implications X and the goal g.
module _ (n : ℕ) (F : List Flat) (X : List Implication) (g : ℕ) where
  unfoldable pub turn_with : State → List ℕ → Turn
  turn_with s [] = begin s (ask n (known F X s.steps) 0 g)
  turn_with s (w ∷ ws) = look n (known F X s.steps) s (first_unrealized (w ∷ ws) X (w ∷ ws))

  -- One turn: without worlds point 1, else points 2 to 4.
  unfoldable pub turn : State → Turn
  turn s = turn_with s s.worlds

  -- The states that the points lead to, one after the other, whatever the limits.
  pub data Reaches : State → State → Type 0 where
    here : {s : State} → Reaches s s
    next : {s t u : State} → turn s ≡ more t → Reaches t u → Reaches s u

  -- "The search .. needs neither a 257th world nor a 513th learned step."
  abbrev pub NeedsNoMore : State → Type 0
  NeedsNoMore s = (u : State) → Reaches s u → (length u.worlds ≤ world_table) × (length u.steps ≤ step_table)

  unfoldable pub run : ℕ → State → Outcome
  run zero s = unfinished
  run (suc turns) s = go_on (run turns) (turn s)

  -- The whole search.
  unfoldable pub search : List Step → Outcome
  search S = run most_turns (start S)
