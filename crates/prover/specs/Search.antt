-- One turn of the search in code, and its end, against the definition of the search.
use Rattle.std.specs.Prelude.{List, Option, Some, None, Result, Ok, Err, ◌≡◌, ℕ, ◌+◌, ◌-◌, ◌*◌, ◌≤◌, ◌<◌, min, length, set}
use Rattle.std.proofs.Math.Option.{none, some}
use Rattle.atoms.specs.Sets.{limit}
use Rattle.atoms.specs.Words.{row_count, RowSet}
use Rattle.ipl.specs.Clause.{Flat}
use Rattle.ipl.specs.Range.{flat_table, implication_table, step_table, world_table}
use Rattle.ipl.specs.Question.{ask}
use Rattle.ipl.specs.Search.{known, drop_from, State, Outcome, valid, refuted, refused, done, more, go_on, most_turns, turn, run}
use Rattle.refusal.specs.Numbers.{number_of, place_of}
use Rattle.refusal.specs.declared.Refusal.{Refusal}
use Rattle.refusal.specs.declared.Refusal.TheVariants as refusal
use Rattle.sat.specs.Answer.{answer_of}
use Rattle.sat.specs.Table.{clauses}
use Rattle.atoms.specs.declared.AtomSet.{AtomSet}
use Rattle.prover.specs.State.{implication_row, flats_of, implications_of, steps_of, worlds_of}
use Rattle.prover.specs.Working.{first_pair, Passed, proves, learned_row, Follows}
use Rattle.prover.specs.declared.Flats.{Flats}
use Rattle.prover.specs.declared.Implications.{Implications}
use Rattle.prover.specs.declared.Steps.{Steps}
use Rattle.prover.specs.declared.realization.Pair.{Pair}
use Rattle.prover.specs.declared.working.Kept.{Kept}
use Rattle.prover.specs.declared.question.Search.{Search}
use Rattle.prover.specs.declared.question.End.{End}
use Rattle.prover.specs.declared.question.End.TheVariants as end

-- The flat clauses and all clauses known that the tables hold.
abbrev pub flats_in : Search → List Flat
flats_in s = clauses s.known.left s.known.right s.flats

abbrev pub known_in : Search → List Flat
known_in s = clauses s.known.left s.known.right (s.flats + s.steps.count)

-- The state of the definition that they stand for.
abbrev pub state_of : Search → State
state_of s = record { steps = steps_of s.steps; worlds = worlds_of s.worlds; questions = s.questions }

-- The rows kept follow from all clauses known.
abbrev pub Keeps : Search → Type 0
Keeps s = Follows s.known (s.flats + s.steps.count) s.kept

-- Tables of the right sizes: the clauses known follow from the flat clauses and the steps, and every pair before the next is realized.
pub record Working (x : Implications) (s : Search) : Type 0 where
  pub left_rows : row_count s.known.left ≡ flat_table + step_table
  pub right_rows : row_count s.known.right ≡ flat_table + step_table
  pub numbers_size : length s.steps.numbers ≡ step_table
  pub assumed_rows : row_count s.steps.assumed ≡ step_table
  pub set_rows : row_count s.worlds.sets ≡ world_table
  pub few_flats : s.flats ≤ flat_table
  pub few_steps : s.steps.count ≤ step_table
  pub few_worlds : s.worlds.count ≤ world_table
  pub known_rows : known_in s ≡ known (flats_in s) (implications_of x) (steps_of s.steps)
  pub pair_number : s.pair.implication ≤ x.count
  pub pair_world : s.pair.world ≤ s.worlds.count
  pub passed : Passed s.worlds x s.pair
  pub keeps : Keeps s

-- A question more, and other rows kept.
abbrev pub asked_more : Search → Kept → Search
asked_more s kept = record s { kept = kept; questions = s.questions + 1 }

-- A question more can be put.
pub record Askable (s : Search) : Type 0 where
  pub flats : s.flats ≤ flat_table
  pub steps : s.steps.count ≤ step_table
  pub questions : s.questions < most_turns
  pub keeps : Keeps s

-- The question was answered right.
pub record AskedIn (n given asked : ℕ) (s t : Search) (a : Option AtomSet) : Type 0 where
  pub right : answer_of a ≡ ask (min n limit) (known_in s) given asked
  pub same : t ≡ asked_more s t.kept
  pub keeps : Keeps t

-- Point 1 in the tables.
abbrev pub Began : ℕ → ℕ → Search → Search → Option End → Type 0
Began n goal s t None =
    (m : ℕ) × (some m ≡ ask (min n limit) (known_in s) 0 goal) × RowSet s.worlds.sets 0 m t.worlds.sets
    × (t ≡ record (asked_more s t.kept) { worlds = record { count = 1; sets = t.worlds.sets }; pair = first_pair })
    × Keeps t
Began n goal s t (Some end.Valid) = (none ≡ ask (min n limit) (known_in s) 0 goal) × (t ≡ asked_more s t.kept)
Began n goal s t (Some end.Refuted) = ⊥

-- Point 3 in the tables: the world m joins.
abbrev pub Grew : Pair → ℕ → Search → Search → Result (Unit {0}) Refusal → Type 0
Grew pair m s t (Ok _) =
    (s.worlds.count < world_table) × RowSet s.worlds.sets s.worlds.count m t.worlds.sets
    × (t ≡ record s { worlds = record { count = s.worlds.count + 1; sets = t.worlds.sets }; pair = pair })
Grew pair m s t (Err e) = (e ≡ refusal.WorldsFull) × (world_table ≤ s.worlds.count)

-- What point 4 relies on.
pub record LearnFits (n i : ℕ) (s : Search) : Type 0 where
  pub few : n ≤ limit
  pub number : i < implication_table
  pub size : length s.steps.numbers ≡ step_table
  pub flats : s.flats ≤ flat_table
  pub keeps : Keeps s

-- Point 4 in the tables: the step (i, A) and its clause join, and the worlds go.
pub record StepJoined (n : ℕ) (x : Implications) (i given : ℕ) (s t : Search) : Type 0 where
  pub room : s.steps.count < step_table
  pub A : ℕ
  pub dropped : A ≡ drop_from (proves n (known_in s) (implication_row x i).b) n 0 given
  pub numbers : t.steps.numbers ≡ set s.steps.numbers s.steps.count i
  pub assumed : RowSet s.steps.assumed s.steps.count A t.steps.assumed
  pub left : RowSet s.known.left (s.flats + s.steps.count) (learned_row x i A).left t.known.left
  pub right : RowSet s.known.right (s.flats + s.steps.count) (learned_row x i A).right t.known.right
  pub same : t ≡ record s {
    known = t.known;
    steps = record { count = s.steps.count + 1; numbers = t.steps.numbers; assumed = t.steps.assumed };
    worlds = record { count = 0; sets = s.worlds.sets };
    pair = first_pair;
    kept = t.kept;
  }
  pub keeps : Keeps t

-- Point 4, or its refusal.
abbrev pub Learned : ℕ → Implications → ℕ → ℕ → Search → Search → Result (Unit {0}) Refusal → Type 0
Learned n x i given s t (Ok _) = StepJoined n x i given s t
Learned n x i given s t (Err e) = (e ≡ refusal.StepsFull) × (step_table ≤ s.steps.count)

-- One turn, over the flat clauses that the tables hold.
abbrev pub TurnRight : ℕ → ℕ → Implications → Search → Search → Result (Option End) Refusal → Type 0
TurnRight n g x s t (Ok None) =
    (turn n (flats_in s) (implications_of x) g (state_of s) ≡ more (state_of t)) × Working x t × (flats_in t ≡ flats_in s) × (t.questions ≡ s.questions + 1)
TurnRight n g x s t (Ok (Some end.Valid)) =
    (turn n (flats_in s) (implications_of x) g (state_of s) ≡ done (valid (state_of t))) × (t.questions ≤ s.questions + 1)
TurnRight n g x s t (Ok (Some end.Refuted)) =
    (turn n (flats_in s) (implications_of x) g (state_of s) ≡ done (refuted (state_of t))) × (t.questions ≤ s.questions + 1)
TurnRight n g x s t (Err e) =
    ((rest : State → Outcome) → go_on rest (turn n (flats_in s) (implications_of x) g (state_of s)) ≡ refused (number_of e)) × (place_of e ≡ None)

-- The turns that there can be from s on.
abbrev pub turns_left : Search → ℕ
turns_left s = (step_table - s.steps.count) * (world_table + 2) + (world_table + 1 - s.worlds.count)

-- The turns from s on, over the flat clauses F, come to the outcome o.
pub record Underway (n g : ℕ) (x : Implications) (F : List Flat) (o : Outcome) (s : Search) : Type 0 where
  pub working : Working x s
  pub flats : flats_in s ≡ F
  pub turns : s.questions + turns_left s < most_turns
  pub rest : run n F (implications_of x) g (most_turns - s.questions) (state_of s) ≡ o

-- Before the first turn: no world and no question.
pub record Fresh (x : Implications) (s : Search) : Type 0 where
  pub working : Working x s
  pub no_worlds : s.worlds.count ≡ 0
  pub no_questions : s.questions ≡ 0

-- The same, over these flat clauses and steps.
pub record Laid (flats : Flats) (steps : Steps) (x : Implications) (s : Search) : Type 0 where
  pub fresh : Fresh x s
  pub same_flats : flats_in s ≡ flats_of flats
  pub same_steps : steps_of s.steps ≡ steps_of steps

-- The outcome o, as the tables hold it at the end.
abbrev pub Ended : Outcome → Search → Result End Refusal → Type 0
Ended o s (Ok end.Valid) = (o ≡ valid (state_of s)) × (s.questions ≤ most_turns)
Ended o s (Ok end.Refuted) = (o ≡ refuted (state_of s)) × (s.questions ≤ most_turns)
Ended o s (Err e) = (o ≡ refused (number_of e)) × (place_of e ≡ None)
