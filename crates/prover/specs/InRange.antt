-- Refusal 5: "a session with a count above its table or an n, or in its held rows or verdict an atom, goal or implication number,
-- out of range .. (unused rows are not judged)", or "with a mark beyond what it holds".
use Rattle.std.specs.Prelude.{Bool, true, ◌&&◌, ℕ, leb, ltb}
use Rattle.ipl.specs.Lists.{all}
use Rattle.ipl.specs.Range.{flat_table, implication_table, step_table, world_table, atom_or_bot, set_in_range, flat_in_range, implication_in_range}
use Rattle.ipl.specs.Search.{step_in_range}
use Rattle.ipl.specs.Marks.{mark_table, Mark}
use Rattle.ipl.specs.Book.{count_in_range}
use Rattle.prover.specs.State.{flats_of, implications_of, steps_of, worlds_of, marks_of}
use Rattle.prover.specs.declared.Flats.{Flats}
use Rattle.prover.specs.declared.Implications.{Implications}
use Rattle.prover.specs.declared.Steps.{Steps}
use Rattle.prover.specs.declared.Worlds.{Worlds}
use Rattle.prover.specs.declared.Marks.{Marks}
use Rattle.prover.specs.declared.Held.{Held}
use Rattle.prover.specs.declared.Held.TheVariants.{Nothing, Valid, Refuted}
use Rattle.prover.specs.declared.Session.{Session}

-- Each table: its count, and its held rows.
unfoldable pub flats_in_range : ℕ → Flats → Bool
flats_in_range n t = leb t.count flat_table && all (flat_in_range n) (flats_of t)

unfoldable pub implications_in_range : ℕ → Implications → Bool
implications_in_range n t = leb t.count implication_table && all (implication_in_range n) (implications_of t)

unfoldable pub steps_in_range : ℕ → ℕ → Steps → Bool
steps_in_range n m t = leb t.count step_table && all (step_in_range n m) (steps_of t)

unfoldable pub worlds_in_range : ℕ → Worlds → Bool
worlds_in_range n t = leb t.count world_table && all (set_in_range n) (worlds_of t)

-- The goal of the verdict held.
unfoldable pub held_in_range : ℕ → Held → Bool
held_in_range n Nothing = true
held_in_range n (Valid g) = atom_or_bot n g
held_in_range n (Refuted g) = atom_or_bot n g

-- A mark's number, and what it remembers: at most so many flat clauses, implications and steps.
unfoldable pub mark_in_range : ℕ → ℕ → ℕ → Mark → Bool
mark_in_range flats implications steps m =
    ltb m.number mark_table && (leb m.flats flats && (leb m.implications implications && leb m.steps steps))

unfoldable pub marks_in_range : ℕ → ℕ → ℕ → Marks → Bool
marks_in_range flats implications steps t = leb t.count mark_table && all (mark_in_range flats implications steps) (marks_of t)

-- The opposite of refusal 5.
unfoldable pub in_range : Session → Bool
in_range s =
    count_in_range s.n
    && (flats_in_range s.n s.flats
    && (implications_in_range s.n s.implications
    && (steps_in_range s.n s.implications.count s.steps
    && (worlds_in_range s.n s.worlds
    && (held_in_range s.n s.held && marks_in_range s.flats.count s.implications.count s.steps.count s.marks)))))
