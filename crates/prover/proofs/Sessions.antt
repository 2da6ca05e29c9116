-- Laws of a session in range.
use mathlib.Core.Bool.{Bool, true, ◌&&◌}
use mathlib.Core.Path.{◌≡◌}
use Prim.Native.Nat.{ℕ, ◌≤◌, ◌<◌}
use lib.Dec.{T, leb, ltb, leb→le, ltb→lt}
use Rattle.atoms.specs.Sets.{limit}
use Rattle.atoms.proofs.Truth.{T_left, T_right, T_and, T_true, true_T}
use Rattle.ipl.specs.Lists.{all}
use Rattle.ipl.specs.Range.{flat_table, implication_table, step_table, world_table, set_in_range, flat_in_range, implication_in_range}
use Rattle.ipl.specs.Marks.{mark_table, Mark}
use Rattle.ipl.specs.Book.{count_in_range}
use Rattle.ipl.proofs.Lists.{all_All, All_tabulate}
use Rattle.ipl.specs.Search.{step_in_range}
use Rattle.prover.specs.State.{implication_row, step_row, mark_row, flats_of, implications_of, steps_of, worlds_of, marks_of}
use Rattle.prover.specs.InRange.{flats_in_range, implications_in_range, steps_in_range, worlds_in_range, held_in_range, mark_in_range, marks_in_range, in_range}
use Rattle.prover.specs.Working.{Usable, StepsKnown}
use Rattle.prover.specs.declared.Session.{Session}

pub record Parts (s : Session) : Type 0 where
  pub count : T (count_in_range s.n)
  pub flats : T (flats_in_range s.n s.flats)
  pub implications : T (implications_in_range s.n s.implications)
  pub steps : T (steps_in_range s.n s.implications.count s.steps)
  pub worlds : T (worlds_in_range s.n s.worlds)
  pub held : T (held_in_range s.n s.held)
  pub marks : T (marks_in_range s.flats.count s.implications.count s.steps.count s.marks)

-- Seven tests, one after the other.
module _ (a b c d e f g : Bool) where
  abbrev Each : Type 0
  Each = T a × T b × T c × T d × T e × T f × T g

  each : T (a && (b && (c && (d && (e && (f && g)))))) → Each
  each h =
      let from-b = T_right a (b && (c && (d && (e && (f && g))))) h in
      let from-c = T_right b (c && (d && (e && (f && g)))) from-b in
      let from-d = T_right c (d && (e && (f && g))) from-c in
      let from-e = T_right d (e && (f && g)) from-d in
      let from-f = T_right e (f && g) from-e in (
        T_left a (b && (c && (d && (e && (f && g))))) h,
        T_left b (c && (d && (e && (f && g)))) from-b,
        T_left c (d && (e && (f && g))) from-c,
        T_left d (e && (f && g)) from-d,
        T_left e (f && g) from-e,
        T_left f g from-f,
        T_right f g from-f,
      )

  together : Each → T (a && (b && (c && (d && (e && (f && g))))))
  together t =
      T_and a (b && (c && (d && (e && (f && g))))) t.0 (T_and b (c && (d && (e && (f && g)))) t.1 (T_and c (d && (e && (f && g))) t.2
      (T_and d (e && (f && g)) t.3 (T_and e (f && g) t.4 (T_and f g t.5 t.6)))))

module _ (s : Session) where
  abbrev marks_test : Bool
  marks_test = marks_in_range s.flats.count s.implications.count s.steps.count s.marks

  pub parts : in_range s ≡ true → Parts s
  unfolding in_range
  parts h =
      let t = each (count_in_range s.n) (flats_in_range s.n s.flats) (implications_in_range s.n s.implications)
      (steps_in_range s.n s.implications.count s.steps) (worlds_in_range s.n s.worlds) (held_in_range s.n s.held) marks_test (true_T h) in
      record { count = t.0; flats = t.1; implications = t.2; steps = t.3; worlds = t.4; held = t.5; marks = t.6 }

  pub of_parts : Parts s → in_range s ≡ true
  unfolding in_range
  of_parts p =
      T_true (in_range s) (together (count_in_range s.n) (flats_in_range s.n s.flats) (implications_in_range s.n s.implications)
      (steps_in_range s.n s.implications.count s.steps) (worlds_in_range s.n s.worlds) (held_in_range s.n s.held) marks_test
      (p.count, p.flats, p.implications, p.steps, p.worlds, p.held, p.marks))

  module _ (is_in_range : in_range s ≡ true) where
    pub few_atoms : s.n ≤ limit
    unfolding count_in_range
    few_atoms = leb→le s.n limit (T_right (leb 1 s.n) (leb s.n limit) (parts is_in_range).count)

    pub usable : Usable s.n s.implications
    unfolding implications_in_range
    usable =
        let t = (parts is_in_range).implications in
        let x = s.implications in
        record {
          few = few_atoms;
          count = leb→le x.count implication_table (T_left (leb x.count implication_table) (all (implication_in_range s.n) (implications_of x)) t);
          rows = (All_tabulate (λ i. T (implication_in_range s.n i)) (implication_row x) x.count).0
              (all_All (implication_in_range s.n) (implications_of x) (T_right (leb x.count implication_table) (all (implication_in_range s.n) (implications_of x)) t));
        }

    pub few_flats : s.flats.count ≤ flat_table
    unfolding flats_in_range
    few_flats = leb→le s.flats.count flat_table (T_left (leb s.flats.count flat_table) (all (flat_in_range s.n) (flats_of s.flats)) (parts is_in_range).flats)

    pub steps_count : (s.steps.count ≤ step_table) × T (all (step_in_range s.n s.implications.count) (steps_of s.steps))
    unfolding steps_in_range
    steps_count =
        let rows : Bool = all (step_in_range s.n s.implications.count) (steps_of s.steps) in
        (leb→le s.steps.count step_table (T_left (leb s.steps.count step_table) rows (parts is_in_range).steps), T_right (leb s.steps.count step_table) rows (parts is_in_range).steps)

    pub few_worlds : s.worlds.count ≤ world_table
    unfolding worlds_in_range
    few_worlds = leb→le s.worlds.count world_table (T_left (leb s.worlds.count world_table) (all (set_in_range s.n) (worlds_of s.worlds)) (parts is_in_range).worlds)

    pub few_marks : s.marks.count ≤ mark_table
    unfolding marks_in_range
    few_marks = leb→le s.marks.count mark_table
        (T_left (leb s.marks.count mark_table) (all (mark_in_range s.flats.count s.implications.count s.steps.count) (marks_of s.marks)) (parts is_in_range).marks)

    -- No mark is beyond what is held.
    pub mark_inside : (i : ℕ) → i < s.marks.count → let m = mark_row s.marks i in
        (m.flats ≤ s.flats.count) × (m.implications ≤ s.implications.count) × (m.steps ≤ s.steps.count)
    unfolding marks_in_range mark_in_range
    mark_inside i l =
        let m = mark_row s.marks i in
        let test : Mark → Bool = mark_in_range s.flats.count s.implications.count s.steps.count in
        let rows : T (all test (marks_of s.marks)) = T_right (leb s.marks.count mark_table) (all test (marks_of s.marks)) (parts is_in_range).marks in
        let row : T (test m) = (All_tabulate (λ m. T (test m)) (mark_row s.marks) s.marks.count).0 (all_All test (marks_of s.marks) rows) i l in
        let flats : Bool = leb m.flats s.flats.count in
        let implications : Bool = leb m.implications s.implications.count in
        let steps : Bool = leb m.steps s.steps.count in
        let after-number = T_right (ltb m.number mark_table) (flats && (implications && steps)) row in
        let after-flats = T_right flats (implications && steps) after-number in (
          leb→le m.flats s.flats.count (T_left flats (implications && steps) after-number),
          leb→le m.implications s.implications.count (T_left implications steps after-flats),
          leb→le m.steps s.steps.count (T_right implications steps after-flats),
        )

    number_below_lem : (k : ℕ) → k < s.steps.count → (step_row s.steps k).number < s.implications.count
    unfolding step_in_range
    number_below_lem k h =
        let t = step_row s.steps k in
        ltb→lt t.number s.implications.count (T_left (ltb t.number s.implications.count) (set_in_range s.n t.assumed)
        ((All_tabulate (λ t. T (step_in_range s.n s.implications.count t)) (step_row s.steps) s.steps.count).0
        (all_All (step_in_range s.n s.implications.count) (steps_of s.steps) steps_count.1) k h))

    pub steps_known : StepsKnown s.flats s.steps s.implications
    steps_known = record { few_flats = few_flats; few_steps = steps_count.0; implications = usable.count; numbers = number_below_lem }
