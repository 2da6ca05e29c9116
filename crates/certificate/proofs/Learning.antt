-- One derivation step: what the code asks and adds is what the definition does.
use mathlib.Core.Bool.{true, false}
use mathlib.Core.List.{List, [], ◌∷◌, ◌++◌, append-nil}
use mathlib.Core.Path.{◌≡◌, refl, sym, ap, ap₂, ◌∙◌, subst}
use Prim.Native.Nat.{ℕ, ◌+◌, ◌*◌, ◌≤◌, ◌<◌, min}
use native.Mathlib.Numerals.{add-one}
use native.Mathlib.Omega.{arith}
use borrow.Author.Count.{below_more}
use lib.Dec.{T, ltb, leb, ltb→lt}
use lib.ListN.{length, get_or, take}
use lib.Seq.{take-suc, take_all}
use Rattle.atoms.specs.Sets.{limit, minus}
use Rattle.atoms.specs.Words.{single_or_empty, row_count, RowSet}
use Rattle.atoms.proofs.Truth.{T_left, T_right}
use Rattle.atoms.proofs.Machine.{single_bits, same_rows}
use Rattle.ipl.specs.Lists.{all, All}
use Rattle.ipl.specs.Clause.{Flat, Implication, learned}
use Rattle.ipl.specs.Range.{step_table, set_in_range, implication_in_range}
use Rattle.ipl.specs.Question.{ask}
use Rattle.ipl.specs.Search.{Step, implication_at, clause_of, known, is_none, step_in_range}
use Rattle.ipl.proofs.Lists.{all_All, All_at, tabulate_at}
use Rattle.ipl.proofs.Range.{ImplicationBelow, implication_below, single_one}
use Rattle.ipl.proofs.Steps.{known_snoc}
use Rattle.sat.specs.Table.{clauses}
use Rattle.sat.specs.Learning.{Kept}
use Rattle.sat.specs.declared.Proof.{Proof}
use Rattle.sat.proofs.Table.{clauses_more}
use Rattle.sat.proofs.Rows.{kept_none}
use Rattle.certificate.specs.Format.{implication_bytes, step_bytes, bodies_start, implication_start, goal_start, claim_start}
use Rattle.certificate.specs.Layout.{implication_from, step_from, flats_in, problem_in, claim_in}
use Rattle.certificate.specs.Judge.{claim_in_range, step_at, step_proves, goal_proved}
use Rattle.certificate.specs.ReadBack.{no_implication, no_step}
use Rattle.certificate.specs.Checked.{Ranged, StepReady, StepsReady, StepJudged, problem_by, claim_by, steps_by}
use Rattle.certificate.specs.declared.Contents.{Contents}
use Rattle.certificate.proofs.Tables.{implications_length, steps_length}
use Rattle.certificate.proofs.Numbers.{steps_there}
use Rattle.certificate.proofs.InRange.{range_parts}
use Rattle.certificate.proofs.Closing.{implication_ranged}

-- What is known after the first i steps.
abbrev known_by : List ℕ → Contents → ℕ → List Flat
known_by s k i = known (problem_by s k).flats (problem_by s k).implications (take i (steps_by s k))

module _ (s : List ℕ) (k : Contents) (ranged : Ranged s k) where
  abbrev atoms : ℕ
  atoms = get_or s bodies_start 0

  abbrev start : ℕ
  start = claim_start k.flats k.implications

  n_small : (n : ℕ) → n ≡ atoms → min n limit ≡ atoms
  unfolding problem_in
  n_small n e = let few = (range_parts (problem_by s k) (claim_by s k) ranged.ranged).few in omega arith

  module _ (derives : k.refuting ≡ false) where
    pub steps_room : start + step_bytes * k.rows ≤ length s
    steps_room = steps_there (length s) k.flats k.implications k.rows k.refuting ranged.sized derives

    steps_ranged : All (λ z. T (step_in_range atoms k.implications z)) (steps_by s k)
    unfolding claim_in_range claim_in problem_in
    steps_ranged =
        let t : T (claim_in_range atoms k.implications (claim_in s start false k.rows)) =
        subst (λ z. T (claim_in_range atoms k.implications (claim_in s start z k.rows))) derives
        (subst (λ (m : ℕ). T (claim_in_range atoms m (claim_by s k))) (implications_length s (implication_start k.flats) k.implications)
        (range_parts (problem_by s k) (claim_by s k) ranged.ranged).claim) in
        all_All (step_in_range atoms k.implications) (steps_by s k)
        (T_right (leb (length (steps_by s k)) step_table) (all (step_in_range atoms k.implications) (steps_by s k)) t)

    -- Step i, as it is read, which names an implication.
    module _ (i : ℕ) (listed : i < k.rows) (step : Step) (es : step ≡ step_from s (start + step_bytes * i)) where
      step_is : step_at (steps_by s k) i ≡ step
      step_is = tabulate_at (λ j. step_from s (start + step_bytes * j)) no_step k.rows i listed ∙ sym es

      pub number_small : step.number < k.implications
      unfolding step_in_range
      number_small =
          ltb→lt step.number k.implications
          (T_left (ltb step.number k.implications) (set_in_range atoms step.assumed)
          (subst (λ z. T (step_in_range atoms k.implications z)) step_is
          (All_at (λ z. T (step_in_range atoms k.implications z)) (steps_by s k) no_step steps_ranged i (omega (arith, steps_length s start k.rows)))))

      -- The implication, as it is read.
      module _ (x : Implication) (ex : x ≡ implication_from s (implication_start k.flats + implication_bytes * step.number)) where
        implication_is : implication_at (problem_by s k).implications (step_at (steps_by s k) i).number ≡ x
        unfolding problem_in
        implication_is =
            ap (λ (z : Step). implication_at (problem_by s k).implications z.number) step_is
            ∙ tabulate_at (λ j. implication_from s (implication_start k.flats + implication_bytes * j)) no_implication k.implications step.number number_small
            ∙ sym ex

        x_below : ImplicationBelow limit x
        x_below = implication_below limit x (subst (λ j. T (implication_in_range limit j)) (sym ex) (implication_ranged s k ranged step.number number_small))

        module _ (left right : List ℕ) (loaded : clauses left right (k.flats + i) ≡ known_by s k i) where
          pub step_judged : (n : ℕ) → n ≡ atoms
              → is_none (ask (min n limit) (clauses left right (k.flats + i)) step.assumed x.b) ≡ step_proves (problem_by s k) (steps_by s k) i
          unfolding step_proves problem_in
          step_judged n en =
              rw (implication_is, step_is, loaded) (ap (λ (w : ℕ). is_none (ask w (known_by s k i) step.assumed x.b)) (n_small n en))

          pub step_loaded : (a c : ℕ) (left2 right2 : List ℕ) → a ≡ single_or_empty x.a → c ≡ single_or_empty x.c
              → k.flats + i < row_count left → k.flats + i < row_count right
              → (l : ℕ) → l ≡ minus step.assumed a → RowSet left (k.flats + i) l left2 → RowSet right (k.flats + i) c right2
              → clauses left2 right2 (k.flats + (i + 1)) ≡ known_by s k (i + 1)
          unfolding clause_of learned
          step_loaded a c left2 right2 ea ec hl hr l el setl setr =
              let last : k.flats + (i + 1) ≡ k.flats + i + 1 = omega arith in
              ap (clauses left2 right2) last
              ∙ clauses_more left right left2 right2 (k.flats + i) l c setl setr hl hr
              ∙ ap₂ (λ (q : List Flat) (f : Flat). q ++ (f ∷ [])) loaded clause_is
              ∙ sym (known_snoc (problem_by s k).flats (problem_by s k).implications (take i (steps_by s k)) (step_at (steps_by s k) i))
              ∙ ap (known (problem_by s k).flats (problem_by s k).implications)
              (sym (take-suc (steps_by s k) i no_step (omega (arith, steps_length s start k.rows))) ∙ ap (λ (z : ℕ). take z (steps_by s k)) (sym (add-one i)))
            where
              clause_is : ◌≡◌ {A = Flat} (record { left = l; right = c }) (clause_of (problem_by s k).implications (step_at (steps_by s k) i))
              clause_is =
                  ap₂ {C = Flat} (λ (y z : ℕ). record { left = y; right = z })
                  (el ∙ ap (minus step.assumed) (ea ∙ single_bits x.a x_below.a)) (ec ∙ single_one limit x.c (omega arith) x_below.c)
                  ∙ sym (ap₂ learned implication_is (ap (λ (z : Step). z.assumed) step_is))

    -- After all steps: the goal.
    pub goal_judged : (i : ℕ) → i ≡ k.rows → (left right : List ℕ) → clauses left right (k.flats + i) ≡ known_by s k i
        → (n g empty : ℕ) → n ≡ atoms → g ≡ get_or s (goal_start k.flats k.implications) 0 → empty ≡ 0
        → is_none (ask (min n limit) (clauses left right (k.flats + k.rows)) empty g) ≡ goal_proved (problem_by s k) (steps_by s k)
    unfolding goal_proved problem_in
    goal_judged i e left right loaded n g empty en eg ez =
        let all_known = known (problem_by s k).flats (problem_by s k).implications (steps_by s k) in
        let known_all : clauses left right (k.flats + k.rows) ≡ all_known =
        subst (λ (z : ℕ). clauses left right (k.flats + z) ≡ known_by s k z) e loaded
        ∙ ap (known (problem_by s k).flats (problem_by s k).implications) (take_all k.rows (steps_by s k) (omega (arith, steps_length s start k.rows))) in
        rw (known_all, ez, n_small n en) (ap (λ (z : ℕ). is_none (ask atoms all_known 0 z)) eg)

-- ---- the steps in order

-- After the first i steps, which are right: the tables hold their clauses, from which the rows kept follow.
pub record Progress (s : List ℕ) (k : Contents) (i : ℕ) (left0 right0 left right kept0 kept : List ℕ) (learned : ℕ) : Type 0 where
  pub few : i ≤ k.rows
  pub size_left : length left ≡ length left0
  pub size_right : length right ≡ length right0
  pub size_kept : length kept ≡ length kept0
  pub loaded : clauses left right (k.flats + i) ≡ known_by s k i
  pub follow : Kept left right (k.flats + i) kept learned
  pub proved : (j : ℕ) → j < i → step_proves (problem_by s k) (steps_by s k) j ≡ true

module _ (s : List ℕ) (k : Contents) (left0 right0 kept0 : List ℕ) (ready : StepsReady s k left0 right0) where
  pub progress_none : Progress s k 0 left0 right0 left0 right0 kept0 kept0 0
  unfolding known problem_in
  progress_none = record {
    few = omega arith;
    size_left = refl;
    size_right = refl;
    size_kept = refl;
    loaded = ap (clauses left0 right0) {y = k.flats} (omega arith) ∙ ready.loaded ∙ sym (append-nil (flats_in s k.flats));
    follow = kept_none _ _ _ _;
    proved = λ j l. absurd (omega arith);
  }

  module _ (i : ℕ) (left right kept : List ℕ) (learned : ℕ) (progress : Progress s k i left0 right0 left right kept0 kept learned) where
    pub progress_ready : i < k.rows → StepReady s k i left right kept learned
    progress_ready l = record {
      ranged = ready.ranged;
      derives = ready.derives;
      listed = l;
      room_left = omega (arith, ready.room_left, same_rows left left0 progress.size_left);
      room_right = omega (arith, ready.room_right, same_rows right right0 progress.size_right);
      loaded = progress.loaded;
      follow = progress.follow;
    }

    pub progress_next : i < k.rows → (left2 right2 kept2 : List ℕ) → length kept2 ≡ length kept → (r : Proof) → StepJudged s k i left right left2 right2 kept2 r → r.proved ≡ true
        → Progress s k (i + 1) left0 right0 left2 right2 kept0 kept2 r.kept
    progress_next l left2 right2 kept2 size r step e = record {
      few = omega arith;
      size_left = step.size_left ∙ progress.size_left;
      size_right = step.size_right ∙ progress.size_right;
      size_kept = size ∙ progress.size_kept;
      loaded = step.loaded;
      follow = step.follow;
      proved = below_more (λ j. step_proves (problem_by s k) (steps_by s k) j ≡ true) i progress.proved (sym step.judged ∙ e);
    }
