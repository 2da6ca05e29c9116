-- A claim has no wrong place exactly if it is right by the published rules; a wrong place is the first.
use mathlib.Core.Bool.{Bool, true, false, not, ◌&&◌, cond, true≢false}
use mathlib.Core.List.{List, [], ◌∷◌, ◌++◌, append_assoc}
use mathlib.Core.Logic.{◌↔◌}
use mathlib.Core.Option.{Option, none, some, or_else}
use mathlib.Core.Path.{◌≡◌, refl, sym, ap, ◌∙◌, subst}
use Prim.Native.Nat.{ℕ, zero, suc, ◌^◌, ◌≤◌, ◌<◌, zero-le, suc-le-suc}
use native.Mathlib.Decide.{dec_lt}
use native.Mathlib.Nat.{not-suc-le-zero, le_of_suc-le-suc}
use native.Mathlib.Omega.{arith}
use lib.Dec.{T, T_not, eqb, ltb, eqb→eq, ltb→lt}
use lib.ListN.{length, get_or, take, length-append, length-take}
use lib.Seq.{get_or-take, take_at, get_or_at}
use borrow.Author.Tests.{eq-eqb, ne_eqb}
use Rattle.atoms.specs.Sets.{has, within}
use Rattle.atoms.proofs.Truth.{T_left, T_right, T_true, T_false, true_T, false_T}
use Rattle.ipl.specs.Lists.{all, any, All, Distinct}
use Rattle.ipl.specs.Clause.{satisfies, realizes}
use Rattle.ipl.specs.Range.{set_in_range}
use Rattle.ipl.specs.Question.{ask}
use Rattle.ipl.specs.Search.{Step, implication_at, known, is_none, step_in_range}
use Rattle.ipl.specs.First.{first_failing, FirstFailing}
use Rattle.ipl.specs.Claim.{StepsRight, Derivation, WorldRight, WorldsRight}
use Rattle.ipl.proofs.First.{FirstSaid, first_none, first_said}
use Rattle.ipl.proofs.Lists.{all_All, All_all, All_at, All_of, any_at, at_any}
use Rattle.certificate.specs.Certificate.{Problem, valid, refuted}
use Rattle.certificate.specs.Judge.{step_proves, goal_proved, world_right, wrong_place}

failing_none : (test : ℕ → Bool) (count : ℕ) → first_failing test count ≡ none → (j : ℕ) → j < count → test j ≡ true
failing_none test count e = subst (FirstSaid test count) e (first_said test count)

-- ---- steps

none_true : (o : Option ℕ) → is_none o ≡ true → o ≡ none
unfolding is_none
none_true none e = refl
none_true (some m) e = absurd (true≢false (sym e))

module _ (p : Problem) where
  abbrev X : ℕ
  X = length p.implications

  -- Step `length P` of P and the steps after it.
  here : (P : List Step) (s : Step) (Q : List Step) → step_proves p (P ++ (s ∷ Q)) (length P)
      ≡ is_none (ask p.n (known p.flats p.implications P) s.assumed (implication_at p.implications s.number).b)
  unfolding step_proves
  here P s Q = rw (take_at P (s ∷ Q) (length P) refl, get_or_at P s Q (record { number = 0; assumed = 0 }) (length P) refl) refl

  step_number : (s : Step) → T (step_in_range p.n X s) → s.number < X
  unfolding step_in_range
  step_number s t = ltb→lt s.number X (T_left (ltb s.number X) (set_in_range p.n s.assumed) t)

  step_below : (s : Step) → T (step_in_range p.n X s) → s.assumed < 2 ^ p.n
  unfolding step_in_range set_in_range
  step_below s t = ltb→lt s.assumed (2 ^ p.n) (T_right (ltb s.number X) (ltb s.assumed (2 ^ p.n)) t)

  proved_right : (P Q : List Step) → All (λ s. T (step_in_range p.n X s)) Q → ((j : ℕ) → length P ≤ j → j < length (P ++ Q) → step_proves p (P ++ Q) j ≡ true)
      → StepsRight p.n p.flats p.implications P Q
  proved_right P [] ranged h = tt
  proved_right P (s ∷ Q) ranged h = (
    record {
      number = step_number s ranged.0;
      below = step_below s ranged.0;
      proves = none_true (ask p.n (known p.flats p.implications P) s.assumed (implication_at p.implications s.number).b)
          (sym (here P s Q) ∙ h (length P) (omega arith) (omega (arith, length-append P (s ∷ Q))));
    },
    proved_right (P ++ (s ∷ [])) Q ranged.1 (λ j l m.
        subst (λ S. step_proves p S j ≡ true) (sym (append_assoc P (s ∷ []) Q))
        (h j (omega (arith, length-append P (s ∷ []))) (subst (λ S. j < length S) (append_assoc P (s ∷ []) Q) m))),
  )

  right_proved : (P Q : List Step) → StepsRight p.n p.flats p.implications P Q → (j : ℕ) → length P ≤ j → j < length (P ++ Q) → step_proves p (P ++ Q) j ≡ true
  unfolding is_none
  right_proved P [] r j l m = absurd (omega (arith, length-append P []))
  right_proved P (s ∷ Q) r j l m = elim (dec_lt (length P) j) [
    | yes b ↦ subst (λ S. step_proves p S j ≡ true) (append_assoc P (s ∷ []) Q)
        (right_proved (P ++ (s ∷ [])) Q r.1 j (omega (arith, length-append P (s ∷ []))) (subst (λ S. j < length S) (sym (append_assoc P (s ∷ []) Q)) m))
    | no b ↦ let e : length P ≡ j = omega arith in
        subst (λ (k : ℕ). step_proves p (P ++ (s ∷ Q)) k ≡ true) e (here P s Q ∙ ap is_none r.0.proves)
  ]

  goal_true : (S : List Step) → goal_proved p S ≡ true → ask p.n (known p.flats p.implications S) 0 p.goal ≡ none
  unfolding goal_proved
  goal_true S e = none_true (ask p.n (known p.flats p.implications S) 0 p.goal) e

  -- What is said of the place of what is wrong in a derivation: the first wrong step, or the number of steps where only the goal fails.
  pub data StepWrong (S : List Step) : ℕ → Type 0 where
    step : {i : ℕ} → FirstFailing (step_proves p S) (length S) i → StepWrong S i
    goal : ((j : ℕ) → j < length S → step_proves p S j ≡ true) → goal_proved p S ≡ false → StepWrong S (length S)

  abbrev StepsSaid : List Step → Option ℕ → Type 0
  StepsSaid S none = ((j : ℕ) → j < length S → step_proves p S j ≡ true) × (goal_proved p S ≡ true)
  StepsSaid S (some i) = StepWrong S i

  steps_said : (S : List Step) → StepsSaid S (wrong_place p (valid S))
  unfolding wrong_place or_else
  steps_said S = go (first_failing (step_proves p S) (length S)) (first_said (step_proves p S) (length S))
    where
      last : FirstSaid (step_proves p S) (length S) none → (b : Bool) → goal_proved p S ≡ b → StepsSaid S (cond b none (some (length S)))
      last h true e = (h, e)
      last h false e = goal h e

      go : (o : Option ℕ) → FirstSaid (step_proves p S) (length S) o → StepsSaid S (or_else o (cond (goal_proved p S) none (some (length S))))
      go none h = last h (goal_proved p S) refl
      go (some i) h = step h

  pub step_first : (S : List Step) (i : ℕ) → wrong_place p (valid S) ≡ some i → StepWrong S i
  step_first S i e = subst (StepsSaid S) e (steps_said S)

  pub derivation_iff : (S : List Step) → All (λ s. T (step_in_range p.n X s)) S → (wrong_place p (valid S) ≡ none) ↔ Derivation p.n p.flats p.implications p.goal S
  unfolding wrong_place or_else goal_proved is_none
  derivation_iff S ranged = (
    λ e. let said = subst (StepsSaid S) e (steps_said S) in
        record { steps = proved_right [] S ranged (λ j l m. said.0 j m); goal = goal_true S said.1 },
    λ d. rw (first_none (step_proves p S) (length S) (λ j l. right_proved [] S d.steps j zero-le l), d.goal) refl,
  )

-- ---- worlds

-- Different at different places.
distinct_of : (l : List ℕ) → ((i j : ℕ) → i < j → j < length l → get_or l i 0 ≡ get_or l j 0 → ⊥) → Distinct l
distinct_of [] h = tt
distinct_of (x ∷ l) h = (
  All_of (λ y. x ≡ y → ⊥) l 0 (λ k b. h 0 (suc k) (suc-le-suc zero-le) (suc-le-suc b)),
  distinct_of l (λ i j b c. h (suc i) (suc j) (suc-le-suc b) (suc-le-suc c)),
)

distinct_at : (l : List ℕ) → Distinct l → (i j : ℕ) → i < j → j < length l → get_or l i 0 ≡ get_or l j 0 → ⊥
distinct_at [] d i j b c = absurd (not-suc-le-zero c)
distinct_at (x ∷ l) d i zero b c = absurd (not-suc-le-zero b)
distinct_at (x ∷ l) d zero (suc j) b c = All_at (λ y. x ≡ y → ⊥) l 0 d.0 j (le_of_suc-le-suc c)
distinct_at (x ∷ l) d (suc i) (suc j) b c = distinct_at l d.1 i j (le_of_suc-le-suc b) (le_of_suc-le-suc c)

module _ (p : Problem) (W : List ℕ) where
  -- World k, part by part.
  record WorldParts (k : ℕ) : Type 0 where
    new : any (eqb (get_or W k 0)) (take k W) ≡ false
    includes : T (within (get_or W 0 0) (get_or W k 0))
    flats : T (all (satisfies (get_or W k 0)) p.flats)
    implications : T (all (realizes W (get_or W k 0)) p.implications)
    goal : T (not (eqb k 0 && has (get_or W k 0) p.goal))

  module _ (k : ℕ) where
    abbrev new_test : Bool
    new_test = not (any (eqb (get_or W k 0)) (take k W))

    abbrev include_test : Bool
    include_test = within (get_or W 0 0) (get_or W k 0)

    abbrev flat_test : Bool
    flat_test = all (satisfies (get_or W k 0)) p.flats

    abbrev implication_test : Bool
    implication_test = all (realizes W (get_or W k 0)) p.implications

    abbrev goal_test : Bool
    goal_test = not (eqb k 0 && has (get_or W k 0) p.goal)

    world_parts : world_right p W k ≡ true → WorldParts k
    unfolding world_right
    world_parts e =
        let t : T (new_test && include_test && flat_test && implication_test && goal_test) = true_T e in
        let upTo4 = T_left (new_test && include_test && flat_test && implication_test) goal_test t in
        let upTo3 = T_left (new_test && include_test && flat_test) implication_test upTo4 in
        let upTo2 = T_left (new_test && include_test) flat_test upTo3 in
        record {
          new = T_false (any (eqb (get_or W k 0)) (take k W)) (T_not (any (eqb (get_or W k 0)) (take k W)) (T_left new_test include_test upTo2));
          includes = T_right new_test include_test upTo2;
          flats = T_right (new_test && include_test) flat_test upTo3;
          implications = T_right (new_test && include_test && flat_test) implication_test upTo4;
          goal = T_right (new_test && include_test && flat_test && implication_test) goal_test t;
        }

    parts_world : WorldParts k → world_right p W k ≡ true
    unfolding world_right
    parts_world w = rw (w.new, T_true include_test w.includes, T_true flat_test w.flats, T_true implication_test w.implications) (T_true goal_test w.goal)

  -- Not listed before: it differs from each world before it.
  new_differs : (k : ℕ) → any (eqb (get_or W k 0)) (take k W) ≡ false → (i : ℕ) → i < k → k < length W → get_or W i 0 ≡ get_or W k 0 → ⊥
  new_differs k e i b c d =
      false_T e (at_any (eqb (get_or W k 0)) (take k W) 0 i (omega (arith, length-take k W))
      (true_T (eq-eqb (get_or W k 0) (get_or (take k W) i 0) (sym d ∙ sym (get_or-take k W i 0 b)))))

  differs_new : (k : ℕ) → k < length W → ((i : ℕ) → i < k → get_or W i 0 ≡ get_or W k 0 → ⊥) → any (eqb (get_or W k 0)) (take k W) ≡ false
  differs_new k c h = T_false (any (eqb (get_or W k 0)) (take k W)) (λ t.
      let r = any_at (eqb (get_or W k 0)) (take k W) 0 t in
      let b : r.0 < k = omega (arith, r.1, length-take k W) in
      h r.0 b (sym (eqb→eq (get_or W k 0) (get_or (take k W) r.0 0) r.2 ∙ get_or-take k W r.0 0 b)))

  pub worlds_iff : 0 < length W → (wrong_place p (refuted W) ≡ none) ↔ WorldsRight p.flats p.implications p.goal W
  unfolding wrong_place
  worlds_iff root = (
    λ e. let part : (k : ℕ) → k < length W → WorldParts k = λ k l. world_parts k (failing_none (world_right p W) (length W) e k l) in
        record {
          distinct = distinct_of W (λ i j b c. new_differs j (part j c).new i b c);
          refuting = record {
            some = root;
            each = All_of (WorldRight p.flats p.implications W) W 0 (λ k l. record {
              includes = (part k l).includes;
              flats = all_All (satisfies (get_or W k 0)) p.flats (part k l).flats;
              implications = all_All (realizes W (get_or W k 0)) p.implications (part k l).implications;
            });
            lacks = (part 0 root).goal;
          };
        },
    λ w. first_none (world_right p W) (length W) (λ k l.
        let one = All_at (WorldRight p.flats p.implications W) W 0 w.refuting.each k l in
        parts_world k (record {
          new = differs_new k l (λ i b. distinct_at W w.distinct i k b l);
          includes = one.includes;
          flats = All_all (satisfies (get_or W k 0)) p.flats one.flats;
          implications = All_all (realizes W (get_or W k 0)) p.implications one.implications;
          goal = later k w.refuting.lacks;
        })),
  )
    where
      later : (k : ℕ) → T (not (has (get_or W 0 0) p.goal)) → T (not (eqb k 0 && has (get_or W k 0) p.goal))
      later zero t = t
      later (suc k) t = subst (λ b. T (not (b && has (get_or W (suc k) 0) p.goal))) (sym (ne_eqb (suc k) 0 (λ e. omega arith))) tt

  -- The place of a wrong world is the first.
  pub world_first : (i : ℕ) → wrong_place p (refuted W) ≡ some i → FirstFailing (world_right p W) (length W) i
  unfolding wrong_place
  world_first i e = subst (FirstSaid (world_right p W) (length W)) e (first_said (world_right p W) (length W))
