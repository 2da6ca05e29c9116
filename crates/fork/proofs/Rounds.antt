-- Every assignment, 17 at a time: what holds before each round, and what is answered.
use mathlib.Core.Bool.{true, true≢false}
use mathlib.Core.List.{List}
use mathlib.Core.Path.{◌≡◌, refl, sym, ap, ◌∙◌, subst}
use Prim.Native.Nat.{ℕ, zero, suc, min, ◌+◌, ◌*◌, ◌-◌, ◌/◌, ◌%◌, ◌^◌, ◌≤◌, ◌<◌}
use native.Mathlib.Decide.{dec_lt}
use native.Mathlib.Nat.{pow-suc, pow-le-pow_right}
use native.Mathlib.Omega.{arith}
use lib.Dec.{eqb}
use Rattle.std.proofs.lemmas.Grind.{div_ceil_times}
use Rattle.std.specs.Prelude.{Some, None}
use Rattle.ipl.proofs.First.{first_none, first_at_lem}
use Rattle.syntax.specs.Nodes.{Entry}
use Rattle.syntax.specs.Letters.{letter_count}
use Rattle.fork.specs.Fork.{whole, set_count}
use Rattle.fork.specs.Screen.{most_letters, assignment, passes, falls, falls_at}
use Rattle.fork.specs.Cells.{value_at, screened_at, FirstIn}
use Rattle.fork.specs.Answer.{sets_of, told_of}
use Rattle.fork.specs.declared.LetterSets.{LetterSets}
use Rattle.fork.specs.declared.Screened.TheVariants.{Passes, Falls}

module _ (T : List Entry) (root : ℕ) where
  -- Every assignment before this number gives the whole, and so many are whole rounds.
  pub record Passed (number : ℕ) : Type 0 where
    pub rounds : ℕ
    pub whole_rounds : number ≡ rounds * set_count
    pub before : (n : ℕ) → n < number → eqb (value_at T n root) whole ≡ true

  -- Without letters there is one assignment.
  one_value : letter_count T ≡ 0 → (m n : ℕ) → value_at T m root ≡ value_at T n root
  unfolding value_at assignment
  one_value none m n = rw none

  pub passed_none : Passed 0
  passed_none = record { rounds = 0; whole_rounds = refl; before = λ n h. absurd (omega arith) }

  module _ (number : ℕ) (p : Passed number) where
    passed_to : (r : ℕ) → ((j : ℕ) → j < r → eqb (value_at T (number + j) root) whole ≡ true) → (n : ℕ) → n < number + r → eqb (value_at T n root) whole ≡ true
    passed_to r before n h = elim (dec_lt n number) [
      | yes l ↦ p.before n l
      | no l ↦ let d : number + (n - number) ≡ n = omega arith in
          subst (λ (n : ℕ). eqb (value_at T n root) whole ≡ true) d (before (n - number) (omega arith))
    ]

    pub passed_more : FirstIn T root number None → Passed (number + set_count)
    passed_more f = record { rounds = p.rounds + 1; whole_rounds = omega (arith, p.whole_rounds); before = passed_to set_count f }

    module _ (r : ℕ) (f : FirstIn T root number (Some r)) where
      alone : letter_count T ≡ 0 → number ≡ 0 → r ≡ 0
      alone none start = elim (dec_lt 0 r) [
        | yes l ↦
            let same = one_value none (number + r) (number + 0) in
            absurd (true≢false (sym (f.before 0 l) ∙ ap (λ (s : ℕ). eqb s whole) (sym same) ∙ f.fails))
        | no l ↦ omega arith
      ]

      below_end : (k : ℕ) → letter_count T ≡ k → number < set_count ^ k → number + r < set_count ^ k
      below_end zero e l = omega (arith, alone e (omega arith))
      below_end (suc k) e l = omega (arith, f.inside, p.whole_rounds, pow-suc set_count k)

      fallen : number < set_count ^ letter_count T → screened_at T root ≡ falls (assignment (letter_count T) (number + r))
      unfolding screened_at
      fallen l =
          ap (falls_at (letter_count T))
          (first_at_lem (λ n. eqb (value_at T n root) whole) (set_count ^ letter_count T) (number + r) (below_end (letter_count T) refl l) (passed_to r f.before) f.fails)

      pub answer_falls : (letters : ℕ) → letters ≡ letter_count T → number < set_count ^ letters → (a : LetterSets) → sets_of a ≡ assignment letters (number + r)
          → told_of (Falls a) ≡ screened_at T root
      answer_falls letters count l a e =
          ap falls (e ∙ ap (λ (k : ℕ). assignment k (number + r)) count) ∙ sym (fallen (subst (λ (k : ℕ). number < set_count ^ k) count l))

  none_fallen : (number : ℕ) → Passed number → set_count ^ letter_count T ≤ number → screened_at T root ≡ passes
  unfolding screened_at
  none_fallen number p h =
      ap (falls_at (letter_count T)) (first_none (λ n. eqb (value_at T n root) whole) (set_count ^ letter_count T) (λ n l. p.before n (omega arith)))

  pub answer_passes : (number : ℕ) → Passed number → (letters : ℕ) → letters ≡ letter_count T → set_count ^ letters ≤ number → told_of Passes ≡ screened_at T root
  answer_passes number p letters count h = sym (none_fallen number p (subst (λ (k : ℕ). set_count ^ k ≤ number) count h))

pub most_assignments : (k : ℕ) → k ≤ most_letters → set_count ^ k ≤ set_count ^ most_letters
most_assignments k h = pow-le-pow_right {n = set_count} (omega arith) h

-- A round of so many assignments is numbered within them, and after the last round all are passed.
module _ (end : ℕ) (rounds : ℕ) (e : rounds ≡ end / set_count + min 1 (end % set_count)) where
  pub round_inside : (k : ℕ) → k < rounds → k * set_count < end
  round_inside k h = let t = div_ceil_times end set_count (omega arith) in omega (arith, t.0, t.1)

  pub rounds_done : (k : ℕ) → rounds ≤ k → end ≤ k * set_count
  rounds_done k h = let t = div_ceil_times end set_count (omega arith) in omega (arith, t.0, t.1)

  pub round_small : (letters : ℕ) → letters ≤ most_letters → end ≡ set_count ^ letters → (k : ℕ) → k < rounds → k * set_count < set_count ^ most_letters
  round_small letters few is k h = omega (arith, round_inside k h, is, most_assignments letters few)
