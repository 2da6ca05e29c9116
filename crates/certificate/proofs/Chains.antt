-- A test of every number below a bound, as a chain makes it, is a test of every row.
use mathlib.Core.Bool.{Bool, true, false, ◌&&◌, ◌||◌}
use mathlib.Core.List.{List, [], ◌∷◌, ◌++◌}
use mathlib.Core.Path.{◌≡◌, refl, sym, ap, ap₂, ◌∙◌}
use Prim.Native.Nat.{ℕ, zero, suc}
use native.Mathlib.Numerals.{add-one}
use native.Mathlib.Omega.{arith}
use Rattle.std.specs.List.{range_with_len, list_all, list_any}
use Rattle.std.proofs.Common.{map}
use Rattle.std.proofs.lemmas.List.FromFn.{map-range_with_len_more}
use Rattle.std.proofs.lemmas.List.Folds.{list_all-append, list_all-map, list_any-append}
use Rattle.ipl.specs.Lists.{all, any, tabulate}
use Rattle.ipl.proofs.Lists.{all_snoc, any_snoc}

and_true : (b : Bool) → (b && true) ≡ b
and_true true = refl
and_true false = refl

or_false : (b : Bool) → (b || false) ≡ b
or_false true = refl
or_false false = refl

list_any-map : {A B : Type 0} (p : A → Bool) (f : B → A) (xs : List B) → list_any p (map f xs) ≡ list_any (λ y. p (f y)) xs
list_any-map p f [] = refl
list_any-map p f (x ∷ xs) = ap (λ b. p (f x) || b) (list_any-map p f xs)

-- ---- a conjunction, test by test

pub and_then : (a b : Bool) → a ≡ true → b ≡ (a && b)
and_then a b e = rw e refl

pub and_else : (a b : Bool) → a ≡ false → a ≡ (a && b)
and_else a b e = rw e refl

-- ---- rows

module _ {A : Type 0} (p : A → Bool) (f : ℕ → A) where
  snoc : (n : ℕ) → map f (range_with_len 0 (suc n)) ≡ map f (range_with_len 0 n) ++ (f n ∷ [])
  snoc n = ap (λ (k : ℕ). map f (range_with_len 0 k)) (sym (add-one n)) ∙ map-range_with_len_more f 0 n n (omega arith)

  pub all_rows : (n : ℕ) → list_all (λ i. p (f i)) (range_with_len 0 n) ≡ all p (tabulate f n)
  unfolding all tabulate
  all_rows zero = refl
  all_rows (suc n) =
      sym (list_all-map p f (range_with_len 0 (suc n))) ∙ ap (list_all p) (snoc n) ∙ list_all-append p (map f (range_with_len 0 n)) (f n ∷ [])
      ∙ ap₂ (λ x y. x && y) (list_all-map p f (range_with_len 0 n) ∙ all_rows n) (and_true (p (f n)))
      ∙ sym (all_snoc p (tabulate f n) (f n))

  pub any_rows : (n : ℕ) → list_any (λ i. p (f i)) (range_with_len 0 n) ≡ any p (tabulate f n)
  unfolding any tabulate
  any_rows zero = refl
  any_rows (suc n) =
      sym (list_any-map p f (range_with_len 0 (suc n))) ∙ ap (list_any p) (snoc n) ∙ list_any-append p (map f (range_with_len 0 n)) (f n ∷ [])
      ∙ ap₂ (λ x y. x || y) (list_any-map p f (range_with_len 0 n) ∙ any_rows n) (or_false (p (f n)))
      ∙ sym (any_snoc p (tabulate f n) (f n))
