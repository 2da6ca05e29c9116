-- The function `judge` judges by the refusals' lines.
use mathlib.Core.Bool.{true, false, cond, ◌||◌}
use mathlib.Core.List.{List, [], ◌∷◌, map}
use mathlib.Core.Logic.{◌⊎◌, inl, inr}
use mathlib.Core.Option.{Option, none, some}
use mathlib.Core.Path.{◌≡◌, refl, sym, ap, ◌∙◌}
use Prim.Native.Nat.{ℕ, zero, suc, ◌+◌, ◌<◌}
use native.Mathlib.Omega.{arith}
use lib.Dec.{eqb, ltb, T}
use lib.ListN.{length, take}
use borrow.Author.Tests.{eqb-true, eqb-false, ltb-true, ltb-false, lt-ltb, le-ltb}
use Rattle.atoms.proofs.Truth.{by_cond, nor, T_or, true_T, T_true}
use Rattle.syntax.specs.Class.{class_of}
use Rattle.ipl.specs.Formula.{Formula}
use Rattle.syntax.specs.Reading.{reading}
use Rattle.syntax.specs.Nodes.{nodes, named}
use Rattle.syntax.specs.Refusal.{most_bytes, BadLength, count, most_open, most_names, TooDeep, Longest, line_1, line_2, line_3, line_4}
use Rattle.syntax.specs.Scan.{start, fitting}
use Rattle.syntax.specs.Judge.{Judgement, refused, accepted, is_byte, deep_after, judge_reading, judge, Right}
use Rattle.syntax.proofs.Unique.{reading_of, reading_reads}
use Rattle.syntax.proofs.Beginning.{longest}

count_first : (x b : ℕ) (s : List ℕ) → count x (b ∷ s) ≡ is_byte x b + count x s
unfolding count
count_first x b s = by_cond (λ (n : ℕ). cond (eqb b x) (suc (count x s)) (count x s) ≡ n + count x s) (eqb b x) 1 0 (λ e. rw e (omega arith)) (λ e. rw e (omega arith))

-- A beginning is too deep, after the parentheses already counted.
abbrev DeepAfter : ℕ → ℕ → List ℕ → ℕ → Type 0
DeepAfter o c s k = most_open + (c + count 41 (take k s)) < o + count 40 (take k s)

deep_found : (s : List ℕ) (o c : ℕ) → T (deep_after o c s) → (k : ℕ) × DeepAfter o c s k
unfolding deep_after count
deep_found [] o c t = absurd t
deep_found (b ∷ s) o c t = go (T_or (ltb (most_open + (c + is_byte 41 b)) (o + is_byte 40 b)) _ t) (λ h. deep_found s (o + is_byte 40 b) (c + is_byte 41 b) h)
  where
    go : T (ltb (most_open + (c + is_byte 41 b)) (o + is_byte 40 b)) ⊎ T (deep_after (o + is_byte 40 b) (c + is_byte 41 b) s)
        → (T (deep_after (o + is_byte 40 b) (c + is_byte 41 b) s) → (k : ℕ) × DeepAfter (o + is_byte 40 b) (c + is_byte 41 b) s k) → (k : ℕ) × DeepAfter o c (b ∷ s) k
    go (inl h) ih = (1, omega (arith, ltb-true (most_open + (c + is_byte 41 b)) (o + is_byte 40 b) (T_true _ h), count_first 40 b [], count_first 41 b []))
    go (inr h) ih = let x = ih h in (suc x.0, omega (arith, x.1, count_first 40 b (take x.0 s), count_first 41 b (take x.0 s)))

deep_none : (s : List ℕ) (o c : ℕ) → (most_open + c < o → ⊥) → deep_after o c s ≡ false → (k : ℕ) → DeepAfter o c s k → ⊥
unfolding deep_after count
deep_none s o c n e zero d = n (omega arith)
deep_none [] o c n e (suc k) d = n (omega arith)
deep_none (b ∷ s) o c n e (suc k) d =
    let x = nor (ltb (most_open + (c + is_byte 41 b)) (o + is_byte 40 b)) _ e in
    deep_none s (o + is_byte 40 b) (c + is_byte 41 b) (λ h. omega (arith, ltb-false (most_open + (c + is_byte 41 b)) (o + is_byte 40 b) x.0)) x.1 k
    (omega (arith, count_first 40 b (take k s), count_first 41 b (take k s)))

module _ (s : List ℕ) where
  deep : deep_after 0 0 s ≡ true → TooDeep s
  deep e = let x = deep_found s 0 0 (true_T e) in (x.0, omega (arith, x.1))

  not_deep : deep_after 0 0 s ≡ false → TooDeep s → ⊥
  not_deep e (k, d) = deep_none s 0 0 (λ h. omega arith) e k (omega arith)

  bad_length : eqb (length s) 0 || ltb most_bytes (length s) ≡ true → BadLength s
  bad_length e = go (T_or (eqb (length s) 0) (ltb most_bytes (length s)) (true_T e))
    where
      go : T (eqb (length s) 0) ⊎ T (ltb most_bytes (length s)) → BadLength s
      go (inl h) = inl (eqb-true _ _ (T_true _ h))
      go (inr h) = inr (ltb-true _ _ (T_true _ h))

  good_length : eqb (length s) 0 || ltb most_bytes (length s) ≡ false → BadLength s → ⊥
  good_length e b = go (nor (eqb (length s) 0) (ltb most_bytes (length s)) e) b
    where
      go : (eqb (length s) 0 ≡ false) × (ltb most_bytes (length s) ≡ false) → BadLength s → ⊥
      go (x, y) (inl h) = eqb-false _ _ x h
      go (x, y) (inr h) = omega (arith, ltb-false most_bytes (length s) y)

  module _ (l : BadLength s → ⊥) (d : TooDeep s → ⊥) where
    formula_right : (o : Option Formula) → reading s ≡ o → Right s (judge_reading (fitting start (map class_of s)) o)
    formula_right none e = line_3 l d (λ f. no_reading (sym e ∙ reading_of s f.0 f.1)) (longest s)
      where
        no_reading : {t : Formula} → none ≡ some t → ⊥
        no_reading q = let z : ◌≡◌ {A = ℕ} 0 1 = cc in omega arith
    formula_right (some t) e = by_cond (Right s) (ltb most_names (named (nodes t).table)) (refused 4 0) (accepted t)
        (λ h. line_4 l d (reading_reads s t e) (ltb-true _ _ h))
        (λ h. record { length_right = l; depth_right = d; reads = reading_reads s t e; size_right = λ z. omega (arith, ltb-false most_names (named (nodes t).table) h) })

  -- For every text.
  pub judge_right : Right s (judge s)
  unfolding judge
  judge_right =
      by_cond (Right s) (eqb (length s) 0 || ltb most_bytes (length s)) _ _ (λ e. line_1 (bad_length e))
      (λ e. by_cond (Right s) (deep_after 0 0 s) _ _ (λ f. line_2 (good_length e) (deep f)) (λ f. formula_right (good_length e) (not_deep f) (reading s) refl))

  -- ---- and it is the only right judgement

  longest_one : (a b : ℕ) → Longest s a → Longest s b → a ≡ b
  longest_one a b x y = omega (arith, x.last b y.within y.begins, y.last a x.within x.begins)

  judge_reading_lem : (BadLength s → ⊥) → (TooDeep s → ⊥) → (o : Option Formula) → reading s ≡ o → judge s ≡ judge_reading (fitting start (map class_of s)) o
  unfolding judge
  judge_reading_lem l d o e =
      by_cond (λ (j : Judgement). j ≡ judge_reading (fitting start (map class_of s)) o) (eqb (length s) 0 || ltb most_bytes (length s)) _ _ (λ t. absurd (l (bad_length t)))
      (λ t. by_cond (λ (j : Judgement). j ≡ judge_reading (fitting start (map class_of s)) o) (deep_after 0 0 s) _ _ (λ f. absurd (d (deep f))) (λ f. rw e))

  not_read : ((t : Formula) → reading s ≡ some t → ⊥) → reading s ≡ none
  not_read n = go (reading s) refl
    where
      go : (o : Option Formula) → reading s ≡ o → o ≡ none
      go none e = refl
      go (some t) e = absurd (n t e)

  pub judge_only : (j : Judgement) → Right s j → judge s ≡ j
  unfolding judge
  judge_only (refused number place) (line_1 b) =
      by_cond (λ (j : Judgement). j ≡ refused 1 0) (eqb (length s) 0 || ltb most_bytes (length s)) _ _ (λ t. refl) (λ t. absurd (good_length t b))
  judge_only (refused number place) (line_2 l d) =
      by_cond (λ (j : Judgement). j ≡ refused 2 0) (eqb (length s) 0 || ltb most_bytes (length s)) _ _ (λ t. absurd (l (bad_length t)))
      (λ t. by_cond (λ (j : Judgement). j ≡ refused 2 0) (deep_after 0 0 s) _ _ (λ f. refl) (λ f. absurd (not_deep f d)))
  judge_only (refused number place) (line_3 l d n x) =
      judge_reading_lem l d none (not_read (λ t e. n (t, reading_reads s t e))) ∙ ap (refused 3) (longest_one _ _ (longest s) x)
  judge_only (refused number place) (line_4 {f = t} l d r z) =
      judge_reading_lem l d (some t) (reading_of s t r) ∙ rw (lt-ltb most_names (named (nodes t).table) z)
  judge_only (accepted t) a =
      judge_reading_lem a.length_right a.depth_right (some t) (reading_of s t a.reads) ∙ rw (le-ltb most_names (named (nodes t).table) (omega (arith, a.size_right)))
