-- Laws of verbs: each is its name.
use mathlib.Core.Bool.{Bool, true, false, cond}
use mathlib.Core.List.{List, [], ◌∷◌}
use mathlib.Core.Path.{◌≡◌, refl, ap₂}
use Prim.Native.Nat.{ℕ}
use native.Mathlib.Omega.{arith}
use lib.Dec.{T, eqb, eqb→eq}
use Rattle.atoms.proofs.Truth.{T_left, T_right, T_false, true_T, by_cond}
use Rattle.text.specs.Text.{ascii}
use Rattle.script.specs.Command.{same, verb_of}
use Rattle.script.specs.declared.reading.Verb.{Verb}
use Rattle.script.specs.declared.reading.Verb.TheVariants.{Open, Text, Flat, Implication, Ask, Page, Mark, Return, Length, Sheet, Check, Mean, Screen, Other}

pub same_is : (l m : List ℕ) → T (same l m) → l ≡ m
unfolding same
same_is [] [] t = refl
same_is [] (y ∷ m) t = absurd t
same_is (x ∷ l) [] t = absurd t
same_is (x ∷ l) (y ∷ m) t = ap₂ (λ (a : ℕ) (k : List ℕ). a ∷ k) (eqb→eq x y (T_left (eqb x y) (same l m) t)) (same_is l m (T_right (eqb x y) (same l m) t))

-- What a comparison in code says.
pub unlike : (r : Bool) (l m : List ℕ) → (l ≡ m → r ≡ true) → r ≡ false → same l m ≡ false
unlike r l m f e = T_false (same l m) (λ t. let g : r ≡ true = f (same_is l m t) in let z : ◌≡◌ {A = ℕ} 0 1 = cc in absurd (omega arith))

-- A word with a verb is the verb's name.
abbrev pub Named : List ℕ → Verb → Type 0
Named w Open = w ≡ ascii "open"
Named w Text = w ≡ ascii "text"
Named w Flat = w ≡ ascii "flat"
Named w Implication = w ≡ ascii "implication"
Named w Ask = w ≡ ascii "ask"
Named w Page = w ≡ ascii "page"
Named w Mark = w ≡ ascii "mark"
Named w Return = w ≡ ascii "return"
Named w Length = w ≡ ascii "length"
Named w Sheet = w ≡ ascii "sheet"
Named w Check = w ≡ ascii "check"
Named w Mean = w ≡ ascii "mean"
Named w Screen = w ≡ ascii "screen"
Named w Other = Unit {0}

module _ (w : List ℕ) where
  either : (name : List ℕ) (v u : Verb) → (w ≡ name → Named w v) → Named w u → Named w (cond (same w name) v u)
  either name v u f h = by_cond (Named w) (same w name) v u (λ e. f (same_is w name (true_T e))) (λ _. h)

  pub named : Named w (verb_of w)
  unfolding verb_of
  named =
      either _ _ _ (λ e. e)
      (either _ _ _ (λ e. e)
      (either _ _ _ (λ e. e)
      (either _ _ _ (λ e. e)
      (either _ _ _ (λ e. e)
      (either _ _ _ (λ e. e)
      (either _ _ _ (λ e. e)
      (either _ _ _ (λ e. e) (either _ _ _ (λ e. e) (either _ _ _ (λ e. e) (either _ _ _ (λ e. e) (either _ _ _ (λ e. e) (either _ _ _ (λ e. e) tt))))))))))))

  -- It is none of the names.
  pub no_verb : same w (ascii "open") ≡ false → same w (ascii "text") ≡ false → same w (ascii "flat") ≡ false → same w (ascii "implication") ≡ false
      → same w (ascii "ask") ≡ false → same w (ascii "page") ≡ false → same w (ascii "mark") ≡ false → same w (ascii "return") ≡ false
      → same w (ascii "length") ≡ false → same w (ascii "sheet") ≡ false → same w (ascii "check") ≡ false → same w (ascii "mean") ≡ false
      → same w (ascii "screen") ≡ false → Other ≡ verb_of w
  unfolding verb_of
  no_verb a b c d e f g h i j k l m = rw (a, b, c, d, e, f, g, h, i, j, k, l, m)
