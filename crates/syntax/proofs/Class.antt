-- Laws of classes: those of the code, a byte's class, what spaces leave, and the fold over a text.
use mathlib.Core.Bool.{true, cond, ◌&&◌}
use mathlib.Core.List.{List, [], ◌∷◌, ◌++◌, map}
use mathlib.Core.Path.{◌≡◌, refl, sym, ◌∙◌, ap}
use Prim.Native.Nat.{ℕ, ◌+◌, ◌-◌, ◌≤◌, ◌<◌}
use native.Mathlib.Numerals.{add-one}
use lib.Dec.{eqb, leb, leb→le}
use lib.ListN.{length, get_or, drop, drop_of_length-le}
use lib.Seq.{drop-cons}
use borrow.Author.Tests.{eq-eqb, eqb-false, eqb-true, le-leb, ne_eqb}
use Rattle.atoms.proofs.Truth.{by_cond, T_left, T_right, true_T}
use Rattle.syntax.specs.Class.{Class, foreign, closing, ampersand, bar, greater, equals, blank, tilde, opening, nought, lowercase}
use Rattle.syntax.specs.Class.{class_of, tokens, after}
use Rattle.syntax.specs.Code.{decode}
use Rattle.syntax.specs.Descent.{rest}
use Rattle.syntax.specs.declared.bytes.Class as code
use Rattle.syntax.specs.declared.bytes.Class.TheVariants as class

-- What the test of a letter says.
letter_bounds : (b : ℕ) → leb 97 b && leb b 122 ≡ true → (97 ≤ b) × (b ≤ 122)
letter_bounds b e = (leb→le 97 b (T_left (leb 97 b) (leb b 122) (true_T e)), leb→le b 122 (T_right (leb 97 b) (leb b 122) (true_T e)))

-- What holds of each class, given its bytes, holds of the class of every byte.
module _ (P : Class → Type 0) (n : ℕ) where
  number_or : (m : ℕ) (c d : Class) → (n ≡ m → P c) → ((n ≡ m → ⊥) → P d) → P (cond (eqb n m) c d)
  number_or m c d f g = by_cond P (eqb n m) c d (λ e. f (eqb-true n m e)) (λ e. g (eqb-false n m e))

  pub by_byte :
      (n ≡ 126 → P tilde) → (n ≡ 38 → P ampersand) → (n ≡ 124 → P bar) → (n ≡ 62 → P greater) → (n ≡ 61 → P equals)
      → (n ≡ 48 → P nought) → (n ≡ 40 → P opening) → (n ≡ 41 → P closing) → (n ≡ 32 → P blank)
      → (97 ≤ n → n ≤ 122 → P (lowercase (n - 97))) → P foreign → P (class_of n)
  unfolding class_of
  by_byte not and or implies equal falsum opens shuts space l p =
      number_or 126 _ _ not (λ _. number_or 38 _ _ and (λ _. number_or 124 _ _ or (λ _. number_or 62 _ _ implies (λ _.
      number_or 61 _ _ equal (λ _. number_or 48 _ _ falsum (λ _. number_or 40 _ _ opens (λ _. number_or 41 _ _ shuts (λ _.
      number_or 32 _ _ space (λ _. by_cond P (leb 97 n && leb n 122) _ _ (λ e. l (letter_bounds n e).0 (letter_bounds n e).1) (λ e. p))))))))))

-- Two classes of the code are the same where they stand for one class.
encode : Class → code.Class
encode foreign = class.Foreign
encode closing = class.Closing
encode ampersand = class.And
encode bar = class.Or
encode greater = class.Implies
encode equals = class.Equals
encode blank = class.Blank
encode tilde = class.Not
encode opening = class.Opening
encode nought = class.Falsum
encode (lowercase l) = class.Letter l

encode_back : (c : code.Class) → encode (decode c) ≡ c
unfolding encode
encode_back class.Foreign = refl
encode_back class.Closing = refl
encode_back class.And = refl
encode_back class.Or = refl
encode_back class.Implies = refl
encode_back class.Equals = refl
encode_back class.Blank = refl
encode_back class.Not = refl
encode_back class.Opening = refl
encode_back class.Falsum = refl
encode_back (class.Letter l) = refl

pub same_class : (c d : code.Class) → decode c ≡ decode d → c ≡ d
same_class c d e = sym (encode_back c) ∙ ap encode e ∙ encode_back d

-- The bytes of a space and of `(`.
pub blank_byte : (b : ℕ) → class_of b ≡ blank → b ≡ 32
blank_byte b =
    by_byte (λ c. c ≡ blank → b ≡ 32) b (λ _ (e : tilde ≡ blank). cc) (λ _ (e : ampersand ≡ blank). cc) (λ _ (e : bar ≡ blank). cc) (λ _ (e : greater ≡ blank). cc) (λ _ (e : equals ≡ blank). cc)
    (λ _ (e : nought ≡ blank). cc) (λ _ (e : opening ≡ blank). cc) (λ _ (e : closing ≡ blank). cc) (λ h _. h) (λ _ _ (e : lowercase (b - 97) ≡ blank). cc) (λ (e : foreign ≡ blank). cc)

pub opening_byte : (b : ℕ) → class_of b ≡ opening → b ≡ 40
opening_byte b =
    by_byte (λ c. c ≡ opening → b ≡ 40) b (λ _ (e : tilde ≡ opening). cc) (λ _ (e : ampersand ≡ opening). cc) (λ _ (e : bar ≡ opening). cc) (λ _ (e : greater ≡ opening). cc) (λ _ (e : equals ≡ opening). cc)
    (λ _ (e : nought ≡ opening). cc) (λ h _. h) (λ _ (e : closing ≡ opening). cc) (λ _ (e : blank ≡ opening). cc) (λ _ _ (e : lowercase (b - 97) ≡ opening). cc) (λ (e : foreign ≡ opening). cc)

-- A byte that is no sign: its class is a letter's or the foreign one.
abbrev NoSign : ℕ → Type 0
NoSign b =
    (b ≡ 126 → ⊥) × (b ≡ 38 → ⊥) × (b ≡ 124 → ⊥) × (b ≡ 62 → ⊥) × (b ≡ 61 → ⊥) × (b ≡ 48 → ⊥) × (b ≡ 40 → ⊥) × (b ≡ 41 → ⊥) × (b ≡ 32 → ⊥)

module _ (b : ℕ) (none : NoSign b) where
  letter_or_foreign : class_of b ≡ cond (leb 97 b && leb b 122) (lowercase (b - 97)) foreign
  unfolding class_of
  letter_or_foreign =
      let (not, and, or, implies, equal, falsum, opens, shuts, space) = none in
      rw (
        ne_eqb b 126 not,
        ne_eqb b 38 and,
        ne_eqb b 124 or,
        ne_eqb b 62 implies,
        ne_eqb b 61 equal,
        ne_eqb b 48 falsum,
        ne_eqb b 40 opens,
        ne_eqb b 41 shuts,
        ne_eqb b 32 space,
      )

  pub letter_byte : 97 ≤ b → b ≤ 122 → lowercase (b - 97) ≡ class_of b
  letter_byte low high = rw (letter_or_foreign, le-leb 97 b low, le-leb b 122 high)

  pub foreign_byte : ((97 ≤ b) × (b ≤ 122) → ⊥) → foreign ≡ class_of b
  foreign_byte no-letter = rw letter_or_foreign (by_cond (λ c. foreign ≡ c) (leb 97 b && leb b 122) _ _ (λ e. absurd (no-letter (letter_bounds b e))) (λ _. refl))

-- The tokens from a position on.
module _ (s : List ℕ) (i : ℕ) where
  pub rest_end : length s ≤ i → rest s i ≡ []
  unfolding tokens
  rest_end h = rw (drop_of_length-le s h)

  pub rest_blank : i < length s → get_or s i 0 ≡ 32 → rest s i ≡ rest s (i + 1)
  unfolding tokens
  rest_blank h e = rw (add-one, drop-cons s i 0, eq-eqb (get_or s i 0) 32 e)

  pub rest_token : i < length s → (get_or s i 0 ≡ 32 → ⊥) → rest s i ≡ class_of (get_or s i 0) ∷ rest s (i + 1)
  unfolding tokens
  rest_token h n = rw (add-one, drop-cons s i 0, ne_eqb (get_or s i 0) 32 n)

pub tokens_append : (u v : List ℕ) → tokens (u ++ v) ≡ tokens u ++ tokens v
unfolding tokens
tokens_append [] v = refl
tokens_append (b ∷ u) v = by_cond (λ (x : List Class). x ≡ cond (eqb b 32) (tokens u) (class_of b ∷ tokens u) ++ tokens v) (eqb b 32) (tokens (u ++ v)) (class_of b ∷ tokens (u ++ v))
    (λ e. rw e (tokens_append u v)) (λ e. rw e (ap (λ (x : List Class). class_of b ∷ x) (tokens_append u v)))

-- The fold.
module _ {A : Type 0} (f : A → Class → A) where
  pub after_append : (a : A) (u v : List Class) → after f a (u ++ v) ≡ after f (after f a u) v
  unfolding after
  after_append a [] v = refl
  after_append a (c ∷ u) v = after_append (f a c) u v

  -- What a space does not change sees the tokens alone.
  pub after_tokens : ((a : A) → f a blank ≡ a) → (a : A) (s : List ℕ) → after f a (map class_of s) ≡ after f a (tokens s)
  unfolding after tokens class_of
  after_tokens still a [] = refl
  after_tokens still a (b ∷ s) = by_cond (λ (x : List Class). after f (f a (class_of b)) (map class_of s) ≡ after f a x) (eqb b 32) (tokens s) (class_of b ∷ tokens s)
      (λ e. rw (eqb-true b 32 e) (ap (λ (x : A). after f x (map class_of s)) (still a) ∙ after_tokens still a s))
      (λ e. after_tokens still (f a (class_of b)) s)

  pub after_byte : (a : A) (s : List ℕ) (i : ℕ) → i < length s → after f a (map class_of (drop i s)) ≡ after f (f a (class_of (get_or s i 0))) (map class_of (drop (i + 1) s))
  unfolding after
  after_byte a s i h = rw (add-one, drop-cons s i 0)

  pub after_end : (a : A) (s : List ℕ) (i : ℕ) → length s ≤ i → after f a (map class_of (drop i s)) ≡ a
  unfolding after
  after_end a s i h = rw (drop_of_length-le s h)
