-- The next token of a text, and what it says of the tokens from a position on.
use mathlib.Core.List.{List, [], ◌∷◌}
use mathlib.Core.Path.{◌≡◌, sym, ◌∙◌, ap}
use Prim.Native.Nat.{ℕ, ◌+◌, ◌≤◌, ◌<◌}
use native.Mathlib.Omega.{arith}
use lib.ListN.{length, get_or}
use Rattle.syntax.specs.Class.{Class, foreign, class_of}
use Rattle.syntax.specs.Code.{decode}
use Rattle.syntax.specs.Descent.{rest, head, tail, PastSpaces, NextToken, NotNext}
use Rattle.syntax.specs.declared.bytes.Class as code
use Rattle.syntax.specs.declared.bytes.Token.{Token}
use Rattle.syntax.proofs.Class.{rest_end, rest_token}

module _ (s : List ℕ) (at i : ℕ) (k : PastSpaces s at i) where
  pub token_here : i < length s → rest s at ≡ class_of (get_or s i 0) ∷ rest s (i + 1)
  token_here w = sym k.same ∙ rest_token s i w (k.no_space w)

  pub no_token : length s ≤ i → rest s at ≡ []
  no_token w = sym k.same ∙ rest_end s i w

  pub token_found : (c : code.Class) → i < length s → decode c ≡ class_of (get_or s i 0) → NextToken s at (record { class = c; next = i + 1 })
  token_found c w e =
      let r = token_here w in
      record { class_is = e ∙ sym (ap head r); left = sym (ap tail r); onward = omega (arith, k.forward); forward = λ z. omega (arith, k.forward); inside = omega arith }

  pub token_none : (c : code.Class) → decode c ≡ foreign → length s ≤ i → NextToken s at (record { class = c; next = i })
  token_none c e w =
      let r = no_token w in
      record { class_is = e ∙ sym (ap head r); left = rest_end s i w ∙ sym (ap tail r); onward = k.forward; forward = λ z. absurd (z e); inside = k.inside }

  pub other_here : (c : Class) → i < length s → (class_of (get_or s i 0) ≡ c → ⊥) → NotNext c (rest s at)
  other_here c w n m e = n (ap head (sym (token_here w) ∙ e))

  pub none_here : (c : Class) → length s ≤ i → NotNext c (rest s at)
  none_here c w m e = let r = no_token w in cc

-- A token is the first of the list.
pub token_is : (s : List ℕ) (at : ℕ) (t : Token) → NextToken s at t → (c : Class) (l : List Class) → rest s at ≡ c ∷ l → (decode t.class ≡ c) × (rest s t.next ≡ l)
token_is s at t k c l e = (k.class_is ∙ ap head e, k.left ∙ ap tail e)
