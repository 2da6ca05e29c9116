-- Laws of words and of the spaces before them.
use mathlib.Core.Bool.{Bool, true, false, cond}
use mathlib.Core.List.{List, [], ◌∷◌, ◌++◌}
use mathlib.Core.Logic.{◌⊎◌, inl, inr}
use mathlib.Core.Path.{◌≡◌, refl, sym, ap, ap₂, ◌∙◌, subst}
use Prim.Native.Nat.{ℕ, zero, suc, ◌≤◌, ◌<◌}
use native.Mathlib.Decide.{dec_lt}
use native.Mathlib.Omega.{arith}
use lib.Dec.{eqb}
use lib.ListN.{length, take, drop, replicate, take-append-drop, length-take, length-append}
use lib.Seq.{drop-append_seam}
use borrow.Author.Tests.{eqb-true}
use Rattle.atoms.proofs.Truth.{by_cond}
use Rattle.ipl.specs.Lists.{All}
use Rattle.script.specs.Words.{space, before, split, filled, words_of, unindented}
use Rattle.script.specs.Parts.{index_of, index_after, FirstWord}

-- ---- a word and the words behind it

pub words_unindented : (l : List ℕ) → words_of (unindented l) ≡ words_of l
unfolding words_of split unindented
words_unindented [] = refl
words_unindented (x ∷ l) =
    by_cond (λ (m : List ℕ). words_of m ≡ words_of (x ∷ l)) (eqb x space) (unindented l) (x ∷ l) (λ e. rw e (words_unindented l)) (λ _. refl)

pub no_words : (line : List ℕ) → unindented line ≡ [] → words_of line ≡ []
unfolding words_of split
no_words line e = sym (words_unindented line) ∙ ap words_of e

abbrev behind : List (List ℕ) → List (List ℕ)
behind [] = []
behind (piece ∷ pieces) = pieces

longer_first : (x : ℕ) (pieces : List (List ℕ)) (w : List ℕ) → pieces ≡ w ∷ behind pieces → before x pieces ≡ (x ∷ w) ∷ behind (before x pieces)
longer_first x [] w e = let z : ◌≡◌ {A = ℕ} 0 1 = cc in absurd (omega arith)
longer_first x (p ∷ pieces) w e = ap (λ (v : List ℕ). (x ∷ v) ∷ pieces) (cc)

same_behind : (x : ℕ) (pieces : List (List ℕ)) → behind (before x pieces) ≡ behind pieces
same_behind x [] = refl
same_behind x (p ∷ pieces) = refl

-- The first piece ends at the first byte b, or is the whole.
first_piece : (b : ℕ) (l : List ℕ) → split b l ≡ take (index_of b l) l ∷ behind (split b l)
unfolding split index_of index_after
first_piece b [] = refl
first_piece b (x ∷ l) = go (eqb x b) (first_piece b l)
  where
    go : (t : Bool) → split b l ≡ take (index_of b l) l ∷ behind (split b l)
        → cond t ([] ∷ split b l) (before x (split b l))
        ≡ take (index_after t (index_of b l)) (x ∷ l) ∷ behind (cond t ([] ∷ split b l) (before x (split b l)))
    go true e = refl
    go false e = longer_first x (split b l) (take (index_of b l) l) e

other_pieces : (b : ℕ) (l : List ℕ) → split b (drop (index_of b l) l) ≡ [] ∷ behind (split b l)
unfolding split index_of index_after
other_pieces b [] = refl
other_pieces b (x ∷ l) = go (eqb x b) refl (other_pieces b l)
  where
    go : (t : Bool) → eqb x b ≡ t → split b (drop (index_of b l) l) ≡ [] ∷ behind (split b l)
        → split b (drop (index_after t (index_of b l)) (x ∷ l)) ≡ [] ∷ behind (cond t ([] ∷ split b l) (before x (split b l)))
    go true e h = rw e
    go false e h = h ∙ ap (λ (ps : List (List ℕ)). [] ∷ ps) (sym (same_behind x (split b l)))

filled_first : (w : List ℕ) (pieces : List (List ℕ)) → 0 < length w → filled (w ∷ pieces) ≡ w ∷ filled pieces
filled_first [] pieces h = absurd (omega arith)
filled_first (x ∷ w) pieces h = refl

pub first_word : (l : List ℕ) → 0 < index_of space l → words_of l ≡ take (index_of space l) l ∷ words_of (drop (index_of space l) l)
unfolding words_of index_of
first_word [] h = absurd (omega arith)
first_word (x ∷ l) h =
    let k : ℕ = index_of space (x ∷ l) in
    ap filled (first_piece space (x ∷ l))
    ∙ filled_first (take k (x ∷ l)) (behind (split space (x ∷ l))) (omega (arith, length-take k (x ∷ l)))
    ∙ ap (λ (pieces : List (List ℕ)). take k (x ∷ l) ∷ filled pieces) (sym (other_pieces space (x ∷ l)))

-- Without a space in front, there is a word or nothing.
no_word : (l : List ℕ) → index_of space (unindented l) ≡ 0 → unindented l ≡ []
unfolding unindented index_of index_after
no_word [] = λ _. refl
no_word (x ∷ l) =
    by_cond (λ (m : List ℕ). index_of space m ≡ 0 → m ≡ []) (eqb x space) (unindented l) (x ∷ l)
    (λ _. no_word l)
    (λ d e. let h : suc (index_of space l) ≡ 0 = rw d at e in absurd (omega arith))

-- ---- the code's cut

pub first_split : (line rest word : List ℕ) (end : ℕ) → rest ≡ unindented line → end ≡ index_of space rest → 0 < end → word ≡ take end rest
    → FirstWord line word (drop end rest)
first_split line rest word end u e some w = record {
  words = sym (words_unindented line) ∙ ap words_of (sym u) ∙ first_word rest (omega (arith, e)) ∙ rw (← e, w);
  is = rw (← u, w) (sym (take-append-drop end rest));
}

unindented_short : (l : List ℕ) → length (unindented l) ≤ length l
unfolding unindented
unindented_short [] = omega arith
unindented_short (x ∷ l) =
    by_cond (λ (m : List ℕ). length m ≤ length (x ∷ l)) (eqb x space) (unindented l) (x ∷ l) (λ _. omega (arith, unindented_short l)) (λ _. omega arith)

-- Neither part is longer than the line.
pub word_short : {line word rest : List ℕ} → FirstWord line word rest → (length word ≤ length line) × (length rest ≤ length line)
word_short {line} {word} {rest} f =
    let parts = simp length-append at (ap length f.is) in
    (omega (arith, parts, unindented_short line), omega (arith, parts, unindented_short line))

pub some_word : {line word rest : List ℕ} → FirstWord line word rest → 0 < length (unindented line)
unfolding words_of split
some_word {line} {word} {rest} f = by_line (unindented line) (words_unindented line ∙ f.words)
  where
    by_line : (l : List ℕ) → words_of l ≡ word ∷ words_of rest → 0 < length l
    by_line [] e = let z : ◌≡◌ {A = ℕ} 0 1 = cc in absurd (omega arith)
    by_line (x ∷ l) e = omega arith

pub some_byte : {line word rest : List ℕ} → FirstWord line word rest → 0 < length line
some_byte {line} f = omega (arith, some_word f, unindented_short line)

pub none_split : (line rest : List ℕ) → rest ≡ unindented line → index_of space rest ≡ 0 → unindented line ≡ []
none_split line rest u e = no_word line (rw (← u) e)

-- ---- a line by its first word

-- Spaces stand before the first word.
pub indented : (l : List ℕ) → (spaces : ℕ) × (l ≡ replicate spaces space ++ unindented l)
unfolding unindented
indented [] = (0, refl)
indented (x ∷ l) = go (eqb x space) refl (indented l)
  where
    go : (t : Bool) → eqb x space ≡ t → (spaces : ℕ) × (l ≡ replicate spaces space ++ unindented l)
        → (spaces : ℕ) × (x ∷ l ≡ replicate spaces space ++ cond t (unindented l) (x ∷ l))
    go true e h = (suc h.0, ap₂ (λ (y : ℕ) (m : List ℕ). y ∷ m) (eqb-true x space e) h.1)
    go false e h = (0, refl)

pub unindented_more : (spaces : ℕ) (l : List ℕ) → unindented (replicate spaces space ++ l) ≡ unindented l
unfolding unindented
unindented_more zero l = refl
unindented_more (suc spaces) l = unindented_more spaces l

-- The first byte b, or the end.
at_index : (b : ℕ) (l : List ℕ) → (drop (index_of b l) l ≡ []) ⊎ ((rest : List ℕ) × (drop (index_of b l) l ≡ b ∷ rest))
unfolding index_of index_after
at_index b [] = inl refl
at_index b (x ∷ l) = go (eqb x b) refl (at_index b l)
  where
    go : (t : Bool) → eqb x b ≡ t → (drop (index_of b l) l ≡ []) ⊎ ((rest : List ℕ) × (drop (index_of b l) l ≡ b ∷ rest))
        → (drop (index_after t (index_of b l)) (x ∷ l) ≡ []) ⊎ ((rest : List ℕ) × (drop (index_after t (index_of b l)) (x ∷ l) ≡ b ∷ rest))
    go true e h = inr (l, ap (λ (y : ℕ). y ∷ l) (eqb-true x b e))
    go false e h = h

-- A line's first word, and what follows it.
pub record Verbed (line verb : List ℕ) : Type 0 where
  pub rest : List ℕ
  pub is : unindented line ≡ verb ++ rest
  pub starts : (rest ≡ []) ⊎ ((more : List ℕ) × (rest ≡ space ∷ more))

pub first : (line verb : List ℕ) (ws : List (List ℕ)) → words_of line ≡ verb ∷ ws → Verbed line verb
unfolding words_of split
first line verb ws e = elim (dec_lt 0 (index_of space (unindented line))) [
  | yes h ↦
      let k : ℕ = index_of space (unindented line) in
      let cut = e' ∙ first_word (unindented line) h in
      let here : take k (unindented line) ≡ verb = cc in
      record {
        rest = drop k (unindented line);
        is = sym (take-append-drop k (unindented line)) ∙ ap (λ (l : List ℕ). l ++ drop k (unindented line)) here;
        starts = at_index space (unindented line);
      }
  | no h ↦
      let none : words_of line ≡ [] = sym (words_unindented line) ∙ ap words_of (no_word line (omega arith)) in
      let z : ◌≡◌ {A = ℕ} 0 1 = cc in
      absurd (omega arith)
]
  where
    e' : verb ∷ ws ≡ words_of (unindented line)
    e' = sym e ∙ sym (words_unindented line)

pub behind_first : {line verb : List ℕ} (f : Verbed line verb) → drop (length verb) (unindented line) ≡ f.rest
behind_first {verb = verb} f = ap (drop (length verb)) f.is ∙ drop-append_seam verb f.rest

-- No word is empty.
filled_words : (pieces : List (List ℕ)) → All (λ (w : List ℕ). 0 < length w) (filled pieces)
filled_words [] = tt
filled_words ([] ∷ pieces) = filled_words pieces
filled_words ((x ∷ w) ∷ pieces) = (omega arith, filled_words pieces)

pub second_word : (line verb w : List ℕ) (ws : List (List ℕ)) → words_of line ≡ verb ∷ w ∷ ws → 0 < length w
unfolding words_of
second_word line verb w ws e = (subst (All (λ (l : List ℕ). 0 < length l)) e (filled_words (split space line))).1.0
