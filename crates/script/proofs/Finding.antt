-- The first place of a byte, the first that is no space, and a test of every byte, in the words of the library.
use Rattle.std.proofs.Common.{Bool, true, false, cond, not, ◌+◌, suc, drop, ◌≡◌, ◌≢◌, ℕ, List, [], ◌∷◌, length, refl, eqb, arith}
use Rattle.std.specs.List.{list_all, position_or_len, AllWithin}
use borrow.Author.Tests.{eq-eqb, ne_eqb}
use Rattle.script.specs.Words.{space, unindented}
use Rattle.script.specs.Parts.{index_of, index_after}

-- ---- a byte

module _ (b : ℕ) where
  pub index_none : index_of b [] ≡ 0
  unfolding index_of
  index_none = refl

  pub index_here : (x : ℕ) (l : List ℕ) → x ≡ b → index_of b (x ∷ l) ≡ 0
  unfolding index_of index_after
  index_here x l e = rw (eq-eqb x b e)

  pub index_behind : (x : ℕ) (l : List ℕ) → x ≢ b → index_of b (x ∷ l) ≡ index_of b l + 1
  unfolding index_of index_after
  index_behind x l d = rw (ne_eqb x b d) (omega arith)

-- ---- spaces before a word

abbrev pub spaces : List ℕ → ℕ
spaces = position_or_len (λ x. not (eqb x space))

pub spaces_at_word : (x : ℕ) (l : List ℕ) → x ≢ space → spaces (x ∷ l) ≡ 0
spaces_at_word x l d = rw (ne_eqb x space d)

pub spaces_more : (x : ℕ) (l : List ℕ) → x ≡ space → spaces (x ∷ l) ≡ spaces l + 1
spaces_more x l e = rw (eq-eqb x space e) (omega arith)

pub unindented_is : (l : List ℕ) → unindented l ≡ drop (spaces l) l
unfolding unindented
unindented_is [] = refl
unindented_is (x ∷ l) = go (eqb x space) (unindented_is l)
  where
    go : (t : Bool) → unindented l ≡ drop (spaces l) l → cond t (unindented l) (x ∷ l) ≡ drop (cond (not (not t)) (1 + spaces l) 0) (x ∷ l)
    go true e =
        let one : 1 + spaces l ≡ suc (spaces l) = omega arith in
        rw one e
    go false e = refl

-- ---- every byte

pub every : (p : ℕ → Bool) (l : List ℕ) → AllWithin (λ x. p x ≡ true) l 0 (length l) → list_all p l ≡ true
every p [] h = refl
every p (x ∷ l) h = rw (h 0 0 (omega arith) (omega arith)) (every p l (λ k d low high. h (suc k) d (omega arith) (omega arith)))
