-- Laws of the dropping of atoms, one after the other.
use mathlib.Core.Bool.{Bool, true, false}
use mathlib.Core.List.{List}
use mathlib.Core.Path.{◌≡◌, sym, ap, ◌∙◌}
use Prim.Native.Nat.{ℕ, suc, ◌+◌, ◌-◌, ◌≤◌, ◌<◌, min}
use native.Mathlib.Numerals.{add-one}
use native.Mathlib.Omega.{arith}
use Rattle.atoms.specs.Sets.{has, limit, minus, remove}
use Rattle.atoms.specs.Words.{single_or_empty}
use Rattle.atoms.proofs.Machine.{single_bits}
use Rattle.ipl.specs.Clause.{Flat}
use Rattle.ipl.specs.Question.{ask}
use Rattle.ipl.specs.Search.{is_none, drop_one, drop_from}
use Rattle.prover.specs.Working.{proves}

-- At most as many atoms as there is room for.
pub ask_min : (n : ℕ) (R : List Flat) (A b : ℕ) → n ≤ limit → ask (min n limit) R A b ≡ ask n R A b
ask_min n R A b h = let e : min n limit ≡ n = omega arith in ap (λ (k : ℕ). ask k R A b) e

module _ (n : ℕ) (R : List Flat) (b k A : ℕ) where
  pub drop_absent : has A k ≡ false → A ≡ drop_one (proves n R b) k A
  unfolding drop_one
  drop_absent e = rw e

  module _ (h : has A k ≡ true) (kn : k < n) (nl : n ≤ limit) (one rest : ℕ) (eo : one ≡ single_or_empty k) (er : rest ≡ minus A one) where
    rest_is : rest ≡ remove A k
    rest_is = er ∙ ap (minus A) (eo ∙ single_bits k (omega arith))

    pub drop_taken : is_none (ask (min n limit) R rest b) ≡ true → rest ≡ drop_one (proves n R b) k A
    unfolding drop_one
    drop_taken e = rw (h, ← rest_is, ← ask_min n R rest b nl, e)

    pub drop_kept : is_none (ask (min n limit) R rest b) ≡ false → A ≡ drop_one (proves n R b) k A
    unfolding drop_one
    drop_kept e = rw (h, ← rest_is, ← ask_min n R rest b nl, e)

-- The rest of the dropping from k on.
pub drop_next : (p : ℕ → Bool) (n k A : ℕ) → k < n → drop_from p (n - k) k A ≡ drop_from p (n - (k + 1)) (k + 1) (drop_one p k A)
unfolding drop_from
drop_next p n k A h =
    let e : n - k ≡ suc (n - (k + 1)) = omega arith in
    ap (λ (d : ℕ). drop_from p d k A) e ∙ ap (λ (j : ℕ). drop_from p (n - (k + 1)) j (drop_one p k A)) (sym (add-one k))

pub drop_end : (p : ℕ → Bool) (n k A : ℕ) → n ≤ k → drop_from p (n - k) k A ≡ A
unfolding drop_from
drop_end p n k A h = let e : n - k ≡ 0 = omega arith in ap (λ (d : ℕ). drop_from p d k A) e

-- Nothing is given.
pub ask_empty : (n : ℕ) (R : List Flat) (A b : ℕ) → A ≡ 0 → ask n R A b ≡ ask n R 0 b
ask_empty n R A b e = ap (λ (z : ℕ). ask n R z b) e
