-- The levels of the scan as the code has them: what `(`, `)` and `=` do to them, and that there are as many as parentheses are open.
use mathlib.Core.Bool.{Bool, true, false, ◌&&◌, ◌||◌, not, and-true, and-false, or-true, or-false}
use mathlib.Core.List.{List, [], ◌∷◌}
use mathlib.Core.Path.{◌≡◌, refl, sym, ◌∙◌, ap, subst}
use Prim.Native.Nat.{ℕ, zero, suc, ◌+◌, ◌-◌, ◌^◌, ◌<◌}
use native.Mathlib.Numerals.{add-one, sub-one}
use native.Mathlib.Omega.{arith}
use lib.Dec.{eqb}
use lib.ListN.{length}
use borrow.Author.Tests.{eq-eqb, ne_eqb}
use Rattle.atoms.specs.Sets.{has, union, minus}
use Rattle.atoms.specs.Words.{num, single_or_empty}
use Rattle.atoms.specs.declared.AtomSet.{AtomSet}
use Rattle.atoms.proofs.Machine.{limit_least, single_bits}
use Rattle.atoms.proofs.Members.{has_insert, has_remove}
use Rattle.syntax.specs.Class.{closing, equals, opening, class_of}
use Rattle.syntax.specs.Refusal.{most_open}
use Rattle.syntax.specs.Judge.{is_byte}
use Rattle.syntax.specs.Scan.{State, misfit, wanted, had, closed, equated, move, ends, levels_in, around, state_of}
use Rattle.syntax.specs.declared.scan.Levels.{Levels}
use Rattle.syntax.proofs.Class.{by_byte}

-- The first d levels, and the next.
same_levels : (d x y : ℕ) → ((j : ℕ) → j < d → has y j ≡ has x j) → levels_in d y ≡ levels_in d x
unfolding levels_in
same_levels zero x y h = refl
same_levels (suc d) x y h = rw (h d (omega arith), same_levels d x y (λ j k. h j (omega arith)))

next_level : (d x y : ℕ) (e : Bool) → has y d ≡ e → ((j : ℕ) → j < d → has y j ≡ has x j) → levels_in (d + 1) y ≡ e ∷ levels_in d x
unfolding levels_in
next_level d x y e here h = rw (add-one d, here, same_levels d x y h)

levels_length : (d x : ℕ) → length (levels_in d x) ≡ d
unfolding levels_in
levels_length zero x = refl
levels_length (suc d) x = ap suc (levels_length d x)

-- A parenthesis opens: the level that it leaves is kept, as one at which an `=` has stood or none has.
module _ (l : Levels) (h : l.depth < most_open) (one kept : AtomSet) (o : num one ≡ single_or_empty l.depth) where
  one_is : num one ≡ 2 ^ l.depth
  one_is = o ∙ single_bits l.depth (omega (arith, limit_least))

  abbrev Opened : Type 0
  Opened = state_of true (record { equated = false; depth = l.depth + 1; outer = kept }) ≡ move (state_of true l) opening

  opened_by : (f : Bool → Bool → Bool) → ((b : Bool) → f b true ≡ l.equated) → ((b : Bool) → f b false ≡ b)
      → ((j : ℕ) → has (num kept) j ≡ f (has (num l.outer) j) (eqb l.depth j)) → Opened
  unfolding move
  opened_by f here below k =
      ap (wanted false) (next_level l.depth (num l.outer) (num kept) l.equated
      (k l.depth ∙ rw (eq-eqb l.depth l.depth) (here (has (num l.outer) l.depth)))
      (λ j v. k j ∙ rw (ne_eqb l.depth j (λ q. omega arith)) (below (has (num l.outer) j))))

  pub opened_with : l.equated ≡ true → num kept ≡ union (num l.outer) (num one) → Opened
  opened_with e k =
      opened_by (λ b t. b || t) (λ b. or-true b ∙ sym e) or-false
      (λ j. ap (λ (x : ℕ). has x j) (k ∙ ap (union (num l.outer)) one_is) ∙ has_insert (num l.outer) l.depth j)

  pub opened_without : l.equated ≡ false → num kept ≡ minus (num l.outer) (num one) → Opened
  opened_without e k =
      opened_by (λ b t. b && not t) (λ b. and-false b ∙ sym e) and-true
      (λ j. ap (λ (x : ℕ). has x j) (k ∙ ap (minus (num l.outer)) one_is) ∙ has_remove (num l.outer) l.depth j)

-- One closes: there was none, or the level around is the innermost.
closes : (d x : ℕ) → (d ≡ 0 → ⊥) → closed (levels_in d x) ≡ had (has x (d - 1)) (levels_in (d - 1) x)
unfolding levels_in
closes zero x n = absurd (n refl)
closes (suc d) x n = rw (sub-one (suc d))

pub open_ends : (d x : ℕ) (e : Bool) → (d ≡ 0 → ⊥) → ends (had e (levels_in d x)) ≡ false
unfolding levels_in
open_ends zero x e n = absurd (n refl)
open_ends (suc d) x e n = refl

module _ (l : Levels) where
  pub closed_none : l.depth ≡ 0 → misfit ≡ move (state_of false l) closing
  unfolding move levels_in
  closed_none e = rw e

  pub closed_level : (l.depth ≡ 0 → ⊥) → (d : ℕ) → d ≡ l.depth - 1 → (b : Bool) → b ≡ has (num l.outer) d
      → state_of false (record { equated = b; depth = d; outer = l.outer }) ≡ move (state_of false l) closing
  unfolding move
  closed_level n d i b e = rw (e, i, closes l.depth (num l.outer) n)

  -- An `=` fits where none has stood.
  pub equated_again : l.equated ≡ true → misfit ≡ move (state_of false l) equals
  unfolding move
  equated_again e = rw e

  pub equated_first : l.equated ≡ false → state_of true (record { equated = true; depth = l.depth; outer = l.outer }) ≡ move (state_of false l) equals
  unfolding move
  equated_first e = rw e

-- Where a byte fits, the levels grow and fall with the parentheses.
abbrev Balanced : State → ℕ → ℕ → Type 0
Balanced misfit d b = Unit {0}
Balanced (wanted e E) d b = length E + is_byte 41 b ≡ d + is_byte 40 b
Balanced (had e E) d b = length E + is_byte 41 b ≡ d + is_byte 40 b

module _ (e : Bool) (E : List Bool) (b : ℕ) where
  wanted_balanced : Balanced (move (wanted e E) (class_of b)) (length E) b
  unfolding move
  wanted_balanced =
      by_byte (λ c. Balanced (move (wanted e E) c) (length E) b) b
      (λ q. rw q) (λ _. tt) (λ _. tt) (λ _. tt) (λ _. tt) (λ q. rw q) (λ q. rw q (omega arith)) (λ _. tt) (λ q. rw q)
      (λ low high. rw (ne_eqb b 40 (λ q. omega arith), ne_eqb b 41 (λ q. omega arith))) tt

had_balanced : (e : Bool) (E : List Bool) (b : ℕ) → Balanced (move (had e E) (class_of b)) (length E) b
unfolding move
had_balanced e E b =
    by_byte (λ c. Balanced (move (had e E) c) (length E) b) b
    (λ _. tt) (λ q. rw q) (λ q. rw q) (λ q. rw q) (λ q. equal e q) (λ _. tt) (λ _. tt) (λ q. close E q) (λ q. rw q) (λ low high. tt) tt
  where
    equal : (f : Bool) → b ≡ 61 → Balanced (equated f E) (length E) b
    equal false q = rw q
    equal true q = tt

    close : (F : List Bool) → b ≡ 41 → Balanced (closed F) (length F) b
    close [] q = tt
    close (f ∷ F) q = rw q (omega arith)

pub depth_balanced : (w v : Bool) (l m : Levels) (b : ℕ) → state_of v m ≡ move (state_of w l) (class_of b) → m.depth + is_byte 41 b ≡ l.depth + is_byte 40 b
depth_balanced w v l m b e = after_byte_is v (subst (λ (a : State). Balanced a (length (around l)) b) (sym e) (before_byte w))
  where
    before_byte : (x : Bool) → Balanced (move (state_of x l) (class_of b)) (length (around l)) b
    before_byte true = wanted_balanced l.equated (around l) b
    before_byte false = had_balanced l.equated (around l) b

    after_byte_is : (x : Bool) → Balanced (state_of x m) (length (around l)) b → m.depth + is_byte 41 b ≡ l.depth + is_byte 40 b
    after_byte_is true h = omega (arith, levels_length l.depth (num l.outer), levels_length m.depth (num m.outer))
    after_byte_is false h = omega (arith, levels_length l.depth (num l.outer), levels_length m.depth (num m.outer))
