-- Laws of a table with one row more.
use mathlib.Core.List.{List, [], ◌∷◌, ◌++◌}
use mathlib.Core.Path.{◌≡◌, ap, ap₂, ◌∙◌, subst}
use native.Mathlib.Decide.{dec_lt}
use Rattle.prover.specs.Working.{learned_row, StepsFit, StepsWritten}
use Rattle.prover.specs.declared.Steps.{Steps}
use Prim.Native.Nat.{ℕ, ◌+◌, ◌<◌}
use native.Mathlib.Omega.{arith}
use lib.ListN.{length, set}
use lib.Seq.{get_or-set_same, get_or-set_other}
use Rattle.atoms.specs.Words.{row_of, row_count, RowSet}
use Rattle.atoms.proofs.Machine.{row_count_words, same_rows}
use Rattle.ipl.specs.Range.{flat_table}
use Rattle.ipl.proofs.Lists.{tabulate_more}
use Rattle.sat.specs.Table.{clause_at}
use Rattle.prover.specs.State.{byte_at, implication_of, implication_row, implications_of}
use Rattle.prover.specs.declared.Implication as code
use Rattle.prover.specs.declared.Implications.{Implications}

-- A column of bytes with one byte stored.
pub byte_other : (t : List ℕ) (k x i : ℕ) → i < k → byte_at (set t k x) i ≡ byte_at t i
byte_other t k x i h = get_or-set_other t k i x 0 (λ e. omega arith)

pub byte_same : (t : List ℕ) (k x : ℕ) → k < length t → byte_at (set t k x) k ≡ x
byte_same t k x h = get_or-set_same t k x 0 h

-- A flat row in a column of the table's size.
pub flat_room : (t : List ℕ) (k : ℕ) → length t ≡ flat_table → k < flat_table → k < row_count t
flat_room t k l h = omega (arith, row_count_words t flat_table l)

pub implications_more : (t : Implications) (x : code.Implication) → t.count < length t.rows
    → implications_of (record { count = t.count + 1; rows = set t.rows t.count x }) ≡ implications_of t ++ (implication_of x ∷ [])
implications_more t x l =
    tabulate_more (implication_row t) (implication_row (record { count = t.count + 1; rows = set t.rows t.count x })) (implication_of x) t.count
    (λ i h. ap implication_of (get_or-set_other t.rows t.count i x _ (λ e. omega arith))) (ap implication_of (get_or-set_same t.rows t.count x _ l))

-- A learned clause written after those before it.
pub steps_more : (left right left1 right1 left2 right2 : List ℕ) (flats : ℕ) (steps : Steps) (x : Implications) (k : ℕ) → StepsFit left right flats steps x → k < steps.count
    → StepsWritten left right flats steps x k left1 right1
    → (A : ℕ) → A ≡ row_of steps.assumed k
    → RowSet left1 (flats + k) (learned_row x (byte_at steps.numbers k) A).left left2
    → RowSet right1 (flats + k) (learned_row x (byte_at steps.numbers k) A).right right2
    → StepsWritten left right flats steps x (k + 1) left2 right2
steps_more left right left1 right1 left2 right2 flats steps x k f lt h A eA l r = record {
  left_size = l.size ∙ h.left_size;
  right_size = r.size ∙ h.right_size;
  flats_stay = λ i b. other i (omega arith) ∙ h.flats_stay i b;
  learned_follow = λ j b. elim (dec_lt j k) [
    | yes m ↦ other (flats + j) (omega arith) ∙ h.learned_follow j m
    | no m ↦ let e : k ≡ j = omega arith in
        subst (λ (j : ℕ). clause_at left2 right2 (flats + j) ≡ learned_row x (byte_at steps.numbers j) (row_of steps.assumed j)) e written
  ];
}
  where
    other : (i : ℕ) → i < flats + k → clause_at left2 right2 i ≡ clause_at left1 right1 i
    other i b = ap₂ (λ (x y : ℕ). record { left = x; right = y }) (l.others i (λ e. omega arith)) (r.others i (λ e. omega arith))

    written : clause_at left2 right2 (flats + k) ≡ learned_row x (byte_at steps.numbers k) (row_of steps.assumed k)
    written =
        ap₂ (λ (x y : ℕ). record { left = x; right = y })
        (l.written (omega (arith, same_rows left1 left h.left_size, f.left_room))) (r.written (omega (arith, same_rows right1 right h.right_size, f.right_room)))
        ∙ ap (learned_row x (byte_at steps.numbers k)) eA

-- The same row by another name of its set.
pub row_set_as : {before after : List ℕ} {i x y : ℕ} → RowSet before i x after → x ≡ y → RowSet before i y after
row_set_as {before} {after} {i} r e = subst (λ (z : ℕ). RowSet before i z after) e r
