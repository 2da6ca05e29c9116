-- A text that was read, and its answer.
use mathlib.Core.List.{List}
use mathlib.Core.Path.{◌≡◌, sym, ap, ap₂, ◌∙◌, subst}
use Prim.Native.Nat.{ℕ, ◌^◌, ◌≤◌, ◌<◌}
use native.Mathlib.Omega.{arith}
use lib.Dec.{eqb}
use lib.ListN.{length}
use borrow.Author.Tests.{lt-ltb, le-ltb}
use Rattle.std.specs.Option.{unwrap_or}
use Rattle.std.specs.Prelude.{Ok, Err}
use Rattle.refusal.specs.Numbers.{number_of, place_of}
use Rattle.refusal.specs.declared.Refusal.{Refusal}
use Rattle.refusal.specs.declared.Refusal.TheVariants as refusal
use Rattle.ipl.specs.First.{first_failing}
use Rattle.ipl.specs.Formula as ipl
use Rattle.syntax.specs.Nodes.{nodes, WellOrdered, Once}
use Rattle.syntax.specs.Letters.{letter_count}
use Rattle.syntax.specs.Parts.{held}
use Rattle.syntax.specs.Refusal as text
use Rattle.syntax.specs.Judge.{refused, accepted, judge}
use Rattle.syntax.specs.Answer.{Read}
use Rattle.syntax.specs.declared.Parts.{Parts}
use Rattle.syntax.proofs.Judge.{judge_only}
use Rattle.syntax.proofs.Once.{table_once}
use Rattle.syntax.proofs.Stands.{table_stands, root_inside, table_ordered}
use Rattle.fork.specs.Fork.{whole, set_count}
use Rattle.fork.specs.Algebra.{value}
use Rattle.fork.specs.Screen.{most_letters, letters, assignment, set_of, gives_whole, falls_at, screened, screening}
use Rattle.fork.specs.Cells.{value_at, screened_at, Tabled}
use Rattle.fork.specs.Answer.{told_of, told}
use Rattle.fork.specs.declared.Screened.{Screened}

-- The answer for the table of a formula is that for the formula.
table_screened : (f : ipl.Formula) → screened_at (nodes f).table (nodes f).root ≡ screened f
unfolding screened_at value_at screened gives_whole
table_screened f =
    let k = length (letters f) in
    ap (λ (g : ipl.Formula). falls_at k (first_failing (λ n. eqb (value (set_of (letters f) (assignment k n)) g) whole) (set_count ^ k))) (table_stands f)

pub judged_refused : (s : List ℕ) (e : Refusal) → text.Refused s (number_of e) (unwrap_or (place_of e) 0) → told (Err e) ≡ screening (judge s)
unfolding screening
judged_refused s e x = ap screening (sym (judge_only s (refused (number_of e) (unwrap_or (place_of e) 0)) x))

module _ (s : List ℕ) (root : ℕ) (p : Parts) (h : Read s root p) (n : ℕ) (count : n ≡ letter_count (held p)) where
  letters_is : n ≡ length (letters h.formula)
  letters_is = count ∙ ap letter_count h.table_is

  judged : judge s ≡ accepted h.formula
  judged = judge_only s (accepted h.formula) h.accepted

  pub part_tabled : n ≤ most_letters → Tabled p n
  part_tabled few = record {
    sound = h.sound;
    ordered = subst WellOrdered (sym h.table_is) (table_ordered h.formula);
    once = subst Once (sym h.table_is) (table_once h.formula);
    count = count;
    few = few;
  }

  pub part_inside : root < length (held p)
  part_inside = omega (arith, h.root_is, root_inside h.formula, ap length h.table_is)

  pub answer_many : most_letters < n → told (Err refusal.Letters) ≡ screening (judge s)
  unfolding screening
  answer_many many = rw (judged, lt-ltb most_letters (length (letters h.formula)) (omega (arith, letters_is)))

  pub answer_few : n ≤ most_letters → (r : Screened) → told_of r ≡ screened_at (held p) root → told (Ok r) ≡ screening (judge s)
  unfolding screening
  answer_few few r a =
      rw (judged, le-ltb most_letters (length (letters h.formula)) (omega (arith, letters_is)))
      (a ∙ ap₂ screened_at h.table_is h.root_is ∙ table_screened h.formula)
