-- The book of a text: none of its additions is refused, and its goal is in range.
use mathlib.Core.List.{[], map}
use mathlib.Core.Path.{◌≡◌, ◌∙◌}
use Prim.Native.Nat.{ℕ, ◌≤◌}
use native.Mathlib.Omega.{arith}
use lib.Dec.{T}
use borrow.Author.Tests.{le-leb}
use Rattle.atoms.specs.Sets.{limit}
use Rattle.atoms.proofs.Machine.{limit_least}
use Rattle.ipl.specs.Lists.{All}
use Rattle.ipl.specs.Range.{atom_or_bot}
use Rattle.ipl.specs.Book.{add, count_in_range, opened}
use Rattle.ipl.proofs.Range.{atom_in_range}
use Rattle.ipl.proofs.Book.{Reached, opened_reached, after_reached}
use Rattle.ipl.specs.Formula.{Formula}
use Rattle.syntax.specs.Nodes.{nodes, named}
use Rattle.syntax.specs.Refusal.{most_names}
use Rattle.syntax.specs.Letters.{letter_count}
use Rattle.clausify.specs.Naming.{atoms_of, calls, atom_count, text_book, goal_of}
use Rattle.clausify.specs.Additions.{table_book, Unrefused}
use Rattle.clausify.proofs.Additions.{AddsInRange, after_additions, additions_unrefused}
use Rattle.clausify.proofs.Atoms.{atom_below}
use Rattle.clausify.proofs.Ranges.{calls_in_range}
use Rattle.clausify.proofs.Sizes.{calls_size}

-- An opening with a number in range.
pub opened_in_range : (n : ℕ) → 1 ≤ n → n ≤ limit → opened n ≡ record { n = n; flats = []; implications = []; steps = []; marks = [] }
unfolding opened count_in_range
opened_in_range n h k = rw (le-leb 1 n h, le-leb n limit k)

module _ (t : Formula) (few : named (nodes t).table ≤ most_names) where
  count_in_range_lem : (1 ≤ atom_count (nodes t).table) × (atom_count (nodes t).table ≤ limit)
  unfolding atom_count
  count_in_range_lem = (omega arith, omega (arith, limit_least))

  atoms_enough : named (nodes t).table ≤ atom_count (nodes t).table
  unfolding atom_count
  atoms_enough = omega arith

  text_opened : opened (atom_count (nodes t).table) ≡ record { n = atom_count (nodes t).table; flats = []; implications = []; steps = []; marks = [] }
  text_opened = opened_in_range (atom_count (nodes t).table) count_in_range_lem.0 count_in_range_lem.1

  text_in_range : All (AddsInRange (atom_count (nodes t).table)) (calls (nodes t).table)
  text_in_range = calls_in_range (nodes t).table (atom_count (nodes t).table) atoms_enough

  pub text_unrefused : Unrefused (opened (atom_count (nodes t).table)) (calls (nodes t).table)
  unfolding calls
  text_unrefused =
      let s = calls_size (nodes t).table (atoms_of (nodes t).table) (letter_count (nodes t).table) in
      rw text_opened (additions_unrefused (calls (nodes t).table) (record { n = atom_count (nodes t).table; flats = []; implications = []; steps = []; marks = [] }) text_in_range
      (record { flats = omega (arith, s.0); implications = omega (arith, s.1) }))

  pub text_book_is : text_book t ≡ table_book (nodes t).table
  unfolding text_book
  text_book_is =
      let n = atom_count (nodes t).table in
      after_additions (calls (nodes t).table) (opened n) text_unrefused
      ∙ rw text_opened

  pub goal_in_range : T (atom_or_bot (atom_count (nodes t).table) (goal_of t))
  unfolding goal_of
  goal_in_range =
      let T = (nodes t).table in
      atom_in_range (named T) (atom_count T) (goal_of t) atoms_enough (atom_below T (named T) (nodes t).root (omega arith))

-- An opening and additions lead to the book of a text.
pub text_reached : (t : Formula) → Reached (text_book t)
unfolding text_book
text_reached t = after_reached (map add (calls (nodes t).table)) (opened (atom_count (nodes t).table)) (opened_reached (atom_count (nodes t).table))
