-- Every row of the table of cases holds, computed from the text's bytes by the definitions.
use mathlib.Core.List.{List}
use mathlib.Core.Option.{or_else}
use mathlib.Core.Path.{◌≡◌, refl, sym, subst}
use Prim.Native.Nat.{ℕ, ◌≤◌}
use native.Mathlib.Omega.{arith}
use Rattle.atoms.specs.Sets.{bit_at, has, minus, within, meets, limit}
use Rattle.atoms.specs.Bytes.{digits}
use Rattle.ipl.specs.Lists.{all, any, All}
use Rattle.ipl.specs.Clause.{one, satisfies, closing, closings, beyond, realizes, learned}
use Rattle.ipl.specs.Range.{atom_or_bot, set_in_range, flat_in_range, implication_in_range}
use Rattle.ipl.specs.Question.{counters, least, ask}
use Rattle.ipl.specs.Search as fixed
use Rattle.ipl.specs.Book as book
use Rattle.syntax.specs.Class as class
use Rattle.ipl.specs.Formula.{Formula, letter}
use Rattle.syntax.specs.Reading as reader
use Rattle.syntax.specs.Nodes.{same, index_of, with_entry, with_formula, nodes, named}
use Rattle.syntax.specs.Letters.{letters_of}
use Rattle.syntax.specs.Scan.{move, fitting}
use Rattle.syntax.specs.Judge.{accepted, deep_after, judge}
use Rattle.clausify.specs.Naming as naming
use Rattle.clausify.specs.Naming.{atom_count, calls}
use Rattle.clausify.specs.Additions.{Unrefused}
use Rattle.clausify.proofs.TextBook.{text_unrefused}
use Rattle.certificate.specs.Format as format
use Rattle.certificate.specs.Written.{claim_of_verdict}
use Rattle.text.specs.Text.{ascii, decimal_within, decimal, refusal}
use Rattle.report.specs.Report.{figures, step_line, world_line, valid_report, refuted_report}
use Rattle.report.specs.Printed.{printed_end, printed_as, printed, sheet_bytes, sheet_as, sheet}
use Rattle.report.specs.Cases.{Passes, Holds, tildes, cases}

passes_naming : (s : List ℕ) (t : Formula) (n : ℕ) → judge s ≡ accepted t → named (nodes t).table ≤ 64 → atom_count (nodes t).table ≡ n → Passes n (judge s)
passes_naming s t n e few count =
    subst (Passes n) (sym e) (count, subst (λ (m : ℕ). Unrefused (book.opened m) (calls (nodes t).table)) count (text_unrefused t few))

pub ten_cases : All Holds cases
unfolding ascii decimal_within decimal figures step_line world_line refusal valid_report refuted_report printed_end printed_as printed
    sheet_bytes sheet_as sheet judge deep_after move fitting class.class_of class.tokens class.after reader.negated reader.shut
    reader.finish reader.read_token reader.result reader.reading same index_of with_entry with_formula nodes named
    letters_of naming.atoms_from naming.atoms_of naming.set_of naming.clause naming.part_calls naming.calls_from calls
    atom_count naming.text_book naming.goal_of book.count_in_range book.opened book.flats_full book.flat_refusal
    book.implication_refusal book.addition_refusal book.goal_refusal book.answer book.number_of book.refusal book.added book.steps_after
    book.taken book.next book.after
    fixed.clause_of fixed.known fixed.first_at fixed.first_unrealized fixed.is_none fixed.drop_one fixed.drop_from fixed.begin
    fixed.step_at fixed.resolve fixed.look fixed.go_on fixed.turn_with fixed.turn fixed.run fixed.search counters least ask
    or_else atom_or_bot set_in_range flat_in_range implication_in_range one satisfies closing closings beyond realizes learned all
    any bit_at has minus within meets limit digits format.each format.flat_row format.implication_row format.step_row
    format.world_row format.claim_rows format.refutes format.rows_of format.entry_row format.contents format.bodies
    format.encode claim_of_verdict
ten_cases =
    let t = reader.negated 63 (letter 15) in
    let size : named (nodes t).table ≡ 64 = refl in
    (refl, (refl, (refl, (refl, (refl, (refl, (refl, (refl, (passes_naming (tildes 63) t 64 refl (omega arith) refl, (refl, tt))))))))))
