-- A text that was read, its session, and its answer.
use mathlib.Core.Bool.{false≢true}
use mathlib.Core.List.{List}
use mathlib.Core.Path.{◌≡◌, refl, sym, ap, ap₂, ◌∙◌, subst}
use Prim.Native.Nat.{ℕ, ◌≤◌, ◌<◌, max}
use native.Mathlib.Omega.{arith}
use lib.ListN.{length, get_or}
use Rattle.atoms.proofs.Machine.{limit_least}
use Rattle.ipl.specs.Clause.{bot}
use Rattle.ipl.specs.Authors.{program}
use Rattle.ipl.specs.Book.{Book, opened}
use Rattle.ipl.proofs.Lists.{read_within}
use Rattle.prover.specs.State.{flats_of, implications_of, steps_of, marks_of, book}
use Rattle.prover.specs.Work.{none_done}
use Rattle.prover.specs.Calls.{NothingHeld, Asked}
use Rattle.prover.specs.declared.Session.{Session}
use Rattle.prover.specs.declared.Flats.{Flats}
use Rattle.prover.specs.declared.Implications.{Implications}
use Rattle.prover.specs.declared.Verdict.{Verdict}
use Rattle.prover.specs.Told as verdict
use Rattle.prover.specs.Told.{number_in, place_in, place_told, answered}
use Rattle.refusal.specs.Numbers.{number_of, place_of}
use Rattle.refusal.specs.declared.Refusal.{Refusal}
use Rattle.std.specs.Prelude.{Result, Ok, Err, IsOk}
use borrow.Author.Rules.{rules}
use Rattle.syntax.specs.Nodes.{nodes, named, WellOrdered}
use Rattle.syntax.specs.Refusal.{most_names, Refused, line_1, line_2, line_3, line_4}
use Rattle.syntax.specs.Judge.{Judgement, refused, accepted, judge, Right}
use Rattle.syntax.specs.Parts.{held, room}
use Rattle.syntax.specs.Answer.{Read}
use Rattle.syntax.specs.declared.Parts.{Parts}
use Rattle.syntax.proofs.Held.{held_length}
use Rattle.syntax.proofs.Stands.{root_inside, table_ordered}
use Rattle.syntax.proofs.Judge.{judge_only}
use Rattle.clausify.specs.Naming.{atom_at, atom_count, calls, goal_of}
use Rattle.clausify.specs.Additions.{flats_by, implications_by, table_book}
use Rattle.clausify.specs.Calls.{ClausifiedAs, SettledAs}
use Rattle.clausify.specs.Writing.{NamesOf, Nameable}
use Rattle.clausify.specs.declared.naming.Names.{Names}
use Rattle.clausify.specs.declared.Clausified.{Clausified}
use Rattle.clausify.proofs.TextBook.{text_book_is}

-- The empty session with the clauses of a table.
module _ (p : Parts) (r : Names) (g : Nameable p r) (n : ℕ) (en : n ≡ max r.count 1) (s : Session) (es : book s ≡ opened 1) where
  count_is : n ≡ atom_count (held p)
  unfolding atom_count
  count_is = omega (arith, en, g.names.count)

  pub session_holds : (t : Flats) (x : Implications) → flats_of t ≡ flats_by (calls (held p))
      → implications_of x ≡ implications_by (calls (held p))
      → ◌≡◌ {A = Book} (record { n = n; flats = flats_of t; implications = implications_of x; steps = steps_of s.steps; marks = marks_of s.marks }) (table_book (held p))
  unfolding opened
  session_holds t x et ex =
      λ i. record { n = count_is i; flats = et i; implications = ex i; steps = ap (λ (k : Book). k.steps) es i; marks = ap (λ (k : Book). k.marks) es i }

-- ---- read
module _ (s : List ℕ) (root : ℕ) (p : Parts) (h : Read s root p) where
  few : named (nodes h.formula).table ≤ most_names
  few = omega (arith, h.accepted.size_right)

  pub read_nameable : (n : Names) → NamesOf (held p) n → Nameable p n
  read_nameable n o = record {
    sound = h.sound;
    ordered = subst WellOrdered (sym h.table_is) (table_ordered h.formula);
    few = omega (arith, few, ap named h.table_is, limit_least);
    names = o;
  }

  root_in : root < length (held p)
  root_in = omega (arith, h.root_is, root_inside h.formula, ap length h.table_is)

  pub root_row : root < room
  root_row = omega (arith, root_in, held_length p h.sound, h.sound.bounded)

  pub read_clausified : (n : Names) → NamesOf (held p) n → length n.atoms ≡ room → (q : Session) → book q ≡ table_book (held p) → NothingHeld none_done q
      → ClausifiedAs (judge s) (record { read = Ok tt; session = q; goal = get_or n.atoms root 0 })
  unfolding goal_of
  read_clausified n o l q e nothing =
      subst (λ (j : Judgement). ClausifiedAs j (record { read = Ok tt; session = q; goal = get_or n.atoms root 0 }))
      (sym (judge_only s (accepted h.formula) h.accepted)) (
        search rules,
        record {
          clauses = e ∙ ap table_book h.table_is ∙ sym (text_book_is h.formula few);
          nothing = nothing;
          goal = read_within n.atoms root 0 bot (omega (arith, root_row, l)) ∙ o.atoms root root_in ∙ ap₂ atom_at h.table_is h.root_is;
        },
      )

pub refused_clausified : (s : List ℕ) (e : Refusal) → Refused s (number_of e) (place_told (place_of e)) → (q : Session) → book q ≡ opened 1 → NothingHeld none_done q
    → ClausifiedAs (judge s) (record { read = Err e; session = q; goal = bot })
refused_clausified s e h q holds nothing =
    subst (λ (j : Judgement). ClausifiedAs j (record { read = Err e; session = q; goal = bot }))
    (sym (judge_only s (refused (number_of e) (place_told (place_of e))) h)) (refl, refl, record { clauses = holds; nothing = nothing; goal = refl })

-- ---- settled
refusal_number : (s : List ℕ) (number place : ℕ) → Refused s number place → number ≡ 0 → ⊥
refusal_number s number place (line_1 a) e = omega arith
refusal_number s number place (line_2 a b) e = omega arith
refusal_number s number place (line_3 a b c d) e = omega arith
refusal_number s number place (line_4 a b c d) e = omega arith

-- A text is read or refused as it is judged.
pub settled_refused : (j : Judgement) (q : Clausified) (e : Refusal) → ClausifiedAs j q → q.read ≡ Err e
    → SettledAs j (record { verdict = Err e; session = q.session; goal = q.goal })
settled_refused (refused number place) q e h r =
    (ap₂ verdict.Refused (sym (ap number_in r) ∙ h.0) (sym (ap place_in r) ∙ h.1), h.2)
settled_refused (accepted t) q e h r = absurd (false≢true (subst IsOk r h.0))

pub settled_asked : (s : List ℕ) (j : Judgement) → Right s j → (q : Clausified) → ClausifiedAs j q → q.read ≡ Ok tt
    → (v : Result Verdict Refusal) (t : Session) → Asked q.session program q.goal (answered v t)
    → SettledAs j (record { verdict = v; session = t; goal = q.goal })
settled_asked s (refused number place) r q h e v t k = absurd (refusal_number s number place r (sym h.0 ∙ ap number_in e))
settled_asked s (accepted f) r q h e v t k = (q.session, h.1, k)
