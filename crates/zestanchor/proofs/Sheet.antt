-- The sheet written of a text's session is that of the text's verdict, and its length is told; without one the line of the refusal is
-- given.
use mathlib.Core.Bool.{Bool, true, false, cond}
use mathlib.Core.List.{List, [], ◌∷◌}
use mathlib.Core.Option.{Option, none, some}
use mathlib.Core.Path.{◌≡◌, refl, sym, ap, ◌∙◌, subst}
use Prim.Native.Nat.{ℕ}
use lib.Dec.{leb}
use lib.ListN.{length}
use native.Mathlib.Omega.{arith}
use borrow.Author.Tests.{le-leb, lt-leb}
use Rattle.std.specs.Prelude.{Result, Ok, Err}
use Rattle.refusal.specs.declared.Refusal.{Refusal}
use Rattle.refusal.specs.declared.Refusal.TheVariants.{NoVerdict, NoRoom}
use Rattle.atoms.proofs.Bytes.{put_nothing}
use Rattle.ipl.specs.Search.{State, Outcome, valid, refuted, refused, unfinished}
use Rattle.ipl.specs.Authors.{program}
use Rattle.ipl.specs.Book.{Book, answer, steps_after}
use Rattle.ipl.proofs.Book.{Reached, opened_reached}
use Rattle.prover.specs.State.{book}
use Rattle.prover.specs.InRange.{in_range}
use Rattle.prover.specs.Work.{none_done}
use Rattle.prover.specs.Calls.{NothingHeld, Searched, AskedAs}
use Rattle.prover.specs.Demand.{question}
use Rattle.prover.specs.Told as prover
use Rattle.prover.specs.Told.{Answered}
use Rattle.prover.specs.declared.Work.{Work}
use Rattle.prover.specs.declared.Held.{Held}
use Rattle.prover.specs.declared.Session.{Session}
use Rattle.prover.proofs.Keeping.{nothing_in_range, asked_as}
use Rattle.prover.proofs.DemandThree.{call_kept}
use Rattle.syntax.specs.Judge as judgement
use Rattle.syntax.specs.Judge.{Judgement, judge}
use Rattle.clausify.specs.Naming.{text_book}
use Rattle.clausify.specs.Calls.{SettledAs}
use Rattle.clausify.specs.declared.Settled.{Settled}
use Rattle.clausify.proofs.TextBook.{text_reached}
use Rattle.certificate.specs.Certificate as claim
use Rattle.certificate.specs.Format.{encode, contents}
use Rattle.certificate.specs.Written.{problem_of_book, claim_of_verdict}
use Rattle.certify.specs.Held.{Certificate, bytes_of, length_of, certificate_held}
use Rattle.certify.specs.Written.{told_of, length_told, WrittenAs, Written}
use Rattle.certify.proofs.Buffer.{bytes_counted, answer_counted, refused_unwritten}
use Rattle.text.specs.Output.{Gives, Reported}
use Rattle.report.specs.Report.{report_of}
use Rattle.report.specs.Printed.{printed, sheet_bytes, sheet_as, sheet}
use Rattle.report.proofs.Fitting.{report_given}
use Rattle.zestanchor.specs.Tasks.{size_of, or_else, certified}

-- The bytes of what there is to write.
abbrev bytes_in : Option Certificate → List ℕ
bytes_in none = []
bytes_in (some x) = bytes_of x

gives : (x : Option Certificate) (before after : List ℕ) (l : Result ℕ Refusal) → WrittenAs x before l after → Gives (bytes_in x) before after (size_of l)
gives none before after l w = record { output = w.buffer ∙ put_nothing before 0; fits = λ h. ap size_of w.answer; short = λ h. ap size_of w.answer }
gives (some x) before after l w = record {
  output = w.buffer;
  fits = λ h. ap size_of (answer_counted x before l after w) ∙ rw (le-leb (length (bytes_of x)) (length before) h) refl;
  short = λ h. ap size_of (answer_counted x before l after w) ∙ rw (lt-leb (length (bytes_of x)) (length before) h) refl;
}

-- ---- what the session of a text holds
nothing_held : (W : List Work) (s : Session) → NothingHeld W s → certificate_held s s.held ≡ none
nothing_held W s h = ap (certificate_held s) h.no_verdict

module _ (k : Book) (g : ℕ) (s : Session) (same : book s ≡ k) (x : Answered) where
  same_problem : (end : State) → Searched s program end x.session → problem_of_book (book x.session) g ≡ problem_of_book k g
  same_problem end a = ap (λ (k : Book). problem_of_book k g) a.holds ∙ ap (λ (k : Book). problem_of_book k g) same

  held_sheet : (W : List Work) → NothingHeld W s → (o : Outcome) → AskedAs s program g o x → bytes_in (certificate_held x.session x.session.held) ≡ sheet_bytes k g (claim_of_verdict k o)
  unfolding sheet_bytes claim_of_verdict steps_after
  held_sheet W n (valid end) a =
      ap (λ (v : Held). bytes_in (certificate_held x.session v)) a.0.kept
      ∙ (λ i. encode (same_problem end a.1 i) (claim.valid (ap (λ (k : Book). k.steps) a.1.holds i)))
  held_sheet W n (refuted end) a =
      ap (λ (v : Held). bytes_in (certificate_held x.session v)) a.0.kept
      ∙ (λ i. encode (same_problem end a.1 i) (claim.refuted (a.0.shows i)))
  held_sheet W n (refused number) a =
      ap (λ (s : Session). bytes_in (certificate_held s s.held)) a.1 ∙ ap bytes_in (nothing_held W s n)
  held_sheet W n unfinished a = absurd a.0

-- ---- what is written of it

-- The session of a settled text is in range, and holds the sheet of the text's verdict.
settled_holds : (j : Judgement) (r : Settled) → SettledAs j r → (in_range r.session ≡ true) × (bytes_in (certificate_held r.session r.session.held) ≡ sheet_as j)
unfolding sheet_as
settled_holds (judgement.refused number place) r h = (
  nothing_in_range none_done r.session (subst Reached (sym h.1.clauses) (opened_reached 1)) h.1.nothing,
  ap bytes_in (nothing_held none_done r.session h.1.nothing),
)
settled_holds (judgement.accepted t) r (s, holds, asked) =
    let k = text_book t in
    let reached : Reached (book s) = subst Reached (sym holds.clauses) (text_reached t) in
    let i = nothing_in_range none_done s reached holds.nothing in
    let x = prover.answered r.verdict r.session in
    let a = asked_as s i reached program r.goal x asked in (
      (call_kept s i reached (question program r.goal) x asked).1,
      held_sheet k r.goal s holds.clauses x none_done holds.nothing (answer k r.goal) (subst (λ (k : Book). AskedAs s program r.goal (answer k r.goal) x) holds.clauses a)
          ∙ ap (λ (g : ℕ). sheet_bytes k g (claim_of_verdict k (answer k g))) holds.goal,
    )

certified_is : (s b : List ℕ) → b ≡ sheet s → (b ≡ [] → ⊥) → certified s ≡ b
unfolding certified
certified_is s [] e d = absurd (d refl)
certified_is s (b ∷ bytes) e d = ap (λ (l : List ℕ). or_else l (printed s)) (sym e)

module _ (s : List ℕ) (r : Settled) (h : SettledAs (judge s) r) where
  abbrev held_now : Option Certificate
  held_now = certificate_held r.session r.session.held

  bytes_are : bytes_in held_now ≡ sheet s
  unfolding sheet
  bytes_are = (settled_holds (judge s) r h).1

  -- ---- the length told of it

  told_is : length_told r.session ≡ told_of held_now
  told_is = rw (settled_holds (judge s) r h).0 refl

  pub told_certified : (n : ℕ) → length_told r.session ≡ Ok n → n ≡ length (certified s)
  unfolding encode contents
  told_certified n e = go held_now (sym told_is ∙ e) bytes_are
    where
      go : (x : Option Certificate) → told_of x ≡ Ok n → bytes_in x ≡ sheet s → n ≡ length (certified s)
      go none t b = let z : ◌≡◌ {A = ℕ} 0 1 = cc in absurd (omega arith)
      go (some x) t b =
          let size : length_of x ≡ n = cc in
          sym (bytes_counted x ∙ size) ∙ ap length (sym (certified_is s (bytes_of x) b (λ n. let z : ◌≡◌ {A = ℕ} 0 1 = cc in omega arith)))

  pub untold_certified : (k : Refusal) → length_told r.session ≡ Err k → printed s ≡ certified s
  unfolding certified
  untold_certified k e = go held_now (sym told_is ∙ e) bytes_are
    where
      go : (x : Option Certificate) → told_of x ≡ Err k → bytes_in x ≡ sheet s → printed s ≡ certified s
      go none t b = ap (λ (l : List ℕ). or_else l (printed s)) b
      go (some x) t b = let z : ◌≡◌ {A = ℕ} 0 1 = cc in absurd (omega arith)

module _ (s : List ℕ) (r : Settled) (h : SettledAs (judge s) r) (before after : List ℕ) (l : Result ℕ Refusal) (w : Written r.session before l after) where
  written_as : WrittenAs (held_now s r h) before l after
  written_as = w.written (settled_holds (judge s) r h).0

  pub sheet_given : Gives (sheet s) before after (size_of l)
  sheet_given = subst (λ (b : List ℕ). Gives b before after (size_of l)) (bytes_are s r h) (gives (held_now s r h) before after l written_as)

  -- ---- the sheet, or the line of the refusal

  -- By the answer of the writer: 9 exactly if there is no sheet.
  answered : (x : Option Certificate) → WrittenAs x before l after → bytes_in x ≡ sheet s → (l ≡ Err NoVerdict → sheet s ≡ []) × ((l ≡ Err NoVerdict → ⊥) → sheet s ≡ [] → ⊥)
  unfolding encode contents
  answered none a e = (λ _. sym e, λ d. absurd (d a.answer))
  answered (some x) a e = (λ n. absurd (other (leb (length (bytes_of x)) (length before)) (sym (answer_counted x before l after a) ∙ n)), λ d n. let z : ◌≡◌ {A = ℕ} 0 1 = cc in omega arith)
    where
      other : (b : Bool) → cond b (Ok (length (bytes_of x))) (Err NoRoom) ≡ Err NoVerdict → ⊥
      other true n = let z : ◌≡◌ {A = ℕ} 0 1 = cc in omega arith
      other false n = let z : ◌≡◌ {A = ℕ} 0 1 = cc in omega arith

  sheet_certified : (l ≡ Err NoVerdict → ⊥) → Gives (certified s) before after (size_of l)
  sheet_certified d = rw (certified_is s (sheet s) refl ((answered (held_now s r h) written_as (bytes_are s r h)).1 d)) sheet_given

  pub written_certified : (n : ℕ) → l ≡ Ok n → Gives (certified s) before after n
  written_certified n e =
      subst (Gives (certified s) before after) (ap size_of e) (sheet_certified (λ d. let z : ◌≡◌ {A = ℕ} 0 1 = cc in omega arith))

  pub unwritten_certified : (k : Refusal) → l ≡ Err k → (k ≡ NoVerdict → ⊥) → Gives (certified s) before after 0
  unwritten_certified k e d = subst (Gives (certified s) before after) (ap size_of e) (sheet_certified (λ n. d (cc)))

  -- No verdict: the writer left the output as it was, and the report is written.
  pub refusal_certified : l ≡ Err NoVerdict → (exit : List ℕ) (n : ℕ) → Reported (report_of r) after exit n → Gives (certified s) before exit n
  unfolding certified
  refusal_certified e exit n p =
      rw ((answered (held_now s r h) written_as (bytes_are s r h)).0 e)
      (subst (λ (b : List ℕ). Gives (printed s) b exit n) (refused_unwritten r.session before l after w NoVerdict e) (report_given s r h p))
