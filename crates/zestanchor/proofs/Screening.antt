-- A formula that falls is never answered valid: the fork's first refuting valuation is a model whose root does not force it.
use mathlib.Core.Bool.{Bool, true, false}
use mathlib.Core.List.{List, ◌++◌}
use mathlib.Core.Path.{◌≡◌, refl, sym, ap, subst}
use Prim.Native.Nat.{ℕ, ◌≤◌}
use native.Mathlib.Omega.{arith}
use lib.Dec.{T, eqb}
use Rattle.atoms.proofs.Truth.{T_inl}
use Rattle.ipl.specs.Formula.{Formula}
use Rattle.ipl.specs.Kripke.{Model, IsModel, Forces}
use Rattle.ipl.specs.Claim.{Countermodel}
use Rattle.ipl.specs.Search.{Outcome, valid, refuted, refused, unfinished}
use Rattle.ipl.specs.Range.{atom_or_bot}
use Rattle.ipl.specs.Book.{Book, answer}
use Rattle.ipl.specs.Demand.{is_valid, is_refuted}
use Rattle.ipl.proofs.Book.{goal_taken, goal_settled}
use Rattle.prover.specs.State.{worlds_of}
use Rattle.prover.specs.Told as prover
use Rattle.syntax.specs.Grammar.{Reads}
use Rattle.syntax.specs.Nodes.{nodes, named}
use Rattle.syntax.specs.Refusal.{most_names}
use Rattle.syntax.specs.Judge as text
use Rattle.syntax.specs.Judge.{Judgement, judge, Right}
use Rattle.syntax.proofs.Judge.{judge_right}
use Rattle.syntax.proofs.Unique.{unique}
use Rattle.fork.specs.Fork.{fork}
use Rattle.fork.specs.Screen as screen
use Rattle.fork.specs.Screen.{Screening, screening}
use Rattle.fork.specs.Answer as onFork
use Rattle.fork.specs.Answer.{sets_of, told, on_letters}
use Rattle.fork.proofs.Right.{screening_says, screen_right}
use Rattle.clausify.specs.Naming.{text_book, goal_of}
use Rattle.clausify.specs.Demand as clausify
use Rattle.clausify.proofs.TextBook.{text_book_is, goal_in_range, text_reached}
use Rattle.clausify.proofs.DemandTwo.{no_countermodel, demand_two}
use Rattle.text.specs.Text.{ascii, refusal}
use Rattle.report.specs.Report.{refuted_report}
use Rattle.report.specs.Printed.{printed_end, printed_as, printed}
use Rattle.report.specs.Screening.{falls_line, passes_line, screening_line}
use Rattle.zestanchor.specs.Screening.{FallsNeverValid, FallsNeverPrintedValid}

-- The root of every model forces the formula.
abbrev Everywhere : Formula → Type 0
Everywhere f = (m : Model) → IsModel m → Forces m m.root f

contrary : (s sets : List ℕ) → onFork.Says s (screen.falls sets) → (g : Formula) → Reads s g → Everywhere g → ⊥
contrary s sets (f, c, h) g reads every =
    h.unforced (subst Everywhere (unique s g f reads c.accepted.reads) every (fork (on_letters f sets)) h.model)

pub falls_never_valid : FallsNeverValid
falls_never_valid s r q a b sets falls steps v =
    let says = subst (λ (x : prover.Told). clausify.Says s x (worlds_of q.session.worlds)) (ap prover.told v) (demand_two s q b) in
    contrary s (sets_of sets) (subst (onFork.Says s) (ap told falls) (screen_right s r a).says) says.0 says.1 says.2

-- ---- the bytes of the screen

refusal_other : (b : Bool) (number place : ℕ) (sets : List ℕ) → refusal b number place ≡ falls_line sets → ⊥
unfolding refusal falls_line ascii
refusal_other true number place sets e = let z : ◌≡◌ {A = ℕ} 114 102 = cc in omega arith
refusal_other false number place sets e = let z : ◌≡◌ {A = ℕ} 114 102 = cc in omega arith

falls_told : (o : Screening) (sets : List ℕ) → screening_line o ≡ falls_line sets → (t : List ℕ) × (o ≡ screen.falls t)
unfolding falls_line passes_line ascii
falls_told (screen.refused number place) sets e = absurd (refusal_other (eqb number 3) number place sets e)
falls_told screen.passes sets e = let z : ◌≡◌ {A = ℕ} 112 102 = cc in absurd (omega arith)
falls_told (screen.falls t) sets e = (t, refl)

falls_says : (s t : List ℕ) → screening (judge s) ≡ screen.falls t → onFork.Says s (screen.falls t)
falls_says s t e = subst (onFork.Says s) e (screening_says s)

-- ---- the bytes of the report

refusal_not_valid : (b : Bool) (number place : ℕ) (rest : List ℕ) → refusal b number place ≡ ascii "valid\n" ++ rest → ⊥
unfolding refusal ascii
refusal_not_valid true number place rest e = let z : ◌≡◌ {A = ℕ} 114 118 = cc in omega arith
refusal_not_valid false number place rest e = let z : ◌≡◌ {A = ℕ} 114 118 = cc in omega arith

printed_valid : (n before : ℕ) (o : Outcome) (rest : List ℕ) → printed_end n before o ≡ ascii "valid\n" ++ rest → T (is_valid o)
unfolding printed_end refuted_report ascii is_valid
printed_valid n before (valid end) rest e = tt
printed_valid n before (refuted end) rest e = let z : ◌≡◌ {A = ℕ} 114 118 = cc in absurd (omega arith)
printed_valid n before (refused number) rest e = absurd (refusal_not_valid (eqb number 3) number 0 rest e)
printed_valid n before unfinished rest e = let z : ◌≡◌ {A = ℕ} 0 1 = cc in absurd (omega arith)

-- A text whose answer is valid.
valid_everywhere : (f : Formula) → named (nodes f).table ≤ most_names → T (is_valid (answer (text_book f) (goal_of f))) → Everywhere f
valid_everywhere f few v =
    let k = text_book f in
    let same = text_book_is f few in
    let goal_ok : T (atom_or_bot k.n (goal_of f)) = rw (ap (λ (b : Book). b.n) same) (goal_in_range f few) in
    let settled = goal_settled k (goal_of f) (text_reached f) (goal_taken k (goal_of f) goal_ok) in
    let none = (settled.right.valid_iff (T_inl (is_valid (answer k (goal_of f))) (is_refuted (answer k (goal_of f))) v)).0 v in
    no_countermodel f few (λ m c. none m (subst (λ (b : Book). Countermodel b.flats b.implications (goal_of f) m) (sym same) c))

reported_valid : (s rest : List ℕ) → printed s ≡ ascii "valid\n" ++ rest → (f : Formula) × Reads s f × Everywhere f
unfolding printed printed_as
reported_valid s rest = by_judgement (judge s) (judge_right s)
  where
    by_judgement : (j : Judgement) → Right s j → printed_as j ≡ ascii "valid\n" ++ rest → (f : Formula) × Reads s f × Everywhere f
    by_judgement (text.refused number place) x e = absurd (refusal_not_valid (eqb number 3) number place rest e)
    by_judgement (text.accepted f) x e =
        (f, x.reads, valid_everywhere f (omega (arith, x.size_right)) (printed_valid (text_book f).n 0 (answer (text_book f) (goal_of f)) rest e))

pub falls_never_printed_valid : FallsNeverPrintedValid
falls_never_printed_valid s sets falls rest e =
    let t = falls_told (screening (judge s)) sets falls in
    let v = reported_valid s rest e in
    contrary s t.0 (falls_says s t.0 t.1) v.0 v.1 v.2
