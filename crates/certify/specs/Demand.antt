-- Demand 2, what is written: "every sheet written from a session opened by us and changed only through its calls is accepted and
-- reads back as the problem and answer it came from"; the length told is that of the sheet.
use Rattle.std.specs.Prelude.{cond, List, [], ◌∷◌, map, ◌≡◌, ℕ, eqb, length, take, Result, Ok, Err}
use Rattle.std.proofs.Math.Option.{Option, none, some, or_else}
use Rattle.refusal.specs.declared.Refusal.{Refusal}
use Rattle.refusal.specs.declared.Refusal.TheVariants.{NoVerdict}
use Rattle.ipl.specs.Book as B
use Rattle.ipl.specs.Search.{Outcome}
use Rattle.ipl.specs.Page.{Entry, searched, refuted_by}
use Rattle.ipl.specs.Book.{Book, Call, opened, answer_to, refusal, after_entry, entries, next}
use Rattle.prover.specs.Calls.{Opened}
use Rattle.prover.specs.Demand.{Made, call_of, Run, end_of}
use Rattle.prover.specs.declared.Session.{Session}
use Rattle.prover.specs.Told.{Changed}
use Rattle.certificate.specs.Certificate.{Claim, accepted}
use Rattle.certificate.specs.Judge.{judge}
use Rattle.certificate.specs.Written.{problem_of_book, claim_of_verdict}
use Rattle.certify.specs.Held.{Certificate, bytes_of}
use Rattle.certify.specs.Written.{length_told, Written}

-- The problem and answer of a question put to the book, where it gets a verdict.
abbrev pub with_problem : Book → ℕ → Option Claim → Option Certificate
with_problem k g none = none
with_problem k g (some c) = some (record { problem = problem_of_book k g; claim = c })

abbrev pub keeps_answer : Book → ℕ → Outcome → Option Certificate → Option Certificate
keeps_answer k g o x = or_else (with_problem k g (claim_of_verdict k o)) x

-- After a page: of the last goal searched to a verdict.
abbrev pub keeps_entry : Book → ℕ → Entry → Option Certificate → Option Certificate
keeps_entry k g (searched o) x = keeps_answer k g o x
keeps_entry k g (refuted_by j) x = x

abbrev pub keeps_entries : Book → List ℕ → List Entry → Option Certificate → Option Certificate
keeps_entries k [] es x = x
keeps_entries k (g ∷ gs) [] x = x
keeps_entries k (g ∷ gs) (e ∷ es) x = keeps_entries (after_entry k e) gs es (keeps_entry k g e x)

-- What there is to write after a call: an addition or a return that is taken leaves nothing, a verdict its problem and answer; else
-- it stays.
abbrev pub keeps : Book → Call → Option Certificate → Option Certificate
keeps k (B.add a) x = cond (eqb (refusal k (B.add a)) 0) none x
keeps k (B.question a g) x = keeps_answer k g (answer_to k a g) x
keeps k (B.set_mark j) x = x
keeps k (B.return_to j) x = cond (eqb (refusal k (B.return_to j)) 0) none x
keeps k (B.page a gs) x = cond (eqb (refusal k (B.page a gs)) 0) (keeps_entries k gs (entries k gs) x) x

-- "The session keeps its last verdict until a clause is added", or a mark returned to; by the book alone: x is what there was before
-- the calls.
unfoldable pub last_answer : Book → Option Certificate → List Call → Option Certificate
last_answer k x [] = x
last_answer k x (c ∷ cs) = last_answer (next k c) (keeps k c x) cs

-- Of what was written of s into a buffer, where x is the problem and answer.
pub record CertificateWritten (s : Session) (x : Certificate) (before : List ℕ) (r : Result ℕ Refusal) (after : List ℕ) : Type 0 where
  -- It "is accepted and reads back as the problem and answer it came from".
  pub accepted_back : (size : ℕ) → r ≡ Ok size → judge (take size after) ≡ accepted x.problem x.claim
  -- "The length told must now be exactly that of the sheet."
  pub told : length_told s ≡ Ok (length (bytes_of x))

-- Nothing to write or to tell the length of: refused 9.
abbrev pub WrittenFrom : Session → Option Certificate → List ℕ → Result ℕ Refusal → List ℕ → Type 0
WrittenFrom s none before r after = (r ≡ Err NoVerdict) × (length_told s ≡ Err NoVerdict)
WrittenFrom s (some x) before r after = CertificateWritten s x before r after

-- Of a session s that holds the book k and no verdict: what is written of the session at the end of any run of calls on it.
abbrev pub WrittenAfter : Book → Session → Type 0
WrittenAfter k s = (cs : List Made) (run : Run s cs) (before : List ℕ) (r : Result ℕ Refusal) (after : List ℕ) → Written (end_of s cs run) before r after
    → WrittenFrom (end_of s cs run) (last_answer k none (map call_of cs)) before r after

-- For every n and every opening.
abbrev pub DemandTwoWritten : Type 0
DemandTwoWritten = (n : ℕ) (o : Changed) → Opened n o → WrittenAfter (opened n) o.session
