-- What is printed of a certificate is one short line.
use mathlib.Core.List.{List, [], ◌++◌, append-nil}
use mathlib.Core.Logic.{inl}
use mathlib.Core.Option.{some}
use mathlib.Core.Path.{◌≡◌, refl, subst}
use Prim.Native.Nat.{ℕ, ◌≤◌}
use Rattle.std.proofs.Common.{Result}
use native.Mathlib.Omega.{arith}
use lib.Dec.{T, eqb, leb, leb→le}
use lib.ListN.{length}
use Rattle.atoms.proofs.Truth.{T_left}
use Rattle.ipl.specs.Lists.{all}
use Rattle.ipl.specs.Range.{step_table, world_table, set_in_range}
use Rattle.ipl.specs.Search.{Step, step_in_range}
use Rattle.certificate.specs.Certificate as certificate
use Rattle.certificate.specs.Certificate.{Problem, Claim, Judgement}
use Rattle.certificate.specs.Layout.{problem_of, claim_of}
use Rattle.certificate.specs.Judge.{claim_in_range, in_range, wrong_place, judge}
use Rattle.certificate.specs.Accepted.{Refusal, layout, range, closing, claim}
use Rattle.certificate.proofs.InRange.{range_parts}
use Rattle.certificate.proofs.Claims.{StepWrong, step, goal, step_first, world_first}
use Rattle.certificate.proofs.Acceptance.{refused_iff}
use Rattle.text.specs.Text.{ascii}
use Rattle.text.specs.Output.{longest, Reported, Gives}
use Rattle.text.proofs.Lengths.{refusal_length}
use Rattle.text.proofs.Appending.{reported_gives}
use Rattle.certificate.specs.Checked.{judgement_of, BeginningChecked}
use Rattle.certificate.specs.declared.Contents.{Contents}
use Rattle.certificate.specs.declared.fault.Fault.{Fault}
use Rattle.judgement.specs.Report.{accepted_line, check_report, check_report_of, Judged}
use Rattle.judgement.proofs.Printed.{check_report_printed}

step_place : (p : Problem) (S : List Step) (i : ℕ) → StepWrong p S i → i ≤ length S
step_place p S i (step f) = omega (arith, f.below)
step_place p S i (goal h g) = omega arith

-- A place is one of the rows, or follows them.
place_small : (p : Problem) (c : Claim) (place : ℕ) → T (in_range p c) → wrong_place p c ≡ some place → place ≤ 512
unfolding claim_in_range
place_small p (certificate.valid S) place r e =
    let few = leb→le (length S) step_table (T_left (leb (length S) step_table) (all (step_in_range p.n (length p.implications)) S) (range_parts p (certificate.valid S) r).claim) in
    omega (arith, step_place p S place (step_first p S place e))
place_small p (certificate.refuted W) place r e =
    let few = leb→le (length W) world_table (T_left (leb (length W) world_table) (all (set_in_range p.n) W) (range_parts p (certificate.refuted W) r).claim) in
    omega (arith, (world_first p W place e).below)

refusal_small : (s : List ℕ) (number place : ℕ) → Refusal s number place → (number ≤ 512) × (place ≤ 512)
refusal_small s number place (layout l) = (omega arith, omega arith)
refusal_small s number place (range l r) = (omega arith, omega arith)
refusal_small s number place (closing l r k) = (omega arith, omega arith)
refusal_small s number place (claim l r k w) = (omega arith, place_small (problem_of s) (claim_of s) place r w)

pub judgement_fits : (s : List ℕ) → length (check_report (judge s)) ≤ longest
unfolding longest accepted_line ascii
judgement_fits s = go (judge s) refl
  where
    go : (j : Judgement) → judge s ≡ j → length (check_report j) ≤ longest
    go (certificate.accepted p (certificate.valid S)) e = omega arith
    go (certificate.accepted p (certificate.refuted W)) e = omega arith
    go (certificate.refused number place) e =
        let small = refusal_small s number place ((refused_iff s number place).0 e) in
        omega (arith, refusal_length (eqb number 16) 2 2 number place (omega (arith, small.0)) (omega (arith, small.1)))

-- So it is given whole, or the output is too short.
judgement_given : {entry exit : List ℕ} {r : ℕ} (s : List ℕ) (k : Result Contents Fault) → judgement_of s k ≡ judge s → Reported (check_report_of k) entry exit r
    → Gives (check_report (judge s)) entry exit r
judgement_given {entry} {exit} {r} s k e w =
    reported_gives (judgement_fits s) (subst (λ (T : List ℕ). Reported T entry exit r) (check_report_printed s k e) w)

pub judged : {s entry exit : List ℕ} {more r : ℕ} (k : Result Contents Fault) → BeginningChecked s more k → Reported (check_report_of k) entry exit r → Judged s more entry exit r
judged {s} k b w = record { given = λ rest l room. judgement_given (s ++ rest) k (b rest l room) w; answer = k; reported = w }

-- Nothing follows.
pub judged_whole : {s entry exit : List ℕ} {r : ℕ} → Judged s 0 entry exit r → Gives (check_report (judge s)) entry exit r
judged_whole {s} {entry} {exit} {r} j =
    subst (λ (b : List ℕ). Gives (check_report (judge b)) entry exit r) (append-nil s) (j.given [] refl (inl refl))
