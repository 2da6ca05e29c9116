-- The checker's theorem: bytes are accepted exactly if they are those of a problem and a claim in range, with its closing clauses
-- and by the published rules; each refusal comes exactly when its line holds and no earlier one does.
use mathlib.Core.Bool.{cond}
use mathlib.Core.List.{List}
use mathlib.Core.Logic.{◌↔◌}
use mathlib.Core.Option.{Option, none, some}
use mathlib.Core.Path.{◌≡◌, refl, ap, ap₂, ◌∙◌, subst}
use Prim.Native.Nat.{ℕ, ◌^◌, ◌≤◌, ◌<◌}
use native.Mathlib.Omega.{arith}
use lib.Dec.{T, ltb, ltb→lt}
use lib.ListN.{length}
use Rattle.atoms.proofs.Truth.{T_right, T_true, true_T, by_cond}
use Rattle.atoms.proofs.Bytes.{set_fits}
use Rattle.atoms.proofs.Machine.{limit_small}
use Rattle.ipl.specs.Lists.{All}
use Rattle.ipl.specs.Clause.{closed}
use Rattle.ipl.specs.Range.{set_in_range}
use Rattle.ipl.specs.Search.{Step, step_in_range}
use Rattle.ipl.specs.Kripke.{Model, IsModel, forces_atom, ForcesFlat, ForcesImplication, shown}
use Rattle.ipl.specs.Claim.{Countermodel}
use Rattle.ipl.proofs.Lists.{all_All, All_all, All_map}
use Rattle.ipl.proofs.Range.{flat_below, implication_below, atom_or_bot_lem}
use Rattle.ipl.proofs.Steps.{derivation_forced}
use Rattle.ipl.proofs.PropositionTwo.{refuting_countermodel}
use Rattle.certificate.specs.Certificate.{Problem, Claim, valid, refuted, Judgement, accepted, refused}
use Rattle.certificate.specs.Format.{refutes, rows_of, claim_least, encode}
use Rattle.certificate.specs.Layout.{laid_out, problem_of, claim_of}
use Rattle.certificate.specs.Judge.{in_range, all_closed, wrong_place, judge_claim, judge_read, judge}
use Rattle.certificate.specs.Accepted.{Bytes, ClaimRight, Right, Addressed, Refusal, layout, range, closing, claim}
use Rattle.certificate.proofs.InRange.{range_parts, steps_ranged, worlds_ranged}
use Rattle.certificate.proofs.Encoding.{FlatFits, ClaimFits, encode_laid, problem_back, claim_back}
use Rattle.certificate.proofs.Decoding.{encode_back, addressed_back}
use Rattle.certificate.proofs.Claims.{derivation_iff, worlds_iff}

-- ---- the parts of a right certificate

set_below : (n s : ℕ) → T (set_in_range n s) → s < 2 ^ n
unfolding set_in_range
set_below n s t = ltb→lt s (2 ^ n) t

step_below : (n m : ℕ) (s : Step) → T (step_in_range n m s) → s.assumed < 2 ^ n
unfolding step_in_range
step_below n m s t = set_below n s.assumed (T_right (ltb s.number m) (set_in_range n s.assumed) t)

closed_all : (p : Problem) → T (all_closed p) ↔ All (λ i. T (closed p.flats i)) p.implications
unfolding all_closed
closed_all p = (all_All (closed p.flats) p.implications, All_all (closed p.flats) p.implications)

-- A claim in range, with a world where it has worlds, is right exactly if no place in it is wrong.
claim_iff : (p : Problem) (c : Claim) → T (in_range p c) → claim_least (refutes c) ≤ rows_of c → (wrong_place p c ≡ none) ↔ ClaimRight p c
unfolding refutes rows_of
claim_iff p (valid S) t h = derivation_iff p S (steps_ranged p.n (length p.implications) S (range_parts p (valid S) t).claim).0
claim_iff p (refuted W) t h = worlds_iff p W h

-- ---- accepted

-- What is said of a judgement.
Said : List ℕ → Judgement → Type 0
Said s (accepted p c) =
    T (laid_out s) × (problem_of s ≡ p) × (claim_of s ≡ c) × T (in_range (problem_of s) (claim_of s)) × T (all_closed (problem_of s)) × (wrong_place (problem_of s) (claim_of s) ≡ none)
Said s (refused number place) = Refusal s number place

judge_said : (s : List ℕ) → Said s (judge s)
unfolding Said judge judge_read judge_claim
judge_said s =
    let p = problem_of s in
    let c = claim_of s in
    let judged = judge_claim p c (wrong_place p c) in
    by_cond (Said s) (laid_out s) (judge_read p c) (refused 13 0)
    (λ l. by_cond (Said s) (in_range p c) (cond (all_closed p) judged (refused 15 0)) (refused 14 0)
    (λ r. by_cond (Said s) (all_closed p) judged (refused 15 0) (λ k. go (true_T l) (true_T r) (true_T k) (wrong_place p c) refl) (λ k. closing (true_T l) (true_T r) k))
    (λ r. range (true_T l) r))
    (λ l. layout l)
  where
    go : T (laid_out s) → T (in_range (problem_of s) (claim_of s)) → T (all_closed (problem_of s)) → (o : Option ℕ)
        → wrong_place (problem_of s) (claim_of s) ≡ o → Said s (judge_claim (problem_of s) (claim_of s) o)
    go l r k none e = (l, refl, refl, r, k, e)
    go l r k (some place) e = claim l r k e

-- What right problems and claims have: starts, lengths and sets that fit their bytes.
right_addressed : (p : Problem) (c : Claim) → Right p c → Addressed p c
unfolding refutes rows_of
right_addressed p (valid S) r =
    let t = range_parts p (valid S) r.range in
    let few = (steps_ranged p.n (length p.implications) S t.claim).1 in
    record { starts = omega (arith, t.flat_count_small, t.implication_count_small); size = omega arith; some = omega arith }
right_addressed p (refuted W) r =
    let t = range_parts p (refuted W) r.range in
    let few = (worlds_ranged p.n (length p.implications) W t.claim).1 in
    record { starts = omega (arith, t.flat_count_small, t.implication_count_small); size = omega arith; some = r.claim.refuting.some }

right_flats : (p : Problem) (c : Claim) → Right p c → All FlatFits p.flats
right_flats p c r =
    let t = range_parts p c r.range in
    All_map p.flats (λ f h. let b = flat_below p.n f h in record { left = set_fits p.n f.left t.few b.left; right = set_fits p.n f.right t.few b.right }) t.flats

right_claim : (p : Problem) (c : Claim) → Right p c → ClaimFits c
right_claim p (valid S) r =
    let t = range_parts p (valid S) r.range in
    All_map S (λ s h. set_fits p.n s.assumed t.few (step_below p.n (length p.implications) s h)) (steps_ranged p.n (length p.implications) S t.claim).0
right_claim p (refuted W) r =
    let t = range_parts p (refuted W) r.range in
    All_map W (λ w h. set_fits p.n w t.few (set_below p.n w h)) (worlds_ranged p.n (length p.implications) W t.claim).0

-- What the writer needs: the bytes of a right problem and claim are accepted and read back as that problem and that claim.
pub encode_accepted : (p : Problem) (c : Claim) → Right p c → judge (encode p c) ≡ accepted p c
unfolding judge judge_read judge_claim
encode_accepted p c r =
    let a = right_addressed p c r in
    rw (
      encode_laid p c a,
      problem_back p c a (right_flats p c r),
      claim_back p c a (right_claim p c r),
      T_true (in_range p c) r.range,
      T_true (all_closed p) ((closed_all p).1 r.closings),
      (claim_iff p c r.range a.some).1 r.claim,
    ) refl

-- "A sheet, whoever made it, is accepted exactly if it keeps document 01's layout, ranges and closing clauses and its derivation
-- steps or worlds meet the published rules."
pub accepted_iff : (s : List ℕ) → Bytes s → (p : Problem) (c : Claim) → (judge s ≡ accepted p c) ↔ ((s ≡ encode p c) × Right p c)
unfolding Said
accepted_iff s bytes p c = (
  λ e. let said = subst (Said s) e (judge_said s) in
      let same : s ≡ encode p c = encode_back s bytes said.0 ∙ ap₂ encode said.1 said.2 in (
        same,
        subst (λ q. Right q c) said.1 (subst (Right (problem_of s)) said.2 (record {
          range = said.3;
          closings = (closed_all (problem_of s)).0 said.4;
          claim = (claim_iff (problem_of s) (claim_of s) said.3 (addressed_back s bytes said.0).some).0 said.5;
        })),
      ),
  λ h. ap judge h.0 ∙ encode_accepted p c h.1,
)

-- ---- refused

-- "Each number comes when its line holds and no earlier one does, and only then."
pub refused_iff : (s : List ℕ) (number place : ℕ) → (judge s ≡ refused number place) ↔ Refusal s number place
unfolding Said judge judge_read judge_claim
refused_iff s number place = (λ e. subst (Said s) e (judge_said s), back number place)
  where
    back : (number place : ℕ) → Refusal s number place → judge s ≡ refused number place
    back number place (layout l) = rw l refl
    back number place (range l r) = rw (T_true (laid_out s) l, r) refl
    back number place (closing l r k) = rw (T_true (laid_out s) l, T_true (in_range (problem_of s) (claim_of s)) r, k) refl
    back number place (claim l r k w) = rw (T_true (laid_out s) l, T_true (in_range (problem_of s) (claim_of s)) r, T_true (all_closed (problem_of s)) k, w) refl

-- ---- what acceptance means

-- "An accepted valid sheet's goal is forced at the root of every finite Kripke model that forces its clauses."
pub accepted_valid : (s : List ℕ) → Bytes s → (p : Problem) (S : List Step) → judge s ≡ accepted p (valid S) → (m : Model) → IsModel m
    → All (ForcesFlat m m.root) p.flats → All (ForcesImplication m m.root) p.implications → T (forces_atom m m.root p.goal)
accepted_valid s bytes p S e m ok hF hX =
    let r = ((accepted_iff s bytes p (valid S)).0 e).1 in
    let t = range_parts p (valid S) r.range in
    derivation_forced p.n p.flats p.implications (All_map p.flats (flat_below p.n) t.flats) (All_map p.implications (implication_below p.n) t.implications)
    (omega (arith, t.few, limit_small)) m ok m.root ok.root_world hF hX p.goal (atom_or_bot_lem p.n p.goal t.goal) S r.claim

-- "An accepted refuted sheet's worlds are a countermodel."
pub accepted_refuted : (s : List ℕ) → Bytes s → (p : Problem) (W : List ℕ) → judge s ≡ accepted p (refuted W) → Countermodel p.flats p.implications p.goal (shown W)
accepted_refuted s bytes p W e =
    let r = ((accepted_iff s bytes p (refuted W)).0 e).1 in
    let t = range_parts p (refuted W) r.range in
    refuting_countermodel p.n (omega (arith, t.few, limit_small)) W (All_map W (set_below p.n) (worlds_ranged p.n (length p.implications) W t.claim).0)
    p.flats p.implications p.goal r.claim.refuting r.closings
