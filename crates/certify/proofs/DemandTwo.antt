-- Demand 2: "every sheet written from a session opened by us and changed only through its calls is accepted and reads back as the
-- problem and answer it came from"; its length is told. What a call leaves to be written is right.
use mathlib.Core.Bool.{Bool, true, false, cond}
use mathlib.Core.List.{List, [], ◌∷◌, map}
use mathlib.Core.Option.{Option, none, some, or_else}
use mathlib.Core.Path.{◌≡◌, refl, sym, ap, ap₂, ◌∙◌, subst}
use Prim.Native.Nat.{ℕ}
use native.Mathlib.Decide.{dec_le}
use native.Mathlib.Omega.{arith}
use lib.Dec.{eqb}
use lib.ListN.{take}
use borrow.Author.Tests.{eq-eqb, ne_eqb}
use Rattle.ipl.specs.Search.{Step, Outcome, valid, refuted, refused, unfinished}
use Rattle.ipl.specs.Page.{Entry, searched, refuted_by}
use Rattle.ipl.specs.Book as B
use Rattle.ipl.specs.Authors.{is_author}
use Rattle.ipl.specs.Book.{Book, Call, opened, answer_to, addition_refusal, refusal, entries, taken, steps_after}
use Rattle.ipl.specs.Demand.{is_valid, is_refuted}
use Rattle.ipl.proofs.Book.{Reached, opened_reached, next_reached, verdict_from}
use Rattle.prover.specs.State.{worlds_of, book}
use Rattle.prover.specs.InRange.{in_range}
use Rattle.prover.specs.Work.{works_of}
use Rattle.prover.specs.Calls.{number, NothingHeld, VerdictKept, AskedAs}
use Rattle.prover.specs.Page.{goals_of, PageAnswered}
use Rattle.prover.specs.Demand.{Made, add_flat, add_implication, question, set_mark, return_to, page, call_of, PageReturned, Returned, session_of, Meets, Run, end_of}
use Rattle.prover.specs.declared.Work.{Work}
use Rattle.prover.specs.declared.Held.{Held}
use Rattle.prover.specs.declared.Held.TheVariants as held
use Rattle.prover.specs.declared.Session.{Session}
use Rattle.prover.specs.Told.{Changed, Answered}
use Rattle.prover.specs.declared.GoalRecord.{GoalRecord}
use Rattle.prover.proofs.Keeping.{ByBook, Kept, nothing_in_range, dropped_kept, set_kept, asked_as}
use Rattle.prover.proofs.PageRuns.{EntryRun, EntriesRun, searched_kept, entry_book, entry_stays, author_known, page_follows, page_unchanged}
use Rattle.prover.proofs.DemandThree.{call_kept}
use Rattle.certificate.specs.Certificate as certificate
use Rattle.certificate.specs.Judge.{judge}
use Rattle.certificate.specs.Written.{problem_of_book, claim_of_verdict}
use Rattle.certificate.specs.Accepted.{Right}
use Rattle.certificate.proofs.Acceptance.{encode_accepted}
use Rattle.certificate.proofs.Reached.{reached_right}
use Rattle.certify.specs.Held.{Certificate, bytes_of, certificate_held}
use Rattle.certify.specs.Written.{told_of, length_told, WrittenAs}
use Rattle.certify.specs.Demand.{with_problem, keeps_answer, keeps_entry, keeps_entries, keeps, last_answer, WrittenFrom, WrittenAfter, DemandTwoWritten}
use Rattle.certify.proofs.Buffer.{bytes_counted, length_given}
use Rattle.std.specs.Prelude.{Result, Ok, Err}
use Rattle.refusal.specs.declared.Refusal.{Refusal}
use Rattle.refusal.specs.declared.Refusal.TheVariants.{Range}
use Rattle.atoms.proofs.Bytes.{take_put}

-- ---- what a run keeps

-- A right problem and answer, where there is one.
abbrev pub IsRight : Option Certificate → Type 0
IsRight none = Unit {0}
IsRight (some x) = Right x.problem x.claim

pub record Standing (s : Session) (x : Option Certificate) : Type 0 where
  pub is_in_range : in_range s ≡ true
  pub reached : Reached (book s)
  pub held_is : certificate_held s s.held ≡ x
  pub right : IsRight x

-- At first, no verdict is held.
pub nothing_stands : {W : List Work} (s : Session) → Reached (book s) → NothingHeld W s → Standing s none
nothing_stands {W} s reached nothing = record {
  is_in_range = nothing_in_range W s reached nothing;
  reached = reached;
  held_is = ap (certificate_held s) nothing.no_verdict;
  right = tt;
}

module _ (s : Session) (x : Option Certificate) (h : Standing s x) where
  -- After a call, once it is known what is held.
  after_call : (c : Call) (u : Session) → Kept s c u → (y : Option Certificate) → certificate_held u u.held ≡ y → IsRight y → Standing u y
  after_call c u k y e right = record { is_in_range = k.1; reached = subst Reached (sym k.0) (next_reached (book s) c h.reached); held_is = e; right = right }

  -- A call that is taken, and one that is refused.
  module _ (c : Call) (Rest : Session → Type 0) (u : Changed) (a : ByBook s c Rest u)
      (y : Option Certificate) (taken-stands : book u.session ≡ taken (book s) c → Rest u.session → Standing u.session y) where
    met : number s (refusal (book s) c) ≡ refusal (book s) c
    met = rw h.is_in_range

    changed : Standing u.session (cond (eqb (refusal (book s) c) 0) y x)
    changed = elim (dec_le (refusal (book s) c) 0) [
      | yes l ↦
          let e : refusal (book s) c ≡ 0 = omega arith in
          rw (eq-eqb (refusal (book s) c) 0 e) (taken-stands (a.holds (met ∙ e)) (a.rest (met ∙ e)))
      | no l ↦
          let d : refusal (book s) c ≡ 0 → ⊥ = λ e. omega arith in
          rw (ne_eqb (refusal (book s) c) 0 d) (subst (λ (v : Session). Standing v x) (sym (a.unchanged (λ e. d (sym met ∙ e)))) h)
    ]

  -- Additions and returns drop the verdict.
  pub dropped : (c : Call) (u : Changed) → ByBook s c (NothingHeld (works_of s.authors)) u
      → Standing u.session (cond (eqb (refusal (book s) c) 0) none x)
  dropped c u a =
      changed c (NothingHeld (works_of s.authors)) u a none
      (λ b nothing. after_call c u.session (dropped_kept s h.is_in_range h.reached c u a) none (ap (certificate_held u.session) nothing.no_verdict) tt)

  -- A session u with the verdict of s, whose book k has the same problems and steps.
  held_same : (k : Book) → ((g : ℕ) → problem_of_book k g ≡ problem_of_book (book s) g) → k.steps ≡ (book s).steps → {W : List Work} (u : Session) → book u ≡ k → VerdictKept W s u
      → certificate_held u u.held ≡ x
  held_same k problem steps u b kept = ap (certificate_held u) kept.same_verdict ∙ by_verdict s.held ∙ h.held_is
    where
      by_verdict : (v : Held) → certificate_held u v ≡ certificate_held s v
      by_verdict held.Nothing = refl
      by_verdict (held.Valid g) =
          ap (λ (k : Book). some (record { problem = problem_of_book k g; claim = certificate.valid k.steps })) b
          ∙ ap₂ (λ (p : certificate.Problem) (S : List Step). some (record { problem = p; claim = certificate.valid S })) (problem g) steps
      by_verdict (held.Refuted g) =
          ap₂ (λ (k : Book) (W : List ℕ). some (record { problem = problem_of_book k g; claim = certificate.refuted W })) b (ap worlds_of kept.same_worlds)
          ∙ ap (λ (p : certificate.Problem). some (record { problem = p; claim = certificate.refuted (worlds_of s.worlds) })) (problem g)

  -- Setting a mark keeps it.
  pub mark_set : (j : ℕ) (u : Changed) → ByBook s (B.set_mark j) (VerdictKept (works_of s.authors) s) u → Standing u.session x
  unfolding taken
  mark_set j u a =
      subst (Standing u.session) (same (eqb (refusal (book s) (B.set_mark j)) 0)) (changed (B.set_mark j) (VerdictKept (works_of s.authors) s) u a x
      (λ b kept. after_call (B.set_mark j) u.session (set_kept s h.is_in_range h.reached j u a) x
      (held_same (taken (book s) (B.set_mark j)) (λ g. refl) refl u.session b kept) h.right))
    where
      same : (b : Bool) → cond b x x ≡ x
      same true = refl
      same false = refl

  answered : (w g : ℕ) (u : Answered) → Kept s (B.question w g) u.session → (o : Outcome) → answer_to (book s) w g ≡ o → AskedAs s w g o u
      → Standing u.session (keeps_answer (book s) g o x)
  unfolding claim_of_verdict steps_after or_else is_valid is_refuted
  answered w g u k (valid end) e a =
      after_call (B.question w g) u.session k (with_problem (book s) g (claim_of_verdict (book s) (valid end)))
      (ap (certificate_held u.session) a.0.kept ∙ ap (λ (b : Book). some (record { problem = problem_of_book b g; claim = certificate.valid b.steps })) a.1.holds)
      (reached_right (book s) h.reached g (certificate.valid end.steps) (ap (claim_of_verdict (book s)) (verdict_from (book s) w g (valid end) e tt).1))
  answered w g u k (refuted end) e a =
      after_call (B.question w g) u.session k (with_problem (book s) g (claim_of_verdict (book s) (refuted end)))
      (ap (certificate_held u.session) a.0.kept
      ∙ ap₂ (λ (b : Book) (W : List ℕ). some (record { problem = problem_of_book b g; claim = certificate.refuted W })) a.1.holds a.0.shows)
      (reached_right (book s) h.reached g (certificate.refuted end.worlds) (ap (claim_of_verdict (book s)) (verdict_from (book s) w g (refuted end) e tt).1))
  answered w g u k (refused m) e a = subst (λ (v : Session). Standing v x) (sym a.1) h
  answered w g u k unfinished e a = absurd a.0

  -- A goal of a page.
  entry_stands : (w : ℕ) → is_author w ≡ true → (g : ℕ) (e : Entry) (u : Session) → EntryRun s w g e u → Standing u (keeps_entry (book s) g e x)
  entry_stands w known g (searched o) u (a, asked, is, leaves) =
      subst (λ (v : Session). Standing v (keeps_answer (book s) g o x)) (sym leaves)
      (answered w g a (searched_kept w known s (record { is_in_range = h.is_in_range; reached = h.reached }) g o a asked is) o (rw known is) asked)
  entry_stands w known g (refuted_by j) u counted =
      let stays = entry_stays w known s (record { is_in_range = h.is_in_range; reached = h.reached }) g (refuted_by j) u counted in
      record { is_in_range = stays.is_in_range; reached = stays.reached; held_is = held_same (book s) (λ g. refl) refl u counted.0 counted.1; right = h.right }

-- A page.
module _ (w : ℕ) (known : is_author w ≡ true) where
  entries_stand : (gs : List ℕ) (es : List Entry) (s t : Session) (x : Option Certificate) → Standing s x → EntriesRun s w gs es t → Standing t (keeps_entries (book s) gs es x)
  entries_stand [] [] s t x h run = subst (λ (v : Session). Standing v x) (sym run) h
  entries_stand [] (e ∷ es) s t x h run = absurd run
  entries_stand (g ∷ gs) [] s t x h run = absurd run
  entries_stand (g ∷ gs) (e ∷ es) s t x h (u, first, rest) =
      subst (λ (k : Book). Standing t (keeps_entries k gs es (keeps_entry (book s) g e x))) (entry_book w known s (record { is_in_range = h.is_in_range; reached = h.reached }) g e u first)
      (entries_stand gs es u t (keeps_entry (book s) g e x) (entry_stands s x h w known g e u first) rest)

module _ (s : Session) (x : Option Certificate) (h : Standing s x) where
  pub page_stands : (w : ℕ) (xs : List GoalRecord) (u : PageReturned) → PageAnswered s w xs u.records u.changed
      → Standing u.changed.session (keeps (book s) (B.page w (goals_of xs)) x)
  page_stands w xs u m =
      let number = refusal (book s) (B.page w (goals_of xs)) in
      elim (dec_le number 0) [
        | yes l ↦
            let e : number ≡ 0 = omega arith in
            let run = (page_follows s h.is_in_range h.reached w xs u m e).0 in
            rw (eq-eqb number 0 e) (entries_stand w (author_known s h.is_in_range h.reached w xs u m e) (goals_of xs) (entries (book s) (goals_of xs)) s u.changed.session x h run)
        | no l ↦
            let d : number ≡ 0 → ⊥ = λ e. omega arith in
            rw (ne_eqb number 0 d) (subst (λ (v : Session). Standing v x) (sym (page_unchanged s h.is_in_range h.reached w xs u m d).0) h)
      ]

  pub called : (c : Made) (u : Returned c) → Meets s c u → Standing (session_of c u) (keeps (book s) (call_of c) x)
  unfolding refusal addition_refusal
  called (add_flat left right) u m = dropped s x h (call_of (add_flat left right)) u m
  called (add_implication a b c) u m = dropped s x h (call_of (add_implication a b c)) u m
  called (question w g) u m =
      answered s x h w g u (call_kept s h.is_in_range h.reached (question w g) u m) (answer_to (book s) w g) refl (asked_as s h.is_in_range h.reached w g u m)
  called (set_mark j) u m = mark_set s x h j u m
  called (return_to j) u m = dropped s x h (call_of (return_to j)) u m
  called (page w xs) u m = page_stands w xs u m

run_stands : (cs : List Made) (s : Session) (x : Option Certificate) → Standing s x → (run : Run s cs) → Standing (end_of s cs run) (last_answer (book s) x (map call_of cs))
unfolding last_answer
run_stands [] s x h run = h
run_stands (c ∷ cs) s x h run =
    let u = session_of c run.0 in
    subst (λ (k : Book). Standing (end_of u cs run.2) (last_answer k (keeps (book s) (call_of c) x) (map call_of cs))) (call_kept s h.is_in_range h.reached c run.0 run.1).0
    (run_stands cs u (keeps (book s) (call_of c) x) (called s x h c run.0 run.1) run.2)

-- ---- what is written of it

-- The length told is that of what stands.
told_standing : (s : Session) (x : Option Certificate) → Standing s x → length_told s ≡ told_of x
told_standing s x h = ap (λ (b : Bool). cond b (told_of (certificate_held s s.held)) (Err Range)) h.is_in_range ∙ ap told_of h.held_is

written_from : (s : Session) (x : Option Certificate) → Standing s x → (before : List ℕ) (r : Result ℕ Refusal) (after : List ℕ) → WrittenAs x before r after → WrittenFrom s x before r after
written_from s none h before r after w = (w.answer, told_standing s none h)
written_from s (some x) h before r after w = record {
  accepted_back = λ n e.
      let l = length_given x before r after w n e in
      ap judge (ap₂ (λ (m : ℕ) (b : List ℕ). take m b) (sym l.0) w.buffer ∙ take_put before (bytes_of x) l.1) ∙ encode_accepted x.problem x.claim h.right;
  told = told_standing s (some x) h ∙ ap Ok (sym (bytes_counted x));
}

-- From a session that holds a reached book and no verdict.
pub written_after : {W : List Work} (k : Book) → Reached k → (s : Session) → book s ≡ k → NothingHeld W s → WrittenAfter k s
written_after k reached s e nothing cs run before r after w =
    let start : Standing s none = nothing_stands s (subst Reached (sym e) reached) nothing in
    let end = end_of s cs run in
    let x = last_answer k none (map call_of cs) in
    let stands : Standing end x = subst (λ (k : Book). Standing end (last_answer k none (map call_of cs))) e (run_stands cs s none start run) in
    written_from end x stands before r after (subst (λ (y : Option Certificate). WrittenAs y before r after) stands.held_is (w.written stands.is_in_range))

pub demand_two_written : DemandTwoWritten
demand_two_written n o opening = written_after (opened n) (opened_reached n) o.session opening.holds opening.nothing
