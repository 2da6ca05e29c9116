-- The counts of authors: the theorem, for every run of calls.
use mathlib.Core.Bool.{Bool, true, false}
use mathlib.Core.List.{List, [], ◌∷◌, ◌++◌, map, append-nil, append_assoc}
use mathlib.Core.Path.{◌≡◌, refl, sym, ap, ap₂, ◌∙◌, subst}
use Prim.Native.Nat.{ℕ, zero, suc, ◌+◌, ◌<◌}
use native.Mathlib.Decide.{dec_le}
use native.Mathlib.Nat.{mod-lt, div-add-mod'}
use native.Mathlib.Omega.{arith}
use lib.Dec.{eqb}
use lib.ListN.{length, length-append, length-set}
use lib.Seq.{get_or-set_other}
use borrow.Author.Tests.{eqb-true, eqb-false, eq-eqb, ne_eqb}
use Rattle.atoms.proofs.Truth.{by_cond}
use Rattle.ipl.specs.Lists.{keep, tabulate, All}
use Rattle.ipl.specs.Authors.{author_table}
use Rattle.ipl.specs.Book.{Book, opened, answer_to, refusal, next}
use Rattle.ipl.specs.Work.{Decided, decided_by, decided, is_of, of_author, questions_of}
use Rattle.ipl.proofs.Lists.{keep_snoc, tabulate_length, tabulate_at, All_tabulate}
use Rattle.ipl.proofs.Book.{Reached, opened_reached, next_reached}
use Rattle.ipl.proofs.Work.{AllKnown, decided_known, sum_to, sum_same, worth_of, by_author, questions_worth, number_worth, questions_append}
use Rattle.prover.specs.State.{book}
use Rattle.prover.specs.InRange.{in_range}
use Rattle.prover.specs.Work.{most_work, staying, no_work, work_at, works_of, none_done, more_work, with_decided, with_all}
use Rattle.prover.specs.Calls.{NothingHeld, VerdictKept, Changes, mean_number, mean_of}
use Rattle.prover.specs.Demand.{Made, add_flat, add_implication, question, set_mark, return_to, page, call_of, Returned, session_of, Meets, Run, end_of}
use Rattle.prover.specs.Counts.{work_on, together, WorkRight, CountsFrom, CountsRight, IsMean, MeanExact}
use Rattle.prover.specs.PerVerdict.{Refused}
use Rattle.prover.specs.declared.Work.{Work}
use Rattle.prover.specs.declared.Authors.{Authors}
use Rattle.prover.specs.declared.Session.{Session}
use Rattle.prover.specs.Told.{Changed}
use Rattle.prover.proofs.Works.{row_at, row_decided, with_append}
use Rattle.prover.proofs.Refusals.{mean_zero}
use Rattle.prover.proofs.Keeping.{Kept, nothing_in_range, asked_as}
use Rattle.prover.proofs.PageRuns.{asked_then, page_answer, page_unchanged}
use Rattle.prover.proofs.DemandThree.{call_kept}

-- ---- what a call adds

-- Additions and marks add nothing, refused or not.
pub changed_work : (s : Session) (k : ℕ) (b : Book) (Rest : Session → Type 0) (r : Changed) → Changes s k b Rest r
    → (Rest r.session → works_of r.session.authors ≡ works_of s.authors) → works_of r.session.authors ≡ works_of s.authors
changed_work s k b Rest r a same = elim (dec_le k 0) [
  | yes l ↦ same (a.rest (omega arith))
  | no l ↦ ap (λ (u : Session). works_of u.authors) (a.unchanged (λ e. omega arith))
]

module _ (s : Session) (is_in_range : in_range s ≡ true) (r : Reached (book s)) where
  pub call_work : (c : Made) (x : Returned c) → Meets s c x → works_of (session_of c x).authors ≡ with_all (works_of s.authors) (decided_by (book s) (call_of c))
  unfolding decided_by with_all
  call_work (add_flat left right) x m = changed_work s _ _ (NothingHeld (works_of s.authors)) x m (λ n. n.work)
  call_work (add_implication a b c) x m = changed_work s _ _ (NothingHeld (works_of s.authors)) x m (λ n. n.work)
  call_work (question a g) x m = (asked_then s a g (answer_to (book s) a g) x (asked_as s is_in_range r a g x m)).work
  call_work (set_mark j) x m = changed_work s _ _ (VerdictKept (works_of s.authors) s) x m (λ k. k.work)
  call_work (return_to j) x m = changed_work s _ _ (NothingHeld (works_of s.authors)) x m (λ n. n.work)
  call_work (page a xs) x m = elim (dec_le number 0) [
    | yes l ↦ let e : number ≡ 0 = omega arith in (page_answer s is_in_range r a xs x m).work e ∙ rw (eq-eqb number 0 e)
    | no l ↦
        let d : number ≡ 0 → ⊥ = λ e. omega arith in
        ap (λ (u : Session). works_of u.authors) (page_unchanged s is_in_range r a xs x m d).0 ∙ rw (ne_eqb number 0 d)
  ]
    where
      number : ℕ
      number = refusal (book s) (call_of (page a xs))

pub run_work : (cs : List Made) (s : Session) → in_range s ≡ true → Reached (book s) → (run : Run s cs)
    → works_of (end_of s cs run).authors ≡ with_all (works_of s.authors) (decided (book s) (map call_of cs))
unfolding decided with_all
run_work [] s i r run = refl
run_work (c ∷ cs) s i r run =
    let u = session_of c run.0 in
    let kept : Kept s (call_of c) u = call_kept s i r c run.0 run.1 in
    run_work cs u kept.1 (subst Reached (sym kept.0) (next_reached (book s) (call_of c) r)) run.2
    ∙ ap₂ (λ (W : List Work) (k : Book). with_all W (decided k (map call_of cs))) (call_work s i r c run.0 run.1) kept.0
    ∙ sym (with_append (decided_by (book s) (call_of c)) (decided (next (book s) (call_of c)) (map call_of cs)) (works_of s.authors))

-- ---- each author's row

-- The rows W are those of the goals D.
pub record RowsOf (D : List Decided) (W : List Work) : Type 0 where
  pub size : length W ≡ author_table
  pub rows : (a : ℕ) → a < author_table → work_at W a ≡ work_on (of_author a D)

none_rows : RowsOf [] none_done
unfolding keep questions_of
none_rows = record { size = tabulate_length (λ a. no_work) author_table; rows = λ a l. tabulate_at (λ a. no_work) no_work author_table a l }

-- A goal more.
work_more : (D : List Decided) (d : Decided) → more_work (work_on D) d.questions ≡ work_on (D ++ (d ∷ []))
unfolding questions_of
work_more D d =
    ap₂ (λ (q v : ℕ). record { questions = q; verdicts = v }) (omega (arith, questions_append D (d ∷ []))) (omega (arith, length-append D (d ∷ [])))

rows_more : (D : List Decided) (d : Decided) (W : List Work) → RowsOf D W → RowsOf (D ++ (d ∷ [])) (with_decided W d)
rows_more D d W h = record { size = length-set W d.author _ ∙ h.size; rows = λ a l. by_test a l (is_of a d) refl }
  where
    by_test : (a : ℕ) → a < author_table → (b : Bool) → is_of a d ≡ b → work_at (with_decided W d) a ≡ work_on (of_author a (D ++ (d ∷ [])))
    by_test a l true own =
        row_decided W d a (eqb-true d.author a own) (rw h.size l)
        ∙ ap (λ (w : Work). more_work w d.questions) (h.rows a l) ∙ work_more (of_author a D) d ∙ sym (ap work_on (keep_snoc (is_of a) D d ∙ rw own))
    by_test a l false other =
        get_or-set_other W d.author a _ no_work (λ e. eqb-false d.author a other (sym e)) ∙ h.rows a l
        ∙ sym (ap work_on (keep_snoc (is_of a) D d ∙ rw other (append-nil (of_author a D))))

rows_all : (E D : List Decided) (W : List Work) → RowsOf D W → RowsOf (D ++ E) (with_all W E)
unfolding with_all
rows_all [] D W h = subst (λ (D : List Decided). RowsOf D W) (sym (append-nil D)) h
rows_all (d ∷ E) D W h =
    subst (λ (D : List Decided). RowsOf D (with_all (with_decided W d) E)) (append_assoc D (d ∷ []) E) (rows_all E (D ++ (d ∷ [])) (with_decided W d) (rows_more D d W h))

-- ---- all rows together

together_snoc : (f : Work → ℕ) (W : List Work) (w : Work) → together f (W ++ (w ∷ [])) ≡ together f W + f w
unfolding together
together_snoc f [] w = omega arith
together_snoc f (v ∷ W) w = omega (arith, together_snoc f W w)

together_rows : (f : Work → ℕ) (row : ℕ → Work) (n : ℕ) → together f (tabulate row n) ≡ sum_to (λ a. f (row a)) n
unfolding together tabulate sum_to
together_rows f row zero = refl
together_rows f row (suc n) = together_snoc f (tabulate row n) (row n) ∙ ap (λ (k : ℕ). k + f (row n)) (together_rows f row n)

module _ (t : Authors) (D : List Decided) (known : AllKnown D) (h : RowsOf D (works_of t)) where
  -- One of the two numbers of a row, and what a goal is worth in it.
  all_together : (f : Work → ℕ) (worth : Decided → ℕ) → ((E : List Decided) → f (work_on E) ≡ staying (worth_of worth E))
      → All (λ w. f w < most_work) (works_of t) → together f (works_of t) ≡ worth_of worth D
  all_together f worth is below =
      together_rows f (work_at t.rows) author_table ∙ sum_same _ (λ a. worth_of worth (of_author a D)) author_table own ∙ by_author worth D known
    where
      own : (a : ℕ) → a < author_table → f (work_at t.rows a) ≡ worth_of worth (of_author a D)
      own a l =
          let row = ap f (sym (row_at t a l) ∙ h.rows a l) ∙ is (of_author a D) in
          omega (arith, row, (All_tabulate (λ w. f w < most_work) (work_at t.rows) author_table).0 below a l)

  work_right : WorkRight D (works_of t)
  work_right = record {
    each = h.rows;
    all_questions = λ below. all_together (λ w. w.questions) (λ d. d.questions) (λ E. ap staying (sym (questions_worth E))) below ∙ questions_worth D;
    all_verdicts = λ below. all_together (λ w. w.verdicts) (λ d. 1) (λ E. ap staying (sym (number_worth E))) below ∙ number_worth D;
  }

-- ---- every run

-- From a session that holds a reached book and no verdict, whose authors have done nothing.
pub session_counts : (k : Book) → Reached k → (s : Session) → book s ≡ k → NothingHeld none_done s → CountsFrom k s
session_counts k reached s e nothing cs run =
    let r : Reached (book s) = subst Reached (sym e) reached in
    let D = decided (book s) (map call_of cs) in
    let made : works_of (end_of s cs run).authors ≡ with_all none_done D =
    run_work cs s (nothing_in_range none_done s r nothing) r run ∙ ap (λ (W : List Work). with_all W D) nothing.work in
    subst (λ (k : Book). WorkRight (decided k (map call_of cs)) (works_of (end_of s cs run).authors)) e
    (work_right (end_of s cs run).authors D (decided_known (map call_of cs) (book s)) (subst (RowsOf D) (sym made) (rows_all D [] none_done none_rows)))

pub counts_right : CountsRight
counts_right n o h = session_counts (opened n) (opened_reached n) o.session h.holds h.nothing

-- ---- the mean

pub mean_exact : MeanExact
mean_exact s a =
    by_cond (IsMean work) (eqb (mean_number s a) 0) (mean_of work) (Refused (mean_number s a))
    (λ e. (div-add-mod' work.questions work.verdicts, mod-lt work.questions (mean_zero s a (eqb-true (mean_number s a) 0 e)))) (λ _. tt)
  where
    work : Work
    work = work_at (works_of s.authors) a
