-- Laws of the work of authors: a row is written, goals are decided one after the other, and no count passes its end.
use mathlib.Core.List.{List, [], ◌∷◌, ◌++◌}
use mathlib.Core.Path.{◌≡◌, refl, sym, ap, ◌∙◌, subst}
use Prim.Native.Nat.{ℕ, zero, suc, ◌≤◌, ◌<◌}
use native.Mathlib.Omega.{arith}
use lib.ListN.{length, set, length-set, get_or-eq_default}
use lib.Seq.{get_or-set_same}
use Rattle.ipl.specs.Lists.{All}
use Rattle.ipl.specs.Authors.{author_table}
use Rattle.ipl.specs.Work.{Decided}
use Rattle.ipl.proofs.Lists.{tabulate_length, All_tabulate, tabulate_at, tabulate_rows}
use Rattle.prover.specs.Work.{most_work, no_work, work_at, works_of, none_done, more_work, with_decided, with_all}
use Rattle.prover.specs.declared.Work.{Work}
use Rattle.prover.specs.declared.Authors.{Authors}

-- ---- the table

pub row_written : (t : Authors) (a : ℕ) (w : Work) → length t.rows ≡ author_table → works_of (record { rows = set t.rows a w }) ≡ set (works_of t) a w
row_written t a w size =
    tabulate_rows no_work (set t.rows a w) author_table (length-set t.rows a w ∙ size)
    ∙ ap (λ (W : List Work). set W a w) (sym (tabulate_rows no_work t.rows author_table size))

pub row_at : (t : Authors) (a : ℕ) → a < author_table → work_at (works_of t) a ≡ work_at t.rows a
row_at t a known = tabulate_at (work_at t.rows) no_work author_table a known

pub no_row_at : (t : Authors) (a : ℕ) → author_table ≤ a → work_at (works_of t) a ≡ no_work
no_row_at t a past = get_or-eq_default (works_of t) no_work (omega (arith, past, tabulate_length (work_at t.rows) author_table))

-- ---- goals decided

-- The author's own row.
pub row_decided : (W : List Work) (d : Decided) (a : ℕ) → d.author ≡ a → a < length W → work_at (with_decided W d) a ≡ more_work (work_at W a) d.questions
row_decided W d a own l =
    subst (λ (i : ℕ). work_at (set W i (more_work (work_at W i) d.questions)) a ≡ more_work (work_at W a) d.questions) (sym own)
    (get_or-set_same W a (more_work (work_at W a) d.questions) no_work l)

pub with_append : (D E : List Decided) (W : List Work) → with_all W (D ++ E) ≡ with_all (with_all W D) E
unfolding with_all
with_append [] E W = refl
with_append (d ∷ D) E W = with_append D E (with_decided W d)

-- ---- no count passes its end

abbrev pub Bounded : List Work → Type 0
Bounded W = All (λ w. w.questions ≤ most_work) W

pub none_bounded : Bounded none_done
none_bounded = (All_tabulate (λ w. w.questions ≤ most_work) (λ a. no_work) author_table).1 (λ a l. omega arith)

set_bounded : (W : List Work) (a : ℕ) (w : Work) → w.questions ≤ most_work → Bounded W → Bounded (set W a w)
set_bounded [] a w l h = tt
set_bounded (v ∷ W) zero w l h = (l, h.1)
set_bounded (v ∷ W) (suc a) w l h = (h.0, set_bounded W a w l h.1)

pub with_bounded : (D : List Decided) (W : List Work) → Bounded W → Bounded (with_all W D)
unfolding with_all
with_bounded [] W h = h
with_bounded (d ∷ D) W h = with_bounded D (with_decided W d) (set_bounded W d.author (more_work (work_at W d.author) d.questions) (omega arith) h)

pub bounded_at : (W : List Work) (a : ℕ) → Bounded W → (work_at W a).questions ≤ most_work
bounded_at [] a h = omega arith
bounded_at (w ∷ W) zero h = h.0
bounded_at (w ∷ W) (suc a) h = bounded_at W a h.1
