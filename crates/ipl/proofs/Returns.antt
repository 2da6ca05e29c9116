-- Coming back to a mark: what was held when it was set is held again.
use mathlib.Core.List.{List, [], ◌∷◌, ◌++◌}
use mathlib.Core.Path.{◌≡◌, refl, ap}
use Prim.Native.Nat.{ℕ, ◌<◌}
use lib.Dec.{eqb}
use lib.ListN.{length}
use borrow.Author.Tests.{eqb-true}
use Rattle.atoms.proofs.Truth.{by_cond}
use Rattle.ipl.specs.Lists.{All}
use Rattle.ipl.specs.Clause.{closings}
use Rattle.ipl.specs.Search.{refused}
use Rattle.ipl.specs.Authors.{is_author}
use Rattle.ipl.specs.Marks.{mark_table, Mark, others, place_of, mark_at}
use Rattle.ipl.specs.Book.{Book, Addition, add_flat, add_implication, Call, add, question, set_mark, return_to, page}
use Rattle.ipl.specs.Book.{opened, answer, steps_after, after_answer, mark_now, refusal, added, returned, taken, next, after}
use Rattle.ipl.specs.Demand.{OfRows, Remembers, SameRows, ComesBack}
use Rattle.ipl.proofs.Lists.{All_at, All_map}
use Rattle.ipl.proofs.Marks.{same, others_all, others_differ, set_all, place_number, longer_remembers, cut_remembers, now_remembers, there_remembers, kept_all}
use Rattle.ipl.proofs.Page.{entries_kept}
use Rattle.ipl.proofs.Book.{Reached, RowsReached, opened_reached, next_reached, after_reached, next_taken, mark_unrefused, return_unrefused, steps_longer, answer_right, goal_reached}

-- Mark j was set when b was held.
module _ (j : ℕ) (b : Book) where
  abbrev Was : OfRows
  Was n F X S = SameRows (record { n = n; flats = F; implications = X; steps = S; marks = [] }) b

  -- It remembers b in the book k, if it is there.
  abbrev Known : Book → Mark → Type 0
  Known k m = m.number ≡ j → Remembers Was k.n k.flats k.implications k.steps m

  abbrev AllKnown : Book → Type 0
  AllKnown k = All (Known k) k.marks

  set_known : j < mark_table → AllKnown (taken b (set_mark j))
  unfolding taken
  set_known few =
      set_all (Known b) (mark_now b j) b.marks (All_map (others j b.marks) (λ m d e. absurd (d e)) (others_differ j b.marks))
      (λ _. now_remembers b j few (record { n = refl; flats = refl; implications = refl; steps = refl }))

  -- Every other call keeps that.
  added_known : (k : Book) (a : Addition) → AllKnown k → AllKnown (added k a)
  unfolding added
  added_known k (add_flat f) h = All_map k.marks (λ m c e. longer_remembers (f ∷ [], refl) (same k.implications) (same k.steps) m (c e)) h
  added_known k (add_implication i) h = All_map k.marks (λ m c e. longer_remembers (closings i, refl) (i ∷ [], refl) (same k.steps) m (c e)) h

  returned_known : (k : Book) (i : ℕ) → i < length k.marks → Reached k → AllKnown k → AllKnown (returned k i)
  unfolding returned
  returned_known k i inside r h =
      kept_all RowsReached k r i inside (Known k) (Known (returned k i))
      (λ m f x s c e. cut_remembers (mark_at k.marks i) m (there_remembers RowsReached k r i inside) f x s (c e)) h

  goal_known : (k : Book) (g : ℕ) → Reached k → AllKnown k → AllKnown (after_answer k (answer k g))
  goal_known k g r h =
      All_map k.marks (λ m c e. longer_remembers (same k.flats) (same k.implications) (steps_longer k g r (answer k g) (answer_right k g r).0) m (c e)) h

  taken_known : (k : Book) (c : Call) → Reached k → (c ≡ set_mark j → ⊥) → refusal k c ≡ 0 → AllKnown k → AllKnown (taken k c)
  unfolding taken refusal steps_after
  taken_known k (add a) r d e h = added_known k a h
  taken_known k (question a g) r d e h =
      by_cond (λ o. AllKnown (after_answer k o)) (is_author a) (answer k g) (refused 20) (λ _. goal_known k g r h) (λ _. h)
  taken_known k (set_mark i) r d e h =
      set_all (Known k) (mark_now k i) k.marks (others_all i (Known k) k.marks h) (λ e. absurd (d (ap set_mark e)))
  taken_known k (return_to i) r d e h = returned_known k (place_of i k.marks) (return_unrefused k i e) r h
  taken_known k (page a gs) r d e h =
      (entries_kept (λ k. Reached k × AllKnown k) (λ k g p. (goal_reached k g p.0, goal_known k g p.0 p.1)) gs k [] 0 (r, h)).1

  next_known : (k : Book) (c : Call) → Reached k → (c ≡ set_mark j → ⊥) → AllKnown k → AllKnown (next k c)
  unfolding next
  next_known k c r d h = by_cond AllKnown (eqb (refusal k c) 0) (taken k c) k (λ e. taken_known k c r d (eqb-true (refusal k c) 0 e) h) (λ _. h)

  after_known : (cs : List Call) (k : Book) → Reached k → All (λ c. c ≡ set_mark j → ⊥) cs → AllKnown k → AllKnown (after k cs)
  unfolding after
  after_known [] k r d h = h
  after_known (c ∷ cs) k r d h = after_known cs (next k c) (next_reached k c r) d.1 (next_known k c r d.0 h)

  -- The return.
  back_known : (k : Book) → AllKnown k → refusal k (return_to j) ≡ 0 → SameRows (taken k (return_to j)) b
  unfolding taken refusal returned
  back_known k h e =
      let inside = return_unrefused k j e in
      let r = (All_at (Known k) k.marks _ h (place_of j k.marks) inside (place_number j k.marks inside)).rows in
      record { n = r.n; flats = r.flats; implications = r.implications; steps = r.steps }

after_append : (cs ds : List Call) (k : Book) → after k (cs ++ ds) ≡ after (after k cs) ds
unfolding after
after_append [] ds k = refl
after_append (c ∷ cs) ds k = after_append cs ds (next k c)

pub comes_back : ComesBack
unfolding after refusal
comes_back n cs j e since d back =
    let b = after (opened n) cs in
    let r = after_reached cs (opened n) (opened_reached n) in
    let k = after (next b (set_mark j)) since in
    let h = after_known j b since (next b (set_mark j)) (next_reached b (set_mark j) r) d (rw (next_taken b (set_mark j) e) (set_known j b (mark_unrefused j e))) in
    rw (after_append since (return_to j ∷ []) (next b (set_mark j)), next_taken k (return_to j) back) (back_known j b k h back)
