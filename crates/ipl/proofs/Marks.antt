-- Marks: what is said of the rows up to each mark stays true while rows are added at the end, where a mark is set, and where the rows
-- are cut back to one.
use mathlib.Core.Bool.{Bool, true, false, not, cond}
use mathlib.Core.List.{List, [], ◌∷◌, ◌++◌, map, append-nil}
use mathlib.Core.Path.{◌≡◌, refl, sym, ap, ◌∙◌}
use Prim.Native.Nat.{ℕ, suc, ◌+◌, ◌≤◌, ◌<◌}
use native.Mathlib.Nat.{zero-add, le_refl, not-suc-le-zero, le_of_suc-le-suc}
use native.Mathlib.Omega.{arith}
use lib.Dec.{eqb}
use lib.ListN.{length, take, drop, length-append, length-map, take-append-drop}
use lib.Seq.{length-take-le, take-suc, take-length, take-append-le, take-take}
use borrow.Author.Tests.{eqb-true}
use Rattle.ipl.specs.Lists.{All, Pairwise, Distinct}
use Rattle.ipl.specs.Clause.{Flat, Implication}
use Rattle.ipl.specs.Search.{Step}
use Rattle.ipl.specs.Marks.{mark_table, Mark, others, set_last, place_of, mark_at}
use Rattle.ipl.specs.Book.{Book, mark_now, returned}
use Rattle.ipl.specs.Demand.{OfRows, Remembers, SetBefore, Marked}
use Rattle.ipl.proofs.Lists.{All_at, All_map, All_zip, All_append, All_left, keep_all, keep_passed, keep_pairwise, pairwise_snoc, pairwise_left, pairwise_before, other_number, pigeonhole}

-- ---- the marks of other numbers

module _ (j : ℕ) where
  abbrev other : Mark → Bool
  other m = not (eqb m.number j)

  pub others_all : (P : Mark → Type 0) (M : List Mark) → All P M → All P (others j M)
  others_all P M h = keep_all P other M h

  pub others_differ : (M : List Mark) → All (λ m. m.number ≡ j → ⊥) (others j M)
  others_differ M = All_map (others j M) (λ m t. other_number m.number j t) (keep_passed other M)

pub set_all : (P : Mark → Type 0) (m : Mark) (M : List Mark) → All P (others m.number M) → P m → All P (set_last m M)
unfolding set_last
set_all P m M h p = All_append P (others m.number M) (m ∷ []) h (p, tt)

-- ---- the mark of a number

pub place_number : (j : ℕ) (M : List Mark) → place_of j M < length M → (mark_at M (place_of j M)).number ≡ j
unfolding place_of
place_number j [] h = absurd (not-suc-le-zero h)
place_number j (m ∷ M) h = go (place_number j M) (eqb m.number j) refl h
  where
    go : (place_of j M < length M → (mark_at M (place_of j M)).number ≡ j)
        → (b : Bool) → eqb m.number j ≡ b → cond b 0 (suc (place_of j M)) < suc (length M) → (mark_at (m ∷ M) (cond b 0 (suc (place_of j M)))).number ≡ j
    go ih true e h = eqb-true m.number j e
    go ih false e h = ih (le_of_suc-le-suc h)

pub place_append : (j : ℕ) (M L : List Mark) → place_of j M ≡ length M → place_of j (M ++ L) ≡ length M + place_of j L
unfolding place_of
place_append j [] L h = sym (zero-add (place_of j L))
place_append j (m ∷ M) L h = go (place_append j M L) (eqb m.number j) h
  where
    go : (place_of j M ≡ length M → place_of j (M ++ L) ≡ length M + place_of j L) → (b : Bool) → cond b 0 (suc (place_of j M)) ≡ suc (length M)
        → cond b 0 (suc (place_of j (M ++ L))) ≡ suc (length M) + place_of j L
    go ih true e = absurd (omega arith)
    go ih false e = omega (arith, ih (omega arith))

-- ---- different numbers below eight: at most eight marks

abbrev numbers : List Mark → List ℕ
numbers M = map (λ (m : Mark). m.number) M

numbers_all : (P : ℕ → Type 0) (M : List Mark) → All (λ m. P m.number) M → All P (numbers M)
numbers_all P [] h = tt
numbers_all P (m ∷ M) h = (h.0, numbers_all P M h.1)

numbers_distinct : (M : List Mark) → Pairwise SetBefore M → Distinct (numbers M)
numbers_distinct [] h = tt
numbers_distinct (m ∷ M) h = (numbers_all (λ x. m.number ≡ x → ⊥) M (All_map M (λ l b. b.differs) h.0), numbers_distinct M h.1)

pub few_marks : {P : OfRows} (k : Book) → Marked P k → length k.marks ≤ mark_table
few_marks k h =
    omega (
      arith,
      length-map k.marks (λ (m : Mark). m.number),
      pigeonhole mark_table (numbers k.marks) (numbers_distinct k.marks h.ordered)
          (numbers_all (λ x. x < mark_table) k.marks (All_map k.marks (λ m b. b.number) h.marks)),
    )

-- ---- rows at the end

-- The second list is the first and more.
abbrev pub Longer : {A : Type 0} → List A → List A → Type 0
Longer l r = (more : _) × (r ≡ l ++ more)

pub same : {A : Type 0} (l : List A) → Longer l l
same l = ([], sym (append-nil l))

longer_length : {A : Type 0} (l r : List A) (i : ℕ) → Longer l r → i ≤ length l → i ≤ length r
longer_length l r i h b = omega (arith, b, ap length h.1, length-append l h.0)

longer_take : {A : Type 0} (l r : List A) (i : ℕ) → Longer l r → i ≤ length l → take i r ≡ take i l
longer_take l r i h b = ap (take i) h.1 ∙ take-append-le i l h.0 b

module _ {P : OfRows} {n : ℕ} {F : List Flat} {X : List Implication} {S : List Step} where
  pub longer_remembers : {F2 : List Flat} {X2 : List Implication} {S2 : List Step} → Longer F F2 → Longer X X2 → Longer S S2
      → (m : Mark) → Remembers P n F X S m → Remembers P n F2 X2 S2 m
  longer_remembers {F2} {X2} {S2} f x s m h = record {
    number = h.number;
    flats = longer_length F F2 m.flats f h.flats;
    implications = longer_length X X2 m.implications x h.implications;
    steps = longer_length S S2 m.steps s h.steps;
    rows = rw (longer_take F F2 m.flats f h.flats, longer_take X X2 m.implications x h.implications, longer_take S S2 m.steps s h.steps) h.rows;
  }

  -- ---- rows cut back to the mark c

  pub cut_remembers : {Q : OfRows} (c m : Mark) → Remembers Q n F X S c → m.flats ≤ c.flats → m.implications ≤ c.implications → m.steps ≤ c.steps
      → Remembers P n F X S m → Remembers P n (take c.flats F) (take c.implications X) (take c.steps S) m
  cut_remembers c m b f x s h = record {
    number = h.number;
    flats = rw (length-take-le c.flats F b.flats) f;
    implications = rw (length-take-le c.implications X b.implications) x;
    steps = rw (length-take-le c.steps S b.steps) s;
    rows = rw (take-take m.flats c.flats F f, take-take m.implications c.implications X x, take-take m.steps c.steps S s) h.rows;
  }

-- ---- what follows from what is said

module _ {P Q : OfRows} (f : (n : ℕ) (F : List Flat) (X : List Implication) (S : List Step) → P n F X S → Q n F X S) where
  pub marked_map : (k : Book) → Marked P k → Marked Q k
  marked_map k h = record {
    rows = f _ _ _ _ h.rows;
    marks = All_map k.marks
        (λ m b. record { number = b.number; flats = b.flats; implications = b.implications; steps = b.steps; rows = f _ _ _ _ b.rows }) h.marks;
    ordered = h.ordered;
  }

-- ---- a mark set now

pub now_remembers : {P : OfRows} (k : Book) (j : ℕ) → j < mark_table → P k.n k.flats k.implications k.steps
    → Remembers P k.n k.flats k.implications k.steps (mark_now k j)
now_remembers k j few r = record {
  number = few;
  flats = le_refl _;
  implications = le_refl _;
  steps = le_refl _;
  rows = rw (take-length k.flats, take-length k.implications, take-length k.steps) r;
}

-- ---- each kind of call

module _ (P : OfRows) (k : Book) (h : Marked P k) where
  abbrev Here : Mark → Type 0
  Here m = Remembers P k.n k.flats k.implications k.steps m

  -- Additions and questions.
  pub longer_marked : {F : List Flat} {X : List Implication} {S : List Step} → Longer k.flats F → Longer k.implications X → Longer k.steps S → P k.n F X S
      → Marked P (record { n = k.n; flats = F; implications = X; steps = S; marks = k.marks })
  longer_marked f x s r = record { rows = r; marks = All_map k.marks (longer_remembers f x s) h.marks; ordered = h.ordered }

  -- Setting mark j.
  module _ (j : ℕ) (few : j < mark_table) where
    now_last : All (λ m. SetBefore m (mark_now k j)) (others j k.marks)
    now_last =
        All_map (others j k.marks) (λ m b. record { differs = b.0; flats = b.1.flats; implications = b.1.implications; steps = b.1.steps })
        (All_zip (λ m. m.number ≡ j → ⊥) Here (others j k.marks) (others_differ j k.marks) (others_all j Here k.marks h.marks))

    pub set_marked : Marked P (record { n = k.n; flats = k.flats; implications = k.implications; steps = k.steps; marks = set_last (mark_now k j) k.marks })
    unfolding set_last
    set_marked = record {
      rows = h.rows;
      marks = set_all Here (mark_now k j) k.marks (others_all j Here k.marks h.marks) (now_remembers k j few h.rows);
      ordered = pairwise_snoc SetBefore (others j k.marks) (mark_now k j) (keep_pairwise SetBefore (other j) k.marks h.ordered) now_last;
    }

  -- Coming back to the mark at place i.
  module _ (i : ℕ) (inside : i < length k.marks) where
    abbrev there : Mark
    there = mark_at k.marks i

    pub there_remembers : Here there
    there_remembers = All_at Here k.marks _ h.marks i inside

    -- Of the mark and those before it: what follows from what is held and that it remembers no more.
    pub kept_all : (Q R : Mark → Type 0) → ((m : Mark) → m.flats ≤ there.flats → m.implications ≤ there.implications → m.steps ≤ there.steps → Q m → R m)
        → All Q k.marks → All R (take (suc i) k.marks)
    kept_all Q R f q =
        rw (take-suc k.marks i (mark_at [] 0) inside)
        (All_append R (take i k.marks) (there ∷ [])
        (All_map (take i k.marks) (λ m b. f m b.0.flats b.0.implications b.0.steps b.1)
        (All_zip (λ m. SetBefore m there) Q (take i k.marks) (pairwise_before SetBefore k.marks _ i inside h.ordered)
        (All_left Q (take i k.marks) (drop i k.marks) (rw (take-append-drop i k.marks) q))))
        (f there (le_refl _) (le_refl _) (le_refl _) (All_at Q k.marks _ q i inside), tt))

    pub returned_marked : Marked P (returned k i)
    unfolding returned
    returned_marked = record {
      rows = there_remembers.rows;
      marks = kept_all Here _ (λ m. cut_remembers there m there_remembers) h.marks;
      ordered = pairwise_left SetBefore (take (suc i) k.marks) (drop (suc i) k.marks) (rw (take-append-drop (suc i) k.marks) h.ordered);
    }
