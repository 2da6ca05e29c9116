-- Laws of tables that follow from a table, row by row.
use Rattle.std.proofs.Common.{◌≡◌, ℕ, ◌+◌, ◌*◌, ◌<◌, ◌≤◌, ◌↔◌, List, sym, refl, ◌∙◌, subst, le_refl, arith}
use native.Mathlib.Decide.{ℕ_discrete}
use Rattle.atoms.specs.Words.{row_of, row_count, RowSet, RowsSet}
use Rattle.atoms.proofs.Machine.{same_rows, rows_first}
use Rattle.sat.specs.Rows.{EachHolds}
use Rattle.sat.specs.Table.{Holds, AllHold}
use Rattle.sat.specs.Learning.{Follow, Longer, Moved, Kept, Filled, FilledBy, Explored, Learned}
use Rattle.sat.specs.declared.clauses.Clauses.{Clauses}
use Rattle.sat.specs.declared.learning.End.{End}
use Rattle.sat.specs.declared.learning.table.Table.{Table}

-- ---- tables that follow

row_same : (left right left2 right2 : List ℕ) (j k m : ℕ) → row_of left2 k ≡ row_of left j → row_of right2 k ≡ row_of right j → Holds (row_of left j) (row_of right j) m
    → Holds (row_of left2 k) (row_of right2 k) m
row_same left right left2 right2 j k m a b h = rw (a, b) h

-- Rows that are written make no more rows.
pub set_rows : (t t2 : List ℕ) (i x : ℕ) → RowSet t i x t2 → row_count t2 ≡ row_count t
set_rows t t2 i x w = same_rows t2 t w.size

pub copied_rows : (t from t2 : List ℕ) (at i : ℕ) → RowsSet t at from i t2 → row_count t2 ≡ row_count t
copied_rows t from t2 at i w = same_rows t2 t w.size

-- The same rows, as far as they are counted.
pub rows_same : (left right left2 right2 : List ℕ) (count total : ℕ) → count ≤ total → ((k : ℕ) → k < count → row_of left2 k ≡ row_of left k)
    → ((k : ℕ) → k < count → row_of right2 k ≡ row_of right k) → Follow left right total left2 right2 count
rows_same left right left2 right2 count total e a b m h k l = row_same left right left2 right2 k k m (a k l) (b k l) (h k (omega arith))

module _ (left right : List ℕ) (total : ℕ) where
  -- One row more, which is true wherever the table is.
  pub follow_more : (left1 right1 left2 right2 : List ℕ) (to l r : ℕ) → Follow left right total left1 right1 to → RowSet left1 to l left2 → RowSet right1 to r right2
      → to < row_count left1 → to < row_count right1 → ((m : ℕ) → AllHold left right total m → Holds l r m) → Follow left right total left2 right2 (to + 1)
  follow_more left1 right1 left2 right2 to l r f a b ka kb row m h k lt = elim (ℕ_discrete k to) [
    | yes e ↦ rw (e, a.written ka, b.written kb) (row m h)
    | no e ↦ row_same left1 right1 left2 right2 k k m (a.others k e) (b.others k e) (f m h k (omega arith))
  ]

  pub follow_none : (left2 right2 : List ℕ) → Follow left right total left2 right2 0
  follow_none left2 right2 m h k l = absurd (omega arith)

-- ---- longer tables

module _ (own : ℕ) where
  pub longer_trans : (left right left1 right1 left2 right2 : List ℕ) (a b c : ℕ) → Longer own left right a left1 right1 b → Longer own left1 right1 b left2 right2 c
      → Longer own left right a left2 right2 c
  longer_trans left right left1 right1 left2 right2 a b c f g = record {
    own_left = λ k l. g.own_left k l ∙ f.own_left k l;
    own_right = λ k l. g.own_right k l ∙ f.own_right k l;
    enough = g.enough;
    follows = λ m h. g.follows m (f.follows m h);
  }

  module _ (left right : List ℕ) (total : ℕ) (e : own ≤ total) where
    pub longer_same : (total2 : ℕ) → total2 ≡ total → Longer own left right total left right total2
    longer_same total2 z = record { own_left = λ k l. refl; own_right = λ k l. refl; enough = omega arith; follows = λ m h k l. h k (omega arith) }

    pub longer_own : Longer own left right total left right own
    longer_own = record { own_left = λ k l. refl; own_right = λ k l. refl; enough = le_refl _; follows = λ m h k l. h k (omega arith) }

    pub longer_more : (left2 right2 : List ℕ) (l r : ℕ) → RowSet left total l left2 → RowSet right total r right2 → total < row_count left → total < row_count right
        → ((m : ℕ) → AllHold left right total m → Holds l r m) → Longer own left right total left2 right2 (total + 1)
    longer_more left2 right2 l r a b ka kb row = record {
      own_left = λ k lt. a.others k (λ d. omega arith);
      own_right = λ k lt. b.others k (λ d. omega arith);
      enough = omega arith;
      follows = follow_more left right total left right left2 right2 total l r (λ m h. h) a b ka kb row;
    }

-- ---- tables to which rows were added

module _ (left right : List ℕ) (total : ℕ) (left2 right2 : List ℕ) (total2 : ℕ) (g : Longer total left right total left2 right2 total2) where
  pub longer_less : (own : ℕ) → own ≤ total → Longer own left right total left2 right2 total2
  longer_less own e = record {
    own_left = λ k l. g.own_left k (omega arith);
    own_right = λ k l. g.own_right k (omega arith);
    enough = omega (arith, g.enough);
    follows = g.follows;
  }

  pub longer_later : (own : ℕ) (left0 right0 : List ℕ) (total0 : ℕ) → Longer own left0 right0 total0 left right total → Longer own left0 right0 total0 left2 right2 total2
  longer_later own left0 right0 total0 f = longer_trans own left0 right0 left right left2 right2 total0 total total2 f (longer_less own f.enough)

-- ---- the same of tables as values

pub explored_trans : (t t1 t2 : Table) (e e2 : End) → Explored t t1 e → Explored t1 t2 e2 → Explored t t2 e2
explored_trans t t1 t2 e e2 f g = record {
  longer = longer_later _ _ _ _ _ _ g.longer _ _ _ _ f.longer;
  same_own = g.same_own ∙ f.same_own;
  end_follows = g.end_follows;
}

pub explored_learned : (t t1 t2 : Table) (e : End) → Explored t t1 e → Learned t1 t2 → Learned t t2
explored_learned t t1 t2 e f g =
    let l : Longer t.own t1.left t1.right t1.total t2.left t2.right t2.total =
    subst (λ (o : ℕ). Longer o t1.left t1.right t1.total t2.left t2.right t2.total) f.same_own g.longer in
    record { longer = longer_trans _ _ _ _ _ _ _ _ _ _ (longer_less _ _ _ _ _ _ f.longer t.own t.enough) l; same_own = g.same_own ∙ f.same_own }

pub learned_same : (t t2 : Table) → t2 ≡ t → Learned t t2
learned_same t t2 e = subst (Learned t) (sym e) (record { longer = longer_same _ _ _ _ t.enough _ refl; same_own = refl })

pub learned_trans : (t t1 t2 : Table) → Learned t t1 → Learned t1 t2 → Learned t t2
learned_trans t t1 t2 f g =
    let l : Longer t.own t1.left t1.right t1.total t2.left t2.right t2.total =
    subst (λ (o : ℕ). Longer o t1.left t1.right t1.total t2.left t2.right t2.total) f.same_own g.longer in
    record { longer = longer_trans _ _ _ _ _ _ _ _ _ _ f.longer l; same_own = g.same_own ∙ f.same_own }

-- ---- rows moved down

module _ (own : ℕ) (left right : List ℕ) (total : ℕ) where
  pub moved_none : own ≤ total → Moved own left right total left right own own
  moved_none e = record {
    begun = le_refl _;
    behind = le_refl _;
    left_size = refl;
    right_size = refl;
    own_left = λ k l. refl;
    own_right = λ k l. refl;
    rest_left = λ k l. refl;
    rest_right = λ k l. refl;
    follow = λ m h k l. h k (omega arith);
  }

  pub moved_over : (left2 right2 : List ℕ) (to c : ℕ) → Moved own left right total left2 right2 to c → Moved own left right total left2 right2 to (c + 1)
  moved_over left2 right2 to c w = record {
    begun = w.begun;
    behind = omega (arith, w.behind);
    left_size = w.left_size;
    right_size = w.right_size;
    own_left = w.own_left;
    own_right = w.own_right;
    rest_left = λ k l. w.rest_left k (omega arith);
    rest_right = λ k l. w.rest_right k (omega arith);
    follow = w.follow;
  }

  pub moved_down : (left1 right1 left2 right2 : List ℕ) (to c l r : ℕ) → Moved own left right total left1 right1 to c → c < total → total ≤ row_count left → total ≤ row_count right
      → l ≡ row_of left1 c → r ≡ row_of right1 c → RowSet left1 to l left2 → RowSet right1 to r right2 → Moved own left right total left2 right2 (to + 1) (c + 1)
  moved_down left1 right1 left2 right2 to c l r w lt sl sr el er a b = record {
    begun = omega (arith, w.begun);
    behind = omega (arith, w.behind);
    left_size = a.size ∙ w.left_size;
    right_size = b.size ∙ w.right_size;
    own_left = λ k h. a.others k (λ d. omega (arith, w.begun)) ∙ w.own_left k h;
    own_right = λ k h. b.others k (λ d. omega (arith, w.begun)) ∙ w.own_right k h;
    rest_left = λ k h. a.others k (λ d. omega (arith, w.behind)) ∙ w.rest_left k (omega arith);
    rest_right = λ k h. b.others k (λ d. omega (arith, w.behind)) ∙ w.rest_right k (omega arith);
    follow = follow_more left right total left1 right1 left2 right2 to l r w.follow a b
        (omega (arith, w.behind, same_rows left1 left w.left_size))
        (omega (arith, w.behind, same_rows right1 right w.right_size))
        (λ m h. rw (el ∙ w.rest_left c (le_refl _), er ∙ w.rest_right c (le_refl _)) (h c lt));
  }

  pub moved_longer : (left2 right2 : List ℕ) (to c : ℕ) → Moved own left right total left2 right2 to c → Longer own left right total left2 right2 to
  moved_longer left2 right2 to c w = record { own_left = w.own_left; own_right = w.own_right; enough = w.begun; follows = w.follow }

-- ---- rows kept

module _ (left right : List ℕ) (count : ℕ) where
  pub kept_none : (kept : List ℕ) → Kept left right count kept 0
  kept_none kept m h i l = absurd (omega arith)

  -- One row more, which is true wherever the table is.
  pub kept_more : (kept kept1 kept2 : List ℕ) (k l r : ℕ) → Kept left right count kept k → RowSet kept (2 * k) l kept1 → RowSet kept1 (2 * k + 1) r kept2
      → 2 * k + 1 < row_count kept → ((m : ℕ) → AllHold left right count m → Holds l r m) → Kept left right count kept2 (k + 1)
  kept_more kept kept1 kept2 k l r f a b room row m h i lt = elim (ℕ_discrete i k) [
    | yes e ↦ rw (e, b.others (2 * k) (λ d. omega arith) ∙ a.written (omega arith), b.written (omega (arith, same_rows kept1 kept a.size))) (row m h)
    | no e ↦
        rw (b.others (2 * i) (λ d. omega arith) ∙ a.others (2 * i) (λ d. omega arith), b.others (2 * i + 1) (λ d. omega arith) ∙ a.others (2 * i + 1) (λ d. omega arith))
        (f m h i (omega arith))
  ]

  -- The table grows by a row.
  pub kept_grown : (kept : List ℕ) (k : ℕ) (left2 right2 : List ℕ) (l r total : ℕ) → RowSet left count l left2 → RowSet right count r right2 → count ≤ total
      → Kept left right count kept k → Kept left2 right2 total kept k
  kept_grown kept k left2 right2 l r total a b e f m h =
      f m (rows_same left2 right2 left right count total e (λ i lt. sym (a.others i (λ d. omega arith))) (λ i lt. sym (b.others i (λ d. omega arith))) m h)

-- ---- the longer table of a question

module _ (left right : List ℕ) (count : ℕ) (kept : List ℕ) (k : ℕ) where
  -- There is no room: no row is told of.
  pub filled_none : (left2 right2 : List ℕ) → 0 < count → Filled left right count kept k left2 right2 0
  filled_none left2 right2 e = record { own_left = λ l. absurd (omega arith); own_right = λ l. absurd (omega arith); follows = λ f. follow_none left right count left2 right2 }

  -- The table alone.
  pub filled_own : (left0 right0 left2 right2 : List ℕ) → RowsSet left0 0 left count left2 → RowsSet right0 0 right count right2
      → count ≤ row_count left0 → count ≤ row_count right0 → Filled left right count kept k left2 right2 count
  filled_own left0 right0 left2 right2 a b room_left roomRight =
      let own_left : (i : ℕ) → i < count → row_of left2 i ≡ row_of left i = λ i l. rows_first left0 left left2 count a i l (omega arith) in
      let own_right : (i : ℕ) → i < count → row_of right2 i ≡ row_of right i = λ i l. rows_first right0 right right2 count b i l (omega arith) in
      record { own_left = λ l. own_left; own_right = λ l. own_right; follows = λ f. rows_same left right left2 right2 count count (le_refl _) own_left own_right }

  -- One row kept more.
  pub filled_more : (left1 right1 left2 right2 : List ℕ) (i l r : ℕ) → Filled left right count kept k left1 right1 (count + i) → i < k
      → RowSet left1 (count + i) l left2 → RowSet right1 (count + i) r right2 → l ≡ row_of kept (2 * i) → r ≡ row_of kept (2 * i + 1)
      → count + i < row_count left1 → count + i < row_count right1 → Filled left right count kept k left2 right2 (count + i + 1)
  filled_more left1 right1 left2 right2 i l r w lt a b el er room_left roomRight = record {
    own_left = λ e j h. a.others j (λ d. omega arith) ∙ w.own_left (omega arith) j h;
    own_right = λ e j h. b.others j (λ d. omega arith) ∙ w.own_right (omega arith) j h;
    follows = λ f. follow_more left right count left1 right1 left2 right2 (count + i) l r (w.follows f) a b room_left roomRight (λ m h. rw (el, er) (f m h i lt));
  }

  -- Filled, and then longer: it says what the table says.
  module _ (left1 right1 left2 right2 : List ℕ) (total total2 : ℕ) (w : Filled left right count kept k left1 right1 total) (e : count ≤ total)
      (g : Longer count left1 right1 total left2 right2 total2) where
    pub filled_to : Kept left right count kept k → Follow left right count left2 right2 total2
    filled_to f m h = g.follows m (w.follows f m h)

    pub filled_from : Follow left2 right2 total2 left right count
    filled_from = rows_same left2 right2 left right count total2 g.enough
        (λ i l. sym (g.own_left i l ∙ w.own_left e i l)) (λ i l. sym (g.own_right i l ∙ w.own_right e i l))

-- ---- a table filled and then learned from

module _ (t : Clauses) (kept : List ℕ) (k : ℕ) (long long2 : Table) (w : FilledBy t kept k long) (g : Learned long long2) where
  begun : t.count ≤ long.total
  begun = omega (arith, w.same_own, long.enough)

  grown : Longer t.count long.left long.right long.total long2.left long2.right long2.total
  grown = subst (λ (o : ℕ). Longer o long.left long.right long.total long2.left long2.right long2.total) w.same_own g.longer

  pub longer_to : Kept t.left.now t.right.now t.count kept k → Follow t.left.now t.right.now t.count long2.left long2.right long2.total
  longer_to = filled_to _ _ _ _ _ _ _ _ _ _ _ w.filled begun grown

  pub longer_from : Follow long2.left long2.right long2.total t.left.now t.right.now t.count
  longer_from = filled_from _ _ _ _ _ _ _ _ _ _ _ w.filled begun grown

-- Its rows as a table lent.
pub seen : (t : Table) (r : Clauses) → r.left.now ≡ t.left → r.right.now ≡ t.right → r.count ≡ t.total → (m : ℕ) → EachHolds r m ↔ AllHold t.left t.right t.total m
seen t r a b n m = (λ h. rw (← a, ← b, ← n) h, λ h. rw (a, b, n) h)
