-- The tests of the layout, part by part, and what the reader of the contents learns on each way out.
use mathlib.Core.Bool.{Bool, true, false, ◌&&◌}
use mathlib.Core.List.{List}
use mathlib.Core.Path.{◌≡◌, refl, sym, ap, ◌∙◌, subst}
use Prim.Native.Nat.{ℕ, ◌+◌, ◌-◌, ◌*◌, ◌/◌, ◌%◌, ◌≤◌, ◌<◌}
use Rattle.std.proofs.Common.{Option, Some, None}
use native.Mathlib.Omega.{arith}
use Rattle.std.proofs.Math.Nat.{mul-mod_right, div-add-mod}
use lib.Dec.{T, eqb, leb, eqb→eq, leb→le}
use lib.ListN.{length, get_or}
use borrow.Author.Tests.{eq-eqb, eqb-true, eqb-false, le-leb}
use Rattle.atoms.specs.Bytes.{number_at}
use Rattle.atoms.proofs.Truth.{T_left, T_right, T_true, T_false, true_T, false_T}
use Rattle.certificate.specs.Format.{flat_bytes, implication_bytes, step_bytes, flat_kind, implication_kind, goal_kind, world_kind, claim_kind, claim_width, claim_least}
use Rattle.certificate.specs.Format.{entries, entry_bytes, entry_start, bodies_start, implication_start, goal_start, claim_start, total_length}
use Rattle.certificate.specs.Layout.{rows_in, entry_right, refuting, flat_count, implication_count, claim_count, claim_laid, laid_in, laid_out}
use Rattle.certificate.specs.Checked.{EntryFound, EntryRead, ClaimFound, ClaimRead, ContentsRead, BeginningRead}
use Rattle.certificate.specs.declared.Contents.{Contents}

-- ---- one entry

pub record EntryParts (s : List ℕ) (at kind start extra width : ℕ) : Type 0 where
  pub kind_is : get_or s at 0 ≡ kind
  pub start_is : number_at s (at + 1) 4 ≡ start
  pub size_is : number_at s (at + 5) 4 ≡ extra + width * rows_in s at extra width

module _ (s : List ℕ) (at kind start extra width : ℕ) where
  abbrev kind_test : Bool
  kind_test = eqb (get_or s at 0) kind

  abbrev start_test : Bool
  start_test = eqb (number_at s (at + 1) 4) start

  abbrev size_test : Bool
  size_test = eqb (number_at s (at + 5) 4) (extra + width * rows_in s at extra width)

  pub entry_parts : T (entry_right s at kind start extra width) → EntryParts s at kind start extra width
  unfolding entry_right
  entry_parts t = record {
    kind_is = eqb→eq (get_or s at 0) kind (T_left kind_test start_test (T_left (kind_test && start_test) size_test t));
    start_is = eqb→eq (number_at s (at + 1) 4) start (T_right kind_test start_test (T_left (kind_test && start_test) size_test t));
    size_is = eqb→eq (number_at s (at + 5) 4) (extra + width * rows_in s at extra width) (T_right (kind_test && start_test) size_test t);
  }

  pub entry_true : EntryParts s at kind start extra width → entry_right s at kind start extra width ≡ true
  unfolding entry_right
  entry_true p =
      rw (
        eq-eqb (get_or s at 0) kind p.kind_is,
        eq-eqb (number_at s (at + 1) 4) start p.start_is,
        eq-eqb (number_at s (at + 5) 4) (extra + width * rows_in s at extra width) p.size_is,
      ) refl

  pub entry_false : (EntryParts s at kind start extra width → ⊥) → entry_right s at kind start extra width ≡ false
  entry_false f = T_false (entry_right s at kind start extra width) (λ t. f (entry_parts t))

  -- What the reader of an entry has read.
  module _ (size : ℕ) (read : size ≡ number_at s (at + 5) 4) where
    rows_read : (size - extra) / width ≡ rows_in s at extra width
    unfolding rows_in
    rows_read = ap (λ (z : ℕ). (z - extra) / width) read

    pub entry_short : size < extra → entry_right s at kind start extra width ≡ false
    entry_short h = entry_false (λ p. omega (arith, p.size_is, read))

    pub entry_uneven : ((size - extra) % width ≡ 0 → ⊥) → entry_right s at kind start extra width ≡ false
    entry_uneven f =
        entry_false (λ p.
        let whole : size - extra ≡ width * rows_in s at extra width = omega (arith, p.size_is, read) in
        f (ap (λ (z : ℕ). z % width) whole ∙ mul-mod_right width (rows_in s at extra width)))

    pub entry_found : (next : ℕ) → next ≡ at + entry_bytes → get_or s at 0 ≡ kind → number_at s (at + 1) 4 ≡ start → extra ≤ size → (size - extra) % width ≡ 0
        → EntryFound s at kind start extra width ((size - extra) / width) next
    entry_found next en ek es h e =
        let whole : extra + width * ((size - extra) / width) ≡ size = omega (arith, div-add-mod (size - extra) width) in
        record {
          right = entry_true (record { kind_is = ek; start_is = es; size_is = sym read ∙ sym whole ∙ ap (λ (z : ℕ). extra + width * z) rows_read });
          count_is = rows_read;
          next_is = en;
        }

  -- The same entry, by what its place, kind, start and width are.
  entry_as : (next : ℕ) (e : Option ℕ) (at' kind' start' width' : ℕ) → at ≡ at' → kind ≡ kind' → start ≡ start' → width ≡ width'
      → EntryRead s at kind start extra width next e → EntryRead s at' kind' start' extra width' next e
  entry_as next e at' kind' start' width' ea ek es ew h =
      subst (λ z. EntryRead s z kind' start' extra width' next e) ea (subst (λ z. EntryRead s at z start' extra width' next e) ek
      (subst (λ z. EntryRead s at kind z extra width' next e) es (subst (λ z. EntryRead s at kind start extra z next e) ew h)))

-- ---- the last entry

pub width_positive : (r : Bool) → 0 < claim_width r
width_positive true = omega arith
width_positive false = omega arith

-- A row of the claim has at most the bytes of a step.
pub claim_bytes : (r : Bool) (width rows : ℕ) → width ≡ claim_width r → width * rows ≤ step_bytes * rows
claim_bytes true width rows e = rw e (omega arith)
claim_bytes false width rows e = rw e (omega arith)

abbrev pub claim_entry : List ℕ → ℕ → ℕ → Bool → Bool
claim_entry s F X r = entry_right s (entry_start 3) (claim_kind r) (claim_start F X) 0 (claim_width r)

abbrev pub rows_last : List ℕ → Bool → ℕ
rows_last s r = rows_in s (entry_start 3) 0 (claim_width r)

pub record ClaimParts (s : List ℕ) (L F X : ℕ) (r : Bool) : Type 0 where
  pub entry : T (claim_entry s F X r)
  pub some : claim_least r ≤ rows_last s r
  pub end : L ≡ total_length F X r (rows_last s r)

module _ (s : List ℕ) (L F X : ℕ) (r : Bool) where
  abbrev some_test : Bool
  some_test = leb (claim_least r) (rows_last s r)

  abbrev end_test : Bool
  end_test = eqb L (total_length F X r (rows_last s r))

  pub claim_parts : T (claim_laid s L F X r) → ClaimParts s L F X r
  unfolding claim_laid
  claim_parts t = record {
    entry = T_left (claim_entry s F X r) some_test (T_left (claim_entry s F X r && some_test) end_test t);
    some = leb→le (claim_least r) (rows_last s r) (T_right (claim_entry s F X r) some_test (T_left (claim_entry s F X r && some_test) end_test t));
    end = eqb→eq L (total_length F X r (rows_last s r)) (T_right (claim_entry s F X r && some_test) end_test t);
  }

  pub claim_true : ClaimParts s L F X r → claim_laid s L F X r ≡ true
  unfolding claim_laid
  claim_true p =
      rw (T_true (claim_entry s F X r) p.entry, le-leb (claim_least r) (rows_last s r) p.some, eq-eqb L (total_length F X r (rows_last s r)) p.end) refl

  claim_false : (ClaimParts s L F X r → ⊥) → claim_laid s L F X r ≡ false
  claim_false f = T_false (claim_laid s L F X r) (λ t. f (claim_parts t))

-- What the reader of the last entry learns: it stands at a place, its kind byte is b, and it is asked for by that.
module _ (s : List ℕ) (L F X at b kind start width : ℕ) (ea : at ≡ entry_start 3) (eb : b ≡ get_or s at 0)
    (ek : kind ≡ claim_kind (eqb b world_kind)) (es : start ≡ claim_start F X) (ew : width ≡ claim_width (eqb b world_kind)) where
  abbrev r : Bool
  r = eqb b world_kind

  of_kind : (P : Bool → Type 0) → P r → P (refuting s)
  unfolding refuting
  of_kind P h = subst P (ap (λ z. eqb z world_kind) (eb ∙ ap (λ z. get_or s z 0) ea)) h

  as_claim : (next : ℕ) (e : Option ℕ) → EntryRead s at kind start 0 width next e → EntryRead s (entry_start 3) (claim_kind r) (claim_start F X) 0 (claim_width r) next e
  as_claim next e h = entry_as s at kind start 0 width next e (entry_start 3) (claim_kind r) (claim_start F X) (claim_width r) ea ek es ew h

  pub claim_missing : (next : ℕ) → EntryRead s at kind start 0 width next None → bodies_start ≤ length s → claim_laid s L F X (refuting s) ≡ false
  claim_missing next h there =
      of_kind (λ z. claim_laid s L F X z ≡ false) (claim_false s L F X r (λ p. false_T (as_claim next None h there) p.entry))

  module _ (rows next : ℕ) (read : EntryRead s at kind start 0 width next (Some rows)) where
    count_read : rows ≡ rows_last s r
    count_read = (as_claim next (Some rows) read).count_is

    pub claim_few : (least : ℕ) → least ≡ claim_least r → rows < least → claim_laid s L F X (refuting s) ≡ false
    claim_few least e h = of_kind (λ z. claim_laid s L F X z ≡ false) (claim_false s L F X r (λ p. omega (arith, p.some, count_read, e)))

    module _ (end : ℕ) (ee : end ≡ total_length F X r rows) where
      end_is : end ≡ total_length F X r (rows_last s r)
      end_is = ee ∙ ap (total_length F X r) count_read

      pub claim_unended : eqb L end ≡ false → claim_laid s L F X (refuting s) ≡ false
      claim_unended e = of_kind (λ z. claim_laid s L F X z ≡ false) (claim_false s L F X r (λ p. eqb-false L end e (p.end ∙ sym end_is)))

      pub claim_found : (least : ℕ) → least ≡ claim_least r → least ≤ rows → eqb L end ≡ true
          → ClaimFound s L F X (record { flats = F; implications = X; refuting = r; rows = rows })
      unfolding claim_count
      claim_found least el h e = record {
        laid = of_kind (λ z. claim_laid s L F X z ≡ true) (claim_true s L F X r (record {
          entry = true_T (as_claim next (Some rows) read).right;
          some = omega (arith, count_read, el);
          end = eqb-true L end e ∙ end_is;
        }));
        contents_are = ap {B = Contents} (λ (z : ℕ). record { flats = F; implications = X; refuting = r; rows = z }) count_read
            ∙ of_kind (λ z. ◌≡◌ {A = Contents} (record { flats = F; implications = X; refuting = r; rows = rows_last s r })
            (record { flats = F; implications = X; refuting = z; rows = rows_last s z })) refl;
      }

-- ---- the whole

abbrev pub first_test : List ℕ → Bool
first_test s = entry_right s (entry_start 0) flat_kind bodies_start 1 flat_bytes

abbrev pub second_test : List ℕ → ℕ → Bool
second_test s F = entry_right s (entry_start 1) implication_kind (implication_start F) 0 implication_bytes

abbrev pub third_test : List ℕ → ℕ → ℕ → Bool
third_test s F X = entry_right s (entry_start 2) goal_kind (goal_start F X) 0 1

pub record LaidParts (s : List ℕ) (L : ℕ) : Type 0 where
  pub four : get_or s 0 0 ≡ entries
  pub first : T (first_test s)
  pub second : T (second_test s (flat_count s))
  pub third : T (third_test s (flat_count s) (implication_count s))
  pub goal_one : rows_in s (entry_start 2) 0 1 ≡ 1
  pub last : T (claim_laid s L (flat_count s) (implication_count s) (refuting s))

module _ (s : List ℕ) (L : ℕ) where
  abbrev four : Bool
  four = eqb (get_or s 0 0) entries

  abbrev first : Bool
  first = first_test s

  abbrev second : Bool
  second = second_test s (flat_count s)

  abbrev third : Bool
  third = third_test s (flat_count s) (implication_count s)

  abbrev goal : Bool
  goal = eqb (rows_in s (entry_start 2) 0 1) 1

  abbrev last : Bool
  last = claim_laid s L (flat_count s) (implication_count s) (refuting s)

  pub laid_parts : T (laid_in s L) → LaidParts s L
  unfolding laid_in
  laid_parts t =
      let upTo5 = T_left (four && first && second && third && goal) last t in
      let upTo4 = T_left (four && first && second && third) goal upTo5 in
      let upTo3 = T_left (four && first && second) third upTo4 in
      let upTo2 = T_left (four && first) second upTo3 in
      record {
        four = eqb→eq (get_or s 0 0) entries (T_left four first upTo2);
        first = T_right four first upTo2;
        second = T_right (four && first) second upTo3;
        third = T_right (four && first && second) third upTo4;
        goal_one = eqb→eq (rows_in s (entry_start 2) 0 1) 1 (T_right (four && first && second && third) goal upTo5);
        last = T_right (four && first && second && third && goal) last t;
      }

  pub laid_true : LaidParts s L → laid_in s L ≡ true
  unfolding laid_in
  laid_true p =
      rw (
        eq-eqb (get_or s 0 0) entries p.four,
        T_true first p.first,
        T_true second p.second,
        T_true third p.third,
        eq-eqb (rows_in s (entry_start 2) 0 1) 1 p.goal_one,
      ) (T_true last p.last)

  -- The length is that of the counts.
  pub laid_length : LaidParts s L → L ≡ total_length (flat_count s) (implication_count s) (refuting s) (claim_count s)
  unfolding claim_count
  laid_length p = (claim_parts s L (flat_count s) (implication_count s) (refuting s) p.last).end

  laid_false : (LaidParts s L → ⊥) → laid_in s L ≡ false
  laid_false f = T_false (laid_in s L) (λ t. f (laid_parts t))

  pub broken_four : (b : ℕ) → b ≡ get_or s 0 0 → (b ≡ entries → ⊥) → laid_in s L ≡ false
  broken_four b e f = laid_false (λ p. f (e ∙ p.four))

  pub broken_first : (next : ℕ) → EntryRead s (entry_start 0) flat_kind bodies_start 1 flat_bytes next None → bodies_start ≤ length s → laid_in s L ≡ false
  broken_first next h there = laid_false (λ p. false_T (h (omega arith)) p.first)

  -- The flat clauses are read, and the second entry is asked for after the first.
  module _ (F second_at : ℕ) (flats : EntryFound s (entry_start 0) flat_kind bodies_start 1 flat_bytes F second_at) (start : ℕ) (es : start ≡ implication_start F) where
    flats_are : F ≡ flat_count s
    unfolding flat_count
    flats_are = flats.count_is

    as_second : (next : ℕ) (e : Option ℕ) → EntryRead s second_at implication_kind start 0 implication_bytes next e
        → EntryRead s (entry_start 1) implication_kind (implication_start F) 0 implication_bytes next e
    as_second next e h =
        entry_as s second_at implication_kind start 0 implication_bytes next e (entry_start 1) implication_kind (implication_start F) implication_bytes flats.next_is refl es refl h

    pub broken_second : (next : ℕ) → EntryRead s second_at implication_kind start 0 implication_bytes next None → bodies_start ≤ length s → laid_in s L ≡ false
    broken_second next h there =
        laid_false (λ p. false_T (subst (λ (z : ℕ). second_test s z ≡ false) flats_are (as_second next None h (omega arith))) p.second)

    -- The implications are read, and the third entry is asked for after the second.
    module _ (X third_at : ℕ) (implications : EntryRead s second_at implication_kind start 0 implication_bytes third_at (Some X)) (goal_at : ℕ) (eg : goal_at ≡ goal_start F X) where
      second_read : EntryFound s (entry_start 1) implication_kind (implication_start F) 0 implication_bytes X third_at
      second_read = as_second third_at (Some X) implications

      implications_are : X ≡ implication_count s
      unfolding implication_count
      implications_are = second_read.count_is

      -- A statement about the counts read is one about those of the definition.
      at_counts : (P : ℕ → ℕ → Type 0) → P F X → P (flat_count s) (implication_count s)
      at_counts P h = subst (λ (z : ℕ). P z (implication_count s)) flats_are (subst (P F) implications_are h)

      as_third : (next : ℕ) (e : Option ℕ) → EntryRead s third_at goal_kind goal_at 0 1 next e → EntryRead s (entry_start 2) goal_kind (goal_start F X) 0 1 next e
      as_third next e h = entry_as s third_at goal_kind goal_at 0 1 next e (entry_start 2) goal_kind (goal_start F X) 1 second_read.next_is refl eg refl h

      pub broken_third : (next : ℕ) → EntryRead s third_at goal_kind goal_at 0 1 next None → bodies_start ≤ length s → laid_in s L ≡ false
      broken_third next h there = laid_false (λ p. false_T (at_counts (λ f x. third_test s f x ≡ false) (as_third next None h (omega arith))) p.third)

      -- The goal's entry is read.
      module _ (G last_at : ℕ) (goals : EntryRead s third_at goal_kind goal_at 0 1 last_at (Some G)) where
        third_read : EntryFound s (entry_start 2) goal_kind (goal_start F X) 0 1 G last_at
        third_read = as_third last_at (Some G) goals

        pub last_place : last_at ≡ entry_start 3
        last_place = third_read.next_is

        pub broken_goal : (G ≡ 1 → ⊥) → laid_in s L ≡ false
        broken_goal f = laid_false (λ p. f (third_read.count_is ∙ p.goal_one))

        broken_last : claim_laid s L F X (refuting s) ≡ false → laid_in s L ≡ false
        broken_last e = laid_false (λ p. false_T (at_counts (λ f x. claim_laid s L f x (refuting s) ≡ false) e) p.last)

        all_read : get_or s 0 0 ≡ entries → G ≡ 1 → (k : Contents) → ClaimFound s L F X k → ContentsRead s L k
        all_read e g k claim =
            let laid_last = at_counts (λ f x. T (claim_laid s L f x (refuting s))) (true_T claim.laid) in
            let are = claim.contents_are
            ∙ at_counts (λ f x. ◌≡◌ {A = Contents} (record { flats = F; implications = X; refuting = refuting s; rows = claim_count s })
            (record { flats = f; implications = x; refuting = refuting s; rows = claim_count s })) refl in
            let parts : LaidParts s L = record {
              four = e;
              first = true_T flats.right;
              second = subst (λ (z : ℕ). T (second_test s z)) flats_are (true_T second_read.right);
              third = at_counts (λ f x. T (third_test s f x)) (true_T third_read.right);
              goal_one = sym third_read.count_is ∙ g;
              last = laid_last;
            } in
            record {
              laid = laid_true parts;
              contents_are = are;
              size = subst (λ (z : Contents). L ≡ total_length z.flats z.implications z.refuting z.rows) (sym are) (laid_length parts);
            }

        -- What is read of the claim is what is read of the whole.
        pub claim_read : get_or s 0 0 ≡ entries → G ≡ 1 → (r : Option Contents) → ClaimRead s L F X r → BeginningRead s L r
        claim_read e g (Some k) h = all_read e g k h
        claim_read e g None h = λ there. broken_last (h there)

-- ---- all bytes

-- Fewer bytes than the contents break the layout by their length.
pub whole_unlaid : (s : List ℕ) → (bodies_start ≤ length s → laid_out s ≡ false) → laid_out s ≡ false
whole_unlaid s f = T_false (laid_out s) (λ t.
    false_T (f (omega (arith, laid_length s (length s) (laid_parts s (length s) t)))) t)
