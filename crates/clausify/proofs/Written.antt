-- Laws of the clauses of one name, and of writing them row after row.
use mathlib.Core.Bool.{Bool, true, false, cond, ◌||◌, or-false}
use mathlib.Core.List.{List, [], ◌∷◌, ◌++◌, append_assoc, append-nil}
use mathlib.Core.Path.{◌≡◌, refl, sym, ap, ap₂, ◌∙◌, subst}
use mathlib.Core.Logic.{inl}
use Prim.Native.Nat.{ℕ, ◌+◌, ◌≤◌, ◌<◌}
use native.Mathlib.Omega.{arith}
use lib.Dec.{T, eqb}
use lib.ListN.{length, get_or, drop, drop_of_length-le, length-append}
use lib.Seq.{drop-cons}
use native.Mathlib.Numerals.{add-one}
use Rattle.std.specs.List.{list_any}
use Rattle.atoms.specs.Sets.{has, limit, union}
use Rattle.atoms.specs.Words.{row_count, single_or_empty, RowSet}
use borrow.Author.Tests.{eqb-true, eqb-false, eq-eqb, ne_eqb}
use Rattle.atoms.proofs.Truth.{by_cond}
use Rattle.atoms.proofs.Members.{ext, has_union, has_empty}
use Rattle.ipl.specs.Lists.{any}
use Rattle.ipl.specs.Clause.{bot, one, Flat, Implication, closing, closings}
use Rattle.ipl.specs.Range.{flat_table, atom_or_bot}
use Rattle.ipl.proofs.Range.{atom_or_bot_lem, atom_in_range, single_one}
use Rattle.ipl.specs.Book.{Addition, add_flat, add_implication}
use Rattle.ipl.proofs.Lists.{All_at, read_within}
use Rattle.sat.specs.Table.{clauses}
use Rattle.prover.specs.State.{flats_of, implications_of}
use Rattle.prover.specs.declared.Flats.{Flats}
use Rattle.prover.specs.declared.Implications.{Implications}
use Rattle.sat.proofs.Table.{clauses_more}
use Rattle.clausify.specs.Naming.{set_of, clause, part_calls}
use Rattle.clausify.specs.Additions.{flats_by, implications_by}
use Rattle.clausify.proofs.Additions.{flats_by_append, implications_by_append}
use Rattle.clausify.specs.Writing.{entry_calls, AtomsIn, Put, Room, PartIn, PartsIn, EntryRoom, Appended}
use Rattle.clausify.proofs.Sizes.{clause_size}
use Rattle.syntax.specs.Nodes.{And, Or, Implies}
use Rattle.syntax.specs.Parts.{connective_of, entry_of}
use Rattle.syntax.specs.declared.Part.{Part}
use Rattle.syntax.specs.declared.Part.TheVariants.{Letter, Falsum, Compound}
use Rattle.syntax.specs.declared.Connective.{Connective}
use Rattle.syntax.specs.declared.Connective.TheVariants as connectives

-- ---- rows

pub put_none : (t : Flats) → Put t [] t
put_none t = record { rows = sym (append-nil (flats_of t)); more = omega arith }

pub put_one : (t r : Flats) (f : Flat) → t.count < row_count t.left → t.count < row_count t.right → RowSet t.left t.count f.left r.left
    → RowSet t.right t.count f.right r.right → r.count ≡ t.count + 1 → Put t (f ∷ []) r
put_one t r f h k a b e = record {
  rows = ap (clauses r.left r.right) e ∙ clauses_more t.left t.right r.left r.right t.count f.left f.right a b h k;
  more = omega arith;
}

put_then : {F G : List Flat} (t u v : Flats) → Put t F u → Put u G v → Put t (F ++ G) v
put_then {F} {G} t u v a b = record {
  rows = b.rows ∙ ap (λ (R : List Flat). R ++ G) a.rows ∙ append_assoc (flats_of t) F G;
  more = omega (arith, a.more, b.more, length-append F G);
}

-- ---- sets
union_empty : (a : ℕ) → union a 0 ≡ a
union_empty a = ext (union a 0) a (λ i. has_union a 0 i ∙ rw (has_empty i) (or-false (has a i)))

set_one : (x : ℕ) → set_of (x ∷ []) ≡ one x
unfolding set_of
set_one x = union_empty (one x)

set_two : (x y : ℕ) → set_of (x ∷ y ∷ []) ≡ union (one x) (one y)
unfolding set_of
set_two x y = ap (union (one x)) (union_empty (one y))

or_assoc : (a b c : Bool) → (a || b) || c ≡ a || (b || c)
or_assoc true b c = refl
or_assoc false b c = refl

union_assoc : (a b c : ℕ) → union (union a b) c ≡ union a (union b c)
union_assoc a b c = ext (union (union a b) c) (union a (union b c)) (λ i.
    has_union (union a b) c i ∙ ap (λ (t : Bool). t || has c i) (has_union a b i) ∙ or_assoc (has a i) (has b i) (has c i)
    ∙ sym (has_union a (union b c) i ∙ ap (λ (t : Bool). has a i || t) (has_union b c i)))

-- The atoms from i on join those before.
module _ (l : List ℕ) (h : AtomsIn l) where
  pub joined_none : (empty : ℕ) → empty ≡ 0 → union empty (set_of l) ≡ set_of l
  joined_none empty e = ap (λ (s : ℕ). union s (set_of l)) e ∙ ext (union 0 (set_of l)) (set_of l) (λ i. has_union 0 (set_of l) i ∙ rw (has_empty i) refl)

  pub joined_more : (i : ℕ) → i < length l → (before more after : ℕ) → union before (set_of (drop i l)) ≡ set_of l → more ≡ single_or_empty (get_or l i 0)
      → after ≡ union before more → union after (set_of (drop (i + 1) l)) ≡ set_of l
  unfolding set_of
  joined_more i lt before more after e em ea =
      let x : ℕ = get_or l i 0 in
      let here : drop i l ≡ x ∷ drop (i + 1) l = rw (add-one i) (drop-cons l i 0 lt) in
      let atom : more ≡ one x = em ∙ single_one limit x (omega arith) (atom_or_bot_lem limit x (All_at (λ x. T (atom_or_bot limit x)) l 0 h i lt)) in
      ap (λ (s : ℕ). union s (set_of (drop (i + 1) l))) (ea ∙ ap (union before) atom)
      ∙ union_assoc before (one x) (set_of (drop (i + 1) l))
      ∙ sym (ap (λ (l : List ℕ). union before (set_of l)) here) ∙ e

  pub joined_all : (i : ℕ) → length l ≤ i → (before : ℕ) → union before (set_of (drop i l)) ≡ set_of l → before ≡ set_of l
  unfolding set_of
  joined_all i le before e = sym (ap (λ (l : List ℕ). union before (set_of l)) (drop_of_length-le l {i = i} le) ∙ union_empty before) ∙ e

-- ---- tests for ⊥
turned : (a b : ℕ) → eqb a b ≡ eqb b a
turned a b = go (eqb a b) (eqb b a) refl refl
  where
    go : (s t : Bool) → eqb a b ≡ s → eqb b a ≡ t → s ≡ t
    go true true e f = refl
    go true false e f = absurd (eqb-false b a f (sym (eqb-true a b e)))
    go false true e f = absurd (eqb-false a b e (sym (eqb-true b a f)))
    go false false e f = refl

pub any_listed : (l : List ℕ) → list_any (λ x. eqb x bot) l ≡ any (eqb bot) l
unfolding any
any_listed [] = refl
any_listed (x ∷ l) = ap₂ (λ (a b : Bool). a || b) (turned x bot) (any_listed l)

-- ---- the clauses of a name
pub clause_skipped : (t : Flats) (L R : List ℕ) → any (eqb bot) L ≡ true → Put t (flats_by (clause L R)) t
unfolding clause flats_by
clause_skipped t L R e = rw e (put_none t)

pub clause_put : (t r : Flats) (L R : List ℕ) (f : Flat) → any (eqb bot) L ≡ false → f.left ≡ set_of L → f.right ≡ set_of R → Put t (f ∷ []) r → Put t (flats_by (clause L R)) r
unfolding clause flats_by
clause_put t r L R f e el er p = rw e (subst (λ (f : Flat). Put t (f ∷ []) r) (λ i. record { left = el i; right = er i }) p)

-- The closing clause is that of the implication.
closing_put : (x y z : ℕ) → flats_by (clause (z ∷ []) (x ∷ [])) ≡ flats_by (add_implication (record { a = y; b = z; c = x }) ∷ [])
unfolding clause flats_by closings closing any
closing_put x y z = go (eqb z bot) (eqb bot z || false) (turned z bot ∙ sym (or-false (eqb bot z)))
  where
    go : (s t : Bool) → s ≡ t
        → flats_by (cond t [] (add_flat (record { left = set_of (z ∷ []); right = set_of (x ∷ []) }) ∷ [])) ≡ cond s [] (record { left = one z; right = one x } ∷ []) ++ []
    go true true e = refl
    go true false e = absurd cc
    go false true e = absurd cc
    go false false e = λ i. record { left = set_one z i; right = set_one x i } ∷ []

module _ (t : Flats) (x y z : ℕ) where
  -- Three clauses, one after the other.
  pub three_put : (L R L2 R2 L3 R3 : List ℕ) (t2 t3 t4 : Flats) → Put t (flats_by (clause L R)) t2 → Put t2 (flats_by (clause L2 R2)) t3 → Put t3 (flats_by (clause L3 R3)) t4
      → Put t (flats_by (clause L R ++ clause L2 R2 ++ clause L3 R3)) t4
  three_put L R L2 R2 L3 R3 t2 t3 t4 a b d =
      subst (λ (F : List Flat). Put t F t4)
      (sym (flats_by_append (clause L R ++ clause L2 R2) (clause L3 R3) ∙ ap (λ (F : List Flat). F ++ flats_by (clause L3 R3)) (flats_by_append (clause L R) (clause L2 R2))))
      (put_then t t3 t4 (put_then t t2 t3 a b) d)

  pub and_put : (t2 t3 t4 : Flats) → Put t (flats_by (clause (x ∷ []) (y ∷ []))) t2 → Put t2 (flats_by (clause (x ∷ []) (z ∷ []))) t3
      → Put t3 (flats_by (clause (y ∷ z ∷ []) (x ∷ []))) t4 → Put t (flats_by (part_calls And x y z)) t4
  unfolding part_calls
  and_put t2 t3 t4 = three_put (x ∷ []) (y ∷ []) (x ∷ []) (z ∷ []) (y ∷ z ∷ []) (x ∷ []) t2 t3 t4

  pub or_put : (t2 t3 t4 : Flats) → Put t (flats_by (clause (x ∷ []) (y ∷ z ∷ []))) t2 → Put t2 (flats_by (clause (y ∷ []) (x ∷ []))) t3
      → Put t3 (flats_by (clause (z ∷ []) (x ∷ []))) t4 → Put t (flats_by (part_calls Or x y z)) t4
  unfolding part_calls
  or_put t2 t3 t4 = three_put (x ∷ []) (y ∷ z ∷ []) (y ∷ []) (x ∷ []) (z ∷ []) (x ∷ []) t2 t3 t4

  pub from_bot_put : (t2 : Flats) → y ≡ bot → Put t (flats_by (clause [] (x ∷ []))) t2 → Put t (flats_by (part_calls Implies x y z)) t2
  unfolding part_calls
  from_bot_put t2 e p = rw (eq-eqb y bot e) p

  pub implies_put : (t2 t3 : Flats) → (y ≡ bot → ⊥) → Put t (flats_by (clause (x ∷ y ∷ []) (z ∷ []))) t2 → Put t2 (flats_by (clause (z ∷ []) (x ∷ []))) t3
      → Put t (flats_by (part_calls Implies x y z)) t3
  unfolding part_calls
  implies_put t2 t3 e a b =
      rw (ne_eqb y bot e, flats_by_append (clause (x ∷ y ∷ []) (z ∷ [])) (add_implication (record { a = y; b = z; c = x }) ∷ []))
      (put_then t t2 t3 a (subst (λ (F : List Flat). Put t2 F t3) (closing_put x y z) b))

  module _ (room : Room t x y z) where
    pub first_in : T (atom_or_bot limit x)
    first_in = atom_in_range limit limit x (omega arith) (inl room.name_atom)

    pub room_second : (L R : List ℕ) (t2 : Flats) → Put t (flats_by (clause L R)) t2 → t2.count < flat_table
    room_second L R t2 p = omega (arith, room.few, p.more, (clause_size L R).0)

    pub room_third : (L R L2 R2 : List ℕ) (t2 t3 : Flats) → Put t (flats_by (clause L R)) t2 → Put t2 (flats_by (clause L2 R2)) t3 → t3.count < flat_table
    room_third L R L2 R2 t2 t3 p q = omega (arith, room.few, p.more, q.more, (clause_size L R).0, (clause_size L2 R2).0)

-- ---- the clauses of an entry
module _ (A : List ℕ) (x : ℕ) (p : Part) where
  pub letter_calls : (l : ℕ) → p ≡ Letter l → [] ≡ entry_calls A x (entry_of p)
  letter_calls l e = sym (ap (λ (p : Part). entry_calls A x (entry_of p)) e)

  pub falsum_calls : p ≡ Falsum → [] ≡ entry_calls A x (entry_of p)
  falsum_calls e = sym (ap (λ (p : Part). entry_calls A x (entry_of p)) e)

  module _ (c : Connective) (y z : ℕ) (e : p ≡ Compound c y z) where
    pub compound_parts : PartsIn A x (entry_of p) → (x < limit) × PartIn A y × PartIn A z
    compound_parts = subst (λ (p : Part). PartsIn A x (entry_of p)) e

    pub compound_calls : PartsIn A x (entry_of p) → part_calls (connective_of c) x (get_or A y 0) (get_or A z 0) ≡ entry_calls A x (entry_of p)
    compound_calls h =
        let q = compound_parts h in
        ap₂ (part_calls (connective_of c) x) (read_within A y 0 bot q.1.0) (read_within A z 0 bot q.2.0)
        ∙ sym (ap (λ (p : Part). entry_calls A x (entry_of p)) e)

    pub compound_room : (t : Flats) → EntryRoom t x A (entry_of p) → Room t x (get_or A y 0) (get_or A z 0)
    compound_room t h =
        let q = compound_parts h.parts in
        record {
          few = h.few;
          name_atom = q.0;
          left_atom = subst (λ (a : ℕ). T (atom_or_bot limit a)) (read_within A y bot 0 q.1.0) q.1.1;
          right_atom = subst (λ (a : ℕ). T (atom_or_bot limit a)) (read_within A z bot 0 q.2.0) q.2.1;
        }

pub put_calls : {t r : Flats} (a b : List Addition) → a ≡ b → Put t (flats_by a) r → Put t (flats_by b) r
put_calls {t} {r} a b e = subst (λ (a : List Addition). Put t (flats_by a) r) e

pub put_as : {t r : Flats} (c d : Connective) (x y z : ℕ) → c ≡ d → Put t (flats_by (part_calls (connective_of d) x y z)) r
    → Put t (flats_by (part_calls (connective_of c) x y z)) r
put_as c d x y z e = put_calls _ _ (ap (λ (c : Connective). part_calls (connective_of c) x y z) (sym e))

-- ---- implications
no_implication_lem : (L R : List ℕ) → implications_by (clause L R) ≡ []
unfolding clause implications_by
no_implication_lem L R = by_cond (λ (cs : List Addition). implications_by cs ≡ []) (any (eqb bot) L) [] (add_flat (record { left = set_of L; right = set_of R }) ∷ []) (λ e. refl) (λ e. refl)

no_implications : (l r l2 r2 l3 r3 : List ℕ) → implications_by (clause l r ++ clause l2 r2 ++ clause l3 r3) ≡ []
no_implications l r l2 r2 l3 r3 =
    implications_by_append (clause l r ++ clause l2 r2) (clause l3 r3)
    ∙ ap₂ (λ (a b : List Implication). a ++ b) two (no_implication_lem l3 r3)
  where
    two : implications_by (clause l r ++ clause l2 r2) ≡ []
    two =
        implications_by_append (clause l r) (clause l2 r2)
        ∙ ap₂ (λ (a b : List Implication). a ++ b) (no_implication_lem l r) (no_implication_lem l2 r2)

pub appended_none : (t : Implications) → Appended t (implications_by []) t
unfolding implications_by
appended_none t = record { rows = sym (append-nil (implications_of t)); more = omega arith }

appended_nothing : (t : Implications) (X : List Implication) → X ≡ [] → Appended t X t
unfolding implications_by
appended_nothing t X e = subst (λ (X : List Implication). Appended t X t) (sym e) (appended_none t)

pub appended_calls : (t r : Implications) (a b : List Addition) → a ≡ b → Appended t (implications_by a) r → Appended t (implications_by b) r
appended_calls t r a b e = subst (λ (a : List Addition). Appended t (implications_by a) r) e

module _ (t : Implications) (c : Connective) (x y z : ℕ) where
  appended_as : (d : Connective) (r : Implications) → c ≡ d → Appended t (implications_by (part_calls (connective_of d) x y z)) r → Appended t (implications_by (part_calls (connective_of c) x y z)) r
  appended_as d r e = appended_calls t r _ _ (ap (λ (c : Connective). part_calls (connective_of c) x y z) (sym e))

  pub and_appended : c ≡ connectives.And → Appended t (implications_by (part_calls (connective_of c) x y z)) t
  unfolding part_calls
  and_appended e = appended_as connectives.And t e (appended_nothing t _ (no_implications (x ∷ []) (y ∷ []) (x ∷ []) (z ∷ []) (y ∷ z ∷ []) (x ∷ [])))

  pub or_appended : c ≡ connectives.Or → Appended t (implications_by (part_calls (connective_of c) x y z)) t
  unfolding part_calls
  or_appended e = appended_as connectives.Or t e (appended_nothing t _ (no_implications (x ∷ []) (y ∷ z ∷ []) (y ∷ []) (x ∷ []) (z ∷ []) (x ∷ [])))

  pub from_bot_appended : c ≡ connectives.Implies → y ≡ bot → Appended t (implications_by (part_calls (connective_of c) x y z)) t
  unfolding part_calls
  from_bot_appended e b = appended_as connectives.Implies t e (appended_nothing t _ (rw (eq-eqb y bot b) (no_implication_lem [] (x ∷ []))))

  pub implies_appended : (r : Implications) → c ≡ connectives.Implies → (y ≡ bot → ⊥) → r.count ≡ t.count + 1 → implications_of r ≡ implications_of t ++ (record { a = y; b = z; c = x } ∷ [])
      → Appended t (implications_by (part_calls (connective_of c) x y z)) r
  unfolding part_calls implications_by
  implies_appended r e b count rows = appended_as connectives.Implies r e
      (subst (λ (X : List Implication). Appended t X r) (sym one) (record { rows = rows; more = count }))
    where
      one : implications_by (part_calls Implies x y z) ≡ record { a = y; b = z; c = x } ∷ []
      one = rw (ne_eqb y bot b) (implications_by_append (clause (x ∷ y ∷ []) (z ∷ [])) (add_implication (record { a = y; b = z; c = x }) ∷ [])
          ∙ ap (λ (X : List Implication). X ++ (record { a = y; b = z; c = x } ∷ [])) (no_implication_lem (x ∷ y ∷ []) (z ∷ [])))
