-- Rows of a table: one more, and an entry found again.
use mathlib.Core.Bool.{Bool, true, false}
use mathlib.Core.List.{List, [], ◌∷◌, ◌++◌}
use mathlib.Core.Path.{◌≡◌, refl, sym, ◌∙◌, ap}
use Prim.Native.Nat.{ℕ, suc, ◌+◌, ◌-◌, ◌≤◌, ◌<◌}
use native.Mathlib.Numerals.{add-one}
use native.Mathlib.Nat.{add-zero}
use native.Mathlib.Omega.{arith}
use lib.ListN.{length, get_or, take, drop, set, length-append, length-map, get_or-map, drop_of_length-le}
use lib.Seq.{length-take-le, take-suc-set, get_or-take, drop-cons}
use borrow.Author.Tests.{lt-ltb, le-ltb}
use Rattle.std.specs.Prelude.{Option, Some, None}
use Rattle.ipl.proofs.Lists.{read_within, map_snoc}
use Rattle.syntax.specs.Nodes.{Connective, And, Implies, Entry, falsum, compound, Named, same, index_of, with_entry, named, Once}
use Rattle.syntax.specs.Parts.{connective_of, entry_of, held, room, Sound}
use Rattle.syntax.specs.Table.{Found, Holds, Names, with_compound, with_negation, with_equivalence}
use Rattle.syntax.specs.declared.Connective as declared
use Rattle.syntax.specs.declared.Connective.TheVariants as variant
use Rattle.syntax.specs.declared.Part.{Part}
use Rattle.syntax.specs.declared.Part.TheVariants.{Letter, Falsum, Compound}
use Rattle.syntax.specs.declared.Parts.{Parts}
use Rattle.syntax.proofs.Growth.{entry_grows}
use Rattle.syntax.proofs.Once.{same_self, same_is, index_end}
use Rattle.syntax.proofs.Names.{names_with_falsum, names_without}

pub sound : (p : Parts) → Sound p
sound p = record { sized = p.sized; bounded = p.bounded }

module _ (p : Parts) (s : Sound p) where
  pub held_length : length (held p) ≡ p.count
  held_length = length-map (take p.count p.nodes) entry_of ∙ length-take-le p.count p.nodes (rw s.sized s.bounded)

  pub held_at : (i : ℕ) (n : Part) → i < p.count → get_or (held p) i (entry_of n) ≡ entry_of (get_or p.nodes i n)
  held_at i n h = get_or-map entry_of (take p.count p.nodes) i n ∙ ap entry_of (get_or-take p.count p.nodes i n h)

  pub held_row : (i : ℕ) (n : Part) → i < p.count → get_or (held p) i falsum ≡ entry_of (get_or p.nodes i n)
  held_row i n h = read_within (held p) i falsum (entry_of n) (rw held_length h) ∙ held_at i n h

-- No row before i is the entry.
pub record NotBefore (e : Entry) (T : List Entry) (i : ℕ) : Type 0 where
  pub inside : i ≤ length T
  pub on : index_of e T ≡ i + index_of e (drop i T)

module _ (e : Entry) (T : List Entry) where
  pub search_start : NotBefore e T 0
  search_start = record { inside = omega arith; on = omega arith }

  module _ (i : ℕ) (n : NotBefore e T i) where
    pub search_none : length T ≤ i → i ≡ index_of e T
    unfolding index_of
    search_none h = sym (n.on ∙ rw (drop_of_length-le T h) (add-zero i))

    module _ (h : i < length T) (x : Entry) where
      search_here : same (get_or T i x) e ≡ true → i ≡ index_of e T
      unfolding index_of
      search_here t = sym (n.on ∙ rw (drop-cons T i x h, t) (add-zero i))

      search_later : same (get_or T i x) e ≡ false → NotBefore e T (i + 1)
      search_later t = record { inside = omega arith; on = omega (arith, n.on, step) }
        where
          step : index_of e (drop i T) ≡ suc (index_of e (drop (i + 1) T))
          step = unfold index_of in rw (add-one, drop-cons T i x h, t)

-- The same by the rows of the code.
connective_back : (c d : declared.Connective) → connective_of c ≡ connective_of d → c ≡ d
connective_back variant.And variant.And e = refl
connective_back variant.And variant.Or e = cc
connective_back variant.And variant.Implies e = cc
connective_back variant.Or variant.And e = cc
connective_back variant.Or variant.Or e = refl
connective_back variant.Or variant.Implies e = cc
connective_back variant.Implies variant.And e = cc
connective_back variant.Implies variant.Or e = cc
connective_back variant.Implies variant.Implies e = refl

-- Two parts with one entry are one part.
entry_back : (a b : Part) → entry_of a ≡ entry_of b → a ≡ b
entry_back (Letter k) (Letter l) e = let i : k ≡ l = cc in ap Letter i
entry_back (Letter k) Falsum e = cc
entry_back (Letter k) (Compound d i j) e = cc
entry_back Falsum (Letter l) e = cc
entry_back Falsum Falsum e = refl
entry_back Falsum (Compound d i j) e = cc
entry_back (Compound c a b) (Letter l) e = cc
entry_back (Compound c a b) Falsum e = cc
entry_back (Compound c a b) (Compound d i j) e =
    let x : connective_of c ≡ connective_of d = cc in
    let y : a ≡ i = cc in
    let z : b ≡ j = cc in
    rw (connective_back c d x, y, z)

module _ (p : Parts) (part : Part) (i : ℕ) (n : NotBefore (entry_of part) (held p) i) (h : i < p.count) (d : Part) where
  row_is : get_or (held p) i (entry_of d) ≡ entry_of (get_or p.nodes i d)
  row_is = held_at p (sound p) i d h

  pub row_here : get_or p.nodes i d ≡ part → Found (held p) (entry_of part) (Some i)
  row_here e =
      let inside : i < length (held p) = omega (arith, held_length p (sound p)) in
      (search_here (entry_of part) (held p) i n inside (entry_of d) (ap (λ (x : Entry). same x (entry_of part)) (row_is ∙ ap entry_of e) ∙ same_self (entry_of part)), inside)

  pub row_later : (get_or p.nodes i d ≡ part → ⊥) → NotBefore (entry_of part) (held p) (i + 1)
  row_later e =
      search_later (entry_of part) (held p) i n (omega (arith, held_length p (sound p))) (entry_of d)
      (not-true-false (same (get_or (held p) i (entry_of d)) (entry_of part)) (λ t. e (entry_back _ _ (sym row_is ∙ same_is _ _ t))))
    where
      not-true-false : (b : Bool) → (b ≡ true → ⊥) → b ≡ false
      not-true-false true f = absurd (f refl)
      not-true-false false f = refl

pub no_row : (p : Parts) (e : Entry) (i : ℕ) → NotBefore e (held p) i → p.count ≤ i → Found (held p) e None
no_row p e i n h = omega (arith, search_none e (held p) i n (omega (arith, held_length p (sound p))), held_length p (sound p))

-- ---- a part by its row

pub found_named : (p : Parts) (e : Entry) (row : ℕ) → Found (held p) e (Some row) → Holds (with_entry (held p) e) p row
unfolding with_entry
found_named p e row f =
    let inside : index_of e (held p) < length (held p) = omega (arith, f.0, f.1) in
    rw (lt-ltb (index_of e (held p)) (length (held p)) inside) (record { table = refl; root_is = f.0 })

module _ (p : Parts) (part : Part) (absent : Found (held p) (entry_of part) None) where
  -- A row more.
  pub new_named : (q : Parts) → q.nodes ≡ set p.nodes p.count part → q.count ≡ p.count + 1 → p.count < room → Holds (with_entry (held p) (entry_of part)) q p.count
  unfolding with_entry
  new_named q nodes_are count_is h =
      rw (le-ltb (index_of (entry_of part) (held p)) (length (held p)) absent)
      (record { table = pushed; root_is = omega (arith, held_length p (sound p), index_end (held p) (entry_of part), absent) })
    where
      pushed : held q ≡ held p ++ (entry_of part ∷ [])
      pushed =
          rw (nodes_are, count_is, add-one, take-suc-set p.nodes p.count part (rw p.sized h))
          (map_snoc entry_of (take p.count p.nodes) part)

  pub full_named : room ≤ p.count → room < length (with_entry (held p) (entry_of part)).table
  unfolding with_entry
  full_named h =
      rw (le-ltb (index_of (entry_of part) (held p)) (length (held p)) absent)
      (omega (arith, held_length p (sound p), length-append (held p) (entry_of part ∷ [])))

-- ---- what is made of operands

pub compound_grows : (c : Connective) (a : ℕ) (T : List Entry) (b : ℕ) → length T ≤ length (with_compound c a T b).table
compound_grows c a T b = entry_grows T (compound c a b)

-- `~` of a part, after ⊥.
module _ (T : List Entry) (p : ℕ) where
  pub negation_full : room < length (with_entry T falsum).table → room < length (with_negation T p).table
  unfolding with_negation
  negation_full h = let z = with_entry T falsum in omega (arith, compound_grows Implies p z.table z.root)

  pub negation_named : (q : Parts) (z : ℕ) → Holds (with_entry T falsum) q z → (w : Parts) (r : Option ℕ) → Names (with_compound Implies p (held q) z) w r → Names (with_negation T p) w r
  unfolding with_negation
  negation_named q z x w r n = rw (x.table, x.root_is) at n

-- Two implications, and their conjunction.
module _ (T : List Entry) (p q : ℕ) where
  abbrev there : Named
  there = with_compound Implies p T q

  abbrev back : Named
  back = with_compound Implies q there.table p

  pub there_full : room < length there.table → room < length (with_equivalence p T q).table
  unfolding with_equivalence
  there_full h = omega (arith, compound_grows Implies q there.table p, compound_grows And there.root back.table back.root)

  module _ (u : Parts) (a : ℕ) (x : Holds there u a) (v : Parts) where
    back_named : (r : Option ℕ) → Names (with_compound Implies q (held u) p) v r → Names back v r
    back_named r n = rw x.table at n

    pub back_full : Names (with_compound Implies q (held u) p) v None → room < length (with_equivalence p T q).table
    unfolding with_equivalence
    back_full n = let h = back_named None n in omega (arith, compound_grows And there.root back.table back.root)

    pub equivalence_named : (b : ℕ) → Names (with_compound Implies q (held u) p) v (Some b) → (w : Parts) (r : Option ℕ) → Names (with_compound And a (held v) b) w r
        → Names (with_equivalence p T q) w r
    unfolding with_equivalence
    equivalence_named b n w r m = let y = back_named (Some b) n in rw (y.table, y.root_is, x.root_is) at m

-- ---- letters and names

module _ (p : Parts) where
  pub names_but_one : (row : ℕ) → Found (held p) falsum (Some row) → Once (held p) → p.count - 1 ≡ named (held p)
  names_but_one row f o = let rows = held_length p (sound p) in omega (arith, names_with_falsum (held p) o (omega (arith, f.0, f.1)))

  pub names_all : Found (held p) falsum None → p.count ≡ named (held p)
  names_all f = let rows = held_length p (sound p) in omega (arith, names_without (held p) f)
