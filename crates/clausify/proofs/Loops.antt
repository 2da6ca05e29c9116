-- The passes over a formula's table: what holds before each entry, and at the end.
use mathlib.Core.List.{List, [], ◌∷◌, ◌++◌, append_assoc, append-nil}
use mathlib.Core.Path.{◌≡◌, refl, sym, ap, ap₂, ◌∙◌, subst}
use lib.Dec.{T}
use Prim.Native.Nat.{ℕ, suc, ◌+◌, ◌*◌, ◌≤◌, ◌<◌}
use native.Mathlib.Numerals.{add-one}
use native.Mathlib.Omega.{arith}
use lib.ListN.{length, get_or, take, drop, set, length-set}
use lib.Seq.{take-suc-set, get_or-take}
use Rattle.atoms.specs.Sets.{limit}
use Rattle.ipl.specs.Clause.{bot, Flat, Implication}
use Rattle.ipl.specs.Book.{Addition}
use Rattle.ipl.specs.Lists.{tabulate}
use Rattle.ipl.specs.Range.{implication_table, atom_or_bot}
use Rattle.ipl.proofs.Lists.{read_within}
use Rattle.ipl.proofs.Range.{atom_in_range}
use Rattle.sat.specs.Table.{clause_at, clauses}
use Rattle.prover.specs.State.{implication_row, flats_of, implications_of}
use Rattle.prover.specs.declared.Flats.{Flats}
use Rattle.prover.specs.declared.Implications.{Implications}
use Rattle.syntax.specs.Nodes.{Entry, letter, falsum, compound, Earlier, named}
use Rattle.syntax.specs.Letters.{letters_of, letter_count}
use Rattle.syntax.specs.Parts.{held, room, Sound}
use Rattle.syntax.specs.declared.Part.{Part}
use Rattle.syntax.specs.declared.Parts.{Parts}
use Rattle.syntax.proofs.Held.{held_length, held_row}
use Rattle.syntax.proofs.LetterCount.{entry_at, none_left, letters_left}
use Rattle.clausify.specs.Naming.{atoms_from, atoms_of, atom_at, part_calls, calls}
use Rattle.clausify.specs.Additions.{flats_by, implications_by}
use Rattle.clausify.specs.Writing.{entry_calls, clauses_of_name, Passed, NamesOf, Nameable, Put, PartIn, PartsIn, EntryRoom, Appended}
use Rattle.clausify.specs.declared.naming.Names.{Names}
use Rattle.clausify.specs.declared.naming.Next.{Next}
use Rattle.clausify.proofs.Additions.{flats_by_append, implications_by_append}
use Rattle.clausify.proofs.Atoms.{letters_named, Between, atom_between, atom_below}
use Rattle.clausify.proofs.Sizes.{entry_size}
use Rattle.clausify.proofs.Passes.{calls_left, calls_start, calls_end, named_left, calls_left_next, atoms_left}

named_length : (T : List Entry) → named T ≤ length T
unfolding named
named_length [] = omega arith
named_length (letter l ∷ T) = omega (arith, named_length T)
named_length (falsum ∷ T) = omega (arith, named_length T)
named_length (compound c a b ∷ T) = omega (arith, named_length T)

-- ---- atoms given
pub record Given (p : Parts) (atoms : List ℕ) (n : Next) (i : ℕ) : Type 0 where
  pub inside : i ≤ p.count
  pub size : length atoms ≡ room
  pub done : take i atoms ++ atoms_from n.letter n.name (drop i (held p)) ≡ atoms_of (held p)
  pub letters : n.letter + letter_count (drop i (held p)) ≡ letter_count (held p)
  pub names : n.name + named (drop i (held p)) ≡ named (held p) + letter_count (drop i (held p))

module _ (p : Parts) (s : Sound p) where
  table_size : named (held p) ≤ room
  table_size = omega (arith, named_length (held p), held_length p s, s.bounded)

  pub given_none : (atoms : List ℕ) (letters : ℕ) → length atoms ≡ room → letters ≡ letter_count (held p)
      → Given p atoms (record { letter = 0; name = letters }) 0
  unfolding atoms_of
  given_none atoms letters l e = record {
    inside = omega arith;
    size = l;
    done = ap (λ (x : ℕ). atoms_from 0 x (held p)) e;
    letters = omega arith;
    names = omega arith;
  }

  module _ (atoms : List ℕ) (n : Next) (i : ℕ) (g : Given p atoms n i) where
    pub given_small : (n.letter < bot) × (n.name < bot)
    given_small = (
      omega (arith, g.letters, letters_named (held p), table_size),
      omega (arith, g.names, letters_named (drop i (held p)), table_size),
    )

    pub given_more : (d : Part) (r : Next) (atom : ℕ) → i < p.count → Passed n (entry_at p i d) atom r → Given p (set atoms i atom) r (i + 1)
    given_more d r atom h q = record {
      inside = omega arith;
      size = length-set atoms i atom ∙ g.size;
      done = rw (add-one i) (ap (λ (l : List ℕ). l ++ atoms_from r.letter r.name (drop (suc i) (held p)))
          (take-suc-set atoms i atom (omega (arith, g.size, s.bounded)))
          ∙ append_assoc (take i atoms) (atom ∷ []) (atoms_from r.letter r.name (drop (suc i) (held p)))
          ∙ ap (λ (l : List ℕ). take i atoms ++ l) (sym (rw (sym (add-one i)) (atoms_left p s i d h n r atom q))) ∙ g.done);
      letters = omega (arith, g.letters, q.letter_more, letters_left p s i d h);
      names = omega (arith, g.names, q.name_more, letters_left p s i d h, named_left p s i d h);
    }

    pub given_all : p.count ≤ i → NamesOf (held p) (record { atoms = atoms; count = n.name })
    unfolding letters_of named atoms_from
    given_all h = record {
      atoms = λ j lt. sym (get_or-take i atoms j bot (omega (arith, lt, held_length p s))) ∙ ap (λ (l : List ℕ). get_or l j bot) all;
      count = omega (arith, g.names, ap letter_count (none_left p s i h), ap named (none_left p s i h));
    }
      where
        all : take i atoms ≡ atoms_of (held p)
        all =
            sym (append-nil (take i atoms))
            ∙ ap (λ (E : List Entry). take i atoms ++ atoms_from n.letter n.name E) (sym (none_left p s i h))
            ∙ g.done

-- ---- clauses written
module _ (p : Parts) (r : Names) (g : Nameable p r) (l : length r.atoms ≡ room) (i : ℕ) (d : Part) (h : i < p.count) where
  inside : i < length (held p)
  inside = omega (arith, held_length p g.sound)

  entry_is : get_or (held p) i falsum ≡ entry_at p i d
  entry_is = held_row p g.sound i d h

  atom_is : get_or r.atoms i 0 ≡ atom_at (held p) i
  atom_is = read_within r.atoms i 0 bot (omega (arith, l, g.sound.bounded)) ∙ g.names.atoms i inside

  earlier : Earlier i (entry_at p i d)
  earlier = subst (Earlier i) entry_is (g.ordered i inside)

  part_in : (a : ℕ) → a < i → PartIn r.atoms a
  part_in a k = (
    omega (arith, l, g.sound.bounded),
    subst (λ (x : ℕ). T (atom_or_bot limit x)) (sym (g.names.atoms a (omega (arith, held_length p g.sound))))
        (atom_in_range limit limit _ (omega arith) (atom_below (held p) limit a g.few)),
  )

  -- The entry's own atom: a compound's is a name.
  abbrev Own : Entry → Type 0
  Own e = Between 0 (letter_count (held p)) (letter_count (held p)) (named (held p)) e (atom_at (held p) i)

  pub parts_in : PartsIn r.atoms (get_or r.atoms i 0) (entry_at p i d)
  parts_in = go (entry_at p i d) earlier (subst Own entry_is (atom_between (held p) i inside))
    where
      go : (e : Entry) → Earlier i e → Own e → PartsIn r.atoms (get_or r.atoms i 0) e
      go (letter k) q w = tt
      go falsum q w = tt
      go (compound c a b) q w = (omega (arith, atom_is, w.1, g.few), part_in a q.0, part_in b q.1)

  same_calls : entry_calls r.atoms (get_or r.atoms i 0) (entry_at p i d) ≡ entry_calls (atoms_of (held p)) (atom_at (held p) i) (entry_at p i d)
  same_calls = rw atom_is (go (entry_at p i d) earlier)
    where
      same : (a : ℕ) → a < i → get_or r.atoms a bot ≡ atom_at (held p) a
      same a k = g.names.atoms a (omega (arith, held_length p g.sound))

      go : (e : Entry) → Earlier i e → entry_calls r.atoms (atom_at (held p) i) e ≡ entry_calls (atoms_of (held p)) (atom_at (held p) i) e
      go (letter k) q = refl
      go falsum q = refl
      go (compound c a b) q = ap₂ (part_calls c (atom_at (held p) i)) (same a q.0) (same b q.1)

  -- What was brought, and what the entries left will bring.
  brought : {B : Type 0} (by : List Addition → List B) → ((a b : List Addition) → by (a ++ b) ≡ by a ++ by b) → (done : List B)
      → done ++ by (calls_left p i) ≡ by (calls (held p))
      → (done ++ by (entry_calls r.atoms (get_or r.atoms i 0) (entry_at p i d))) ++ by (calls_left p (i + 1)) ≡ by (calls (held p))
  brought {B} by append done e =
      append_assoc done (by here) (by (calls_left p (i + 1)))
      ∙ ap (λ (l : List B). done ++ l) (sym (append here (calls_left p (i + 1))) ∙ ap by all)
      ∙ e
    where
      here : List Addition
      here = entry_calls r.atoms (get_or r.atoms i 0) (entry_at p i d)

      all : here ++ calls_left p (i + 1) ≡ calls_left p i
      all = ap (λ (cs : List Addition). cs ++ calls_left p (i + 1)) same_calls ∙ sym (calls_left_next p g.sound i d h)

pub record FlatsWritten (p : Parts) (t : Flats) (i : ℕ) : Type 0 where
  pub inside : i ≤ p.count
  pub rows : flats_of t ++ flats_by (calls_left p i) ≡ flats_by (calls (held p))
  pub few : t.count ≤ clauses_of_name * i

pub record ImplicationsWritten (p : Parts) (t : Implications) (i : ℕ) : Type 0 where
  pub inside : i ≤ p.count
  pub rows : implications_of t ++ implications_by (calls_left p i) ≡ implications_by (calls (held p))
  pub few : t.count ≤ i

pub flats_none : (p : Parts) (t : Flats) → t.count ≡ 0 → FlatsWritten p t 0
unfolding clauses tabulate
flats_none p t e = record {
  inside = omega arith;
  rows = ap₂ (λ (a b : List Flat). a ++ b) (ap (tabulate (clause_at t.left t.right)) e) (ap flats_by (calls_start p));
  few = omega arith;
}

pub implications_none : (p : Parts) (t : Implications) → t.count ≡ 0 → ImplicationsWritten p t 0
unfolding tabulate
implications_none p t e = record {
  inside = omega arith;
  rows = ap₂ (λ (a b : List Implication). a ++ b) (ap (tabulate (implication_row t)) e) (ap implications_by (calls_start p));
  few = omega arith;
}

module _ (p : Parts) (r : Names) (g : Nameable p r) where
  pub implications_room : (i : ℕ) → i < p.count → (t : Implications) → ImplicationsWritten p t i → t.count < implication_table
  implications_room i h t w = omega (arith, w.few, g.sound.bounded)

  module _ (l : length r.atoms ≡ room) (i : ℕ) (d : Part) (h : i < p.count) where
    pub flats_room : (t : Flats) → FlatsWritten p t i → EntryRoom t (get_or r.atoms i 0) r.atoms (entry_at p i d)
    flats_room t w = record { few = omega (arith, w.few, g.sound.bounded); parts = parts_in p r g l i d h }

    pub flats_more : (t : Flats) → FlatsWritten p t i → (t2 : Flats) → Put t (flats_by (entry_calls r.atoms (get_or r.atoms i 0) (entry_at p i d))) t2 → FlatsWritten p t2 (i + 1)
    flats_more t w t2 q = record {
      inside = omega arith;
      rows = rw q.rows (brought p r g l i d h flats_by flats_by_append (flats_of t) w.rows);
      few = omega (arith, w.few, q.more, (entry_size r.atoms (get_or r.atoms i 0) (entry_at p i d)).0);
    }

    pub implications_more : (t : Implications) → ImplicationsWritten p t i
        → (t2 : Implications) → Appended t (implications_by (entry_calls r.atoms (get_or r.atoms i 0) (entry_at p i d))) t2 → ImplicationsWritten p t2 (i + 1)
    implications_more t w t2 q = record {
      inside = omega arith;
      rows = rw q.rows (brought p r g l i d h implications_by implications_by_append (implications_of t) w.rows);
      few = omega (arith, w.few, q.more, (entry_size r.atoms (get_or r.atoms i 0) (entry_at p i d)).1);
    }

  module _ (i : ℕ) (h : p.count ≤ i) where
    none_brought : {B : Type 0} (by : List Addition → List B) → by [] ≡ [] → (done : List B) → done ++ by (calls_left p i) ≡ by (calls (held p)) → done ≡ by (calls (held p))
    none_brought {B} by none done e =
        sym (append-nil done) ∙ ap (λ (l : List B). done ++ l) (sym (ap by (calls_end p g.sound i h) ∙ none)) ∙ e

    pub flats_all : (t : Flats) → FlatsWritten p t i → flats_of t ≡ flats_by (calls (held p))
    unfolding flats_by
    flats_all t w = none_brought flats_by refl (flats_of t) w.rows

    pub implications_all : (t : Implications) → ImplicationsWritten p t i → implications_of t ≡ implications_by (calls (held p))
    unfolding implications_by
    implications_all t w = none_brought implications_by refl (implications_of t) w.rows
