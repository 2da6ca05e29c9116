-- The scan for refusal 3, byte by byte.
use mathlib.Core.Bool.{Bool, true, false}
use mathlib.Core.List.{List, [], ◌∷◌, map}
use mathlib.Core.Path.{◌≡◌, refl, sym, ◌∙◌, ap}
use Prim.Native.Nat.{ℕ, suc, ◌+◌, ◌≤◌, ◌<◌}
use native.Mathlib.Decide.{dec_lt}
use native.Mathlib.Numerals.{add-one}
use native.Mathlib.Nat.{add-zero}
use native.Mathlib.Omega.{arith}
use lib.ListN.{length, get_or, take, drop, drop_of_length-le}
use lib.Seq.{drop-cons}
use Rattle.atoms.specs.Words.{num}
use Rattle.atoms.specs.declared.AtomSet.{AtomSet}
use Rattle.syntax.specs.Class.{Class, blank, class_of, after}
use Rattle.syntax.specs.Refusal.{count, most_open, TooDeep}
use Rattle.syntax.specs.Scan.{State, misfit, wanted, had, start, move, ends, unless_misfit, fitting, levels_in, state_of, MayOpen, scanned}
use Rattle.syntax.specs.Code.{decode}
use Rattle.syntax.specs.declared.bytes.Class as code
use Rattle.syntax.specs.declared.bytes.Class.TheVariants as class
use Rattle.syntax.specs.declared.scan.Levels.{Levels}
use Rattle.syntax.proofs.Class.{opening_byte, after_byte, after_end}
use Rattle.syntax.proofs.Depth.{counts}
use Rattle.syntax.proofs.Levels.{open_ends, depth_balanced}

pub blank_stays : (a : State) → move a blank ≡ a
unfolding move
blank_stays misfit = refl
blank_stays (wanted e E) = refl
blank_stays (had e E) = refl

-- What does not fit: where an operand is wanted, and after one.
module _ (e : Bool) (E : List Bool) where
  pub wanted_misfit : (c : code.Class) → (c ≡ class.Blank → ⊥) → (c ≡ class.Not → ⊥) → (c ≡ class.Opening → ⊥) → (c ≡ class.Falsum → ⊥) → ((l : ℕ) → c ≡ class.Letter l → ⊥) → misfit ≡ move (wanted e E) (decode c)
  unfolding move
  wanted_misfit class.Foreign no-blank no-not no-opening no-falsum no-letter = refl
  wanted_misfit class.Closing no-blank no-not no-opening no-falsum no-letter = refl
  wanted_misfit class.And no-blank no-not no-opening no-falsum no-letter = refl
  wanted_misfit class.Or no-blank no-not no-opening no-falsum no-letter = refl
  wanted_misfit class.Implies no-blank no-not no-opening no-falsum no-letter = refl
  wanted_misfit class.Equals no-blank no-not no-opening no-falsum no-letter = refl
  wanted_misfit class.Blank no-blank no-not no-opening no-falsum no-letter = absurd (no-blank refl)
  wanted_misfit class.Not no-blank no-not no-opening no-falsum no-letter = absurd (no-not refl)
  wanted_misfit class.Opening no-blank no-not no-opening no-falsum no-letter = absurd (no-opening refl)
  wanted_misfit class.Falsum no-blank no-not no-opening no-falsum no-letter = absurd (no-falsum refl)
  wanted_misfit (class.Letter l) no-blank no-not no-opening no-falsum no-letter = absurd (no-letter l refl)

  pub had_misfit : (c : code.Class) → (c ≡ class.Blank → ⊥) → (c ≡ class.Closing → ⊥) → (c ≡ class.Equals → ⊥) → (c ≡ class.And → ⊥) → (c ≡ class.Or → ⊥) → (c ≡ class.Implies → ⊥) → misfit ≡ move (had e E) (decode c)
  unfolding move
  had_misfit class.Foreign no-blank no-closing no-equals no-and no-or no-implies = refl
  had_misfit class.Closing no-blank no-closing no-equals no-and no-or no-implies = absurd (no-closing refl)
  had_misfit class.And no-blank no-closing no-equals no-and no-or no-implies = absurd (no-and refl)
  had_misfit class.Or no-blank no-closing no-equals no-and no-or no-implies = absurd (no-or refl)
  had_misfit class.Implies no-blank no-closing no-equals no-and no-or no-implies = absurd (no-implies refl)
  had_misfit class.Equals no-blank no-closing no-equals no-and no-or no-implies = absurd (no-equals refl)
  had_misfit class.Blank no-blank no-closing no-equals no-and no-or no-implies = absurd (no-blank refl)
  had_misfit class.Not no-blank no-closing no-equals no-and no-or no-implies = refl
  had_misfit class.Opening no-blank no-closing no-equals no-and no-or no-implies = refl
  had_misfit class.Falsum no-blank no-closing no-equals no-and no-or no-implies = refl
  had_misfit (class.Letter l) no-blank no-closing no-equals no-and no-or no-implies = refl

pub misfit_stays : (l : List Class) → after move misfit l ≡ misfit
unfolding after move
misfit_stays [] = refl
misfit_stays (c ∷ l) = misfit_stays l

fits_state : (w : Bool) (l : Levels) (k : ℕ) → unless_misfit (state_of w l) k ≡ k
fits_state true l k = refl
fits_state false l k = refl

-- The scan's state at byte i.
pub record ScannedTo (s : List ℕ) (w : Bool) (l : Levels) (i : ℕ) : Type 0 where
  pub inside : i ≤ length s
  pub balance : l.depth + count 41 (take i s) ≡ count 40 (take i s)
  pub runs : scanned s ≡ after move (state_of w l) (map class_of (drop i s))
  pub places : fitting start (map class_of s) ≡ i + fitting (state_of w l) (map class_of (drop i s))

module _ (s : List ℕ) where
  pub scan_start : (none : AtomSet) → ScannedTo s true (record { equated = false; depth = 0; outer = none }) 0
  unfolding levels_in count
  scan_start none = record { inside = omega arith; balance = refl; runs = refl; places = omega arith }

  module _ (w : Bool) (l : Levels) (i : ℕ) (a : ScannedTo s w l i) where
    -- Where the state before byte i's class leads, and how many fit from there on.
    abbrev fitting_from : State → ℕ
    fitting_from x = unless_misfit x (suc (fitting x (map class_of (drop (i + 1) s))))

    fitting_byte : i < length s → fitting (state_of w l) (map class_of (drop i s)) ≡ fitting_from (move (state_of w l) (class_of (get_or s i 0)))
    unfolding fitting
    fitting_byte h = rw (add-one, drop-cons s i 0)

    module _ (h : i < length s) (c : Class) (k : c ≡ class_of (get_or s i 0)) where
      turned : (x : State) → x ≡ move (state_of w l) c → move (state_of w l) (class_of (get_or s i 0)) ≡ x
      turned x e = ap (move (state_of w l)) (sym k) ∙ sym e

      -- The text has no beginning that is too deep.
      pub scan_room : (TooDeep s → ⊥) → MayOpen l c
      scan_room few e = elim (dec_lt l.depth most_open) [
        | yes less ↦ less
        | no more ↦
            let opens : get_or s i 0 ≡ 40 = opening_byte (get_or s i 0) (sym k ∙ e) in
            let one : count 40 (take (i + 1) s) ≡ count 40 (take i s) + 1 = counts s i h 40 ∙ rw opens in
            let none : count 41 (take (i + 1) s) ≡ count 41 (take i s) + 0 = counts s i h 41 ∙ rw opens in
            absurd (few (i + 1, omega (arith, a.balance, one, none)))
      ]

      pub scan_next : (v : Bool) (m : Levels) → state_of v m ≡ move (state_of w l) c → ScannedTo s v m (i + 1)
      scan_next v m t =
          let e = turned (state_of v m) t in
          record {
            inside = omega arith;
            balance = omega (arith, a.balance, depth_balanced w v l m (get_or s i 0) (sym e), counts s i h 40, counts s i h 41);
            runs = a.runs ∙ after_byte move (state_of w l) s i h ∙ ap (λ (x : State). after move x (map class_of (drop (i + 1) s))) e;
            places = omega (arith, a.places, fitting_byte h ∙ ap fitting_from e ∙ fits_state v m (suc (fitting (state_of v m) (map class_of (drop (i + 1) s)))));
          }

      pub scan_misfit : misfit ≡ move (state_of w l) c → (ends (scanned s) ≡ false) × (i ≡ fitting start (map class_of s))
      scan_misfit t =
          let m = turned misfit t in (
            ap ends (a.runs ∙ after_byte move (state_of w l) s i h ∙ ap (λ (x : State). after move x (map class_of (drop (i + 1) s))) m ∙ misfit_stays _),
            omega (arith, a.places, fitting_byte h ∙ ap fitting_from m),
          )

    module _ (h : length s ≤ i) where
      last : scanned s ≡ state_of w l
      last = a.runs ∙ after_end move (state_of w l) s i h

      whole_place : i ≡ fitting start (map class_of s)
      unfolding fitting
      whole_place = sym (a.places ∙ rw (drop_of_length-le s h) (add-zero i))

      pub scan_wanting : w ≡ true → (ends (scanned s) ≡ false) × (i ≡ fitting start (map class_of s))
      scan_wanting e = (ap ends (last ∙ ap (λ (v : Bool). state_of v l) e), whole_place)

      pub scan_open : w ≡ false → (l.depth ≡ 0 → ⊥) → (ends (scanned s) ≡ false) × (i ≡ fitting start (map class_of s))
      scan_open e n = (ap ends (last ∙ ap (λ (v : Bool). state_of v l) e) ∙ open_ends l.depth (num l.outer) l.equated n, whole_place)

      pub scan_whole : w ≡ false → l.depth ≡ 0 → ends (scanned s) ≡ true
      unfolding levels_in
      scan_whole e n = ap ends (last ∙ ap (λ (v : Bool). state_of v l) e) ∙ rw n
