-- What the reader's contract `Answers` fixes: for every text, the one answer that document 01 gives it.
use mathlib.Core.Bool.{cond}
use mathlib.Core.List.{List}
use mathlib.Core.Logic.{◌↔◌}
use mathlib.Core.Path.{◌≡◌, refl, sym, ◌∙◌, ap, ap₂, subst}
use Prim.Native.Nat.{ℕ, ◌≤◌}
use native.Mathlib.Omega.{arith}
use lib.Dec.{eqb}
use Rattle.std.specs.Option.{unwrap_or}
use Rattle.std.specs.Prelude.{Result, Ok, Err}
use Rattle.ipl.specs.Formula as ipl
use Rattle.refusal.specs.Numbers.{number_of, place_of}
use Rattle.refusal.specs.declared.Refusal.{Refusal}
use Rattle.refusal.specs.declared.Refusal.TheVariants as refusal
use Rattle.syntax.specs.Grammar.{Reads}
use Rattle.syntax.specs.Nodes.{Named, nodes}
use Rattle.syntax.specs.Letters.{letter_count}
use Rattle.syntax.specs.Refusal.{TooLarge, Longest, Line, by_length, by_depth, by_grammar, by_size, Refused, line_1, line_2, line_3, line_4, Accepted}
use Rattle.syntax.specs.Parts.{held}
use Rattle.syntax.specs.Answer.{Answers}
use Rattle.syntax.specs.declared.Reading.{Reading}
use Rattle.syntax.proofs.Unique.{unique}

module _ (s : List ℕ) where
  -- One longest beginning.
  longest_same : (j k : ℕ) → Longest s j → Longest s k → j ≡ k
  longest_same j k a b = omega (arith, b.last j a.within a.begins, a.last k b.within b.begins)

  too_large : (t u : ipl.Formula) → Reads s t → Reads s u → TooLarge t → TooLarge u
  too_large t u r q h = subst TooLarge (unique s t u r q) h

  -- An accepted text meets no line.
  no_line : {n : ℕ} (t : ipl.Formula) → Accepted s t → Line s n → ⊥
  no_line t a (by_length h) = a.length_right h
  no_line t a (by_depth h) = a.depth_right h
  no_line t a (by_grammar h) = h (t, a.reads)
  no_line t a (by_size {f = u} r h) = a.size_right (too_large u t r a.reads h)

  -- A refused text meets the line of its number, and none before it.
  pub only_then : {n place : ℕ} → Refused s n place → Line s n
  only_then (line_1 l) = by_length l
  only_then (line_2 l d) = by_depth d
  only_then (line_3 l d g p) = by_grammar g
  only_then (line_4 l d r h) = by_size r h

  pub none_before : {n place m : ℕ} → Refused s n place → Line s m → n ≤ m
  none_before (line_1 l) (by_length x) = omega arith
  none_before (line_1 l) (by_depth x) = omega arith
  none_before (line_1 l) (by_grammar x) = omega arith
  none_before (line_1 l) (by_size r x) = omega arith
  none_before (line_2 l d) (by_length x) = absurd (l x)
  none_before (line_2 l d) (by_depth x) = omega arith
  none_before (line_2 l d) (by_grammar x) = omega arith
  none_before (line_2 l d) (by_size r x) = omega arith
  none_before (line_3 l d g p) (by_length x) = absurd (l x)
  none_before (line_3 l d g p) (by_depth x) = absurd (d x)
  none_before (line_3 l d g p) (by_grammar x) = omega arith
  none_before (line_3 l d g p) (by_size r x) = omega arith
  none_before (line_4 l d r h) (by_length x) = absurd (l x)
  none_before (line_4 l d r h) (by_depth x) = absurd (d x)
  none_before (line_4 {f} l d r h) (by_grammar x) = absurd (x (f, r))
  none_before (line_4 l d r h) (by_size q x) = omega arith

  place_same : {n j k : ℕ} → Refused s n j → Refused s n k → j ≡ k
  place_same (line_1 l) (line_1 x) = refl
  place_same (line_2 l d) (line_2 x y) = refl
  place_same (line_3 {place = j} l d g p) (line_3 {place = k} x y z q) = longest_same j k p q
  place_same (line_4 l d r h) (line_4 x y z q) = refl

  same_number : {n m j k : ℕ} → Refused s n j → Refused s m k → n ≡ m
  same_number a b = omega (arith, none_before a (only_then b), none_before b (only_then a))

  few : {n place : ℕ} → Refused s n place → n ≤ 4
  few (line_1 l) = omega arith
  few (line_2 l d) = omega arith
  few (line_3 l d g p) = omega arith
  few (line_4 l d r h) = omega arith

  -- A text's refusal, from its number and place.
  refusal_of : ℕ → ℕ → Refusal
  refusal_of n place = cond (eqb n 1) refusal.Length (cond (eqb n 2) refusal.Depth (cond (eqb n 3) (refusal.Form place) refusal.Names))

  abbrev Told : Refusal → Type 0
  Told e = Refused s (number_of e) (unwrap_or (place_of e) 0)

  pub told_is : (e d : Refusal) → Told e → Told d → e ≡ d
  unfolding refusal_of
  told_is e d a b =
      let n = same_number a b in
      let k : unwrap_or (place_of e) 0 ≡ unwrap_or (place_of d) 0 = place_same (subst (λ (n : ℕ). Refused s n (unwrap_or (place_of e) 0)) n a) b in
      of_told e a ∙ ap₂ refusal_of n k ∙ sym (of_told d b)
    where
      of_told : (e : Refusal) → Told e → e ≡ refusal_of (number_of e) (unwrap_or (place_of e) 0)
      of_told refusal.Length a = refl
      of_told refusal.Depth a = refl
      of_told (refusal.Form place) a = refl
      of_told refusal.Names a = refl
      of_told refusal.Range a = absurd (omega (arith, few a))
      of_told refusal.Atom a = absurd (omega (arith, few a))
      of_told refusal.FlatsFull a = absurd (omega (arith, few a))
      of_told refusal.ImplicationsFull a = absurd (omega (arith, few a))
      of_told refusal.NoVerdict a = absurd (omega (arith, few a))
      of_told refusal.NoRoom a = absurd (omega (arith, few a))
      of_told refusal.WorldsFull a = absurd (omega (arith, few a))
      of_told refusal.StepsFull a = absurd (omega (arith, few a))
      of_told refusal.NoMark a = absurd (omega (arith, few a))
      of_told refusal.MarkLost a = absurd (omega (arith, few a))
      of_told refusal.PageFull a = absurd (omega (arith, few a))
      of_told refusal.NoAuthor a = absurd (omega (arith, few a))
      of_told refusal.NoMean a = absurd (omega (arith, few a))
      of_told refusal.Letters a = absurd (omega (arith, few a))

  -- The contract leaves one answer: the refusal, or the root, the rows held and the letters.
  abbrev pub SameAnswer : Result Reading Refusal → Result Reading Refusal → Type 0
  SameAnswer (Err e) (Err d) = e ≡ d
  SameAnswer (Ok a) (Ok b) = (a.root ≡ b.root) × (held a.parts ≡ held b.parts) × (a.letters ≡ b.letters)
  SameAnswer (Err e) (Ok b) = ⊥
  SameAnswer (Ok a) (Err d) = ⊥

  pub one_answer : (a b : Result Reading Refusal) → Answers s a → Answers s b → SameAnswer a b
  one_answer (Err e) (Err d) x y = told_is e d x y
  one_answer (Err e) (Ok b) x y = no_line y.0.formula y.0.accepted (only_then x)
  one_answer (Ok a) (Err d) x y = no_line x.0.formula x.0.accepted (only_then y)
  one_answer (Ok a) (Ok b) x y =
      let e : nodes x.0.formula ≡ nodes y.0.formula = ap nodes (unique s x.0.formula y.0.formula x.0.accepted.reads y.0.accepted.reads) in
      let rows : held a.parts ≡ held b.parts = x.0.table_is ∙ ap (λ (n : Named). n.table) e ∙ sym y.0.table_is in
      (x.0.root_is ∙ ap (λ (n : Named). n.root) e ∙ sym y.0.root_is, rows, x.1 ∙ ap letter_count rows ∙ sym y.1)

  -- "Each number comes when its line holds and no earlier one does, and only then."
  pub refused_exactly : (r : Result Reading Refusal) → Answers s r → (n : ℕ)
      → ((e : Refusal) × (r ≡ Err e) × (number_of e ≡ n)) ↔ (Line s n × ((m : ℕ) → Line s m → n ≤ m))
  refused_exactly (Err d) a n = (
    λ (e, i, k).
        let same : d ≡ e = cc in
        let number : number_of d ≡ n = ap number_of same ∙ k in
        (subst (Line s) number (only_then a), λ m l. omega (arith, none_before a l)),
    λ (l, f). (d, refl, omega (arith, none_before a l, f (number_of d) (only_then a))),
  )
  refused_exactly (Ok q) a n = (λ (e, i, k). cc, λ (l, f). absurd (no_line a.0.formula a.0.accepted l))

  -- "3: .. with the length of the longest beginning that begins some formula"
  pub place_longest : (r : Result Reading Refusal) → Answers s r → (place : ℕ) → r ≡ Err (refusal.Form place) → Longest s place
  place_longest r a place e = go (subst (Answers s) e a)
    where
      go : Refused s 3 place → Longest s place
      go (line_3 l d g p) = p

  -- The reader accepts exactly the formulas within its limits, and gives their reading.
  pub accepted_read : (r : Result Reading Refusal) → Answers s r → (t : ipl.Formula) → Accepted s t
      → (q : Reading) × (r ≡ Ok q) × (q.root ≡ (nodes t).root) × (held q.parts ≡ (nodes t).table)
  accepted_read (Err e) a t x = absurd (no_line t x (only_then a))
  accepted_read (Ok q) a t x =
      let e : nodes a.0.formula ≡ nodes t = ap nodes (unique s a.0.formula t a.0.accepted.reads x.reads) in
      (q, refl, a.0.root_is ∙ ap (λ (n : Named). n.root) e, a.0.table_is ∙ ap (λ (n : Named). n.table) e)

  pub read_accepted : (r : Result Reading Refusal) → Answers s r → (q : Reading) → r ≡ Ok q → (t : ipl.Formula) × Accepted s t
  read_accepted r a q e = let x = subst (Answers s) e a in (x.0.formula, x.0.accepted)
