-- Laws of the bytes that digits in base sixteen stand for.
use mathlib.Core.Bool.{Bool, true, false, cond, ◌&&◌, ◌||◌, true≢false}
use mathlib.Core.List.{List, [], ◌∷◌}
use Rattle.std.specs.Prelude.{Option, None, Some}
use mathlib.Core.Path.{◌≡◌, refl, sym, ap, ap₂, ◌∙◌, subst}
use Prim.Native.Nat.{ℕ, ◌+◌, ◌-◌, ◌*◌, ◌/◌, ◌%◌, ◌≤◌, ◌<◌}
use native.Mathlib.Decide.{dec_lt}
use native.Mathlib.Omega.{arith}
use lib.Dec.{T, eqb, ltb, eqb→eq}
use lib.ListN.{length, take, drop, get_or}
use lib.Seq.{take_all}
use borrow.Author.Tests.{eq-eqb, le-leb, lt-leb, lt-ltb, le-ltb}
use Rattle.atoms.proofs.Truth.{T_left, T_right, T_true, true_T, by_cond}
use Rattle.std.specs.List.{list_all}
use Rattle.ipl.specs.Lists.{All}
use Rattle.text.specs.Text.{hex_digit, hex}
use Rattle.text.specs.declared.draft.Draft.{Draft}
use Rattle.text.specs.Output.{Appends}
use Rattle.text.proofs.Appending.{same_text, nothing, both}
use Rattle.text.proofs.Hexadecimal.{hex_length}
use Rattle.script.specs.Numbers.{is_digit, is_hex_letter, is_hex_digit, hex_value, paired, bytes_in}
use Rattle.script.proofs.Values.{is_in_range, digit_range}

-- ---- one digit

pub letter_range : (b : ℕ) → is_hex_letter b ≡ true → (97 ≤ b) × (b ≤ 102)
unfolding is_hex_letter
letter_range b e = is_in_range 97 102 b e

digit_is : (b : ℕ) → 48 ≤ b → b ≤ 57 → is_digit b ≡ true
unfolding is_digit
digit_is b h k = rw (le-leb 48 b h, le-leb b 57 k)

letter_is : (b : ℕ) → 97 ≤ b → b ≤ 102 → (is_digit b ≡ false) × (is_hex_letter b ≡ true)
unfolding is_digit is_hex_letter
letter_is b h k = (rw (le-leb 48 b (omega arith), lt-leb b 57 (omega arith)), rw (le-leb 97 b h, le-leb b 102 k))

pub digit_value : (b : ℕ) → is_digit b ≡ true → (b - 48 ≡ hex_value b) × (b - 48 < 16)
unfolding hex_value
digit_value b e = (rw e, omega (arith, digit_range b e))

pub letter_value : (b : ℕ) → is_digit b ≡ false → is_hex_letter b ≡ true → (10 + (b - 97) ≡ hex_value b) × (10 + (b - 97) < 16)
unfolding hex_value
letter_value b d e = (rw (d, e) (omega (arith, letter_range b e)), omega (arith, letter_range b e))

-- ---- the bytes of digits

paired_short : (l : List ℕ) → length l ≤ 1 → paired l ≡ []
unfolding paired
paired_short [] h = refl
paired_short (x ∷ []) h = refl
paired_short (x ∷ y ∷ l) h = absurd (omega arith)

-- Whatever appends the bytes of the other digits appends them all.
pub record BytesBefore (word : List ℕ) (before : Draft) (rest : List ℕ) (sheet : Draft) : Type 0 where
  pub others : (after : Draft) → Appends (paired rest) sheet after → Appends (paired word) before after

paired_more : (rest : List ℕ) → 2 ≤ length rest
    → paired rest ≡ (16 * hex_value (get_or rest 0 0) + hex_value (get_or rest 1 0)) ∷ paired (take (length rest - 2) (drop 2 rest))
unfolding paired
paired_more [] h = absurd (omega arith)
paired_more (high ∷ []) h = absurd (omega arith)
paired_more (high ∷ low ∷ l) h =
    ap (λ (m : List ℕ). (16 * hex_value high + hex_value low) ∷ paired m) (sym (take_all (length (high ∷ low ∷ l) - 2) l (omega arith)))

module _ {word rest : List ℕ} {before sheet : Draft} (p : BytesBefore word before rest sheet) where
  pub byte_before : 2 ≤ length rest → (b : ℕ) (after : Draft) → b ≡ 16 * hex_value (get_or rest 0 0) + hex_value (get_or rest 1 0)
      → Appends (b ∷ []) sheet after → BytesBefore word before (take (length rest - 2) (drop 2 rest)) after
  byte_before h b after is a =
      let further : List ℕ = paired (take (length rest - 2) (drop 2 rest)) in
      let text : b ∷ further ≡ paired rest = ap (λ (v : ℕ). v ∷ further) is ∙ sym (paired_more rest h) in
      record { others = λ z q. p.others z (same_text text (both a q)) }

  pub all_bytes_before : length rest ≤ 1 → Appends (paired word) before sheet
  all_bytes_before h = p.others sheet (same_text (sym (paired_short rest h)) (nothing sheet))

-- ---- digits and bytes, there and back

below_sixteen : (d : ℕ) → hex_value d < 16
unfolding hex_value
below_sixteen d =
    by_cond (λ (x : ℕ). x < 16) (is_digit d) (d - 48) (cond (is_hex_letter d) (d - 87) 0) (λ e. (digit_value d e).1)
    (λ _. by_cond (λ (x : ℕ). x < 16) (is_hex_letter d) (d - 87) 0 (λ e. omega (arith, letter_range d e)) (λ _. omega arith))

-- The digit of a value, and the value of a digit.
digit_back : (d : ℕ) → is_hex_digit d ≡ true → hex_digit (hex_value d) ≡ d
unfolding is_hex_digit hex_value hex_digit
digit_back d = go (is_digit d) (is_hex_letter d) (digit_range d) (letter_range d)
  where
    go : (t u : Bool) → (t ≡ true → (48 ≤ d) × (d ≤ 57)) → (u ≡ true → (97 ≤ d) × (d ≤ 102)) → t || u ≡ true
        → cond (ltb (cond t (d - 48) (cond u (d - 87) 0)) 10) (48 + cond t (d - 48) (cond u (d - 87) 0)) (87 + cond t (d - 48) (cond u (d - 87) 0)) ≡ d
    go true u f g e = let r = f refl in rw (lt-ltb (d - 48) 10 (omega arith)) (omega arith)
    go false true f g e = let r = g refl in rw (le-ltb (d - 87) 10 (omega arith)) (omega arith)
    go false false f g e = absurd (true≢false (sym e))

value_back : (x : ℕ) → x < 16 → (is_hex_digit (hex_digit x) ≡ true) × (hex_value (hex_digit x) ≡ x)
unfolding is_hex_digit hex_digit
value_back x h = elim (dec_lt x 10) [
  | yes k ↦
      let d : is_digit (48 + x) ≡ true = digit_is (48 + x) (omega arith) (omega arith) in
      rw (lt-ltb x 10 k) (rw d, sym (digit_value (48 + x) d).0 ∙ omega arith)
  | no k ↦
      let l = letter_is (87 + x) (omega arith) (omega arith) in
      rw (le-ltb x 10 (omega arith)) (rw (l.0, l.1), sym (letter_value (87 + x) l.0 l.1).0 ∙ omega arith)
]

-- The digits of bytes.
paired_hex : (word : List ℕ) → T (list_all is_hex_digit word) → length word % 2 ≡ 0 → word ≡ hex (paired word)
unfolding paired hex
paired_hex [] t e = refl
paired_hex (x ∷ []) t e = absurd (omega arith)
paired_hex (high ∷ low ∷ word) t e =
    let first = T_left (is_hex_digit high) (is_hex_digit low && list_all is_hex_digit word) t in
    let others = T_right (is_hex_digit high) (is_hex_digit low && list_all is_hex_digit word) t in
    let second = T_left (is_hex_digit low) (list_all is_hex_digit word) others in
    let b : ℕ = 16 * hex_value high + hex_value low in
    let a : hex_digit (b / 16) ≡ high =
    ap hex_digit {x = b / 16} {y = hex_value high} (omega (arith, below_sixteen low)) ∙ digit_back high (T_true (is_hex_digit high) first) in
    let z : hex_digit (b % 16) ≡ low =
    ap hex_digit {x = b % 16} {y = hex_value low} (omega (arith, below_sixteen low)) ∙ digit_back low (T_true (is_hex_digit low) second) in
    let more = paired_hex word (T_right (is_hex_digit low) (list_all is_hex_digit word) others) (omega arith) in
    ap₂ (λ (x : ℕ) (l : List ℕ). x ∷ l) (sym a) (ap₂ (λ (x : ℕ) (l : List ℕ). x ∷ l) (sym z) more)

paired_below : (word : List ℕ) → All (λ (x : ℕ). x < 256) (paired word)
unfolding paired
paired_below [] = tt
paired_below (x ∷ []) = tt
paired_below (high ∷ low ∷ word) = (omega (arith, below_sixteen high, below_sixteen low), paired_below word)

hex_paired : (bytes : List ℕ) → All (λ (x : ℕ). x < 256) bytes → paired (hex bytes) ≡ bytes
unfolding paired hex
hex_paired [] h = refl
hex_paired (b ∷ bytes) h =
    let high = (value_back (b / 16) (omega (arith, h.0))).1 in
    let low = (value_back (b % 16) (omega arith)).1 in
    ap₂ (λ (x : ℕ) (l : List ℕ). x ∷ l) (omega (arith, high, low)) (hex_paired bytes h.1)

hex_digits : (bytes : List ℕ) → All (λ (x : ℕ). x < 256) bytes → list_all is_hex_digit (hex bytes) ≡ true
unfolding hex
hex_digits [] h = refl
hex_digits (b ∷ bytes) h =
    rw ((value_back (b / 16) (omega (arith, h.0))).0, (value_back (b % 16) (omega arith)).0) (hex_digits bytes h.1)

pub hex_bytes : (bytes : List ℕ) → All (λ (x : ℕ). x < 256) bytes → bytes_in (hex bytes) ≡ Some bytes
unfolding bytes_in
hex_bytes bytes h =
    rw (hex_digits bytes h, hex_length bytes, eq-eqb (2 * length bytes % 2) 0 (omega arith)) (ap Some (hex_paired bytes h))

pub bytes_hex : (word bytes : List ℕ) → bytes_in word ≡ Some bytes → (word ≡ hex bytes) × All (λ (x : ℕ). x < 256) bytes
unfolding bytes_in
bytes_hex word bytes =
    by_cond (λ (o : Option (List ℕ)). o ≡ Some bytes → (word ≡ hex bytes) × All (λ (x : ℕ). x < 256) bytes)
    (list_all is_hex_digit word && eqb (length word % 2) 0) (Some (paired word)) None
    (λ e h. subst (λ (l : List ℕ). (word ≡ hex l) × All (λ (x : ℕ). x < 256) l) (cc) (back e, paired_below word))
    (λ _ h. let z : ◌≡◌ {A = ℕ} 0 1 = cc in absurd (omega arith))
  where
    back : list_all is_hex_digit word && eqb (length word % 2) 0 ≡ true → word ≡ hex (paired word)
    back e =
        let t = true_T e in
        paired_hex word (T_left (list_all is_hex_digit word) (eqb (length word % 2) 0) t)
        (eqb→eq (length word % 2) 0 (T_right (list_all is_hex_digit word) (eqb (length word % 2) 0) t))
