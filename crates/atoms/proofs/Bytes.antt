-- Laws of numbers as bytes.
use mathlib.Core.List.{List, [], ◌∷◌, ◌++◌, append-nil, append_assoc}
use mathlib.Core.Path.{◌≡◌, refl, sym, ap, ap₂, ◌∙◌, subst}
use Prim.Native.Nat.{ℕ, zero, suc, ◌+◌, ◌-◌, ◌*◌, ◌/◌, ◌%◌, ◌^◌, ◌≤◌, ◌<◌}
use native.Mathlib.Nat.{pow-suc, pow-succ', pow-le-pow_right, div-one, div-div-eq-div-mul}
use native.Mathlib.Decide.{dec_le}
use native.Mathlib.Numerals.{add-one}
use native.Mathlib.Omega.{arith}
use lib.ListN.{length, take, drop, get_or, set, length-append, length-take, length-drop, take-append-drop, drop_of_length-le, get_or-eq_default}
use lib.Seq.{get_or-take, get_or-drop, drop-cons, set_at, append_snoc, take_at, drop_at, drop-drop}
use lib.Pow.{pow_mono}
use Rattle.atoms.specs.Sets.{limit}
use borrow.Author.Tests.{le-leb, lt-leb}
use Rattle.atoms.specs.Bytes.{put_at, value, digits, number_at}

pub length_digits : (width x : ℕ) → length (digits width x) ≡ width
unfolding digits
length_digits zero x = refl
length_digits (suc width) x = ap suc (length_digits width (x / 256))

-- A number that fits is read back.
pub value_digits : (width x : ℕ) → x < 256 ^ width → value (digits width x) ≡ x
unfolding value digits
value_digits zero x h = omega arith
value_digits (suc width) x h = omega (arith, value_digits width (x / 256) (omega (arith, pow-suc 256 width)))

-- ---- bytes and sets at a place

pub byte_in_lem : (l : List ℕ) (at i r : ℕ) → r ≡ get_or l (at + i) 0 → r ≡ get_or (drop at l) i 0
byte_in_lem l at i r e = e ∙ sym (get_or-drop at l i 0)

pub byte_past : (l : List ℕ) (at i : ℕ) → length l ≤ at + i → 0 ≡ get_or (drop at l) i 0
byte_past l at i h = sym (get_or-drop at l i 0 ∙ get_or-eq_default l 0 h)

-- ---- a number read from its highest byte down

pub value_from_lem : (l : List ℕ) (i : ℕ) → value (drop i l) ≡ get_or l i 0 + 256 * value (drop (suc i) l)
unfolding value
value_from_lem [] zero = refl
value_from_lem [] (suc i) = refl
value_from_lem (b ∷ l) zero = refl
value_from_lem (b ∷ l) (suc i) = value_from_lem l i

module _ (bytes : List ℕ) (at width : ℕ) where
  -- What the bytes from i on stand for.
  abbrev pub upper : ℕ → ℕ
  upper i = value (drop i (take width (drop at bytes)))

  pub upper_none : upper width ≡ 0
  unfolding value
  upper_none = ap value (drop_of_length-le (take width (drop at bytes)) {i = width} (omega (arith, length-take width (drop at bytes))))

  -- The byte before the i-th joins.
  pub upper_next : (i sum b : ℕ) → 0 < i → i ≤ width → sum ≡ upper i → b ≡ get_or (drop at bytes) (i - 1) 0 → sum * 256 + b ≡ upper (i - 1)
  upper_next zero sum b p h e f = absurd (omega arith)
  upper_next (suc i) sum b p h e f =
      let here : i ≡ suc i - 1 = omega arith in
      subst (λ (j : ℕ). sum * 256 + b ≡ upper j) here
      (omega (arith, value_from_lem (take width (drop at bytes)) i, e, f ∙ ap (λ (j : ℕ). get_or (drop at bytes) j 0) (sym here), get_or-take width (drop at bytes) i 0 h))

  pub upper_all : (i : ℕ) → i ≡ 0 → upper i ≡ number_at bytes at width
  unfolding number_at
  upper_all i e = ap upper e

-- A byte more keeps the number below the next power.
pub fits_next : (width i sum b : ℕ) → 0 < i → i ≤ width → sum < 256 ^ (width - i) → b < 256 → sum * 256 + b < 256 ^ (width - (i - 1))
fits_next width i sum b p h k l = subst (λ (e : ℕ). sum * 256 + b < 256 ^ e) {x = suc (width - i)} (omega arith) (omega (arith, pow-suc 256 (width - i)))

pub fits_word : (width i x : ℕ) → width ≤ 8 → x < 256 ^ (width - i) → x < 2 ^ 64
fits_word width i x h k = omega (arith, pow-le-pow_right {n = 256} (omega arith) {i = width - i} {j = 8} (omega arith))

-- A set of atoms fits its 8 bytes.
pub set_fits : (n s : ℕ) → n ≤ limit → s < 2 ^ n → s < 256 ^ 8
unfolding limit
set_fits n s h k = omega (arith, pow_mono {i = n} {j = 64} h)

-- ---- a number written from its lowest byte up

digits_snoc : (i x : ℕ) → digits (suc i) x ≡ digits i x ++ (x / 256 ^ i % 256 ∷ [])
unfolding digits
digits_snoc zero x = ap (λ (z : ℕ). z % 256 ∷ []) (sym (div-one x))
digits_snoc (suc i) x =
    ap (λ l. x % 256 ∷ l) (digits_snoc i (x / 256) ∙ ap (λ (z : ℕ). digits i (x / 256) ++ (z % 256 ∷ [])) (div-div-eq-div-mul x 256 (256 ^ i) ∙ ap (λ (z : ℕ). x / z) (sym (pow-succ' 256 i))))

-- The first i bytes written.
abbrev pub written : List ℕ → ℕ → ℕ → ℕ → List ℕ
written before at x i = take at before ++ digits i x ++ drop (at + i) before

pub written_none : (before : List ℕ) (at x : ℕ) → before ≡ written before at x 0
unfolding digits
written_none before at x =
    let here : at + 0 ≡ at = omega arith in
    sym (ap (λ (n : ℕ). take at before ++ [] ++ drop n before) here ∙ ap (λ l. l ++ drop at before) (append-nil (take at before)) ∙ take-append-drop at before)

pub written_next : (before : List ℕ) (at x i rest : ℕ) → at + i < length before → rest ≡ x / 256 ^ i → set (written before at x i) (at + i) (rest % 256) ≡ written before at x (i + 1)
written_next before at x i rest h e =
    let front : length (take at before ++ digits i x) ≡ at + i = omega (arith, length-append (take at before) (digits i x), length_digits i x, length-take at before) in
    let last : suc (at + i) ≡ at + (i + 1) = omega arith in
    ap (λ l. set (take at before ++ digits i x ++ l) (at + i) (rest % 256)) (drop-cons before (at + i) 0 h)
    ∙ set_at (take at before ++ digits i x) (get_or before (at + i) 0) (drop (suc (at + i)) before) (rest % 256) (at + i) front
    ∙ sym (append_snoc (take at before ++ digits i x) (rest % 256) (drop (suc (at + i)) before))
    ∙ ap₂ (λ (l m : List ℕ). l ++ m)
    (append_assoc (take at before) (digits i x) (rest % 256 ∷ [])
    ∙ ap (λ l. take at before ++ l) (ap (λ (z : ℕ). digits i x ++ (z % 256 ∷ [])) e ∙ sym (digits_snoc i x) ∙ ap (λ (z : ℕ). digits z x) (sym (add-one i))))
    (ap (λ (z : ℕ). drop z before) last)

pub rest_next : (x i rest : ℕ) → rest ≡ x / 256 ^ i → rest / 256 ≡ x / 256 ^ (i + 1)
rest_next x i rest e = ap (λ (z : ℕ). z / 256) e ∙ div-div-eq-div-mul x (256 ^ i) 256 ∙ ap (λ (z : ℕ). x / z) (sym (pow-suc 256 i)) ∙ ap (λ (z : ℕ). x / 256 ^ z) (sym (add-one i))

pub written_length : (before : List ℕ) (at x i : ℕ) → at + i ≤ length before → length (written before at x i) ≡ length before
written_length before at x i h =
    omega (
      arith,
      length-append (take at before ++ digits i x) (drop (at + i) before),
      length-append (take at before) (digits i x),
      length_digits i x,
      length-take at before,
      length-drop (at + i) before,
    )

-- ---- bytes put at a place

pub put_there : (b : List ℕ) (at : ℕ) (q : List ℕ) → at + length q ≤ length b → put_at b at q ≡ take at b ++ q ++ drop (at + length q) b
unfolding put_at
put_there b at q h = rw (le-leb (at + length q) (length b) h) refl

pub put_past : (b : List ℕ) (at : ℕ) (q : List ℕ) → length b < at + length q → b ≡ put_at b at q
unfolding put_at
put_past b at q h = rw (lt-leb (at + length q) (length b) h) refl

pub length_put : (b : List ℕ) (at : ℕ) (q : List ℕ) → length (put_at b at q) ≡ length b
length_put b at q = elim (dec_le (at + length q) (length b)) [
  | yes h ↦ ap length (put_there b at q h)
      ∙ omega (arith, length-append (take at b ++ q) (drop (at + length q) b), length-append (take at b) q, length-take at b, length-drop (at + length q) b)
  | no h ↦ ap length (sym (put_past b at q (omega arith)))
]

-- Bytes put right after others.
pub put_put : (b : List ℕ) (at : ℕ) (p q : List ℕ) → at + length p + length q ≤ length b → put_at (put_at b at p) (at + length p) q ≡ put_at b at (p ++ q)
put_put b at p q h =
    let front : length (take at b ++ p) ≡ at + length p = omega (arith, length-append (take at b) p, length-take at b) in
    let first : put_at b at p ≡ take at b ++ p ++ drop (at + length p) b = put_there b at p (omega arith) in
    put_there (put_at b at p) (at + length p) q (omega (arith, length_put b at p))
    ∙ ap (λ (l : List ℕ). take (at + length p) l ++ q ++ drop (at + length p + length q) l) first
    ∙ ap₂ (λ (l m : List ℕ). l ++ q ++ m) (take_at (take at b ++ p) (drop (at + length p) b) (at + length p) front)
    (sym (drop-drop (length q) (at + length p) (take at b ++ p ++ drop (at + length p) b)) ∙ ap (drop (length q)) (drop_at (take at b ++ p) (drop (at + length p) b) (at + length p) front)
    ∙ drop-drop (length q) (at + length p) b)
    ∙ ap₂ (λ (l m : List ℕ). l ++ m) (append_assoc (take at b) p q)
    (ap (λ (n : ℕ). drop n b) {x = at + length p + length q} {y = at + length (p ++ q)} (omega (arith, length-append p q)))
    ∙ sym (put_there b at (p ++ q) (omega (arith, length-append p q)))

-- What was put at the start is there.
pub take_put : (b q : List ℕ) → length q ≤ length b → take (length q) (put_at b 0 q) ≡ q
take_put b q h = ap (take (length q)) (put_there b 0 q (omega arith)) ∙ take_at q (drop (0 + length q) b) (length q) refl

-- What lies past it stays.
pub drop_put : (b q : List ℕ) → length q ≤ length b → drop (length q) (put_at b 0 q) ≡ drop (length q) b
drop_put b q h =
    ap (drop (length q)) (put_there b 0 q (omega arith)) ∙ drop_at q (drop (0 + length q) b) (length q) refl
    ∙ ap (λ (n : ℕ). drop n b) {x = 0 + length q} {y = length q} (omega arith)

-- Bytes put right after others, where the second place is known by another name.
pub put_next : (b b1 b2 : List ℕ) (at place : ℕ) (p q : List ℕ) → at + length p ≡ place → place + length q ≤ length b
    → b1 ≡ put_at b at p → b2 ≡ put_at b1 place q → b2 ≡ put_at b at (p ++ q)
put_next b b1 b2 at place p q e h first second =
    second ∙ ap₂ (λ (l : List ℕ) (n : ℕ). put_at l n q) first (sym e) ∙ put_put b at p q (omega arith)

pub put_nothing : (b : List ℕ) (at : ℕ) → b ≡ put_at b at []
put_nothing b at = elim (dec_le at (length b)) [
  | yes h ↦
      let here : at + 0 ≡ at = omega arith in
      let same : take at b ++ [] ++ drop (at + 0) b ≡ take at b ++ drop at b = rw (append-nil (take at b), here) in
      sym (put_there b at [] (omega arith) ∙ same ∙ take-append-drop at b)
  | no h ↦ put_past b at [] (omega arith)
]

-- A number put, where it fits and where it does not.
pub put_fits : (before : List ℕ) (at width x : ℕ) → at + width ≤ length before → written before at x width ≡ put_at before at (digits width x)
unfolding put_at
put_fits before at width x h = rw (length_digits width x, le-leb (at + width) (length before) h) refl

pub put_short : (before : List ℕ) (at width x : ℕ) → length before < at + width → before ≡ put_at before at (digits width x)
put_short before at width x h = put_past before at (digits width x) (omega (arith, length_digits width x))
