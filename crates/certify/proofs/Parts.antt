-- Laws of one row, one entry and the contents, put part by part.
use mathlib.Core.Bool.{Bool}
use mathlib.Core.List.{List, [], ◌∷◌, ◌++◌}
use mathlib.Core.Path.{◌≡◌, refl, ap, ◌∙◌}
use Prim.Native.Nat.{ℕ, ◌+◌, ◌-◌, ◌*◌, ◌%◌, ◌≤◌, ◌<◌}
use native.Mathlib.Omega.{arith}
use lib.ListN.{length, length-append}
use Rattle.atoms.specs.Bytes.{digits, put_at}
use Rattle.atoms.proofs.Bytes.{length_digits, put_next}
use Rattle.certificate.specs.Format.{set_bytes, flat_bytes, implication_bytes, step_bytes, flat_row, implication_row, step_row}
use Rattle.certificate.specs.Format.{flat_kind, implication_kind, goal_kind, claim_kind, claim_width, entries, entry_bytes, entry_row, contents}
use Rattle.certificate.specs.Format.{entry_start, bodies_start, implication_start, goal_start, claim_start, total_length}

pub byte_put : (b b1 : List ℕ) (at x : ℕ) → x < 256 → b1 ≡ put_at b at (digits 1 x) → b1 ≡ put_at b at (x ∷ [])
unfolding digits
byte_put b b1 at x h e = let same : x % 256 ≡ x = omega arith in e ∙ ap (λ (z : ℕ). put_at b at (z ∷ [])) same

module _ (b b1 b2 : List ℕ) (at : ℕ) where
  pub flat_put : (l r : ℕ) → at + flat_bytes ≤ length b → b1 ≡ put_at b at (digits set_bytes l) → b2 ≡ put_at b1 (at + set_bytes) (digits set_bytes r)
      → b2 ≡ put_at b at (flat_row (record { left = l; right = r }))
  unfolding flat_row
  flat_put l r h e f =
      put_next b b1 b2 at (at + set_bytes) (digits set_bytes l) (digits set_bytes r) (omega (arith, length_digits set_bytes l)) (omega (arith, length_digits set_bytes r)) e f

  pub step_put : (k A : ℕ) → at + step_bytes ≤ length b → b1 ≡ put_at b at (k ∷ []) → b2 ≡ put_at b1 (at + 1) (digits set_bytes A)
      → b2 ≡ put_at b at (step_row (record { number = k; assumed = A }))
  unfolding step_row
  step_put k A h e f = put_next b b1 b2 at (at + 1) (k ∷ []) (digits set_bytes A) (omega arith) (omega (arith, length_digits set_bytes A)) e f

  module _ (b3 : List ℕ) where
    pub implication_put : (x y z : ℕ) → at + implication_bytes ≤ length b → b1 ≡ put_at b at (x ∷ []) → b2 ≡ put_at b1 (at + 1) (y ∷ []) → b3 ≡ put_at b2 (at + 2) (z ∷ [])
        → b3 ≡ put_at b at (implication_row (record { a = x; b = y; c = z }))
    unfolding implication_row
    implication_put x y z h e f g =
        put_next b b2 b3 at (at + 2) (x ∷ y ∷ []) (z ∷ []) (omega arith) (omega arith)
        (put_next b b1 b2 at (at + 1) (x ∷ []) (y ∷ []) (omega arith) (omega arith) e f) g

    pub entry_put : (kind start size : ℕ) → at + entry_bytes ≤ length b
        → b1 ≡ put_at b at (kind ∷ []) → b2 ≡ put_at b1 (at + 1) (digits 4 start) → b3 ≡ put_at b2 (at + 1 + 4) (digits 4 size)
        → b3 ≡ put_at b at (entry_row kind start size)
    unfolding entry_row
    entry_put kind start size h e f g =
        put_next b b2 b3 at (at + 1 + 4) (kind ∷ digits 4 start) (digits 4 size) (omega (arith, length_digits 4 start)) (omega (arith, length_digits 4 size))
        (put_next b b1 b2 at (at + 1) (kind ∷ []) (digits 4 start) (omega arith) (omega (arith, length_digits 4 start)) e f) g

length_entry : (kind start size : ℕ) → length (entry_row kind start size) ≡ entry_bytes
unfolding entry_row
length_entry kind start size = omega (arith, length-append (kind ∷ digits 4 start) (digits 4 size), length_digits 4 start, length_digits 4 size)

-- One part after the others, the first of which is at a start.
pub part_next : (start : ℕ) (b b1 b2 p q : List ℕ) (at width : ℕ) → start + length p ≡ at → length q ≡ width → at + width ≤ length b
    → b1 ≡ put_at b start p → b2 ≡ put_at b1 at q → (b2 ≡ put_at b start (p ++ q)) × (start + length (p ++ q) ≡ at + width)
part_next start b b1 b2 p q at width l w h e f = (put_next b b1 b2 start at p q l (omega arith) e f, omega (arith, length-append p q))

-- An entry after the others, of a body from start to end, where kind, start and length are those wanted.
entry_next : (b b1 b2 p : List ℕ) (at kind start end kind1 start1 size1 : ℕ) → 0 + length p ≡ at → at + entry_bytes ≤ length b → b1 ≡ put_at b 0 p
    → b2 ≡ put_at b1 at (entry_row kind start (end - start)) → kind ≡ kind1 → start ≡ start1 → end - start ≡ size1
    → (b2 ≡ put_at b 0 (p ++ entry_row kind1 start1 size1)) × (0 + length (p ++ entry_row kind1 start1 size1) ≡ at + entry_bytes)
entry_next b b1 b2 p at kind start end kind1 start1 size1 l h e f ek es ez =
    part_next 0 b b1 b2 p (entry_row kind1 start1 size1) at entry_bytes l (length_entry kind1 start1 size1) h e (f ∙ ap (put_at b1 at) (rw (ek, ez, es)))

-- The number of entries, and the four entries: each body ends where the next one starts.
module _ (F X : ℕ) (r : Bool) (R at goal claim end kind : ℕ) where
  pub contents_put_at : at ≡ implication_start F → goal ≡ goal_start F X → claim ≡ claim_start F X → end ≡ total_length F X r R → kind ≡ claim_kind r
      → (b b0 b1 b2 b3 b4 : List ℕ) → bodies_start ≤ length b → b0 ≡ put_at b 0 (entries ∷ [])
      → b1 ≡ put_at b0 (entry_start 0) (entry_row flat_kind bodies_start (at - bodies_start)) → b2 ≡ put_at b1 (entry_start 1) (entry_row implication_kind at (goal - at))
      → b3 ≡ put_at b2 (entry_start 2) (entry_row goal_kind goal (claim - goal)) → b4 ≡ put_at b3 (entry_start 3) (entry_row kind claim (end - claim))
      → b4 ≡ put_at b 0 (contents F X r R)
  unfolding contents
  contents_put_at ea eg ec ee ek b b0 b1 b2 b3 b4 h e0 e1 e2 e3 e4 =
      let p1 = entry_next b b0 b1 (entries ∷ []) (entry_start 0) flat_kind bodies_start at flat_kind bodies_start (1 + flat_bytes * F)
      refl (omega arith) e0 e1 refl refl (omega arith) in
      let p2 = entry_next b b1 b2 _ (entry_start 1) implication_kind at goal implication_kind (implication_start F) (implication_bytes * X)
      p1.1 (omega arith) p1.0 e2 refl ea (omega arith) in
      let p3 = entry_next b b2 b3 _ (entry_start 2) goal_kind goal claim goal_kind (goal_start F X) 1 p2.1 (omega arith) p2.0 e3 refl eg (omega arith) in
      (entry_next b b3 b4 _ (entry_start 3) kind claim end (claim_kind r) (claim_start F X) (claim_width r * R) p3.1 (omega arith) p3.0 e4 ek ec (omega arith)).0
