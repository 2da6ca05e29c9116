-- The call of a line that is kept: whole, or as much of it as there is room for.
use mathlib.Core.Bool.{Bool, true, false, cond, ◌||◌}
use mathlib.Core.List.{List, [], ◌∷◌}
use mathlib.Core.Path.{◌≡◌, refl, sym, ap, ◌∙◌}
use Prim.Native.Nat.{ℕ, ◌≤◌, ◌<◌, min}
use native.Mathlib.Decide.{dec_le}
use native.Mathlib.Omega.{arith}
use lib.Dec.{eqb, leb}
use lib.ListN.{length, take, get_or, length-take}
use lib.Seq.{take_all}
use borrow.Author.Tests.{lt-leb, eq-eqb, ne_eqb}
use Rattle.script.specs.Command.{silent, no_call, command_in, is_blank, is_comment, longest_call, or_none, line_of}
use Rattle.script.specs.Reading.{ReadAs}
use Rattle.script.specs.Answer.{line_room}
use Rattle.script.specs.Pieces.{Begun, CallIs}
use Rattle.script.specs.declared.Pending.{Pending}
use Rattle.script.specs.declared.reading.Call.{Call}
use Rattle.script.specs.declared.reading.Call.TheVariants as code

-- A blank line is silent, whatever its length.
pub blank_silent : (kept : List ℕ) (blank : Bool) → blank ≡ true → CallIs kept blank code.Silent
unfolding line_of
blank_silent kept blank e = record {
  inside = tt;
  is = λ line same b.
      sym (ap (λ (t : Bool). cond (t || is_comment line) silent (cond (leb (length line) longest_call) (or_none (command_in line)) no_call)) (sym b ∙ e));
}

-- A line of which fewer bytes are kept than there is room for is kept whole.
pub whole_read : (kept : List ℕ) (blank : Bool) (r : Call) → length kept ≤ longest_call → ReadAs kept r → CallIs kept blank r
whole_read kept blank r h a = record {
  inside = a.inside;
  is = λ line same b.
      let size : length kept ≡ min line_room (length line) = ap length same ∙ length-take line_room line in
      a.is ∙ ap line_of (same ∙ take_all line_room line (omega arith));
}

-- A longer one is silent where it is a comment.
module _ (kept : List ℕ) (blank : Bool) (long : longest_call < length kept) (some : blank ≡ false) where
  long_line : (line : List ℕ) → kept ≡ take line_room line → blank ≡ is_blank line → line_of line ≡ cond (eqb (get_or kept 0 0) 35) silent no_call
  unfolding line_of
  long_line [] same b = let size = ap length same in absurd (omega arith)
  long_line (x ∷ line) same b =
      let size : length kept ≡ min line_room (length (x ∷ line)) = ap length same ∙ length-take line_room (x ∷ line) in
      let first : get_or kept 0 0 ≡ x = ap (λ (l : List ℕ). get_or l 0 0) same in
      rw (sym b ∙ some, lt-leb (length (x ∷ line)) longest_call (omega arith), first) (either (eqb x 35))
    where
      either : (c : Bool) → cond (false || c) silent no_call ≡ cond c silent no_call
      either true = refl
      either false = refl

  pub comment_silent : get_or kept 0 0 ≡ 35 → CallIs kept blank code.Silent
  comment_silent e = record { inside = tt; is = λ line same b. sym (long_line line same b ∙ ap (λ (c : Bool). cond c silent no_call) (eq-eqb (get_or kept 0 0) 35 e)) }

  pub long_no_call : (get_or kept 0 0 ≡ 35 → ⊥) → CallIs kept blank code.NoCall
  long_no_call d = record { inside = tt; is = λ line same b. sym (long_line line same b ∙ ap (λ (c : Bool). cond c silent no_call) (ne_eqb (get_or kept 0 0) 35 d)) }

-- What is kept of the line that has begun.
pub kept_is : (bytes buffer : List ℕ) (p : Pending) (n : ℕ) → Begun bytes buffer p → n ≡ min (min p.length (length buffer)) line_room → take n buffer ≡ take line_room bytes
kept_is bytes buffer p n h e =
    let fills : p.length ≡ min (length bytes) (length buffer) = h.kept.fills in
    let room : length buffer ≡ line_room = h.room in
    ap (λ (k : ℕ). take k buffer) {x = n} {y = p.length} (omega arith) ∙ h.kept.same ∙ elim (dec_le (length bytes) line_room) [
      | yes l ↦ take_all p.length bytes (omega arith) ∙ sym (take_all line_room bytes l)
      | no l ↦ ap (λ (k : ℕ). take k bytes) {x = p.length} {y = line_room} (omega arith)
    ]
