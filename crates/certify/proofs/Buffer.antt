-- What a call of `write` leaves of the buffer, whatever the session: "nothing written" where it is refused, and "bytes past a
-- written sheet keep their contents".
use mathlib.Core.Bool.{Bool, true, false, cond}
use mathlib.Core.List.{List}
use mathlib.Core.Option.{Option, none, some}
use mathlib.Core.Path.{◌≡◌, refl, sym, ap, ap₂, ◌∙◌}
use Prim.Native.Nat.{ℕ, ◌≤◌}
use native.Mathlib.Omega.{arith}
use lib.Dec.{leb}
use lib.ListN.{length, drop}
use borrow.Author.Tests.{leb-true, leb-false}
use Rattle.atoms.proofs.Bytes.{put_past, drop_put}
use Rattle.prover.specs.InRange.{in_range}
use Rattle.prover.specs.declared.Session.{Session}
use Rattle.certificate.proofs.Encoding.{encode_length}
use Rattle.certify.specs.Held.{Certificate, bytes_of, length_of, certificate_held}
use Rattle.certify.specs.Written.{WrittenAs, Written}
use Rattle.std.specs.Prelude.{Result, Ok, Err}
use Rattle.refusal.specs.declared.Refusal.{Refusal}
use Rattle.refusal.specs.declared.Refusal.TheVariants.{Range, NoVerdict, NoRoom}

pub bytes_counted : (x : Certificate) → length (bytes_of x) ≡ length_of x
bytes_counted x = encode_length x.problem x.claim

module _ (x : Certificate) (before : List ℕ) (r : Result ℕ Refusal) (after : List ℕ) (w : WrittenAs (some x) before r after) where
  abbrev size : ℕ
  size = length (bytes_of x)

  pub answer_counted : r ≡ cond (leb size (length before)) (Ok size) (Err NoRoom)
  answer_counted = w.answer ∙ ap (λ (n : ℕ). cond (leb n (length before)) (Ok n) (Err NoRoom)) (sym (bytes_counted x))

  -- The answer, once it is known whether the certificate fits.
  answer_is : (b : Bool) → leb size (length before) ≡ b → r ≡ cond b (Ok size) (Err NoRoom)
  answer_is b e = answer_counted ∙ ap (λ (z : Bool). cond z (Ok size) (Err NoRoom)) e

  -- Where a length is given, the certificate fits and has that length.
  pub length_given : (n : ℕ) → r ≡ Ok n → (size ≡ n) × (size ≤ length before)
  length_given n e = go (leb size (length before)) refl
    where
      go : (b : Bool) → leb size (length before) ≡ b → (size ≡ n) × (size ≤ length before)
      go true eb = let same : Ok size ≡ Ok n = sym (answer_is true eb) ∙ e in (cc, leb-true size (length before) eb)
      go false eb = let other : Err NoRoom ≡ Ok n = sym (answer_is false eb) ∙ e in let z : ◌≡◌ {A = ℕ} 0 1 = cc in absurd (omega arith)

  ten_unwritten : (k : Refusal) → r ≡ Err k → after ≡ before
  ten_unwritten k e = go (leb size (length before)) refl
    where
      go : (b : Bool) → leb size (length before) ≡ b → after ≡ before
      go true eb = let other : Ok size ≡ Err k = sym (answer_is true eb) ∙ e in let z : ◌≡◌ {A = ℕ} 0 1 = cc in absurd (omega arith)
      go false eb = w.buffer ∙ sym (put_past before 0 (bytes_of x) (omega (arith, leb-false size (length before) eb)))

unwritten : (x : Option Certificate) (before : List ℕ) (r : Result ℕ Refusal) (after : List ℕ) → WrittenAs x before r after → (k : Refusal) → r ≡ Err k → after ≡ before
unwritten none before r after w k e = w.buffer
unwritten (some x) before r after w k e = ten_unwritten x before r after w k e

past_kept : (x : Option Certificate) (before : List ℕ) (r : Result ℕ Refusal) (after : List ℕ) → WrittenAs x before r after → (n : ℕ) → r ≡ Ok n → drop n after ≡ drop n before
past_kept none before r after w n e = let other : Err NoVerdict ≡ Ok n = sym w.answer ∙ e in let z : ◌≡◌ {A = ℕ} 0 1 = cc in absurd (omega arith)
past_kept (some x) before r after w n e =
    let l = length_given x before r after w n e in
    ap₂ (λ (m : ℕ) (b : List ℕ). drop m b) (sym l.0) w.buffer ∙ drop_put before (bytes_of x) l.1 ∙ ap (λ (m : ℕ). drop m before) l.0

module _ (s : Session) (before : List ℕ) (r : Result ℕ Refusal) (after : List ℕ) (w : Written s before r after) where
  -- "Nothing written", by any refusal.
  pub refused_unwritten : (k : Refusal) → r ≡ Err k → after ≡ before
  refused_unwritten k e = go (in_range s) refl
    where
      go : (b : Bool) → in_range s ≡ b → after ≡ before
      go true h = unwritten (certificate_held s s.held) before r after (w.written h) k e
      go false h = (w.out_of_range h).1

  -- "Bytes past a written sheet keep their contents."
  pub past_unchanged : (n : ℕ) → r ≡ Ok n → drop n after ≡ drop n before
  past_unchanged n e = go (in_range s) refl
    where
      go : (b : Bool) → in_range s ≡ b → drop n after ≡ drop n before
      go true h = past_kept (certificate_held s s.held) before r after (w.written h) n e
      go false h = let other : Err Range ≡ Ok n = sym (w.out_of_range h).0 ∙ e in let z : ◌≡◌ {A = ℕ} 0 1 = cc in absurd (omega arith)
