-- What the length told says of what is written.
use mathlib.Core.Bool.{Bool, true, false, cond}
use mathlib.Core.List.{List}
use mathlib.Core.Option.{Option, none, some}
use mathlib.Core.Path.{◌≡◌, refl, sym, ap, ap₂, ◌∙◌}
use Prim.Native.Nat.{ℕ}
use native.Mathlib.Omega.{arith}
use lib.ListN.{length, take}
use borrow.Author.Tests.{le-leb, lt-leb}
use Rattle.atoms.proofs.Bytes.{take_put}
use Rattle.prover.specs.InRange.{in_range}
use Rattle.prover.specs.declared.Session.{Session}
use Rattle.certify.specs.Held.{Certificate, bytes_of, length_of, certificate_held}
use Rattle.certify.specs.Written.{told_of, WrittenAs}
use Rattle.certify.specs.Told.{AsTold, ToldIsWritten}
use Rattle.std.specs.Prelude.{Result, Ok, Err}
use Rattle.refusal.specs.declared.Refusal.{Refusal}
use Rattle.refusal.specs.declared.Refusal.TheVariants.{Range, NoRoom}
use Rattle.certify.proofs.Buffer.{bytes_counted}

module _ (s : Session) (before : List ℕ) (r : Result ℕ Refusal) (after : List ℕ) where
  held_told : (x : Option Certificate) → certificate_held s s.held ≡ x → WrittenAs x before r after → AsTold (told_of x) s before r after
  held_told none e w = w.answer
  held_told (some x) e w = record {
    sheet = x;
    held_is = e;
    exact = bytes_counted x;
    enough = λ room. (
      w.answer ∙ ap (λ (b : Bool). cond b (Ok (length_of x)) (Err NoRoom)) (le-leb (length_of x) (length before) room),
      ap₂ (λ (m : ℕ) (b : List ℕ). take m b) (sym (bytes_counted x)) w.buffer ∙ take_put before (bytes_of x) (omega (arith, bytes_counted x)),
    );
    too_few = λ short. w.answer ∙ ap (λ (b : Bool). cond b (Ok (length_of x)) (Err NoRoom)) (lt-leb (length_of x) (length before) short);
  }

pub told_is_written : ToldIsWritten
told_is_written s before r after w = go (in_range s) refl
  where
    go : (b : Bool) → in_range s ≡ b → AsTold (cond b (told_of (certificate_held s s.held)) (Err Range)) s before r after
    go true h = held_told s before r after (certificate_held s s.held) refl (w.written h)
    go false h = (w.out_of_range h).0
