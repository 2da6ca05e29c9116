-- The line of a session's sheet, from what the writer gives.
use mathlib.Core.Bool.{Bool, true, false, cond}
use mathlib.Core.List.{List}
use mathlib.Core.Option.{Option, none, some}
use mathlib.Core.Path.{◌≡◌, refl, sym, ap, ap₂, ◌∙◌}
use Prim.Native.Nat.{ℕ, ◌≤◌}
use native.Mathlib.Omega.{arith}
use lib.Dec.{leb}
use lib.ListN.{length, take}
use borrow.Author.Tests.{le-leb}
use Rattle.std.specs.Prelude.{Result, Ok, Err}
use Rattle.refusal.specs.declared.Refusal.{Refusal}
use Rattle.refusal.specs.declared.Refusal.TheVariants.{Range, NoVerdict, NoRoom}
use Rattle.refusal.specs.Numbers.{number_of}
use Rattle.atoms.proofs.Bytes.{take_put}
use Rattle.prover.specs.InRange.{in_range}
use Rattle.prover.specs.declared.Session.{Session}
use Rattle.certify.specs.Held.{Certificate, bytes_of, certificate_held}
use Rattle.certify.specs.Written.{WrittenAs, Written}
use Rattle.certify.proofs.Buffer.{answer_counted, length_given}
use Rattle.certify.proofs.Whole.{held_short}
use Rattle.text.specs.Output.{draft}
use Rattle.script.specs.State.{refused_line, digits_line, sheet_line}
use Rattle.script.specs.Answer.{held_line}

module _ (s : Session) (before : List ℕ) (l : Result ℕ Refusal) (after : List ℕ) (w : Written s before l after) (room : length before ≡ draft) where
  line_is : (b : Bool) → in_range s ≡ b → held_line s ≡ cond b (sheet_line (certificate_held s s.held)) (refused_line 5)
  line_is b e = ap (λ t. cond t (sheet_line (certificate_held s s.held)) (refused_line 5)) e

  -- The bytes given are those of the sheet held.
  module _ (size : ℕ) (e : l ≡ Ok size) where
    of_held : (x : Option Certificate) → WrittenAs x before l after → (digits_line (take size after) ≡ sheet_line x) × (size ≤ draft)
    of_held none v = let other : Err NoVerdict ≡ Ok size = sym v.answer ∙ e in let z : ◌≡◌ {A = ℕ} 0 1 = cc in absurd (omega arith)
    of_held (some x) v =
        let g = length_given x before l after v size e in
        (ap digits_line (ap₂ (λ (n : ℕ) (b : List ℕ). take n b) (sym g.0) v.buffer ∙ take_put before (bytes_of x) g.1), omega (arith, g.0, g.1))

    pub sheet_given : (digits_line (take size after) ≡ held_line s) × (size ≤ draft)
    sheet_given = go (in_range s) refl
      where
        go : (b : Bool) → in_range s ≡ b → (digits_line (take size after) ≡ held_line s) × (size ≤ draft)
        go true r = let h = of_held (certificate_held s s.held) (w.written r) in (h.0 ∙ sym (line_is true r), h.1)
        go false r = let other : Err Range ≡ Ok size = sym (w.out_of_range r).0 ∙ e in let z : ◌≡◌ {A = ℕ} 0 1 = cc in absurd (omega arith)

  -- A draft has room for every sheet, so what is refused has none.
  module _ (told : Refusal) (e : l ≡ Err told) where
    of_none : in_range s ≡ true → (x : Option Certificate) → certificate_held s s.held ≡ x → WrittenAs x before l after → refused_line (number_of told) ≡ sheet_line x
    of_none r none h v = let same : told ≡ NoVerdict = cc in ap (λ e. refused_line (number_of e)) same
    of_none r (some x) h v =
        let fits : leb (length (bytes_of x)) (length before) ≡ true = le-leb (length (bytes_of x)) (length before) (omega (arith, held_short s r s.held x h)) in
        let other : Ok (length (bytes_of x)) ≡ Err told = sym (answer_counted x before l after v ∙ ap (λ b. cond b (Ok (length (bytes_of x))) (Err NoRoom)) fits) ∙ e in
        let z : ◌≡◌ {A = ℕ} 0 1 = cc in absurd (omega arith)

    pub sheet_refused : refused_line (number_of told) ≡ held_line s
    sheet_refused = go (in_range s) refl
      where
        go : (b : Bool) → in_range s ≡ b → refused_line (number_of told) ≡ held_line s
        go true r = of_none r (certificate_held s s.held) refl (w.written r) ∙ sym (line_is true r)
        go false r = let same : told ≡ Range = let five = (w.out_of_range r).0 in cc in ap (λ e. refused_line (number_of e)) same ∙ sym (line_is false r)
