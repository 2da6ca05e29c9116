-- The program's steps through a piece, one after the other.
use Rattle.std.specs.Prelude.{Option, Some, None, MatchOption, ⊤}
use mathlib.Core.List.{List, [], ◌∷◌, ◌++◌, append_assoc}
use mathlib.Core.Path.{◌≡◌, sym, ap, ◌∙◌, subst}
use Prim.Native.Nat.{ℕ, ◌≤◌, ◌<◌}
use native.Mathlib.Omega.{arith}
use lib.ListN.{length, take}
use Rattle.prover.specs.declared.Session.{Session}
use Rattle.script.specs.Transcript.{number_after}
use Rattle.script.specs.Answer.{Answer}
use Rattle.script.specs.Pieces.{GatheredFrom, Answers}
use Rattle.script.specs.Run.{output_room, no_line, Run, goes_on, ends, Prints, Through}
use Rattle.script.specs.declared.Pending.{Pending}

-- From what is left of the piece to less of it.
module _ {s s2 : Session} {number number2 : ℕ} {buffer before after : List ℕ} {p p2 q : Pending} (first piece left : List ℕ)
    (so_far : Prints first piece s number buffer p left s2 number2 before p2) {r : Option (List ℕ)} (g : GatheredFrom left before p2 after q r) where
  pub prints_on : r ≡ None → Prints first piece s number buffer p [] s2 number2 after q
  prints_on e more printed run =
      so_far more printed (goes_on s2 number2 before p2 left more after printed q (subst (GatheredFrom left before p2 after q) e g) run)

  pub prints_answered : {entry exit : List ℕ} {next : ℕ} (a : Answer) {rest : List ℕ} → r ≡ Some rest → output_room ≤ length entry → Answers s2 number2 after q entry exit a
      → next ≡ number_after number2
      → (longer : List ℕ) → longer ≡ first ++ take a.length exit → Prints longer piece s number buffer p rest a.session next after no_line
  prints_answered {entry} {exit} {next} a {rest} e room answers n longer l more printed run =
      let step = ends s2 number2 before p2 left rest more after printed entry exit q a (subst (GatheredFrom left before p2 after q) e g) room answers
      (subst (λ (k : ℕ). Run a.session k after no_line (rest ++ more) printed) n run) in
      subst (Run s number buffer p (piece ++ more)) (sym (ap (λ (b : List ℕ). b ++ printed) l ∙ append_assoc first (take a.length exit) printed))
      (so_far more (take a.length exit ++ printed) step)

-- One part of a piece after the other.
pub prints_more : {s s2 s3 : Session} {number number2 number3 : ℕ} {buffer buffer2 buffer3 : List ℕ} {p p2 p3 : Pending} (piece left rest : List ℕ)
    → ((first : List ℕ) × Prints first piece s number buffer p left s2 number2 buffer2 p2)
    → (next : List ℕ) → Prints next left s2 number2 buffer2 p2 rest s3 number3 buffer3 p3
    → (first : List ℕ) × Prints first piece s number buffer p rest s3 number3 buffer3 p3
prints_more {s = s} {number = number} {buffer = buffer} {p = p} piece left rest (first, f) next m =
    (first ++ next, λ more printed run. subst (Run s number buffer p (piece ++ more)) (sym (append_assoc first next printed)) (f more (next ++ printed) (m more printed run)))

-- At the piece's end.
pub prints_through : {s s2 : Session} {number number2 : ℕ} {buffer buffer2 : List ℕ} {p p2 : Pending} (piece rest : List ℕ) → length rest ≤ 0
    → ((first : List ℕ) × Prints first piece s number buffer p rest s2 number2 buffer2 p2) → Through s number buffer p piece s2 number2 buffer2 p2
prints_through piece [] h l = l
prints_through piece (x ∷ rest) h l = absurd (omega arith)

-- Less of the piece is left.
pub less_left : {left before after rest : List ℕ} {p q : Pending} {r : Option (List ℕ)} → GatheredFrom left before p after q r → r ≡ Some rest → length rest < length left
less_left {left} g e = subst (λ (o : Option (List ℕ)). MatchOption o ⊤ (λ rest. length rest < length left)) e g.further
