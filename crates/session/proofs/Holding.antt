-- Answers that stand one behind the other.
use mathlib.Core.List.{List, ◌++◌}
use mathlib.Core.Path.{◌≡◌, ap, ◌∙◌, subst}
use Prim.Native.Nat.{ℕ, ◌+◌, ◌-◌, ◌≤◌}
use native.Mathlib.Omega.{arith}
use lib.ListN.{length, take, drop, length-take, length-drop, length-append}
use lib.Seq.{length-take-le, take-append-le, take-append-add}
use borrow.Rule.Slice.PartMut.{put_mid, post_of}
use Rattle.std.specs.Prelude.{Option, Some}
use Rattle.prover.specs.declared.Session.{Session}
use Rattle.script.specs.Transcript.{number_after}
use Rattle.script.specs.Pieces.{GatheredFrom, Answers}
use Rattle.script.specs.Run.{output_room, no_line, Prints}
use Rattle.script.specs.declared.Pending.{Pending}
use Rattle.script.specs.Answer.{Answer}
use Rattle.script.proofs.Performing.{answer_inside}
use Rattle.script.proofs.Leading.{prints_answered}

-- A part that is written has as many bytes as before, and so has the output.
held_length : (output : List ℕ) (held : ℕ) (exit : List ℕ) → held ≤ length output → length exit ≡ length (take (length output - held) (drop held output))
    → length (put_mid held (length output - held) output exit) ≡ length output
held_length output held exit h part = grind (arith, length-take, length-drop, length-append, h, part)

-- The answer to a line is written behind the first `held` bytes of the output.
module _ {s : Session} {number : ℕ} {buffer : List ℕ} {p : Pending} {entry exit : List ℕ} (output : List ℕ) (held : ℕ) (r : Answer)
    (a : Answers s number buffer p entry exit r) (room : held ≤ length output) where
  abbrev written : List ℕ
  written = put_mid held (length output - held) output exit

  -- It does not leave the output.
  pub held_inside : length exit ≡ length (take (length output - held) (drop held output)) → held + r.length ≤ length written
  held_inside part =
      let as_many = simp (length-take, length-drop) at part in
      omega (arith, answer_inside r a, as_many, held_length output held exit room part, room)

  -- So what is held then is what was held, and the answer,
  held_behind : take (held + r.length) written ≡ take held output ++ take r.length exit
  held_behind =
      let rest = post_of held (length output - held) output in
      subst (λ (k : ℕ). take (k + r.length) (take held output ++ (exit ++ rest)) ≡ take held output ++ take r.length exit) (length-take-le held output room)
      (take-append-add (take held output) (exit ++ rest) r.length ∙ ap (λ (l : List ℕ). take held output ++ l) (take-append-le r.length exit rest (answer_inside r a)))

  -- which is what is printed up to the end of this line.
  pub prints_held : {start : Session} {first next : ℕ} {line before : List ℕ} {pending still : Pending} {left rest : List ℕ} {o : Option (List ℕ)} (piece : List ℕ)
      → Prints (take held output) piece start first line pending left s number before still → GatheredFrom left before still buffer p o → o ≡ Some rest
      → output_room ≤ length entry → next ≡ number_after number
      → Prints (take (held + r.length) written) piece start first line pending rest r.session next buffer no_line
  prints_held {left = left} piece so_far g ends enough n = prints_answered (take held output) piece left so_far g r ends enough a n _ held_behind
