-- The theorem: what is printed of a script, however its bytes come in pieces, is its transcript.
use mathlib.Core.List.{List, [], ◌∷◌, ◌++◌, append-nil, append_assoc}
use mathlib.Core.Path.{◌≡◌, refl, sym, ap, ap₂, ◌∙◌, subst}
use Prim.Native.Nat.{ℕ, ◌≤◌}
use native.Mathlib.Omega.{arith}
use lib.ListN.{length, take}
use Rattle.prover.specs.declared.Session.{Session}
use Rattle.script.specs.Words.{line_feed, lines_of}
use Rattle.script.specs.Command.{Line, line_of, is_blank}
use Rattle.script.specs.State.{State, printed_line, next_line}
use Rattle.script.specs.Transcript.{most_lines, number_after, printed_from, transcript}
use Rattle.script.specs.Answer.{Answer, LineDone, Writes, line_room}
use Rattle.script.specs.Pieces.{Begun, Ends, Answers}
use Rattle.script.specs.Run.{output_room, no_line, Run, last, goes_on, ends, TranscriptPrinted}
use Rattle.script.specs.declared.Pending.{Pending}
use Rattle.script.proofs.Cutting.{last_line, first_line}
use Rattle.script.proofs.Standing.{state_of, Stands, Reaches, same_reached, opened_reaches, line_reaches}
use Rattle.script.proofs.Fitting.{Fits, whole, line_fits}

-- ---- one answer

module _ {s : Session} {number : ℕ} (h : Stands s) (few : number ≤ most_lines) {entry exit : List ℕ} {r : Answer} (room : output_room ≤ length entry) where
  line_written : (l : Line) → Writes (LineDone s number l) entry exit r
      → Reaches (next_line (state_of s) l) (printed_line (state_of s) number l) r.session (take r.length exit)
  line_written l (printed, done, appends) =
      let reached = line_reaches s h number l done in
      let fits = subst Fits (sym reached.prints) (line_fits s h number few l) in
      same_reached refl (whole fits room appends) reached

  line_answered : {bytes buffer : List ℕ} {p : Pending} → Answers s number buffer p entry exit r → Begun bytes buffer p
      → Reaches (next_line (state_of s) (line_of bytes)) (printed_line (state_of s) number (line_of bytes)) r.session (take r.length exit)
  line_answered {bytes} a b = line_written (line_of bytes) (subst (λ (l : Line). Writes (LineDone s number l) entry exit r) (a.of bytes b) a.does)

-- ---- the line that has begun

-- No byte of the next line has come.
none_begun : {buffer : List ℕ} → length buffer ≡ line_room → Begun [] buffer no_line
unfolding is_blank
none_begun room = record { room = room; kept = record { fills = omega arith; same = refl }; blank = refl; one = tt }

module _ {bytes piece buffer : List ℕ} {p : Pending} (more : List ℕ) where
  line_cut : {rest : List ℕ} (e : Ends bytes piece buffer p rest) → lines_of (bytes ++ (piece ++ more)) ≡ (bytes ++ e.end) ∷ lines_of (rest ++ more)
  line_cut {rest} e =
      let cut : bytes ++ (piece ++ more) ≡ (bytes ++ e.end) ++ line_feed ∷ (rest ++ more) = rw e.cut (simp append_assoc) in
      ap lines_of cut ∙ first_line (bytes ++ e.end) (rest ++ more) e.begun.one

-- ---- a run

run_printed : {s : Session} {number : ℕ} {buffer input printed : List ℕ} {p : Pending} → Stands s → number ≤ most_lines → Run s number buffer p input printed
    → (bytes : List ℕ) → Begun bytes buffer p → printed ≡ printed_from (state_of s) number (lines_of (bytes ++ input))
unfolding printed_from
run_printed h few (last s number buffer p entry exit r room a) bytes b =
    let σ = state_of s in
    let one_line : lines_of (bytes ++ []) ≡ bytes ∷ [] = rw (append-nil bytes) (last_line bytes b.one) in
    (line_answered h few room a b).prints ∙ sym (ap (printed_from σ number) one_line ∙ append-nil (printed_line σ number (line_of bytes)))
run_printed h few (goes_on s number before p piece more after printed q g rest) bytes b =
    run_printed h few rest (bytes ++ piece) (g.does bytes b).begun
    ∙ ap (λ (l : List ℕ). printed_from (state_of s) number (lines_of l)) (append_assoc bytes piece more)
run_printed h few (ends s number before p piece left more after printed entry exit q a g room answers rest) bytes b =
    let ended : Ends bytes piece after q left = g.does bytes b in
    let done = line_answered h few room answers ended.begun in
    let others = lines_of (left ++ more) in
    ap₂ (λ (x y : List ℕ). x ++ y) done.prints
    (run_printed done.stands (omega arith) rest [] (none_begun ended.begun.room) ∙ ap (λ (σ : State). printed_from σ (number_after number) others) done.state)
    ∙ sym (ap (printed_from (state_of s) number) (line_cut more ended))

pub transcript_printed : TranscriptPrinted
unfolding transcript
transcript_printed o opening buffer room script printed run =
    let start = opened_reaches 1 o opening in
    run_printed start.stands (omega arith) run [] (none_begun room) ∙ ap (λ (σ : State). printed_from σ 1 (lines_of script)) start.state
