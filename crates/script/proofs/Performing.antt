-- A call that the code holds, by what it says of the line.
use mathlib.Core.List.{List}
use mathlib.Core.Bool.{true}
use Rattle.std.specs.Prelude.{Option, Some, None, is_some, Result}
use mathlib.Core.Path.{◌≡◌, refl, sym, ap, ◌∙◌, subst}
use Prim.Native.Nat.{ℕ, ◌≤◌, min}
use native.Mathlib.Omega.{arith}
use lib.ListN.{length, take, length-take}
use Rattle.ipl.specs.Book.{page}
use Rattle.refusal.specs.declared.Refusal.{Refusal}
use Rattle.prover.specs.Page.{goals_of, PageAnswered}
use Rattle.prover.specs.Told.{changed, number_in}
use Rattle.prover.specs.declared.GoalRecord.{GoalRecord}
use Rattle.prover.specs.declared.Session.{Session}
use Rattle.text.specs.declared.draft.Draft.{Draft}
use Rattle.text.specs.Output.{Appends}
use Rattle.script.specs.Words.{words_of}
use Rattle.script.specs.Command.{call_book, GoalList, page_in}
use Rattle.script.specs.Reading.{goal_room, GoalsAre, GoalsRead, page_of, meaning, Inside}
use Rattle.script.specs.Answer.{page_lines, CommandDone, LineDone, Answer, Adds, line_room}
use Rattle.script.specs.Pieces.{CallIs, Answered, Answers}
use Rattle.script.specs.declared.Pending.{Pending}
use Rattle.script.specs.declared.reading.Goals.{Goals}
use Rattle.script.specs.declared.reading.Call.{Call}
use Rattle.script.proofs.Calls.{kept_is}

-- What is inside a call that is known.
pub known_inside : (line : List ℕ) {call known : Call} → Inside line call → call ≡ known → Inside line known
known_inside line h e = subst (Inside line) e h

-- A page of the goals that were read.
module _ (line : List ℕ) (q : GoalList) (e : page_in (words_of line) ≡ Some q) where
  -- They were read.
  pub goals_there : (r : Option Goals) → GoalsRead (page_in (words_of line)) r → is_some r ≡ true
  goals_there None h = let z : Some q ≡ None = sym e ∙ h in cc
  goals_there (Some t) h = refl

  module _ (goals : Goals) (h : GoalsRead (page_in (words_of line)) (Some goals)) where
    goals_are : GoalsAre q.goals goals × (goals.author ≡ q.author)
    goals_are =
        let same : h.0 ≡ q = let f = sym h.1 ∙ e in cc in
        (subst (λ (p : GoalList). GoalsAre p.goals goals) same h.2, h.3 ∙ ap (λ (p : GoalList). p.author) same)

    pub goals_few : goals.count ≤ goal_room
    goals_few = omega (arith, goals_are.0.size)

    pub page_made : {s t : Session} {lent left : List GoalRecord} {before after : Draft} (r : Result Unit Refusal)
        → goals_of lent ≡ take goals.count goals.rows → PageAnswered s goals.author lent left (changed r t)
        → Appends (page_lines (number_in r) left) before after
        → Adds (CommandDone s (call_book (page q.author q.goals))) before after t
    page_made {s} {t} {lent} {left} r l a w =
        let answered = subst (λ (a : ℕ). PageAnswered s a lent left (changed r t)) goals_are.1 a in
        (_, (lent, l ∙ goals_are.0.first, record { changed = changed r t; records = left }, answered, refl, refl), w)

pub page_done : (words : List ℕ) (q : GoalList) → page_in (words_of words) ≡ Some q
    → (number : ℕ) {s : Session} {before after : Draft} {r : Session} → Adds (CommandDone s (call_book (page q.author q.goals))) before after r
    → Adds (LineDone s number (page_of (page_in (words_of words)))) before after r
page_done words q e number {s} {before} {after} {r} w = subst (λ (o : Option GoalList). Adds (LineDone s number (page_of o)) before after r) (sym e) w

-- The call of what is kept of a line is known, and was made.
pub answered : {s : Session} {number : ℕ} {buffer : List ℕ} {p : Pending} {n : ℕ} {call known : Call} {before after : Draft} {r : Session}
    → n ≡ min (min p.length (length buffer)) line_room → CallIs (take n buffer) p.blank call → call ≡ known
    → Adds (LineDone s number (meaning known)) before after r → Answered s number buffer p before after r
answered {s} {number} {buffer} {p} {n} {call} {known} {before} {after} {r} size c e w = record {
  line = meaning call;
  does = subst (λ (k : Call). Adds (LineDone s number (meaning k)) before after r) (sym e) w;
  of = λ bytes h. c.is bytes (kept_is bytes buffer p n h size) h.blank;
}

-- The call is one of a line of that length.
pub ready : (buffer : List ℕ) (p : Pending) {n : ℕ} {call known : Call}
    → n ≡ min (min p.length (length buffer)) line_room → CallIs (take n buffer) p.blank call → call ≡ known
    → (line : List ℕ) × Inside line known × (length line ≤ line_room)
ready buffer p {n} size c e = (take n buffer, known_inside (take n buffer) c.inside e, omega (arith, size, length-take n buffer))

-- What was written is within the output.
pub answer_inside : {s : Session} {number : ℕ} {buffer : List ℕ} {p : Pending} {entry exit : List ℕ} (r : Answer) → Answers s number buffer p entry exit r → r.length ≤ length exit
answer_inside r a = omega (arith, a.does.2.begins.fills)
