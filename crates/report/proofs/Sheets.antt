-- The sheet of a text's verdict is accepted, and reads back as the text's problem and its answer; how long it is.
use mathlib.Core.List.{List, []}
use mathlib.Core.Logic.{◌⊎◌, inl, inr}
use mathlib.Core.Option.{Option, none, some}
use mathlib.Core.Path.{◌≡◌, refl, ap, ◌∙◌}
use Prim.Native.Nat.{ℕ, ◌≤◌}
use native.Mathlib.Omega.{arith}
use lib.ListN.{length}
use Rattle.ipl.specs.Book.{answer}
use Rattle.syntax.specs.Judge as text
use Rattle.syntax.specs.Judge.{Judgement}
use Rattle.clausify.specs.Naming.{text_book, goal_of}
use Rattle.clausify.proofs.TextBook.{text_reached}
use Rattle.certificate.specs.Certificate.{Problem, Claim}
use Rattle.certificate.specs.Format.{encode, encoded_length}
use Rattle.certificate.specs.Judge.{judge}
use Rattle.certificate.specs.Accepted.{Right}
use Rattle.certificate.specs.Written.{problem_of_book, claim_of_verdict}
use Rattle.certificate.proofs.InRange.{range_longest}
use Rattle.certificate.proofs.Reached.{reached_right}
use Rattle.certificate.proofs.Acceptance.{encode_accepted}
use Rattle.certificate.proofs.Encoding.{encode_length}
use Rattle.report.specs.Printed.{sheet_bytes, sheet_as, sheet}
use Rattle.report.specs.Sheets.{SheetAccepted}

pub sheet_accepted : SheetAccepted
unfolding sheet sheet_as sheet_bytes
sheet_accepted s t c e v =
    ap (λ (j : Judgement). judge (sheet_as j)) e
    ∙ ap (λ (o : Option Claim). judge (sheet_bytes (text_book t) (goal_of t) o)) v
    ∙ encode_accepted (problem_of_book (text_book t) (goal_of t)) c (reached_right (text_book t) (text_reached t) (goal_of t) c v)

-- There is none, or it is that of a right problem and claim.
by_sheet : (P : List ℕ → Type 0) → P [] → ((p : Problem) (c : Claim) → Right p c → P (encode p c)) → (s : List ℕ) → P (sheet s)
unfolding sheet sheet_as sheet_bytes
by_sheet P empty right s = go (text.judge s)
  where
    go : (j : Judgement) → P (sheet_as j)
    go (text.refused number place) = empty
    go (text.accepted t) = claimed (claim_of_verdict (text_book t) (answer (text_book t) (goal_of t))) refl
      where
        claimed : (o : Option Claim) → claim_of_verdict (text_book t) (answer (text_book t) (goal_of t)) ≡ o → P (sheet_bytes (text_book t) (goal_of t) o)
        claimed none e = empty
        claimed (some c) e = right (problem_of_book (text_book t) (goal_of t)) c (reached_right (text_book t) (text_reached t) (goal_of t) c e)

pub sheet_least : (s : List ℕ) → (sheet s ≡ []) ⊎ (39 ≤ length (sheet s))
unfolding encoded_length
sheet_least = by_sheet (λ l. (l ≡ []) ⊎ (39 ≤ length l)) (inl refl) (λ p c r. inr (omega (arith, encode_length p c)))

pub sheet_most : (s : List ℕ) → length (sheet s) ≤ 13223
sheet_most = by_sheet (λ l. length l ≤ 13223) (omega arith) (λ p c r. omega (arith, encode_length p c, range_longest p c r.range))
