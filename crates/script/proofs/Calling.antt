-- Laws of the values of the code that lines are read as.
use Rattle.std.proofs.Common.{Bool, true, false, not, ◌&&◌, List, [], ◌∷◌, ◌≡◌, ℕ, ◌%◌, eqb, length, refl}
use Rattle.std.specs.Prelude.{Option, Some, None, is_some, unwrap_or, MatchOption}
use denote.Ref.{Bor}
use Rattle.std.specs.Bool.{then_some}
use Rattle.std.specs.List.{list_all}
use Rattle.ipl.specs.Authors.{program}
use Rattle.text.specs.Text.{ascii}
use Rattle.script.specs.Words.{words_of, unindented}
use Rattle.script.specs.Numbers.{is_hex_digit, paired, bytes_in}
use Rattle.script.specs.Command.{Command, command, check_sheet, same, end, only_byte, author_in, sheet_argument, or_none}
use Rattle.script.specs.Parts.{FirstWord, no_word}
use Rattle.script.specs.Reading.{meaning, Inside, Means, Completes}
use Rattle.script.specs.declared.reading.Call.{Call}
use Rattle.script.specs.declared.reading.Call.TheVariants as code
use Rattle.script.proofs.Splitting.{no_words}

-- ---- no further word, or one

pub complete : (line : List ℕ) (call : Call) {b : Bool} {r : Option Call} → b ≡ no_word (words_of line) → r ≡ then_some b call → Completes line call r
complete line call b r = rw (r, b) (by_words (words_of line) refl)
  where
    by_words : (ws : List (List ℕ)) → words_of line ≡ ws → Completes line call (then_some (no_word ws) call)
    by_words [] e = record { is = (refl, λ c. rw e) }
    by_words (w ∷ ws) e = record { is = λ c. rw e }

-- Of a line whose last words these are.
pub finished : {line rest : List ℕ} {call : Call} {r : Option Call} (c : Command) → Completes rest call r → meaning call ≡ command c → Inside line call
    → Means line (or_none (end c (words_of rest))) (unwrap_or r code.NoCall)
finished {r = None} c p e i = rw (p.is c) (record { is = refl; inside = tt })
finished {r = Some known} c p e i = rw (p.is.0, p.is.1 c) (record { is = e; inside = i })

-- Whether there is none.
pub last_is : (line : List ℕ) (r : Option (Bor (List ℕ) × Bor (List ℕ))) (b : Bool)
    → MatchOption r (unindented line ≡ []) (λ s. FirstWord line s.0.now s.1.now) → is_some r ≡ not b → b ≡ no_word (words_of line)
last_is line None true h e = rw (no_words line h)
last_is line None false h e = cc
last_is line (Some s) true h e = cc
last_is line (Some s) false h e = rw h.words

-- ---- an author

pub no_author : (line : List ℕ) → unindented line ≡ [] → Some program ≡ author_in (words_of line)
no_author line e = rw (no_words line e)

module _ {line word rest : List ℕ} (f : FirstWord line word rest) where
  pub author_behind : {o : Option ℕ} → word ≡ ascii "by" → o ≡ only_byte (words_of rest) → o ≡ author_in (words_of line)
  unfolding same ascii
  author_behind is only = rw (f.words, is) only

  pub another_word : same word (ascii "by") ≡ false → None ≡ author_in (words_of line)
  another_word e = rw (f.words, e)

-- ---- a sheet's digits

module _ {line digits rest : List ℕ} (f : FirstWord line digits rest) {b : Bool} (h : b ≡ (list_all is_hex_digit digits && eqb (length digits % 2) 0)) where
  pub sheet_digits : b ≡ true → {r : Call} → Means line (or_none (end (check_sheet (paired digits)) (words_of rest))) r → Means line (or_none (sheet_argument (words_of line))) r
  unfolding bytes_in
  sheet_digits e m = rw (f.words, ← h, e) m

  pub no_digits : b ≡ false → Means line (or_none (sheet_argument (words_of line))) code.NoCall
  unfolding bytes_in
  no_digits e = rw (f.words, ← h, e) (record { is = refl; inside = tt })
