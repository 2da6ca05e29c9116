-- The language of scripts, a row for each kind of call; a line is at most one call.
use Rattle.std.specs.Prelude.{List, [], ◌∷◌, ◌++◌, map, ◌↔◌, ◌≡◌, ℕ, ◌≤◌, ◌<◌, length, replicate, Some}
use Rattle.ipl.specs.Lists.{All}
use Rattle.ipl.specs.Authors.{program}
use Rattle.ipl.specs.Book.{add_flat, add_implication, add, question, set_mark, return_to, page}
use Rattle.text.specs.Text.{ascii, hex}
use Rattle.script.specs.Words.{space, words_of}
use Rattle.script.specs.Command.{Command, open_session, read_text, call_book, tell_length, write_sheet, check_sheet, tell_mean, screen_text, byte_in, set_in, command, longest_call, line_of}

-- The line is this call.
pub data Says (line : List ℕ) : Command → Type 0 where
  -- `open N`
  opens : (N : List ℕ) (n : ℕ) → words_of line ≡ ascii "open" ∷ N ∷ [] → byte_in N ≡ Some n → Says line (open_session n)
  -- `text FORMULA`, and `text` alone
  reads : (spaces : ℕ) (formula : List ℕ) → line ≡ replicate spaces space ++ ascii "text " ++ formula → Says line (read_text formula)
  reads_nothing : (spaces : ℕ) → line ≡ replicate spaces space ++ ascii "text" → Says line (read_text [])
  -- `flat LEFT RIGHT`
  adds_flat : (L R : List ℕ) (left right : ℕ) → words_of line ≡ ascii "flat" ∷ L ∷ R ∷ [] → set_in L ≡ Some left → set_in R ≡ Some right
      → Says line (call_book (add (add_flat (record { left = left; right = right }))))
  -- `implication A B C`
  adds_implication : (A B C : List ℕ) (a b c : ℕ) → words_of line ≡ ascii "implication" ∷ A ∷ B ∷ C ∷ [] → byte_in A ≡ Some a → byte_in B ≡ Some b → byte_in C ≡ Some c
      → Says line (call_book (add (add_implication (record { a = a; b = b; c = c }))))
  -- `ask G`, `ask G by A`
  asks : (G : List ℕ) (g : ℕ) → words_of line ≡ ascii "ask" ∷ G ∷ [] → byte_in G ≡ Some g → Says line (call_book (question program g))
  asks_by : (G A : List ℕ) (g a : ℕ) → words_of line ≡ ascii "ask" ∷ G ∷ ascii "by" ∷ A ∷ [] → byte_in G ≡ Some g → byte_in A ≡ Some a
      → Says line (call_book (question a g))
  -- `page G1 G2 ..`, `page G1 G2 .. by A`
  pages : (G : List (List ℕ)) (gs : List ℕ) → words_of line ≡ ascii "page" ∷ G → map byte_in G ≡ map Some gs → Says line (call_book (page program gs))
  pages_by : (G : List (List ℕ)) (gs A : List ℕ) (a : ℕ) → words_of line ≡ ascii "page" ∷ (G ++ (ascii "by" ∷ A ∷ [])) → map byte_in G ≡ map Some gs → byte_in A ≡ Some a
      → Says line (call_book (page a gs))
  -- `mark K`, `return K`
  sets_mark : (K : List ℕ) (j : ℕ) → words_of line ≡ ascii "mark" ∷ K ∷ [] → byte_in K ≡ Some j → Says line (call_book (set_mark j))
  returns_to : (K : List ℕ) (j : ℕ) → words_of line ≡ ascii "return" ∷ K ∷ [] → byte_in K ≡ Some j → Says line (call_book (return_to j))
  -- `length`, `sheet`
  tells : words_of line ≡ ascii "length" ∷ [] → Says line tell_length
  writes : words_of line ≡ ascii "sheet" ∷ [] → Says line write_sheet
  -- `check HEX`, and `check` alone
  checks : (b : ℕ) (bytes : List ℕ) → All (λ x. x < 256) (b ∷ bytes) → words_of line ≡ ascii "check" ∷ hex (b ∷ bytes) ∷ [] → Says line (check_sheet (b ∷ bytes))
  checks_nothing : words_of line ≡ ascii "check" ∷ [] → Says line (check_sheet [])
  -- `mean A`
  tells_mean : (A : List ℕ) (a : ℕ) → words_of line ≡ ascii "mean" ∷ A ∷ [] → byte_in A ≡ Some a → Says line (tell_mean a)
  -- `screen FORMULA`, and `screen` alone
  screens : (spaces : ℕ) (formula : List ℕ) → line ≡ replicate spaces space ++ ascii "screen " ++ formula → Says line (screen_text formula)
  screens_nothing : (spaces : ℕ) → line ≡ replicate spaces space ++ ascii "screen" → Says line (screen_text [])

-- The lines that are calls are those that a row has, of at most 32,768 bytes.
abbrev pub CallsAreSaid : Type 0
CallsAreSaid = (line : List ℕ) (c : Command) → (line_of line ≡ command c) ↔ (Says line c × (length line ≤ longest_call))

-- No line is two calls.
abbrev pub OneCall : Type 0
OneCall = (line : List ℕ) (c d : Command) → Says line c → Says line d → c ≡ d
