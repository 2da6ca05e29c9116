-- Laws of lines that print nothing, and of the others.
use mathlib.Core.Bool.{Bool, true, false, cond, ◌&&◌, or-true}
use mathlib.Core.List.{List, [], ◌∷◌}
use mathlib.Core.Path.{◌≡◌, refl}
use Prim.Native.Nat.{ℕ, ◌≤◌, ◌<◌}
use native.Mathlib.Omega.{arith}
use lib.Dec.{eqb}
use lib.ListN.{length, drop, get_or}
use lib.Seq.{drop-append_seam}
use borrow.Author.Tests.{eq-eqb, ne_eqb, le-leb, lt-leb}
use Rattle.script.specs.Words.{space, words_of, unindented}
use Rattle.script.specs.Command.{hash, is_blank, is_comment, longest_call, verb_of, command_by, or_none, command_in, line_of}
use Rattle.script.specs.Parts.{FirstWord}
use Rattle.script.specs.Reading.{Inside, Means, Arguments, ReadAs}
use Rattle.std.specs.Prelude.{Option, unwrap_or}
use Rattle.script.specs.declared.reading.Call.{Call}
use Rattle.script.specs.declared.reading.Call.TheVariants as code
use Rattle.script.proofs.Splitting.{word_short, some_word}

-- ---- blank lines

blank : (l : List ℕ) → unindented l ≡ [] → is_blank l ≡ true
unfolding is_blank unindented
blank [] = λ _. refl
blank (x ∷ l) = go (eqb x space) (blank l)
  where
    go : (t : Bool) → (unindented l ≡ [] → is_blank l ≡ true) → cond t (unindented l) (x ∷ l) ≡ [] → t && is_blank l ≡ true
    go true h e = h e
    go false h e = let z : ◌≡◌ {A = ℕ} 0 1 = cc in absurd (omega arith)

pub not_blank : (l : List ℕ) → 0 < length (unindented l) → is_blank l ≡ false
unfolding is_blank unindented
not_blank [] = λ h. absurd (omega arith)
not_blank (x ∷ l) = go (eqb x space) (not_blank l)
  where
    go : (t : Bool) → (0 < length (unindented l) → is_blank l ≡ false) → 0 < length (cond t (unindented l) (x ∷ l)) → t && is_blank l ≡ false
    go true h e = h e
    go false h e = refl

-- ---- comments

comment : (line : List ℕ) → 0 < length line → get_or line 0 0 ≡ hash → is_comment line ≡ true
comment [] h e = absurd (omega arith)
comment (b ∷ line) h e = eq-eqb b hash e

no_comment : (line : List ℕ) → (get_or line 0 0 ≡ hash → ⊥) → is_comment line ≡ false
no_comment [] d = refl
no_comment (b ∷ line) d = ne_eqb b hash d

pub silent_comment : (line : List ℕ) → 0 < length line → get_or line 0 0 ≡ hash → ReadAs line code.Silent
unfolding line_of
silent_comment line h e = record { is = rw (comment line h e, or-true (is_blank line)); inside = tt }

-- ---- a line by its first word

pub silent_blank : (line : List ℕ) → unindented line ≡ [] → ReadAs line code.Silent
unfolding line_of
silent_blank line e = record { is = rw (blank line e); inside = tt }

module _ {line verb rest : List ℕ} (f : FirstWord line verb rest) (s : get_or line 0 0 ≡ hash → ⊥) where
  not_silent : is_blank line ≡ false
  not_silent = not_blank line (omega (arith, some_word f))

  pub too_long : longest_call < length line → ReadAs line code.NoCall
  unfolding line_of
  too_long h = record { is = rw (not_silent, no_comment line s, lt-leb (length line) longest_call h); inside = tt }

  behind_word : drop (length verb) (unindented line) ≡ rest
  behind_word = rw f.is (drop-append_seam verb rest)

  pub read_call : length line ≤ longest_call → (r : Option Call) → Arguments (verb_of verb) rest r → ReadAs line (unwrap_or r code.NoCall)
  unfolding line_of command_in
  read_call h r m =
      let whole : Means line (or_none (command_by (verb_of verb) rest (words_of rest))) (unwrap_or r code.NoCall) =
      record { is = m.is; inside = longer (unwrap_or r code.NoCall) m.inside } in
      rw (not_silent, no_comment line s, le-leb (length line) longest_call h, f.words, behind_word) whole
    where
      longer : (call : Call) → Inside rest call → Inside line call
      longer code.Silent i = i
      longer code.NoCall i = i
      longer (code.Open n) i = i
      longer (code.Text t) i = i
      longer (code.Flat left right) i = i
      longer (code.Implication a b c) i = i
      longer (code.Ask a g) i = i
      longer (code.Page words) i = i
      longer (code.Mark j) i = i
      longer (code.Return j) i = i
      longer code.Length i = i
      longer code.Sheet i = i
      longer (code.Check digits) i = omega (arith, i, (word_short f).1)
      longer (code.Mean a) i = i
      longer (code.Screen t) i = i
