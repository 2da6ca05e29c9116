-- The language of scripts is what `line_of` reads, and a line is at most one call.
use mathlib.Core.Bool.{Bool, true, false, cond, ◌||◌, true≢false}
use mathlib.Core.List.{List, [], ◌∷◌, ◌++◌, map, append-nil, append_assoc}
use mathlib.Core.Logic.{◌⊎◌, inl, inr}
use Rattle.std.specs.Prelude.{Option, None, Some, option_map, option_and_then}
use mathlib.Core.Path.{◌≡◌, refl, sym, ap, ap₂, ◌∙◌, subst}
use Prim.Native.Nat.{ℕ, ◌≤◌, ◌<◌}
use native.Mathlib.Omega.{arith}
use lib.Dec.{leb}
use lib.ListN.{length, drop, replicate}
use borrow.Author.Tests.{eqb-true, leb-true, le-leb}
use Rattle.atoms.proofs.Truth.{T_or, T_true, T_false, true_T, by_cond}
use Rattle.ipl.specs.Authors.{program}
use Rattle.ipl.specs.Book.{add, add_flat, add_implication, question, set_mark, return_to, page}
use Rattle.text.specs.Text.{ascii, hex}
use Rattle.script.specs.Parts.{index_of, index_after}
use Rattle.script.specs.Words.{space, split, words_of, unindented}
use Rattle.script.specs.Numbers.{is_digit, number_below, bytes_in}
use Rattle.script.specs.Command.{Command, Line, silent, open_session, read_text, call_book, tell_length, write_sheet, check_sheet, tell_mean, screen_text, command, no_call}
use Rattle.script.specs.Command.{same, verb_of, byte_in, set_in, argument, end, only_byte, author_in, GoalList, authored, one_goal_more, goal_or, page_in, sheet_argument}
use Rattle.script.specs.Command.{command_by, command_from, command_in, hash, is_blank, is_comment, longest_call, or_none, line_of}
use Rattle.script.specs.Language.{Says, opens, reads, reads_nothing, adds_flat, adds_implication, asks, asks_by, pages, pages_by, sets_mark, returns_to}
use Rattle.script.specs.Language.{tells, writes, checks, checks_nothing, tells_mean, screens, screens_nothing, CallsAreSaid, OneCall}
use Rattle.script.specs.declared.reading.Verb.{Verb}
use Rattle.script.specs.declared.reading.Verb.TheVariants.{Open, Text, Flat, Implication, Ask, Page, Mark, Return, Length, Sheet, Check, Mean, Screen, Other}
use Rattle.script.proofs.Splitting.{words_unindented, first_word, indented, unindented_more, first, behind_first, second_word}
use Rattle.script.proofs.Hexadecimal.{hex_bytes, bytes_hex}
use Rattle.script.proofs.Verbs.{same_is, Named, named}
use Rattle.script.proofs.Silence.{not_blank}

-- ---- from a row to the definition

by_unindented : (line u : List ℕ) → unindented line ≡ u → command_in line ≡ command_from u (words_of u)
unfolding command_in
by_unindented line u e = rw (← words_unindented line, e)

-- Goals, before any other words.
goals_said : (G : List (List ℕ)) (gs : List ℕ) (ws : List (List ℕ)) → map byte_in G ≡ map Some gs
    → page_in (G ++ ws) ≡ option_map (λ p. record { author = p.author; goals = gs ++ p.goals }) (page_in ws)
goals_said [] [] ws e = same_page (page_in ws)
  where
    same_page : (o : Option GoalList) → o ≡ option_map (λ p. record { author = p.author; goals = p.goals }) o
    same_page None = refl
    same_page (Some p) = refl
goals_said [] (g ∷ gs) ws e = let z : ◌≡◌ {A = ℕ} 0 1 = cc in absurd (omega arith)
goals_said (w ∷ G) [] ws e = let z : ◌≡◌ {A = ℕ} 0 1 = cc in absurd (omega arith)
goals_said (w ∷ G) (g ∷ gs) ws e =
    let is : byte_in w ≡ Some g = cc in
    let further : map byte_in G ≡ map Some gs = cc in
    rw (is, goals_said G gs ws further) (joined (page_in ws))
  where
    joined : (o : Option GoalList) → one_goal_more g (option_map (λ p. record { author = p.author; goals = gs ++ p.goals }) o)
        ≡ option_map (λ p. record { author = p.author; goals = g ∷ (gs ++ p.goals) }) o
    joined None = refl
    joined (Some p) = refl

goals_alone : (G : List (List ℕ)) (gs : List ℕ) → map byte_in G ≡ map Some gs → page_in G ≡ Some (record { author = program; goals = gs })
goals_alone G gs e =
    ap page_in (sym (append-nil G)) ∙ goals_said G gs [] e ∙ ap (λ (gs : List ℕ). Some (record { author = program; goals = gs })) (append-nil gs)

author_alone : (A : List ℕ) (a : ℕ) → byte_in A ≡ Some a → page_in (ascii "by" ∷ A ∷ []) ≡ Some (record { author = a; goals = [] })
unfolding number_below is_digit same ascii
author_alone A a e = ap (authored []) e

goals_by : (G : List (List ℕ)) (gs A : List ℕ) (a : ℕ) → map byte_in G ≡ map Some gs → byte_in A ≡ Some a
    → page_in (G ++ (ascii "by" ∷ A ∷ [])) ≡ Some (record { author = a; goals = gs })
goals_by G gs A a e f =
    goals_said G gs (ascii "by" ∷ A ∷ []) e ∙ ap (option_map (λ p. record { author = p.author; goals = gs ++ p.goals })) (author_alone A a f)
    ∙ ap (λ (gs : List ℕ). Some (record { author = a; goals = gs })) (append-nil gs)

-- A word behind spaces, and what follows it.
indented_by : (line : List ℕ) (spaces : ℕ) (word formula : List ℕ) → line ≡ replicate spaces space ++ word ++ formula
    → unindented line ≡ unindented (word ++ formula)
indented_by line spaces word formula e = ap unindented (e ∙ append_assoc (replicate spaces space) word formula) ∙ unindented_more spaces (word ++ formula)

said_is : {line : List ℕ} {c : Command} → Says line c → command_in line ≡ Some c
unfolding command_in verb_of same ascii split words_of unindented
said_is (opens N n e f) = rw (e, f)
said_is {line} (reads spaces formula e) = by_unindented line (ascii "text " ++ formula) (indented_by line spaces (ascii "text ") formula e)
said_is {line} (reads_nothing spaces e) = by_unindented line (ascii "text") (ap unindented e ∙ unindented_more spaces (ascii "text"))
said_is (adds_flat L R left right e f g) = rw (e, f, g)
said_is (adds_implication A B C a b c e f g h) = rw (e, f, g, h)
said_is (asks G g e f) = rw (e, f)
said_is (asks_by G A g a e f h) = rw (e, f, h)
said_is (pages G gs e f) = rw (e, goals_alone G gs f)
said_is (pages_by G gs A a e f h) = rw (e, goals_by G gs A a f h)
said_is (sets_mark K j e f) = rw (e, f)
said_is (returns_to K j e f) = rw (e, f)
said_is (tells e) = rw e
said_is (writes e) = rw e
said_is (checks b bytes h e) = rw (e, hex_bytes (b ∷ bytes) h)
said_is (checks_nothing e) = rw e
said_is (tells_mean A a e f) = rw (e, f)
said_is {line} (screens spaces formula e) = by_unindented line (ascii "screen " ++ formula) (indented_by line spaces (ascii "screen ") formula e)
said_is {line} (screens_nothing spaces e) = by_unindented line (ascii "screen") (ap unindented e ∙ unindented_more spaces (ascii "screen"))

-- ---- from the definition to a row

never : {c : Command} → None ≡ Some c → ⊥
never e = let z : ◌≡◌ {A = ℕ} 0 1 = cc in omega arith

-- An argument that is taken.
record Argued (number : List ℕ → Option ℕ) (further : ℕ → List (List ℕ) → Option Command) (ws : List (List ℕ)) (c : Command) : Type 0 where
  word : List ℕ
  rest : List (List ℕ)
  value : ℕ
  words_are : ws ≡ word ∷ rest
  number_is : number word ≡ Some value
  further_is : further value rest ≡ Some c

argued : (number : List ℕ → Option ℕ) (further : ℕ → List (List ℕ) → Option Command) (ws : List (List ℕ)) (c : Command)
    → argument number further ws ≡ Some c → Argued number further ws c
argued number further [] c e = absurd (never e)
argued number further (w ∷ ws) c e = go (number w) refl e
  where
    go : (o : Option ℕ) → number w ≡ o → option_and_then (λ x. further x ws) o ≡ Some c → Argued number further (w ∷ ws) c
    go None f e = absurd (never e)
    go (Some x) f e = record { word = w; rest = ws; value = x; words_are = refl; number_is = f; further_is = e }

abbrev flat_call : ℕ → ℕ → Command
flat_call left right = call_book (add (add_flat (record { left = left; right = right })))

abbrev implication_call : ℕ → ℕ → ℕ → Command
implication_call a b c = call_book (add (add_implication (record { a = a; b = b; c = c })))

ended : (d : Command) (ws : List (List ℕ)) (c : Command) → end d ws ≡ Some c → (ws ≡ []) × (d ≡ c)
ended d [] c e = (refl, cc)
ended d (w ∷ ws) c e = absurd (never e)

-- The only argument.
record Only (call : ℕ → Command) (ws : List (List ℕ)) (c : Command) : Type 0 where
  word : List ℕ
  value : ℕ
  words_are : ws ≡ word ∷ []
  number_is : byte_in word ≡ Some value
  call_is : call value ≡ c

only : (call : ℕ → Command) (ws : List (List ℕ)) (c : Command) → option_map call (only_byte ws) ≡ Some c → Only call ws c
only call [] c e = absurd (never e)
only call (w ∷ []) c e = go (byte_in w) refl e
  where
    go : (o : Option ℕ) → byte_in w ≡ o → option_map call o ≡ Some c → Only call (w ∷ []) c
    go None f e = absurd (never e)
    go (Some x) f e = record { word = w; value = x; words_are = refl; number_is = f; call_is = cc }
only call (w ∷ v ∷ ws) c e = absurd (never e)

-- The words of a page, without an author and with one.
data PageWords (ws : List (List ℕ)) (p : GoalList) : Type 0 where
  program_page : map byte_in ws ≡ map Some p.goals → p.author ≡ program → PageWords ws p
  author_page : (G : List (List ℕ)) (A : List ℕ) → ws ≡ G ++ (ascii "by" ∷ A ∷ []) → map byte_in G ≡ map Some p.goals → byte_in A ≡ Some p.author → PageWords ws p

none_listed : {p : GoalList} → None ≡ Some p → ⊥
none_listed e = let z : ◌≡◌ {A = ℕ} 0 1 = cc in omega arith

-- A goal more, before the others.
one_more : (w : List ℕ) (g : ℕ) → byte_in w ≡ Some g → (ws : List (List ℕ)) (p : GoalList) → PageWords ws p → PageWords (w ∷ ws) (record { author = p.author; goals = g ∷ p.goals })
one_more w g f ws p (program_page is own) = program_page (ap₂ (λ (o : Option ℕ) (os : List (Option ℕ)). o ∷ os) f is) own
one_more w g f ws p (author_page G A d is a) =
    author_page (w ∷ G) A (ap (λ (ws : List (List ℕ)). w ∷ ws) d) (ap₂ (λ (o : Option ℕ) (os : List (Option ℕ)). o ∷ os) f is) a

-- The rest is an author, or there is a goal and then the rest.
author_words : (w : List ℕ) → same w (ascii "by") ≡ true → (ws : List (List ℕ)) (p : GoalList) → authored [] (only_byte ws) ≡ Some p → PageWords (w ∷ ws) p
author_words w is [] p e = absurd (none_listed e)
author_words w is (A ∷ []) p e = go (byte_in A) refl e
  where
    go : (o : Option ℕ) → byte_in A ≡ o → authored [] o ≡ Some p → PageWords (w ∷ A ∷ []) p
    go None f e = absurd (none_listed e)
    go (Some a) f e =
        let listed : record { author = a; goals = [] } ≡ p = cc in
        subst (PageWords (w ∷ A ∷ [])) listed (author_page [] A (ap (λ (w : List ℕ). w ∷ A ∷ []) (same_is w (ascii "by") (true_T is))) refl f)
author_words w is (A ∷ B ∷ ws) p e = absurd (none_listed e)

goal_words : (w : List ℕ) (ws : List (List ℕ)) (p : GoalList) → ((q : GoalList) → page_in ws ≡ Some q → PageWords ws q) → page_in (w ∷ ws) ≡ Some p → PageWords (w ∷ ws) p
goal_words w ws p rest e = by_goal (byte_in w) refl e
  where
    by_author : (b : Bool) → same w (ascii "by") ≡ b → authored [] (cond b (only_byte ws) None) ≡ Some p → PageWords (w ∷ ws) p
    by_author false is e = absurd (none_listed e)
    by_author true is e = author_words w is ws p e

    by_rest : (g : ℕ) → byte_in w ≡ Some g → (o : Option GoalList) → page_in ws ≡ o → one_goal_more g o ≡ Some p → PageWords (w ∷ ws) p
    by_rest g f None r e = absurd (none_listed e)
    by_rest g f (Some q) r e =
        let listed : record { author = q.author; goals = g ∷ q.goals } ≡ p = cc in
        subst (PageWords (w ∷ ws)) listed (one_more w g f ws q (rest q r))

    by_goal : (o : Option ℕ) → byte_in w ≡ o → goal_or o (page_in ws) (authored [] (author_in (w ∷ ws))) ≡ Some p → PageWords (w ∷ ws) p
    by_goal None f e = by_author (same w (ascii "by")) refl e
    by_goal (Some g) f e = by_rest g f (page_in ws) refl e

page_words : (ws : List (List ℕ)) (p : GoalList) → page_in ws ≡ Some p → PageWords ws p
page_words [] p e =
    let listed : record { author = program; goals = [] } ≡ p = cc in
    subst (PageWords []) listed (program_page refl refl)
page_words (w ∷ ws) p e = goal_words w ws p (page_words ws) e

module _ (line : List ℕ) where
  -- What follows the spaces and the word is empty or begins with a space.
  said_text : (call : List ℕ → Command) (word : List ℕ)
      → ((spaces : ℕ) → line ≡ replicate spaces space ++ word → Says line (call []))
      → ((spaces : ℕ) (formula : List ℕ) → line ≡ replicate spaces space ++ (word ++ (space ∷ [])) ++ formula → Says line (call formula))
      → (rest : List ℕ) → unindented line ≡ word ++ rest → (rest ≡ []) ⊎ ((more : List ℕ) × (rest ≡ space ∷ more)) → Says line (call (drop 1 rest))
  said_text call word alone with rest u s =
      let k = indented line in
      elim s [
        | inl e ↦ rw e (alone k.0 (k.1 ∙ ap (λ (l : List ℕ). replicate k.0 space ++ l) (u ∙ rw e (append-nil word))))
        | inr p ↦
            rw p.1
            (with k.0 p.0
            (k.1
            ∙ ap (λ (l : List ℕ). replicate k.0 space ++ l) (u ∙ rw p.1 (sym (append_assoc word (space ∷ []) p.0)))
            ∙ sym (append_assoc (replicate k.0 space) (word ++ (space ∷ [])) p.0)))
      ]

  -- A text behind a word.
  said_behind : (call : List ℕ → Command) (name : List ℕ)
      → ((spaces : ℕ) → line ≡ replicate spaces space ++ name → Says line (call []))
      → ((spaces : ℕ) (formula : List ℕ) → line ≡ replicate spaces space ++ (name ++ (space ∷ [])) ++ formula → Says line (call formula))
      → (verb : List ℕ) (ws : List (List ℕ)) (c : Command) → words_of line ≡ verb ∷ ws → verb ≡ name
      → Some (call (drop 1 (drop (length verb) (unindented line)))) ≡ Some c → Says line c
  said_behind call name alone with verb ws c e v h =
      let f = first line verb ws e in
      let here : call (drop 1 f.rest) ≡ c = ap (λ (l : List ℕ). call (drop 1 l)) (sym (behind_first f)) ∙ cc in
      subst (Says line) here (said_text call name alone with f.rest (f.is ∙ ap (λ (l : List ℕ). l ++ f.rest) v) f.starts)

  said_sheet : (ws : List (List ℕ)) (c : Command) → words_of line ≡ ascii "check" ∷ ws → sheet_argument ws ≡ Some c → Says line c
  unfolding hex
  said_sheet [] c e h = subst (Says line) (cc) (checks_nothing e)
  said_sheet (w ∷ ws) c e h = go (bytes_in w) refl h
    where
      go : (o : Option (List ℕ)) → bytes_in w ≡ o → option_and_then (λ bytes. end (check_sheet bytes) ws) o ≡ Some c → Says line c
      go None f g = absurd (never g)
      go (Some []) f g = let None : length w ≡ 0 = ap length (bytes_hex w [] f).0 in absurd (omega (arith, second_word line (ascii "check") w ws e))
      go (Some (b ∷ bytes)) f g =
          let z = ended (check_sheet (b ∷ bytes)) ws c g in
          let d = bytes_hex w (b ∷ bytes) f in
          subst (Says line) z.1 (checks b bytes d.1 (cc))

  said_ask : (G : List ℕ) (g : ℕ) (ws : List (List ℕ)) (c : Command) → words_of line ≡ ascii "ask" ∷ G ∷ ws → byte_in G ≡ Some g
      → option_map (λ a. call_book (question a g)) (author_in ws) ≡ Some c → Says line c
  said_ask G g [] c e f h = subst (Says line) (cc) (asks G g e f)
  said_ask G g (w ∷ ws) c e f h = go (same w (ascii "by")) refl h
    where
      go : (b : Bool) → same w (ascii "by") ≡ b → option_map (λ a. call_book (question a g)) (cond b (only_byte ws) None) ≡ Some c → Says line c
      go true is h =
          let a = only (λ a. call_book (question a g)) ws c h in
          let by : w ≡ ascii "by" = same_is w (ascii "by") (true_T is) in
          subst (Says line) a.call_is (asks_by G a.word g a.value (cc) f a.number_is)
      go false is h = absurd (never h)

  said_page : (ws : List (List ℕ)) (c : Command) → words_of line ≡ ascii "page" ∷ ws → option_map (λ p. call_book (page p.author p.goals)) (page_in ws) ≡ Some c → Says line c
  said_page ws c e h = go (page_in ws) refl h
    where
      go : (o : Option GoalList) → page_in ws ≡ o → option_map (λ p. call_book (page p.author p.goals)) o ≡ Some c → Says line c
      go None f g = absurd (never g)
      go (Some p) f g = by_words (page_words ws p f)
        where
          by_words : PageWords ws p → Says line c
          by_words (program_page is own) = subst (Says line) (cc) (pages ws p.goals e is)
          by_words (author_page G A d is a) = subst (Says line) (cc) (pages_by G p.goals A p.author (e ∙ ap (λ (ws : List (List ℕ)). ascii "page" ∷ ws) d) is a)

  said_by : (b : Verb) (verb : List ℕ) (ws : List (List ℕ)) (c : Command) → words_of line ≡ verb ∷ ws → Named verb b
      → command_by b (drop (length verb) (unindented line)) ws ≡ Some c → Says line c
  unfolding ascii
  said_by Open verb ws c e v h =
      let n = only open_session ws c h in
      subst (Says line) n.call_is (opens n.word n.value (cc) n.number_is)
  said_by Text verb ws c e v h = said_behind read_text (ascii "text") reads_nothing reads verb ws c e v h
  said_by Flat verb ws c e v h =
      let left = argued set_in (λ left. argument set_in (λ right. end (flat_call left right))) ws c h in
      let right = argued set_in (λ right. end (flat_call left.value right)) left.rest c left.further_is in
      let z = ended (flat_call left.value right.value) right.rest c right.further_is in
      subst (Says line) z.1 (adds_flat left.word right.word left.value right.value (cc) left.number_is right.number_is)
  said_by Implication verb ws c e v h =
      let x = argued byte_in (λ x. argument byte_in (λ y. argument byte_in (λ z. end (implication_call x y z)))) ws c h in
      let y = argued byte_in (λ y. argument byte_in (λ z. end (implication_call x.value y z))) x.rest c x.further_is in
      let z = argued byte_in (λ z. end (implication_call x.value y.value z)) y.rest c y.further_is in
      let last = ended (implication_call x.value y.value z.value) z.rest c z.further_is in
      subst (Says line) last.1
      (adds_implication x.word y.word z.word x.value y.value z.value (cc) x.number_is y.number_is z.number_is)
  said_by Ask verb ws c e v h =
      let g = argued byte_in (λ g further. option_map (λ a. call_book (question a g)) (author_in further)) ws c h in
      said_ask g.word g.value g.rest c (cc) g.number_is g.further_is
  said_by Page verb ws c e v h = said_page ws c (cc) h
  said_by Mark verb ws c e v h =
      let j = only (λ j. call_book (set_mark j)) ws c h in
      subst (Says line) j.call_is (sets_mark j.word j.value (cc) j.number_is)
  said_by Return verb ws c e v h =
      let j = only (λ j. call_book (return_to j)) ws c h in
      subst (Says line) j.call_is (returns_to j.word j.value (cc) j.number_is)
  said_by Length verb ws c e v h = let z = ended tell_length ws c h in subst (Says line) z.1 (tells (cc))
  said_by Sheet verb ws c e v h = let z = ended write_sheet ws c h in subst (Says line) z.1 (writes (cc))
  said_by Check verb ws c e v h = said_sheet ws c (cc) h
  said_by Mean verb ws c e v h =
      let a = only tell_mean ws c h in
      subst (Says line) a.call_is (tells_mean a.word a.value (cc) a.number_is)
  said_by Screen verb ws c e v h = said_behind screen_text (ascii "screen") screens_nothing screens verb ws c e v h
  said_by Other verb ws c e v h = absurd (never h)

  is_said : (c : Command) → command_in line ≡ Some c → Says line c
  unfolding command_in
  is_said c h = go (words_of line) refl h
    where
      go : (ws : List (List ℕ)) → words_of line ≡ ws → command_from (unindented line) ws ≡ Some c → Says line c
      go [] e h = absurd (never h)
      go (verb ∷ ws) e h = said_by (verb_of verb) verb ws c e (named verb) h

-- ---- silent lines are no calls

blank_is_none : (line : List ℕ) → is_blank line ≡ true → command_in line ≡ None
unfolding words_of split
blank_is_none line e = by_unindented line [] (go (unindented line) (not_blank line))
  where
    go : (u : List ℕ) → (0 < length u → is_blank line ≡ false) → u ≡ []
    go [] h = refl
    go (x ∷ u) h = absurd (true≢false (sym e ∙ h (omega arith)))

comment_is_none : (line : List ℕ) → is_comment line ≡ true → command_in line ≡ None
unfolding unindented index_of index_after verb_of same ascii
comment_is_none [] e = absurd (true≢false (sym e))
comment_is_none (b ∷ line) e =
    let other = first_word (hash ∷ line) (omega arith) in
    rw (eqb-true b hash e) (by_unindented (hash ∷ line) (hash ∷ line) refl ∙ rw other)

not_silent : (line : List ℕ) (c : Command) → command_in line ≡ Some c → is_blank line || is_comment line ≡ false
not_silent line c e = T_false (is_blank line || is_comment line) (λ t. elim (T_or (is_blank line) (is_comment line) t) [
  | inl b ↦ absurd (never (sym (blank_is_none line (T_true (is_blank line) b)) ∙ e))
  | inr b ↦ absurd (never (sym (comment_is_none line (T_true (is_comment line) b)) ∙ e))
])

-- ---- the theorems

command_is : (o : Option Command) (c : Command) → or_none o ≡ command c → o ≡ Some c
command_is None c e = let z : ◌≡◌ {A = ℕ} 0 1 = cc in absurd (omega arith)
command_is (Some d) c e = cc

read_is_said : (line : List ℕ) (c : Command) → line_of line ≡ command c → Says line c × (length line ≤ longest_call)
unfolding line_of
read_is_said line c =
    by_cond Said (is_blank line || is_comment line) silent (cond (leb (length line) longest_call) (or_none (command_in line)) no_call)
    (λ _ e. let z : ◌≡◌ {A = ℕ} 0 1 = cc in absurd (omega arith))
    (λ _. by_cond Said (leb (length line) longest_call) (or_none (command_in line)) no_call
    (λ short e. (is_said line c (command_is (command_in line) c e), leb-true (length line) longest_call short))
    (λ _ e. let z : ◌≡◌ {A = ℕ} 0 1 = cc in absurd (omega arith)))
  where
    Said : Line → Type 0
    Said l = l ≡ command c → Says line c × (length line ≤ longest_call)

pub calls_are_said : CallsAreSaid
unfolding line_of
calls_are_said line c =
    (read_is_said line c, λ s. rw (not_silent line c (said_is s.0), le-leb (length line) longest_call s.1, said_is s.0))

pub one_call : OneCall
one_call line c d s t = let e = said_is s in let f = said_is t in cc
