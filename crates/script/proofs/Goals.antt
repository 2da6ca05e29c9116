-- Laws of the goals of a page and its author, collected word by word.
use mathlib.Core.List.{List, [], ◌∷◌, ◌++◌, append-nil, append_assoc}
use Rattle.std.specs.Prelude.{Option, None, Some, is_some, option_map, unwrap_or}
use Rattle.std.specs.Bool.{then_some}
use mathlib.Core.Path.{◌≡◌, refl, sym, ap, ◌∙◌}
use Prim.Native.Nat.{ℕ, suc, ◌+◌, ◌≤◌, ◌<◌}
use native.Mathlib.Omega.{arith}
use lib.ListN.{length, set, length-append}
use lib.Seq.{take_all, take-suc-set, take-append-le}
use Rattle.script.specs.Words.{words_of}
use Rattle.script.specs.Command.{byte_in, author_in, GoalList, authored, one_goal_more, page_in}
use denote.Ref.{Bor}
use Rattle.script.specs.Parts.{first_of, Argument}
use Rattle.script.specs.Reading.{goal_room, GoalsAre, GoalsRead, page_of, Means}
use Rattle.script.specs.declared.reading.Goals.{Goals}
use Rattle.script.specs.declared.reading.Call.TheVariants as code

-- ---- a goal more

module _ (gs : List ℕ) (t : Goals) (h : GoalsAre gs t) (g : ℕ) where
  pub goal_kept : t.count < goal_room → t.count < length t.rows
      → GoalsAre (gs ++ (g ∷ [])) (record t { count = t.count + 1; rows = set t.rows t.count g })
  goal_kept few room =
      let one_more : t.count + 1 ≡ suc t.count = omega arith in
      let size = length-append gs (g ∷ []) in
      record {
        size = omega (arith, h.size, few, size);
        first = rw (one_more, take-suc-set t.rows t.count g room, h.first, take_all goal_room gs (omega (arith, h.size, few)))
            (sym (take_all goal_room (gs ++ (g ∷ [])) (omega (arith, h.size, few, size))));
      }

  pub goal_dropped : goal_room ≤ t.count → GoalsAre (gs ++ (g ∷ [])) t
  goal_dropped full = record {
    size = omega (arith, h.size, full, length-append gs (g ∷ []));
    first = h.first ∙ sym (take-append-le goal_room gs (g ∷ []) (omega (arith, h.size, full)));
  }

-- ---- word by word

-- The goals before those of a page.
abbrev behind : List ℕ → Option GoalList → Option GoalList
behind gs o = option_map (λ p. record { author = p.author; goals = gs ++ p.goals }) o

-- The goals before the rest of the line, in the rows; with those of the rest they are all.
pub record Collected (line rest : List ℕ) (t : Goals) : Type 0 where
  pub before : List ℕ
  pub rows : GoalsAre before t
  pub all : page_in (words_of line) ≡ behind before (page_in (words_of rest))

module _ {line rest : List ℕ} {t : Goals} (h : Collected line rest t) where
  -- No goal stands there: the rest is the author.
  all_collected : first_of byte_in (words_of rest) ≡ None → page_in (words_of line) ≡ authored h.before (author_in (words_of rest))
  all_collected e = rw (h.all, last (words_of rest) e) (put_behind (author_in (words_of rest)))
    where
      last : (ws : List (List ℕ)) → first_of byte_in ws ≡ None → page_in ws ≡ authored [] (author_in ws)
      last [] e = refl
      last (w ∷ ws) e = rw e

      put_behind : (o : Option ℕ) → behind h.before (authored [] o) ≡ authored h.before o
      put_behind None = refl
      put_behind (Some a) = ap (λ (gs : List ℕ). Some (record { author = a; goals = gs })) (append-nil h.before)

  module _ (e : first_of byte_in (words_of rest) ≡ None) {o : Option ℕ} (is : o ≡ author_in (words_of rest)) where
    pub author_read : {a : ℕ} → o ≡ Some a → GoalsRead (page_in (words_of line)) (Some (record t { author = a }))
    author_read {a} f = (
      record { author = a; goals = h.before },
      all_collected e ∙ rw (← is, f),
      record { size = h.rows.size; first = h.rows.first },
      refl,
    )

  module _ {x : ℕ} {next : List ℕ} (n : Argument byte_in rest x next) where
    pub one_collected : (u : Goals) → ((gs : List ℕ) → GoalsAre gs t → GoalsAre (gs ++ (x ∷ [])) u) → Collected line next u
    one_collected u more = record {
      before = h.before ++ (x ∷ []);
      rows = more h.before h.rows;
      all = h.all ∙ rw (n.words, n.is) (joined (page_in (words_of next)));
    }
      where
        joined : (o : Option GoalList) → behind h.before (one_goal_more x o) ≡ behind (h.before ++ (x ∷ [])) o
        joined None = refl
        joined (Some p) = ap (λ (gs : List ℕ). Some (record { author = p.author; goals = gs })) (sym (append_assoc h.before (x ∷ []) p.goals))

-- ---- the call

pub page_read : (words : Bor (List ℕ)) (r : Option Goals) → GoalsRead (page_in (words_of words.now)) r
    → Means words.now (page_of (page_in (words_of words.now))) (unwrap_or (then_some (is_some r) (code.Page words)) code.NoCall)
page_read words None e = record { is = sym (ap page_of e); inside = tt }
page_read words (Some t) (p, e, h, a) = record { is = refl; inside = (p, e) }
