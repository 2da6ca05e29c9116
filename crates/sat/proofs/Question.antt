-- The search's answers are those of the definition: the models of what is given are the numbers that counter the question.
use Rattle.std.proofs.Common.{◌≡◌, ℕ, ◌^◌, ◌<◌, ◌≤◌, min, Bool, true, false, not, T, List, sym, refl, ap, subst, lt_of_lt_of_le, arith, T_not, pow_mono}
use Rattle.std.specs.Prelude as std
use Rattle.std.specs.Option.{is_some}
use mathlib.Core.Bool.{false≢true}
use mathlib.Core.Option.{Option, none, some}
use native.Mathlib.Decide.{dec_lt, ℕ_discrete}
use lib.Dec.{not_T}
use Rattle.atoms.specs.Sets.{bit_at, has, limit, union, minus, meets}
use Rattle.atoms.specs.Words.{num, every_atom, single_or_empty, below}
use Rattle.atoms.proofs.Truth.{true_T, false_T}
use Rattle.atoms.proofs.Bits.{bit_le, bit_one, bit_past, lt_of_bits}
use Rattle.atoms.proofs.Members.{has_bit, bit_has, has_past, within_bits, bits_within}
use Rattle.atoms.proofs.Machine.{every_atom_lem, below_in, below_out, single_bits}
use Rattle.ipl.specs.Question.{ask, Counters}
use Rattle.ipl.specs.Search.{is_none}
use Rattle.ipl.proofs.Question.{Answers, ask_right, ask_by}
use Rattle.sat.specs.Table.{clauses, AllHold, Apart}
use Rattle.atoms.specs.declared.AtomSet.{AtomSet}
use Rattle.sat.specs.Answer.{answer_of}
use Rattle.sat.specs.Descent.{Base, Model, Told}
use Rattle.sat.specs.declared.known.Partial.{Partial}
use Rattle.sat.proofs.Table.{union_bits, minus_bits, single_other, all_hold_clauses}
use Rattle.sat.proofs.Knowledge.{clash}

-- The question's n, given atoms and asked atom, with the set of what must be lacked.
module _ (left right : List ℕ) (count n given asked : ℕ) (past lacked : ℕ) (ep : past ≡ minus every_atom (below n)) (el : lacked ≡ union past (single_or_empty asked)) where
  past_bits : (i : ℕ) → i < limit → min n limit ≤ i → bit_at lacked i ≡ 1
  past_bits i l h = omega (arith, union_bits past (single_or_empty asked) lacked el i, minus_bits every_atom (below n) past ep i, every_atom_lem i l, below_out n i h, bit_le (single_or_empty asked) i)

  asked_bit : asked < limit → bit_at lacked asked ≡ 1
  asked_bit l = omega (arith, union_bits past (single_or_empty asked) lacked el asked, ap (λ (z : ℕ). bit_at z asked) (single_bits asked l), bit_one asked, bit_le past asked)

  -- Below n, only the asked atom is lacked.
  lacked_apart : (m : ℕ) → m < 2 ^ min n limit → T (not (has m asked)) → Apart lacked m
  lacked_apart m h t i = elim (dec_lt i (min n limit)) [
    | no k ↦ omega (arith, bit_past (min n limit) m i h (omega arith), bit_le lacked i)
    | yes k ↦ elim (ℕ_discrete asked i) [
      | yes d ↦ omega (arith, bit_le lacked i, bit_le m i, ap (bit_at m) d, absent)
      | no d ↦ omega (arith, bit_le m i, union_bits past (single_or_empty asked) lacked el i, minus_bits every_atom (below n) past ep i, below_in n i k, bit_le every_atom i, single_other asked i d)
    ]
  ]
    where
      absent : bit_at m asked < 1
      absent = elim (dec_lt (bit_at m asked) 1) [ yes z ↦ z | no z ↦ absurd (T_not (has m asked) t (bit_has m asked (omega (arith, bit_le m asked)))) ]

  counters_model : (m : ℕ) → Counters (min n limit) (clauses left right count) given asked m → Model (AllHold left right count) given lacked m
  counters_model m c = record {
    below = lt_of_lt_of_le c.below (pow_mono (omega arith));
    extends = record { includes = within_bits given m c.includes; avoids = lacked_apart m c.below c.lacks };
    holds = (all_hold_clauses left right m count).1 c.satisfied;
  }

  model_counters : (m : ℕ) → Model (AllHold left right count) given lacked m → Counters (min n limit) (clauses left right count) given asked m
  model_counters m w = record {
    below = lt_of_bits (min n limit) m (λ i h. elim (dec_lt i limit) [
      | yes l ↦ omega (arith, past_bits i l h, w.extends.avoids i)
      | no l ↦ bit_past limit m i w.below (omega arith)
    ]);
    includes = bits_within given m w.extends.includes;
    lacks = not_T (has m asked) (λ t. elim (dec_lt asked limit) [
      | yes l ↦ omega (arith, asked_bit l, has_bit m asked t, w.extends.avoids asked)
      | no l ↦ false_T (has_past limit m asked w.below (omega arith)) t
    ]);
    satisfied = (all_hold_clauses left right m count).0 w.holds;
  }

-- ---- the search's answers at its start

module _ (left right : List ℕ) (count n given asked : ℕ) (p : Partial) (start : Base n given asked p) where
  counters_start : (m : ℕ) → Counters (min n limit) (clauses left right count) given asked m → Model (AllHold left right count) (num p.has) (num p.lacks) m
  counters_start m c = subst (λ (y : ℕ). Model (AllHold left right count) y (num p.lacks) m) (sym start.has_is)
      (counters_model left right count n given asked (minus every_atom (below n)) (num p.lacks) refl start.lacks_is m c)

  start_counters : (m : ℕ) → Model (AllHold left right count) (num p.has) (num p.lacks) m → Counters (min n limit) (clauses left right count) given asked m
  start_counters m w = model_counters left right count n given asked (minus every_atom (below n)) (num p.lacks) refl start.lacks_is m
      (subst (λ (y : ℕ). Model (AllHold left right count) y (num p.lacks) m) start.has_is w)

  pub settled : (a : std.Option AtomSet) → Told (AllHold left right count) p true a → answer_of a ≡ ask (min n limit) (clauses left right count) given asked
  settled std.None f = sym (ask_by (min n limit) (clauses left right count) given asked none (λ m c. f m (counters_start m c)))
  settled (std.Some s) w =
      sym (ask_by (min n limit) (clauses left right count) given asked (some (num s)) (start_counters (num s) w.member, λ k c. w.least k (counters_start k c)))

  -- Any model is enough for no.
  pub decided : (a : std.Option AtomSet) → Told (AllHold left right count) p false a → is_none (answer_of a) ≡ is_none (ask (min n limit) (clauses left right count) given asked)
  unfolding is_none
  decided std.None f = ap is_none (settled std.None f)
  decided (std.Some s) w = go (ask (min n limit) (clauses left right count) given asked) (ask_right (min n limit) (clauses left right count) given asked)
    where
      go : (o : Option ℕ) → Answers (min n limit) (clauses left right count) given asked o → is_none (some (num s)) ≡ is_none o
      go none h = absurd (h (num s) (start_counters (num s) w))
      go (some k) h = refl

-- The test of the code.
pub no_model : (m : std.Option AtomSet) (r : Bool) → is_some m ≡ not r → r ≡ is_none (answer_of m)
unfolding is_none
no_model std.None true e = refl
no_model std.None false e = absurd (false≢true e)
no_model (std.Some s) true e = absurd (false≢true (sym e))
no_model (std.Some s) false e = refl

-- What must be had and lacked at once is in no set that counters.
pub contrary : (left right : List ℕ) (count n given asked : ℕ) → meets given (union (minus every_atom (below n)) (single_or_empty asked)) ≡ true
    → none ≡ ask (min n limit) (clauses left right count) given asked
contrary left right count n given asked e =
    sym (ask_by (min n limit) (clauses left right count) given asked none (λ m c.
    clash _ _ m (true_T e) (counters_model left right count n given asked _ _ refl refl m c).extends))
