-- Theorems 4 and 5, the limits: the search never runs out of turns; it ends in a verdict exactly if it needs neither a 257th
-- world nor a 513th step; and over eight atoms or fewer it needs neither.
use mathlib.Core.List.{List, [], ◌∷◌}
use mathlib.Core.Logic.{◌⊎◌, ◌↔◌, inl, inr}
use mathlib.Core.Option.{Option, none, some}
use mathlib.Core.Path.{◌≡◌, refl, subst}
use Prim.Native.Nat.{ℕ, zero, suc, ◌+◌, ◌-◌, ◌*◌, ◌^◌, ◌≤◌, ◌<◌, zero-le}
use native.Mathlib.Nat.{le_trans, not-suc-le-zero}
use native.Mathlib.Omega.{arith}
use lib.Dec.{T, ltb}
use lib.ListN.{length, length-append}
use lib.Pow.{pow_mono}
use borrow.Author.Tests.{ltb-true, ltb-false}
use Rattle.atoms.specs.Sets.{insert}
use Rattle.atoms.proofs.Truth.{by_cond}
use Rattle.ipl.specs.Lists.{All}
use Rattle.ipl.specs.Clause.{Flat, Implication}
use Rattle.ipl.specs.Range.{world_table, step_table}
use Rattle.ipl.specs.Question.{ask}
use Rattle.ipl.specs.Search.{Step, known, Pair, first_unrealized, State, Outcome, valid, refuted, refused, unfinished, Turn, done, more}
use Rattle.ipl.specs.Search.{begin, step_at, resolve, look, go_on, start, most_turns, turn_with, turn, Reaches, here, next, NeedsNoMore, run, search}
use Rattle.ipl.specs.Claim.{StepsRight}
use Rattle.ipl.specs.Demand.{is_valid, is_refuted, is_verdict}
use Rattle.ipl.proofs.Lists.{All_map, pigeonhole}
use Rattle.ipl.proofs.Range.{ImplicationBelow}
use Rattle.ipl.proofs.Witness.{Witnessed, witnessed_count}
use Rattle.ipl.proofs.Search.{reached_standing, start_standing}

abbrev pub Within : State → Type 0
Within s = (length s.worlds ≤ world_table) × (length s.steps ≤ step_table)

-- How many turns there can be from S and W on.
unfoldable pub left : List Step → List ℕ → ℕ
left S W = (512 - length S) * 258 + (257 - length W)

-- A turn at S and W ends in a verdict with the steps S, or comes closer to the end if it stays within the limits.
abbrev pub Closer : List Step → List ℕ → Turn → Type 0
Closer S W (done o) = T (is_verdict o)
Closer S W (more s) = Within s → left s.steps s.worlds < left S W

-- What ends the search fits the tables where the state did.
abbrev pub Fits : Outcome → Type 0
Fits (valid s) = (length s.steps ≤ step_table) × (s.worlds ≡ [])
Fits (refuted s) = Within s
Fits (refused number) = Unit {0}
Fits unfinished = Unit {0}

abbrev TurnFits : Turn → Type 0
TurnFits (done o) = Fits o
TurnFits (more s) = Unit {0}

-- In a verdict, or in a refusal of the search's own.
abbrev pub Ended : Outcome → Type 0
Ended (valid s) = Unit {0}
Ended (refuted s) = Unit {0}
Ended (refused number) = (number ≡ 11) ⊎ (number ≡ 12)
Ended unfinished = ⊥

verdict_ended : (o : Outcome) → T (is_verdict o) → Ended o
unfolding is_valid is_refuted
verdict_ended (valid s) t = tt
verdict_ended (refuted s) t = tt
verdict_ended (refused number) t = absurd t
verdict_ended unfinished t = t

module _ (n : ℕ) (F : List Flat) (X : List Implication) (g : ℕ) where
  -- ---- one turn
  begin_closer : (S : List Step) (q : ℕ) (o : Option ℕ) → Closer S [] (begin (record { steps = S; worlds = []; questions = q }) o)
  unfolding begin left is_valid
  begin_closer S q none = tt
  begin_closer S q (some m) = λ h. omega arith

  resolve_closer : (R : List Flat) (S : List Step) (W : List ℕ) (q : ℕ) (p : Pair) (o : Option ℕ) → Closer S W (resolve n R (record { steps = S; worlds = W; questions = q }) p o)
  unfolding resolve left
  resolve_closer R S W q p (some m) = λ h. omega (arith, h.0, length-append W (m ∷ []))
  resolve_closer R S W q p none = λ h. omega (arith, h.1, length-append S (step_at n R p ∷ []))

  look_closer : (R : List Flat) (S : List Step) (W : List ℕ) (q : ℕ) (o : Option Pair) → Closer S W (look n R (record { steps = S; worlds = W; questions = q }) o)
  unfolding look is_valid is_refuted
  look_closer R S W q none = tt
  look_closer R S W q (some p) = resolve_closer R S W q p (ask n R (insert p.world p.implication.a) p.implication.b)

  pub turn_closer : (S : List Step) (W : List ℕ) (q : ℕ) → Closer S W (turn n F X g (record { steps = S; worlds = W; questions = q }))
  unfolding turn turn_with
  turn_closer S [] q = begin_closer S q (ask n (known F X S) 0 g)
  turn_closer S (w ∷ ws) q = look_closer (known F X S) S (w ∷ ws) q (first_unrealized (w ∷ ws) X (w ∷ ws))

  begin_fits : (S : List Step) (q : ℕ) → length S ≤ step_table → (o : Option ℕ) → TurnFits (begin (record { steps = S; worlds = []; questions = q }) o)
  unfolding begin
  begin_fits S q h none = (h, refl)
  begin_fits S q h (some m) = tt

  look_fits : (R : List Flat) (S : List Step) (W : List ℕ) (q : ℕ) → Within (record { steps = S; worlds = W; questions = q }) → (o : Option Pair)
      → TurnFits (look n R (record { steps = S; worlds = W; questions = q }) o)
  unfolding look
  look_fits R S W q h none = h
  look_fits R S W q h (some p) = go (ask n R (insert p.world p.implication.a) p.implication.b)
    where
      go : (o : Option ℕ) → TurnFits (resolve n R (record { steps = S; worlds = W; questions = q }) p o)
      go none = unfold resolve in tt
      go (some m) = unfold resolve in tt

  turn_fits : (S : List Step) (W : List ℕ) (q : ℕ) → Within (record { steps = S; worlds = W; questions = q }) → TurnFits (turn n F X g (record { steps = S; worlds = W; questions = q }))
  unfolding turn turn_with
  turn_fits S [] q h = begin_fits S q h.1 (ask n (known F X S) 0 g)
  turn_fits S (w ∷ ws) q h = look_fits (known F X S) S (w ∷ ws) q h (first_unrealized (w ∷ ws) X (w ∷ ws))

  -- ---- going on: a statement of the outcome by that of the rest, within the limits
  go_on_by : (P : Outcome → Type 0) (rest : State → Outcome) (s : State)
      → (world_table < length s.worlds → P (refused 11)) → (step_table < length s.steps → P (refused 12)) → (Within s → P (rest s)) → P (go_on rest (more s))
  unfolding go_on
  go_on_by P rest s f g k =
      by_cond P (ltb world_table (length s.worlds)) (refused 11) _ (λ e. f (ltb-true world_table (length s.worlds) e))
      (λ e. by_cond P (ltb step_table (length s.steps)) (refused 12) (rest s) (λ d. g (ltb-true step_table (length s.steps) d))
      (λ d. k (ltb-false world_table (length s.worlds) e, ltb-false step_table (length s.steps) d)))

  go_on_done : (rest : State → Outcome) (o : Outcome) → go_on rest (done o) ≡ o
  unfolding go_on
  go_on_done rest o = refl

  -- ---- it ends
  run_ends : (turns : ℕ) (s : State) → left s.steps s.worlds < turns → Ended (run n F X g turns s)
  unfolding run
  run_ends zero s h = absurd (not-suc-le-zero h)
  run_ends (suc turns) s h = go (turn n F X g s) (turn_closer s.steps s.worlds s.questions) (λ t k. run_ends turns t k)
    where
      go : (t : Turn) → Closer s.steps s.worlds t → ((t : State) → left t.steps t.worlds < turns → Ended (run n F X g turns t)) → Ended (go_on (run n F X g turns) t)
      go (done o) c ih = rw (go_on_done (run n F X g turns) o) (verdict_ended o c)
      go (more t) c ih = go_on_by Ended (run n F X g turns) t (λ _. inl refl) (λ _. inr refl) (λ w. ih t (omega (arith, c w)))

  pub search_ends : (H : List Step) → Ended (search n F X g H)
  unfolding search left
  search_ends H = run_ends most_turns (start H) (omega arith)

  -- ---- its steps and worlds fit their tables
  run_fits : (turns : ℕ) (s : State) → Within s → Fits (run n F X g turns s)
  unfolding run
  run_fits zero s h = tt
  run_fits (suc turns) s h = go (turn n F X g s) (turn_fits s.steps s.worlds s.questions h) (λ t k. run_fits turns t k)
    where
      go : (t : Turn) → TurnFits t → ((t : State) → Within t → Fits (run n F X g turns t)) → Fits (go_on (run n F X g turns) t)
      go (done o) c ih = rw (go_on_done (run n F X g turns) o) c
      go (more t) c ih = go_on_by Fits (run n F X g turns) t (λ _. tt) (λ _. tt) (ih t)

  pub search_fits : (H : List Step) → length H ≤ step_table → Fits (search n F X g H)
  unfolding search
  search_fits H h = run_fits most_turns (start H) (zero-le, h)

  -- ---- a verdict: every state reached is within the limits
  verdict_next : (turns : ℕ) (t : State) → T (is_verdict (go_on (run n F X g turns) (more t))) → Within t × T (is_verdict (run n F X g turns t))
  unfolding is_valid is_refuted
  verdict_next turns t =
      go_on_by (λ o. T (is_verdict o) → Within t × T (is_verdict (run n F X g turns t))) (run n F X g turns) t
      (λ _ v. absurd v) (λ _ v. absurd v) (λ w v. (w, v))

  verdict_within : (turns : ℕ) (s u : State) → T (is_verdict (run n F X g turns s)) → Within s → Reaches n F X g s u → Within u
  unfolding run is_valid is_refuted
  verdict_within zero s u v w r = absurd v
  verdict_within (suc turns) s u v w here = w
  verdict_within (suc turns) s u v w (next {t = t} e r) =
      let k = verdict_next turns t (subst (λ (x : Turn). T (is_verdict (go_on (run n F X g turns) x))) e v) in
      verdict_within turns t u k.1 k.0 r

  -- ---- a refusal: some state reached is not
  abbrev Exceeds : State → Outcome → Type 0
  Exceeds s (valid t) = Unit {0}
  Exceeds s (refuted t) = Unit {0}
  Exceeds s (refused number) = (u : State) × Reaches n F X g s u × (Within u → ⊥)
  Exceeds s unfinished = Unit {0}

  verdict_exceeds : (s : State) (o : Outcome) → T (is_verdict o) → Exceeds s o
  unfolding is_valid is_refuted
  verdict_exceeds s (valid t) v = tt
  verdict_exceeds s (refuted t) v = tt
  verdict_exceeds s (refused number) v = absurd v
  verdict_exceeds s unfinished v = tt

  exceeds_before : (s t : State) → turn n F X g s ≡ more t → (o : Outcome) → Exceeds t o → Exceeds s o
  exceeds_before s t e (valid u) x = tt
  exceeds_before s t e (refuted u) x = tt
  exceeds_before s t e (refused number) x = (x.0, next e x.1, x.2)
  exceeds_before s t e unfinished x = tt

  run_exceeds : (turns : ℕ) (s : State) → Exceeds s (run n F X g turns s)
  unfolding run
  run_exceeds zero s = tt
  run_exceeds (suc turns) s = go (turn n F X g s) refl (turn_closer s.steps s.worlds s.questions) (λ t. run_exceeds turns t)
    where
      go : (t : Turn) → turn n F X g s ≡ t → Closer s.steps s.worlds t → ((t : State) → Exceeds t (run n F X g turns t)) → Exceeds s (go_on (run n F X g turns) t)
      go (done o) e c ih = rw (go_on_done (run n F X g turns) o) (verdict_exceeds s o c)
      go (more t) e c ih =
          go_on_by (Exceeds s) (run n F X g turns) t
          (λ l. (t, next e here, λ w. omega (arith, w.0))) (λ l. (t, next e here, λ w. omega (arith, w.1)))
          (λ w. exceeds_before s t e (run n F X g turns t) (ih t))

  pub verdict_iff_needs_no_more : (H : List Step) → length H ≤ step_table → T (is_verdict (search n F X g H)) ↔ NeedsNoMore n F X g (start H)
  unfolding search
  verdict_iff_needs_no_more H h = (
    λ v u r. verdict_within most_turns (start H) u v (zero-le, h) r,
    λ no_more. go (run n F X g most_turns (start H)) (run_exceeds most_turns (start H)) (search_ends H) no_more,
  )
    where
      go : (o : Outcome) → Exceeds (start H) o → Ended o → NeedsNoMore n F X g (start H) → T (is_verdict o)
      go (valid s) x d f = unfold is_valid in tt
      go (refuted s) x d f = unfold is_valid is_refuted in tt
      go (refused number) x d f = absurd (x.2 (f x.0 x.1))
      go unfinished x d f = absurd d

  -- ---- at most eight atoms: there are at most 256 sets
  pub eight_atoms : All (ImplicationBelow n) X → n ≤ 8 → (H : List Step) → StepsRight n F X [] H → Witnessed n X H → NeedsNoMore n F X g (start H)
  eight_atoms okX few H h v u r =
      let s = reached_standing n F X g H okX (start H) u r (start_standing n F X g H okX h v) in
      let sets : 2 ^ n ≤ 256 = pow_mono few in (
        le_trans (pigeonhole (2 ^ n) u.worlds s.distinct (All_map u.worlds (λ M x. x.below) s.worlds)) sets,
        omega (arith, witnessed_count n X u.steps s.grown.witnessed),
      )
