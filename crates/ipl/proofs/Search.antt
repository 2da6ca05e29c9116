-- Theorem 4, the outcomes: valid comes with a derivation; refuted with worlds that are right and satisfy every clause held;
-- the steps are right in order, those held before first.
use mathlib.Core.Bool.{false, not}
use mathlib.Core.List.{List, [], ◌∷◌, ◌++◌, map, append_assoc, append-nil}
use mathlib.Core.Option.{Option, none, some}
use mathlib.Core.Path.{◌≡◌, refl, sym, ap, ◌∙◌, subst}
use Prim.Native.Nat.{ℕ, zero, suc, ◌^◌, ◌<◌, zero-le, suc-le-suc}
use native.Mathlib.Nat.{zero-add}
use native.Mathlib.Omega.{arith}
use lib.Dec.{T, eqb, ltb, eqb_refl}
use lib.ListN.{length, get_or}
use Rattle.atoms.specs.Sets.{has, insert, within}
use Rattle.atoms.proofs.Truth.{T_inl, T_inr, false_T, by_cond}
use Rattle.atoms.proofs.Members.{within_has, has_within, within_refl, has_insert, insert_lt}
use Rattle.ipl.specs.Lists.{All, Distinct}
use Rattle.ipl.specs.Clause.{Flat, Implication, satisfies, realizes, beyond}
use Rattle.ipl.specs.Range.{world_table, step_table}
use Rattle.ipl.specs.Question.{ask, Counters}
use Rattle.ipl.specs.Search.{Step, implication_at, clause_of, known, Pair, first_unrealized, is_none, State, Outcome, valid, refuted, refused, unfinished, Turn, done, more}
use Rattle.ipl.specs.Search.{begin, step_at, resolve, look, go_on, start, most_turns, turn_with, turn, Reaches, here, next, run, search}
use Rattle.ipl.specs.Claim.{StepRight, StepsRight, Derivation, WorldsRight}
use Rattle.ipl.proofs.Lists.{All_at, All_of, All_map, All_zip, All_append, All_left, All_right, at_any, distinct_snoc}
use Rattle.ipl.proofs.Range.{ImplicationBelow}
use Rattle.ipl.proofs.Clause.{beyond_of, Unrealized, unrealized, learned_fails}
use Rattle.ipl.proofs.Question.{ask_some_iff}
use Rattle.ipl.proofs.Steps.{steps_snoc}
use Rattle.ipl.proofs.Turn.{drop_proves, drop_part, First, first_right}
use Rattle.ipl.proofs.Witness.{Witnessed, witnessed_snoc}

-- The search over n atoms, the clauses F and X and the goal g, from the held steps H.
module _ (n : ℕ) (F : List Flat) (X : List Implication) (g : ℕ) (H : List Step) where
  -- All steps S, at any time: right, those held before first, and witnessed.
  pub record Grown (S : List Step) : Type 0 where
    pub steps : StepsRight n F X [] S
    pub new : List Step
    pub held_first : S ≡ H ++ new
    pub witnessed : Witnessed n X S

  -- A world M over the first world w, after the steps S.
  pub record World (S : List Step) (w M : ℕ) : Type 0 where
    pub below : M < 2 ^ n
    pub includes : T (within w M)
    pub satisfied : All (λ f. T (satisfies M f)) (known F X S)

  -- Where the search can stand.
  pub record Standing (S : List Step) (W : List ℕ) : Type 0 where
    pub grown : Grown S
    pub worlds : All (World S (get_or W 0 0)) W
    pub lacks : 0 < length W → T (not (has (get_or W 0 0) g))
    pub distinct : Distinct W

  -- What it can end in.
  pub record Valid (s : State) : Type 0 where
    pub grown : Grown s.steps
    pub derivation : Derivation n F X g s.steps

  pub record Refuted (s : State) : Type 0 where
    pub grown : Grown s.steps
    pub below : All (λ M. M < 2 ^ n) s.worlds
    pub right : WorldsRight F X g s.worlds
    pub satisfied : All (λ M. All (λ f. T (satisfies M f)) (known F X s.steps)) s.worlds

  abbrev pub OutcomeRight : Outcome → Type 0
  OutcomeRight (valid s) = Valid s
  OutcomeRight (refuted s) = Refuted s
  OutcomeRight (refused number) = Unit {0}
  OutcomeRight unfinished = Unit {0}

  abbrev pub TurnRight : Turn → Type 0
  TurnRight (done o) = OutcomeRight o
  TurnRight (more s) = Standing s.steps s.worlds

  -- ---- point 1
  begin_right : (S : List Step) (q : ℕ) → Standing S [] → (o : Option ℕ) → ask n (known F X S) 0 g ≡ o → TurnRight (begin (record { steps = S; worlds = []; questions = q }) o)
  unfolding begin
  begin_right S q h none e = record { grown = h.grown; derivation = record { steps = h.grown.steps; goal = e } }
  begin_right S q h (some m) e =
      let c = ((ask_some_iff n (known F X S) 0 g m).0 e).0 in
      record {
        grown = h.grown;
        worlds = (record { below = c.below; includes = within_refl m; satisfied = c.satisfied }, tt);
        lacks = λ _. c.lacks;
        distinct = (tt, tt);
      }

  module _ (okX : All (ImplicationBelow n) X) (S : List Step) (w : ℕ) (ws : List ℕ) (q : ℕ) (h : Standing S (w ∷ ws)) where
    -- ---- the pair of point 2
    module _ (p : Pair) (fp : First (w ∷ ws) X (w ∷ ws) (some p)) where
      pair_world : World S w p.world
      pair_world = subst (World S w) fp.0.2 (All_at (World S w) (w ∷ ws) 0 h.worlds fp.0.0 fp.0.1)

      pair_number : p.number < length X
      pair_number = omega (arith, fp.2.1, fp.2.2)

      pair_implication : implication_at X p.number ≡ p.implication
      pair_implication = ap (implication_at X) (fp.2.1 ∙ zero-add fp.2.0) ∙ fp.2.3

      pair_unrealized : Unrealized (w ∷ ws) p.world p.implication
      pair_unrealized = unrealized (w ∷ ws) p.world p.implication fp.1

      pair_below : insert p.world p.implication.a < 2 ^ n
      pair_below =
          insert_lt n p.world p.implication.a pair_world.below
          (subst (ImplicationBelow n) pair_implication (All_at (ImplicationBelow n) X _ okX p.number pair_number)).a

      -- ---- point 3: the new world
      module _ (m : ℕ) (c : Counters n (known F X S) (insert p.world p.implication.a) p.implication.b m) where
        new_has : (j : ℕ) → T (has (insert p.world p.implication.a) j) → T (has m j)
        new_has j t = within_has (insert p.world p.implication.a) m c.includes j t

        new_includes : T (within p.world m)
        new_includes =
            has_within p.world m (λ j t. new_has j (rw (has_insert p.world p.implication.a j) (T_inl (has p.world j) (eqb p.implication.a j) t)))

        new_has_a : T (has m p.implication.a)
        new_has_a =
            let a : ℕ = p.implication.a in
            new_has a (rw (has_insert p.world a a) (T_inr (has p.world a) (eqb a a) (eqb_refl a)))

        -- It is none of the worlds: else the pair were realized.
        new_differs : All (λ y. y ≡ m → ⊥) (w ∷ ws)
        new_differs =
            let u = pair_unrealized in
            let i : Implication = p.implication in
            All_of (λ y. y ≡ m → ⊥) (w ∷ ws) 0 (λ k l e.
            false_T u.none_beyond (at_any (beyond i p.world) (w ∷ ws) 0 k l
            (subst (λ (x : ℕ). T (beyond i p.world x)) (sym e) (beyond_of i p.world m u.lacks_a new_includes new_has_a c.lacks))))

        world_joined : Standing S ((w ∷ ws) ++ (m ∷ []))
        world_joined = record {
          grown = h.grown;
          worlds = All_append (World S w) (w ∷ ws) (m ∷ []) h.worlds (
            record {
              below = c.below;
              includes = has_within w m (λ j t. within_has p.world m new_includes j (within_has w p.world pair_world.includes j t));
              satisfied = c.satisfied;
            },
            tt,
          );
          lacks = λ _. h.lacks (suc-le-suc zero-le);
          distinct = distinct_snoc (w ∷ ws) m h.distinct new_differs;
        }

      -- ---- point 4: the new step
      module _ (e : ask n (known F X S) (insert p.world p.implication.a) p.implication.b ≡ none) where
        dropped : ((step_at n (known F X S) p).assumed < 2 ^ n) × (ask n (known F X S) (step_at n (known F X S) p).assumed p.implication.b ≡ none)
        unfolding step_at
        dropped = drop_proves n (known F X S) p.implication.b n 0 (insert p.world p.implication.a) (pair_below, e)

        step_right : StepRight n F X S (step_at n (known F X S) p)
        unfolding step_at
        step_right = record {
          number = pair_number;
          below = dropped.0;
          proves = subst (λ (i : Implication). ask n (known F X S) (step_at n (known F X S) p).assumed i.b ≡ none) (sym pair_implication) dropped.1;
        }

        step_fails : satisfies p.world (clause_of X (step_at n (known F X S) p)) ≡ false
        unfolding clause_of step_at
        step_fails =
            let A : ℕ = (step_at n (known F X S) p).assumed in
            rw pair_implication
            (learned_fails p.world A p.implication pair_unrealized.lacks_c
            (drop_part (λ B. is_none (ask n (known F X S) B p.implication.b)) n 0 (insert p.world p.implication.a)))

        world_satisfies : All (λ f. T (satisfies p.world f)) (map (clause_of X) S)
        unfolding known
        world_satisfies = All_right (λ f. T (satisfies p.world f)) F (map (clause_of X) S) pair_world.satisfied

        step_joined : Standing (S ++ (step_at n (known F X S) p ∷ [])) []
        step_joined =
            let s : Step = step_at n (known F X S) p in
            record {
              grown = record {
                steps = steps_snoc n F X [] S s h.grown.steps step_right;
                new = h.grown.new ++ (s ∷ []);
                held_first = ap (λ T. T ++ (s ∷ [])) h.grown.held_first ∙ append_assoc H h.grown.new (s ∷ []);
                witnessed = witnessed_snoc n X S s p.world h.grown.witnessed pair_world.below world_satisfies step_fails;
              };
              worlds = tt;
              lacks = λ l. absurd (omega arith);
              distinct = tt;
            }

      resolve_right : (o : Option ℕ) → ask n (known F X S) (insert p.world p.implication.a) p.implication.b ≡ o
          → TurnRight (resolve n (known F X S) (record { steps = S; worlds = w ∷ ws; questions = q }) p o)
      unfolding resolve
      resolve_right (some m) e = world_joined m ((ask_some_iff n (known F X S) (insert p.world p.implication.a) p.implication.b m).0 e).0
      resolve_right none e = step_joined e

    flats_satisfied : (M : ℕ) → World S w M → All (λ f. T (satisfies M f)) F
    unfolding known
    flats_satisfied M x = All_left (λ f. T (satisfies M f)) F (map (clause_of X) S) x.satisfied

    look_right : (o : Option Pair) → First (w ∷ ws) X (w ∷ ws) o → TurnRight (look n (known F X S) (record { steps = S; worlds = w ∷ ws; questions = q }) o)
    unfolding look
    look_right none f = record {
      grown = h.grown;
      below = All_map (w ∷ ws) (λ M x. x.below) h.worlds;
      right = record {
        distinct = h.distinct;
        refuting = record {
          some = suc-le-suc zero-le;
          each = All_map (w ∷ ws) (λ M x. record { includes = x.0.includes; flats = flats_satisfied M x.0; implications = x.1 })
              (All_zip (World S w) (λ M. All (λ i. T (realizes (w ∷ ws) M i)) X) (w ∷ ws) h.worlds f);
          lacks = h.lacks (suc-le-suc zero-le);
        };
      };
      satisfied = All_map (w ∷ ws) (λ M x. x.satisfied) h.worlds;
    }
    look_right (some p) f = resolve_right p f (ask n (known F X S) (insert p.world p.implication.a) p.implication.b) refl

  -- ---- the whole
  module _ (okX : All (ImplicationBelow n) X) where
    turn_right : (S : List Step) (W : List ℕ) (q : ℕ) → Standing S W → TurnRight (turn n F X g (record { steps = S; worlds = W; questions = q }))
    unfolding turn turn_with
    turn_right S [] q h = begin_right S q h (ask n (known F X S) 0 g) refl
    turn_right S (w ∷ ws) q h = look_right okX S w ws q h (first_unrealized (w ∷ ws) X (w ∷ ws)) (first_right (w ∷ ws) X (w ∷ ws))

    -- Every state that the points lead to, whatever the limits.
    pub reached_standing : (s u : State) → Reaches n F X g s u → Standing s.steps s.worlds → Standing u.steps u.worlds
    reached_standing s u here h = h
    reached_standing s u (next {t = t} e r) h = reached_standing t u r (subst TurnRight e (turn_right s.steps s.worlds s.questions h))

    go_on_right : (rest : State → Outcome) → ((s : State) → Standing s.steps s.worlds → OutcomeRight (rest s)) → (t : Turn) → TurnRight t → OutcomeRight (go_on rest t)
    unfolding go_on
    go_on_right rest ih (done o) h = h
    go_on_right rest ih (more s) h =
        by_cond OutcomeRight (ltb world_table (length s.worlds)) (refused 11) _ (λ _. tt)
        (λ _. by_cond OutcomeRight (ltb step_table (length s.steps)) (refused 12) (rest s) (λ _. tt) (λ _. ih s h))

    run_right : (turns : ℕ) (s : State) → Standing s.steps s.worlds → OutcomeRight (run n F X g turns s)
    unfolding run
    run_right zero s h = tt
    run_right (suc turns) s h =
        go_on_right (run n F X g turns) (λ t k. run_right turns t k) (turn n F X g s) (turn_right s.steps s.worlds s.questions h)

    pub start_standing : StepsRight n F X [] H → Witnessed n X H → Standing H []
    start_standing h v = record {
      grown = record { steps = h; new = []; held_first = sym (append-nil H); witnessed = v };
      worlds = tt;
      lacks = λ l. absurd (omega arith);
      distinct = tt;
    }

    pub search_right : StepsRight n F X [] H → Witnessed n X H → OutcomeRight (search n F X g H)
    unfolding search
    search_right h v = run_right most_turns (start H) (start_standing h v)
