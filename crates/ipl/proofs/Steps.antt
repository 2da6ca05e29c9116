-- Right steps: they stay right under more clauses, their clauses are forced, and a derivation's goal is forced at the root
-- of every model of the clauses (source 000, Proposition 1).
use mathlib.Core.List.{List, [], ◌∷◌, ◌++◌, map, append_assoc, append-nil}
use mathlib.Core.Path.{◌≡◌, refl, sym, ap, ap₂, ◌∙◌, subst}
use Prim.Native.Nat.{ℕ, ◌≤◌, ◌^◌, ◌<◌}
use native.Mathlib.Omega.{arith}
use lib.Dec.{T, ltb, lt→ltb}
use lib.ListN.{length, length-append, get_or-append}
use lib.Pow.{pow_pos}
use Rattle.atoms.specs.Sets.{single}
use Rattle.atoms.proofs.Truth.{T_and, false_T}
use Rattle.atoms.proofs.Members.{has_empty, minus_lt}
use Rattle.ipl.specs.Lists.{All}
use Rattle.ipl.specs.Clause.{bot, Flat, Implication, satisfies, learned}
use Rattle.ipl.specs.Range.{set_in_range}
use Rattle.ipl.specs.Search.{Step, step_in_range, implication_at, clause_of, known}
use Rattle.ipl.specs.Kripke.{Model, IsModel, forces_atom, ForcesFlat, ForcesImplication}
use Rattle.ipl.specs.Claim.{Countermodel, StepRight, StepsRight, Derivation}
use Rattle.ipl.proofs.Lists.{All_at, All_map, All_zip, All_append, All_left, All_right, map_snoc}
use Rattle.ipl.proofs.Range.{AtomOrBot, FlatBelow, ImplicationBelow, one_below}
use Rattle.ipl.proofs.Question.{ask_more}
use Rattle.ipl.proofs.Soundness.{consequence_forced, learned_forced}

abbrev no_implication : Implication
no_implication = record { a = 0; b = 0; c = 0 }

pub known_snoc : (F : List Flat) (X : List Implication) (P : List Step) (s : Step) → known F X (P ++ (s ∷ [])) ≡ known F X P ++ (clause_of X s ∷ [])
unfolding known
known_snoc F X P s = ap (λ r. F ++ r) (map_snoc (clause_of X) P s) ∙ sym (append_assoc F (map (clause_of X) P) (clause_of X s ∷ []))

-- ---- one more step

pub steps_snoc : (n : ℕ) (F : List Flat) (X : List Implication) (P S : List Step) (s : Step)
    → StepsRight n F X P S → StepRight n F X (P ++ S) s → StepsRight n F X P (S ++ (s ∷ []))
steps_snoc n F X P [] s h k = (subst (λ Q. StepRight n F X Q s) (append-nil P) k, tt)
steps_snoc n F X P (x ∷ S) s h k =
    (h.0, steps_snoc n F X (P ++ (x ∷ [])) S s h.1 (subst (λ Q. StepRight n F X Q s) (sym (append_assoc P (x ∷ []) S)) k))

pub right_steps_in_range : (n : ℕ) (F : List Flat) (X : List Implication) (P S : List Step) → StepsRight n F X P S → All (λ s. T (step_in_range n (length X) s)) S
unfolding step_in_range set_in_range
right_steps_in_range n F X P [] h = tt
right_steps_in_range n F X P (s ∷ S) h = (
  T_and (ltb s.number (length X)) (ltb s.assumed (2 ^ n)) (lt→ltb s.number (length X) h.0.number) (lt→ltb s.assumed (2 ^ n) h.0.below),
  right_steps_in_range n F X (P ++ (s ∷ [])) S h.1,
)

pub step_numbers : (n : ℕ) (F : List Flat) (X : List Implication) (P S : List Step) → StepsRight n F X P S → All (λ s. s.number < length X) S
step_numbers n F X P [] h = tt
step_numbers n F X P (s ∷ S) h = (h.0.number, step_numbers n F X (P ++ (s ∷ [])) S h.1)

-- ---- more flat clauses G and more implications Y

module _ (n : ℕ) (F : List Flat) (X : List Implication) (G : List Flat) (Y : List Implication) where
  pub clauses_same : (P : List Step) → All (λ s. s.number < length X) P → map (clause_of (X ++ Y)) P ≡ map (clause_of X) P
  unfolding clause_of
  clauses_same [] h = refl
  clauses_same (s ∷ P) h =
      ap₂ (λ (f : Flat) (r : List Flat). f ∷ r)
      (ap (λ (i : Implication). learned i s.assumed) (get_or-append X Y no_implication s.number h.0)) (clauses_same P h.1)

  fewer : (P : List Step) → All (λ s. s.number < length X) P → (m : ℕ)
      → All (λ f. T (satisfies m f)) (known (F ++ G) (X ++ Y) P) → All (λ f. T (satisfies m f)) (known F X P)
  unfolding known
  fewer P h m k =
      let Q : Flat → Type 0 = λ f. T (satisfies m f) in
      All_append Q F (map (clause_of X) P) (All_left Q F G (All_left Q (F ++ G) (map (clause_of (X ++ Y)) P) k))
      (subst (All Q) (clauses_same P h) (All_right Q (F ++ G) (map (clause_of (X ++ Y)) P) k))

  step_more : (P : List Step) (s : Step) → All (λ s. s.number < length X) P → StepRight n F X P s → StepRight n (F ++ G) (X ++ Y) P s
  step_more P s h r = record {
    number = omega (arith, length-append X Y, r.number);
    below = r.below;
    proves = rw (get_or-append X Y no_implication s.number r.number)
        (ask_more n (known F X P) (known (F ++ G) (X ++ Y) P) s.assumed (implication_at X s.number).b (fewer P h) r.proves);
  }

  pub steps_more : (P S : List Step) → All (λ s. s.number < length X) P → StepsRight n F X P S → StepsRight n (F ++ G) (X ++ Y) P S
  steps_more P [] h k = tt
  steps_more P (s ∷ S) h k =
      (step_more P s h k.0, steps_more (P ++ (s ∷ [])) S (All_append (λ s. s.number < length X) P (s ∷ []) h (k.0.number, tt)) k.1)

-- ---- what the clauses of right steps inherit

module _ (n : ℕ) (F : List Flat) (X : List Implication) where
  -- What holds of the flat clauses, and of each step's clause after those before it, holds of all.
  known_all : (Q : Flat → Type 0) → ((P : List Step) (s : Step) → All Q (known F X P) → StepRight n F X P s → Q (clause_of X s))
      → (P S : List Step) → All Q (known F X P) → StepsRight n F X P S → All Q (known F X (P ++ S))
  known_all Q f P [] h k = subst (λ R. All Q (known F X R)) (sym (append-nil P)) h
  known_all Q f P (s ∷ S) h k =
      subst (λ R. All Q (known F X R)) (append_assoc P (s ∷ []) S)
      (known_all Q f (P ++ (s ∷ [])) S
      (subst (All Q) (sym (known_snoc F X P s)) (All_append Q (known F X P) (clause_of X s ∷ []) h (f P s h k.0, tt))) k.1)

  known_none : (Q : Flat → Type 0) → All Q F → All Q (known F X [])
  unfolding known
  known_none Q h = subst (All Q) (sym (append-nil F)) h

  module _ (okF : All (FlatBelow n) F) (okX : All (ImplicationBelow n) X) where
    pub implication_ok : (k : ℕ) → k < length X → ImplicationBelow n (implication_at X k)
    implication_ok k l = All_at (ImplicationBelow n) X no_implication okX k l

    clause_below : (P : List Step) (s : Step) → StepRight n F X P s → FlatBelow n (clause_of X s)
    unfolding clause_of learned
    clause_below P s r = record {
      left = minus_lt n s.assumed (single (implication_at X s.number).a) r.below;
      right = one_below n (implication_at X s.number).c (implication_ok s.number r.number).c;
    }

    -- At a world that forces the clauses and the implications every learned clause is forced.
    module _ (few : n ≤ bot) (m : Model) (ok : IsModel m) (w : ℕ) (lw : w < m.count) (hF : All (ForcesFlat m w) F) (hX : All (ForcesImplication m w) X) where
      pub known_forced : (S : List Step) → StepsRight n F X [] S → All (λ f. FlatBelow n f × ForcesFlat m w f) (known F X S)
      unfolding clause_of
      known_forced S k =
          known_all (λ f. FlatBelow n f × ForcesFlat m w f) each [] S
          (known_none (λ f. FlatBelow n f × ForcesFlat m w f) (All_zip (FlatBelow n) (ForcesFlat m w) F okF hF)) k
        where
          each : (P : List Step) (s : Step) → All (λ f. FlatBelow n f × ForcesFlat m w f) (known F X P) → StepRight n F X P s
              → FlatBelow n (clause_of X s) × ForcesFlat m w (clause_of X s)
          each P s h r = (
            clause_below P s r,
            learned_forced n few m ok (known F X P) (implication_at X s.number) s.assumed (All_map (known F X P) (λ f x. x.0) h) r.below
                (implication_ok s.number r.number).b r.proves w lw
                (All_map (known F X P) (λ f x. x.1) h) (All_at (ForcesImplication m w) X no_implication hX s.number r.number),
          )

      pub derivation_forced : (g : ℕ) → AtomOrBot n g → (S : List Step) → Derivation n F X g S → T (forces_atom m w g)
      derivation_forced g og S d =
          let h = known_forced S d.steps in
          consequence_forced n few m ok (known F X S) 0 g (All_map (known F X S) (λ f x. x.0) h) (pow_pos n) og d.goal w lw
          (All_map (known F X S) (λ f x. x.1) h) (λ i t. absurd (false_T (has_empty i) t))

    -- A derivation leaves no countermodel.
    pub derivation_sound : n ≤ bot → (g : ℕ) → AtomOrBot n g → (S : List Step) → Derivation n F X g S → (m : Model) → Countermodel F X g m → ⊥
    derivation_sound few g og S d m c =
        c.lacks (derivation_forced few m c.model m.root c.model.root_world c.flats c.implications g og S d)
