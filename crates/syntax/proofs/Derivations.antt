-- Operands by their derivations: what stands at the front of the tokens, at each level.
use mathlib.Core.List.{List, [], ◌∷◌, ◌++◌, append_assoc}
use mathlib.Core.Path.{◌≡◌, refl, sym, ◌∙◌, subst}
use Prim.Native.Nat.{ℕ}
use Rattle.ipl.specs.Formula.{Formula, iff}
use Rattle.syntax.specs.Class.{Class, closing, ampersand, bar, greater, equals, tilde, opening, nought, lowercase}
use Rattle.syntax.specs.Grammar.{Level, negation, conjunction, disjunction, implication, equivalence, Parses, a_letter, a_falsum}
use Rattle.syntax.specs.Grammar.{by_not, inside, no_and, by_and, no_or, by_or, no_implies, by_implies, no_equal, by_equal}
use Rattle.syntax.specs.Nodes.{Connective, And, Or, Implies, connected}
use Rattle.syntax.specs.Descent.{NotNext, Stops, Stands}

-- ---- one operand

-- What an operand of `~` is: a leaf, `~` and an operand, or a formula in parentheses.
pub data Single (l : List Class) (f : Formula) (behind : List Class) : Type 0 where
  letter : (k : ℕ) → f ≡ Formula.letter k → l ≡ lowercase k ∷ behind → Single l f behind
  falsum : f ≡ Formula.falsum → l ≡ nought ∷ behind → Single l f behind
  tilded : (g : Formula) (m : List Class) → f ≡ connected Implies g Formula.falsum → l ≡ tilde ∷ m → Stands negation m g behind → Single l f behind
  enclosed : (m : List Class) → l ≡ opening ∷ m → Stands equivalence m f (closing ∷ behind) → Single l f behind

closing_stops : (b : List Class) → Stops equivalence (closing ∷ b)
closing_stops b = (λ m e. cc, λ m e. cc, λ m e. cc, λ m e. cc)

pub single : (l : List Class) (f : Formula) (behind : List Class) → Stands negation l f behind → Single l f behind
unfolding connected
single l f b x = go x.parsed x.split
  where
    go : {u : List Class} {g : Formula} → Parses negation u g → l ≡ u ++ b → Single l g b
    go (a_letter {l = k}) e = letter k refl e
    go a_falsum e = falsum refl e
    go (by_not {u} {p} r) e = tilded p (u ++ b) refl e (record { text = u; parsed = r; split = refl; stops = tt })
    go (inside {u} r) e =
        enclosed ((u ++ (closing ∷ [])) ++ b) e (record { text = u; parsed = r; split = append_assoc u (closing ∷ []) b; stops = closing_stops b })

-- ---- operators that group to the left

-- After g, the tokens m continue it by operands of level a to f.
pub data Run (a : Level) (op : Class) (c : Connective) : Formula → List Class → Formula → List Class → Type 0 where
  done : {g : Formula} {m : List Class} → Run a op c g m g m
  more : {g h f : Formula} {m n b : List Class} → Stands a m h n → Run a op c (connected c g h) n f b → Run a op c g (op ∷ m) f b

pub record First (a : Level) (op : Class) (c : Connective) (l : List Class) (f : Formula) (behind : List Class) : Type 0 where
  pub operand : Formula
  pub next : List Class
  pub stands : Stands a l operand next
  pub run : Run a op c operand next f behind

module _ (a : Level) (op : Class) (c : Connective) where
  longer_run : {g h f : Formula} {m n b : List Class} → Run a op c g m f (op ∷ n) → Stands a n h b → Run a op c g m (connected c f h) b
  longer_run done x = more x done
  longer_run (more y r) x = more y (longer_run r x)

  -- An operator and an operand more.
  longer : (u v : List Class) (p q : Formula) (b : List Class) → First a op c (u ++ (op ∷ (v ++ b))) p (op ∷ (v ++ b)) → Parses a v q → Stops a b
      → First a op c ((u ++ (op ∷ v)) ++ b) (connected c p q) b
  longer u v p q b x r s = record {
    operand = x.operand;
    next = x.next;
    stands = record { text = x.stands.text; parsed = x.stands.parsed; split = append_assoc u (op ∷ v) b ∙ x.stands.split; stops = x.stands.stops };
    run = longer_run x.run (record { text = v; parsed = r; split = refl; stops = s });
  }

  pub run_goes_on : {g f : Formula} {m b : List Class} → Run a op c g m f b → NotNext op b → (l : List Class) → m ≡ op ∷ l
      → (h : Formula) × (n : List Class) × Stands a l h n × Run a op c (connected c g h) n f b
  run_goes_on done s l e = absurd (s l e)
  run_goes_on (more {h = h} {m = m} {n = n} x r) s l e = let k : m ≡ l = cc in (h, n, subst (λ (l : List Class). Stands a l h n) k x, r)

  pub run_ends : {g f : Formula} {m b : List Class} → Run a op c g m f b → NotNext op m → (g ≡ f) × (m ≡ b)
  run_ends done s = (refl, refl)
  run_ends (more {m = m} x r) s = absurd (s m refl)

pub first_and : (l : List Class) (f : Formula) (b : List Class) → Stands conjunction l f b → First negation ampersand And l f b
unfolding connected
first_and l f b x = rw x.split (go x.parsed b)
  where
    go : {u : List Class} {g : Formula} → Parses conjunction u g → (b : List Class) → First negation ampersand And (u ++ b) g b
    go (no_and {u} r) b = record { operand = _; next = b; stands = record { text = u; parsed = r; split = refl; stops = tt }; run = done }
    go (by_and {u} {v} {p} {q} r s) b = longer negation ampersand And u v p q b (go r (ampersand ∷ (v ++ b))) s tt

pub first_or : (l : List Class) (f : Formula) (b : List Class) → Stands disjunction l f b → First conjunction bar Or l f b
unfolding connected
first_or l f b x = rw x.split (go x.parsed b x.stops.0)
  where
    go : {u : List Class} {g : Formula} → Parses disjunction u g → (b : List Class) → NotNext ampersand b → First conjunction bar Or (u ++ b) g b
    go (no_or {u} r) b s = record { operand = _; next = b; stands = record { text = u; parsed = r; split = refl; stops = s }; run = done }
    go (by_or {u} {v} {p} {q} r q') b s = longer conjunction bar Or u v p q b (go r (bar ∷ (v ++ b)) (λ m e. cc)) q' s

-- ---- operators with one operand to the right

-- g was read up to m: it is the whole, or the operator comes and an operand of level b.
pub data Then (b : Level) (op : Class) (join : Formula → Formula → Formula) (g : Formula) (m : List Class) (f : Formula) (behind : List Class) : Type 0 where
  alone : g ≡ f → m ≡ behind → Then b op join g m f behind
  both : (h : Formula) (n : List Class) → m ≡ op ∷ n → f ≡ join g h → Stands b n h behind → Then b op join g m f behind

pub record Leads (a b : Level) (op : Class) (join : Formula → Formula → Formula) (l : List Class) (f : Formula) (behind : List Class) : Type 0 where
  pub operand : Formula
  pub next : List Class
  pub stands : Stands a l operand next
  pub then : Then b op join operand next f behind

module _ (b : Level) (op : Class) (join : Formula → Formula → Formula) {g f : Formula} {m z : List Class} where
  pub then_goes_on : Then b op join g m f z → NotNext op z → (l : List Class) → m ≡ op ∷ l → (h : Formula) × (f ≡ join g h) × Stands b l h z
  then_goes_on (alone p q) s l e = absurd (s l (sym q ∙ e))
  then_goes_on (both h n p q x) s l e = let k : n ≡ l = cc in (h, q, subst (λ (l : List Class). Stands b l h z) k x)

  pub then_ends : Then b op join g m f z → NotNext op m → (g ≡ f) × (m ≡ z)
  then_ends (alone p q) s = (p, q)
  then_ends (both h n p q x) s = absurd (s n p)

pub leads_implies : (l : List Class) (f : Formula) (b : List Class) → Stands implication l f b → Leads disjunction implication greater (connected Implies) l f b
unfolding connected
leads_implies l f b x = go x.parsed x.split x.stops
  where
    go : {u : List Class} {g : Formula} → Parses implication u g → l ≡ u ++ b → Stops implication b → Leads disjunction implication greater (connected Implies) l g b
    go (no_implies {u} r) e s = record { operand = _; next = b; stands = record { text = u; parsed = r; split = e; stops = (s.0, s.1) }; then = alone refl refl }
    go (by_implies {u} {v} {p} {q} r t) e s = record {
      operand = p;
      next = greater ∷ (v ++ b);
      stands = record { text = u; parsed = r; split = e ∙ append_assoc u (greater ∷ v) b; stops = (λ m i. cc, λ m i. cc) };
      then = both q (v ++ b) refl refl (record { text = v; parsed = t; split = refl; stops = s });
    }

pub leads_equal : (l : List Class) (f : Formula) (b : List Class) → Stands equivalence l f b → Leads implication implication equals iff l f b
leads_equal l f b x = go x.parsed x.split x.stops
  where
    go : {u : List Class} {g : Formula} → Parses equivalence u g → l ≡ u ++ b → Stops equivalence b → Leads implication implication equals iff l g b
    go (no_equal {u} r) e s = record { operand = _; next = b; stands = record { text = u; parsed = r; split = e; stops = (s.0, s.1, s.2) }; then = alone refl refl }
    go (by_equal {u} {v} {p} {q} r t) e s = record {
      operand = p;
      next = equals ∷ (v ++ b);
      stands = record { text = u; parsed = r; split = e ∙ append_assoc u (equals ∷ v) b; stops = (λ m i. cc, λ m i. cc, λ m i. cc) };
      then = both q (v ++ b) refl refl (record { text = v; parsed = t; split = refl; stops = (s.0, s.1, s.2) });
    }
