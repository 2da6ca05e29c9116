-- Lines of spaces alone.
use Rattle.std.proofs.Common.{Bool, true, false, ◌&&◌, List, [], ◌∷◌, ◌++◌, ◌≡◌, refl, ap, ◌∙◌, eqb, ℕ}
use Rattle.script.specs.Words.{space}
use Rattle.script.specs.Command.{is_blank}

pub blank_append : (a b : List ℕ) → is_blank (a ++ b) ≡ is_blank a && is_blank b
unfolding is_blank
blank_append [] b = refl
blank_append (x ∷ a) b = ap (λ t. eqb x space && t) (blank_append a b) ∙ assoc (eqb x space) (is_blank a) (is_blank b)
  where
    assoc : (x y z : Bool) → (x && (y && z)) ≡ ((x && y) && z)
    assoc true y z = refl
    assoc false y z = refl
