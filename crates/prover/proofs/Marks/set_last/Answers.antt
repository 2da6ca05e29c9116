-- The others, then the mark.
use mathlib.Core.Path.{ap, ◌∙◌}
use mathlib.Core.List.{List, [], ◌∷◌, ◌++◌}
use Rattle.ipl.specs.Marks.{Mark, set_last}
use Rattle.prover.specs.State.{mark_of}
use Rattle.prover.proofs.Marks.set_last.Goals as goal

pub returns : goal.returns
unfolding set_last
returns c = c.push.ensures.0 ∙ ap (λ (M : List Mark). M ++ (mark_of c.args.mark ∷ [])) c.drop_mark.ensures.0
