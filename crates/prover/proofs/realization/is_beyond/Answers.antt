-- What the code joins is empty exactly where u is beyond m.
use mathlib.Core.Path.{ap, ap₂, ◌∙◌}
use Prim.Native.Nat.{ℕ}
use lib.Dec.{eqb}
use Rattle.atoms.specs.Sets.{union, common, minus}
use Rattle.atoms.specs.Words.{num}
use Rattle.prover.specs.State.{implication_of}
use Rattle.prover.proofs.Beyond.{beyond_tested}
use Rattle.prover.proofs.realization.is_beyond.Goals as goal

pub returns : goal.returns
returns c =
    let s = c.args in
    c.is_empty.ensures ∙ ap (λ (z : ℕ). eqb z 0) (c.join.ensures
    ∙ ap₂ union (c.without.ensures ∙ ap (λ (z : ℕ). minus z (num s.u)) (c.join-wanted.ensures ∙ ap (union (num s.m)) c.single.ensures))
    (c.common.ensures ∙ ap (λ (z : ℕ). common z (num s.u)) c.single-avoided.ensures))
    ∙ beyond_tested (implication_of s.i) (num s.m) (num s.u) c.requires.1 c.requires.0 c.bounded.ensures
