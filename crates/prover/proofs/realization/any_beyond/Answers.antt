use mathlib.Core.Path.{sym, ap, ◌∙◌}
use Prim.Native.Nat.{◌-◌}
use Rattle.atoms.specs.Words.{num, row_of}
use Rattle.ipl.specs.Clause.{beyond}
use Rattle.ipl.proofs.Lists.{any_less, any_none, any_found}
use Rattle.prover.specs.State.{implication_of}
use native.Mathlib.Omega.{arith}
use Rattle.prover.proofs.realization.any_beyond.Goals as goal

pub returns-then-is_beyond : goal.returns-then-is_beyond
returns-then-is_beyond c =
    let s = c.args in
    sym (any_found (beyond (implication_of s.i) (num s.m)) (row_of s.worlds.now.sets) (c.loop-k.k - 1) s.worlds.now.count (omega arith)
    (ap (beyond _ _) (sym c.row.ensures) ∙ sym c.is_beyond.ensures ∙ c.if-is_beyond.true))

pub loop-k-preserved : goal.loop-k-preserved
loop-k-preserved c =
    let s = c.args in
    c.loop-k.invariant
    ∙ any_less (beyond (implication_of s.i) (num s.m)) (row_of s.worlds.now.sets) (c.loop-k.k - 1) c.loop-k.k (omega arith)
    (ap (beyond _ _) (sym c.row.ensures) ∙ sym c.is_beyond.ensures ∙ c.if-is_beyond.false)

pub returns : goal.returns
returns c = sym (c.loop-k.invariant ∙ any_none _ _ c.loop-k.k (omega arith))
