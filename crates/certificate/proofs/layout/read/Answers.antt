-- All bytes are a beginning of which nothing is missing.
use native.Mathlib.Omega.{arith}
use mathlib.Core.List.{List}
use mathlib.Core.Path.{subst}
use Prim.Native.Nat.{ℕ, ◌+◌}
use lib.ListN.{length}
use Rattle.std.proofs.Common.{Option, Some, None}
use Rattle.certificate.specs.Checked.{BeginningRead, LayoutRead}
use Rattle.certificate.specs.declared.Contents.{Contents}
use Rattle.certificate.proofs.Entries.{whole_unlaid}
use Rattle.certificate.proofs.layout.read.Goals as goal

whole_read : (s : List ℕ) (r : Option Contents) → BeginningRead s (length s + 0) r → LayoutRead s r
whole_read s r h = go r (subst (λ L. BeginningRead s L r) (omega arith) h)
  where
    go : (r : Option Contents) → BeginningRead s (length s) r → LayoutRead s r
    go (Some k) h = h
    go None h = whole_unlaid s h

pub returns : goal.returns
returns c = whole_read _ c.read_beginning.result c.read_beginning.ensures
