-- By the tests on the way, one stretch of bytes after the other; the class of a sign is computed.
use native.Mathlib.Omega.{arith}
use Rattle.syntax.specs.Class.{class_of}
use Rattle.syntax.proofs.Class.{letter_byte, foreign_byte}
use Rattle.syntax.proofs.bytes.class_of.Goals as goal

pub returns-in_default : goal.returns-in_default
returns-in_default c = foreign_byte _ (omega arith) (omega arith)

pub returns-in_default-b : goal.returns-in_default-b
returns-in_default-b c = foreign_byte _ (omega arith) (omega arith)

pub returns-in_default-b-2 : goal.returns-in_default-b-2
returns-in_default-b-2 c = foreign_byte _ (omega arith) (omega arith)

pub returns-then-b-le122 : goal.returns-then-b-le122
returns-then-b-le122 c = letter_byte _ (omega arith) (omega arith) (omega arith)

pub returns-in_default-b-3 : goal.returns-in_default-b-3
returns-in_default-b-3 c = foreign_byte _ (omega arith) (omega arith)

pub returns-in-32 : goal.returns-in-32
unfolding class_of
returns-in-32 c = rw c.in-32.is

pub returns-in-38 : goal.returns-in-38
unfolding class_of
returns-in-38 c = rw c.in-38.is

pub returns-in-40 : goal.returns-in-40
unfolding class_of
returns-in-40 c = rw c.in-40.is

pub returns-in-41 : goal.returns-in-41
unfolding class_of
returns-in-41 c = rw c.in-41.is

pub returns-in-48 : goal.returns-in-48
unfolding class_of
returns-in-48 c = rw c.in-48.is

pub returns-in-61 : goal.returns-in-61
unfolding class_of
returns-in-61 c = rw c.in-61.is

pub returns-in-62 : goal.returns-in-62
unfolding class_of
returns-in-62 c = rw c.in-62.is

pub returns-in-124 : goal.returns-in-124
unfolding class_of
returns-in-124 c = rw c.in-124.is

pub returns-in-126 : goal.returns-in-126
unfolding class_of
returns-in-126 c = rw c.in-126.is
