-- The bytes of the digits passed are appended.
use Rattle.std.proofs.Common.{length}
use Rattle.script.proofs.Hexadecimal.{BytesBefore}
use Rattle.script.proofs.numbers.unhex.Given as goal

abbrev pub invariant-loop-rest : goal.invariant-loop-rest
invariant-loop-rest l = BytesBefore l.word l.initial.sheet l.rest l.sheet

abbrev pub decreases-loop-rest : goal.decreases-loop-rest
decreases-loop-rest l = length l.rest
