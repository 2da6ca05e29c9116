use Rattle.std.proofs.Common.{arith}
use Rattle.script.proofs.Hexadecimal.{byte_before, all_bytes_before}
use Rattle.script.proofs.numbers.unhex.Goals as goal

pub loop-rest-preserved : goal.loop-rest-preserved
loop-rest-preserved c = byte_before c.loop-rest.invariant (omega arith) _ _ (omega (arith, c.hex_value.ensures.0, c.hex_value-in-len2-up.ensures.0)) c.word.ensures

pub returns : goal.returns
returns c = all_bytes_before c.loop-rest.invariant (omega arith)
