-- Test by test.
use Rattle.std.proofs.Common.{arith}
use Rattle.std.proofs.lemmas.Grind.{common_steps}
use Rattle.certificate.proofs.Worlds.{world_tests}
use Rattle.certificate.proofs.countermodel.is_right.Goals as goal

pub returns-after-i-eq0 : goal.returns-after-i-eq0
returns-after-i-eq0 c =
    let tests = world_tests _ _ _ _ c.requires.0 _ c.requires.1 in grind (arith, common_steps, tests)

pub returns-else-each_realized : goal.returns-else-each_realized
returns-else-each_realized c =
    let tests = world_tests _ _ _ _ c.requires.0 _ c.requires.1 in grind (arith, common_steps, tests)
