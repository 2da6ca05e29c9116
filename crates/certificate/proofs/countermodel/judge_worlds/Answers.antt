use Rattle.std.proofs.Common.{◌≡◌, rules, tests, true, false}
use Rattle.std.proofs.lemmas.Iterator.{first_from_Range}
use Rattle.certificate.specs.Judge.{world_right}
use Rattle.certificate.specs.Checked.{problem_by, worlds_by}
use Rattle.certificate.proofs.Tables.{worlds_length}
use Rattle.certificate.proofs.FirstWrong.{world_found}
use Rattle.certificate.proofs.countermodel.judge_worlds.Goals as goal

pub returns : goal.returns
returns c =
    let s = c.args.sheet.now.bytes.now in
    let k = c.args.sheet.now.contents in
    let right = world_right (problem_by s k) (worlds_by s k) in
    world_found _ _ k.rows (worlds_length _ _ _) c.find.result
    (first_from_Range _ _ _ c.find.result (λ i. right i ≡ false) (λ i. right i ≡ true) c.find.ensures.ran (λ x q h. search (rules, tests)) (λ x q h. search (rules, tests)))
