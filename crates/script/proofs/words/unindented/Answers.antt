-- From the first byte that is no space on.
use Rattle.std.proofs.Common.{◌≡◌, ◌≢◌, sym, ◌∙◌, rules, length-drop, arith, refl, take_all}
use Rattle.std.proofs.lemmas.Iterator.{IsFirst-from_position, YieldsList-from_slice, index_from_first}
use borrow.Author.Tests.{tests}
use Rattle.script.specs.Words.{space}
use Rattle.script.proofs.Finding.{spaces, spaces_at_word, spaces_more, unindented_is}
use Rattle.script.proofs.words.unindented.Goals as goal

pub returns : goal.returns
returns c =
    let line = c.args.line.now in
    let place =
    IsFirst-from_position _ _ _ (λ x. x ≢ space) (λ x. x ≡ space) c.position.ensures.ran (YieldsList-from_slice line cc) (λ x q k. search (rules, tests)) (λ x q k. search (rules, tests)) in
    let first : spaces line ≡ c.unwrap_or-start.result =
    index_from_first spaces _ _ refl spaces_at_word spaces_more _ _ place ∙ sym c.unwrap_or-start.ensures in
    take_all _ _ (omega (arith, length-drop c.unwrap_or-start.result line)) ∙ rw (← first) (sym (unindented_is line))
