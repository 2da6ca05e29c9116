-- Every byte is a digit, and they are even in number.
use Rattle.std.proofs.Common.{◌≡◌, true, false, rules}
use Rattle.std.proofs.lemmas.Bool.Decides.{when_true}
use Rattle.std.proofs.lemmas.Iterator.{cases_from_all, YieldsList-from_slice}
use borrow.Author.Tests.{tests}
use Rattle.script.specs.Numbers.{is_hex_digit}
use Rattle.script.proofs.Finding.{every}
use Rattle.script.proofs.numbers.is_hex.Goals as goal

pub returns-then-all : goal.returns-then-all
returns-then-all c =
    let word = c.args.word.now in
    let cases =
    cases_from_all _ _ _ (λ x. is_hex_digit x ≡ true) (λ x. is_hex_digit x ≡ false) c.all.ensures.ran (YieldsList-from_slice word cc)
    (λ x q k. search (rules, tests)) (λ x q k. search (rules, tests)) in
    rw (every is_hex_digit word (when_true _ _ c.if-all.true cases))
