-- By the digits of the next word.
use Rattle.std.proofs.Common.{refl, arith}
use Rattle.script.specs.Numbers.{paired}
use Rattle.script.specs.Command.{check_sheet}
use Rattle.script.proofs.Splitting.{no_words, word_short}
use Rattle.script.proofs.Calling.{finished, sheet_digits, no_digits}
use Rattle.script.proofs.reading.check_sheet.Goals as goal

pub returns-in_default : goal.returns-in_default
unfolding paired
returns-in_default c = rw (no_words _ c.in_default.ensures) (record { is = refl; inside = omega arith })

pub returns-then-not-is_hex : goal.returns-then-not-is_hex
returns-then-not-is_hex c = no_digits c.in-Some.ensures c.is_hex.ensures c.if-not-is_hex.true

pub returns : goal.returns
returns c =
    sheet_digits c.in-Some.ensures c.is_hex.ensures c.if-not-is_hex.false
    (finished (check_sheet (paired c.in-Some.digits.now)) c.if_last.ensures refl (word_short c.in-Some.ensures).0)
