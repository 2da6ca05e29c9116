-- By the call.
use mathlib.Core.Path.{refl, ap}
use native.Mathlib.Omega.{arith}
use Rattle.script.specs.Reading.{as_call}
use Rattle.script.proofs.Performing.{known_inside, page_done}
use Rattle.script.proofs.answers.answer_large.Goals as goal

pub page-requires : goal.page-requires
page-requires c = known_inside _ c.requires.1 (ap as_call c.in-Page.is)

pub check-requires : goal.check-requires
check-requires c = omega (arith, known_inside _ c.requires.1 (ap as_call c.in-Check.is), c.requires.2)

pub returns-in-Text : goal.returns-in-Text
returns-in-Text c = λ number.
    rw c.in-Text.is (c.read_text.ensures c.args.s.now)

pub returns-in-Page : goal.returns-in-Page
returns-in-Page c = λ number.
    let goals = known_inside _ c.requires.1 (ap as_call c.in-Page.is) in
    rw c.in-Page.is (page_done _ goals.0 goals.1 number (c.page.ensures goals.0 goals.1))

pub returns-in-Sheet : goal.returns-in-Sheet
returns-in-Sheet c = λ number. rw c.in-Sheet.is (_, (refl, refl), c.write_sheet.ensures)

pub returns-in-Check : goal.returns-in-Check
returns-in-Check c = λ number. rw c.in-Check.is (_, (refl, refl), c.check.ensures)

pub returns-in-Screen : goal.returns-in-Screen
returns-in-Screen c = λ number. rw c.in-Screen.is (_, (refl, refl), c.screen.ensures)
