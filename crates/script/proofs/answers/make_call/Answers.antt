-- By the call.
use Rattle.std.proofs.Common.{[], refl, arith}
use Rattle.text.specs.Text.{ascii}
use Rattle.text.proofs.Appending.{nothing}
use Rattle.script.proofs.Performing.{answered, ready}
use Rattle.script.proofs.answers.make_call.Goals as goal

pub answer_large-requires : goal.answer_large-requires
answer_large-requires c = ready c.args.line.now c.args.p (omega (arith, c.min.ensures, c.min-n.ensures)) c.kept_call.ensures c.in-Text.is

pub answer_large-requires-in-Page : goal.answer_large-requires-in-Page
answer_large-requires-in-Page c = ready c.args.line.now c.args.p (omega (arith, c.min.ensures, c.min-n.ensures)) c.kept_call.ensures c.in-Page.is

pub answer_large-requires-in-Sheet : goal.answer_large-requires-in-Sheet
answer_large-requires-in-Sheet c = ready c.args.line.now c.args.p (omega (arith, c.min.ensures, c.min-n.ensures)) c.kept_call.ensures c.in-Sheet.is

pub answer_large-requires-in-Check : goal.answer_large-requires-in-Check
answer_large-requires-in-Check c = ready c.args.line.now c.args.p (omega (arith, c.min.ensures, c.min-n.ensures)) c.kept_call.ensures c.in-Check.is

pub answer_large-requires-in-Screen : goal.answer_large-requires-in-Screen
answer_large-requires-in-Screen c = ready c.args.line.now c.args.p (omega (arith, c.min.ensures, c.min-n.ensures)) c.kept_call.ensures c.in-Screen.is

pub returns-in-Silent : goal.returns-in-Silent
returns-in-Silent c = answered (omega (arith, c.min.ensures, c.min-n.ensures)) c.kept_call.ensures c.in-Silent.is ([], (refl, refl), nothing _)

pub returns-in-NoCall : goal.returns-in-NoCall
unfolding ascii
returns-in-NoCall c = answered (omega (arith, c.min.ensures, c.min-n.ensures)) c.kept_call.ensures c.in-NoCall.is (_, (refl, refl), c.numbered.ensures)

pub returns-in-Open : goal.returns-in-Open
returns-in-Open c = answered (omega (arith, c.min.ensures, c.min-n.ensures)) c.kept_call.ensures c.in-Open.is (c.open.ensures c.args.s.now)

pub returns-in-Text : goal.returns-in-Text
returns-in-Text c = answered (omega (arith, c.min.ensures, c.min-n.ensures)) c.kept_call.ensures c.in-Text.is (c.answer_large.ensures c.args.number)

pub returns-in-Flat : goal.returns-in-Flat
returns-in-Flat c = answered (omega (arith, c.min.ensures, c.min-n.ensures)) c.kept_call.ensures c.in-Flat.is c.add_flat.ensures

pub returns-in-Implication : goal.returns-in-Implication
returns-in-Implication c = answered (omega (arith, c.min.ensures, c.min-n.ensures)) c.kept_call.ensures c.in-Implication.is c.add_implication.ensures

pub returns-in-Ask : goal.returns-in-Ask
returns-in-Ask c = answered (omega (arith, c.min.ensures, c.min-n.ensures)) c.kept_call.ensures c.in-Ask.is c.ask.ensures

pub returns-in-Page : goal.returns-in-Page
returns-in-Page c = answered (omega (arith, c.min.ensures, c.min-n.ensures)) c.kept_call.ensures c.in-Page.is (c.answer_large-in-Page.ensures c.args.number)

pub returns-in-Mark : goal.returns-in-Mark
returns-in-Mark c = answered (omega (arith, c.min.ensures, c.min-n.ensures)) c.kept_call.ensures c.in-Mark.is c.set_mark.ensures

pub returns-in-Return : goal.returns-in-Return
returns-in-Return c = answered (omega (arith, c.min.ensures, c.min-n.ensures)) c.kept_call.ensures c.in-Return.is c.return_to.ensures

pub returns-in-Length : goal.returns-in-Length
returns-in-Length c = answered (omega (arith, c.min.ensures, c.min-n.ensures)) c.kept_call.ensures c.in-Length.is (_, (refl, refl), c.write_length.ensures)

pub returns-in-Sheet : goal.returns-in-Sheet
returns-in-Sheet c = answered (omega (arith, c.min.ensures, c.min-n.ensures)) c.kept_call.ensures c.in-Sheet.is (c.answer_large-in-Sheet.ensures c.args.number)

pub returns-in-Check : goal.returns-in-Check
returns-in-Check c = answered (omega (arith, c.min.ensures, c.min-n.ensures)) c.kept_call.ensures c.in-Check.is (c.answer_large-in-Check.ensures c.args.number)

pub returns-in-Mean : goal.returns-in-Mean
returns-in-Mean c = answered (omega (arith, c.min.ensures, c.min-n.ensures)) c.kept_call.ensures c.in-Mean.is (_, (refl, refl), c.write_mean.ensures)

pub returns-in-Screen : goal.returns-in-Screen
returns-in-Screen c = answered (omega (arith, c.min.ensures, c.min-n.ensures)) c.kept_call.ensures c.in-Screen.is (c.answer_large-in-Screen.ensures c.args.number)
