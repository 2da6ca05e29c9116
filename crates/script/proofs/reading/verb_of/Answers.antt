-- By its name.
use mathlib.Core.Path.{sym, ap}
use Rattle.text.specs.Text.{ascii}
use Rattle.script.specs.Command.{same, verb_of}
use Rattle.script.proofs.Verbs.{unlike, no_verb}
use Rattle.script.proofs.reading.verb_of.Goals as goal

pub returns-then-same : goal.returns-then-same
unfolding verb_of same ascii
returns-then-same c = ap verb_of (sym (c.same.ensures.equal c.if-same.true))

pub returns-then-same-2 : goal.returns-then-same-2
unfolding verb_of same ascii
returns-then-same-2 c = ap verb_of (sym (c.same-2.ensures.equal c.if-same-2.true))

pub returns-then-same-3 : goal.returns-then-same-3
unfolding verb_of same ascii
returns-then-same-3 c = ap verb_of (sym (c.same-3.ensures.equal c.if-same-3.true))

pub returns-then-same-4 : goal.returns-then-same-4
unfolding verb_of same ascii
returns-then-same-4 c = ap verb_of (sym (c.same-4.ensures.equal c.if-same-4.true))

pub returns-then-same-5 : goal.returns-then-same-5
unfolding verb_of same ascii
returns-then-same-5 c = ap verb_of (sym (c.same-5.ensures.equal c.if-same-5.true))

pub returns-then-same-6 : goal.returns-then-same-6
unfolding verb_of same ascii
returns-then-same-6 c = ap verb_of (sym (c.same-6.ensures.equal c.if-same-6.true))

pub returns-then-same-7 : goal.returns-then-same-7
unfolding verb_of same ascii
returns-then-same-7 c = ap verb_of (sym (c.same-7.ensures.equal c.if-same-7.true))

pub returns-then-same-8 : goal.returns-then-same-8
unfolding verb_of same ascii
returns-then-same-8 c = ap verb_of (sym (c.same-8.ensures.equal c.if-same-8.true))

pub returns-then-same-9 : goal.returns-then-same-9
unfolding verb_of same ascii
returns-then-same-9 c = ap verb_of (sym (c.same-9.ensures.equal c.if-same-9.true))

pub returns-then-same-10 : goal.returns-then-same-10
unfolding verb_of same ascii
returns-then-same-10 c = ap verb_of (sym (c.same-10.ensures.equal c.if-same-10.true))

pub returns-then-same-11 : goal.returns-then-same-11
unfolding verb_of same ascii
returns-then-same-11 c = ap verb_of (sym (c.same-11.ensures.equal c.if-same-11.true))

pub returns-then-same-12 : goal.returns-then-same-12
unfolding verb_of same ascii
returns-then-same-12 c = ap verb_of (sym (c.same-12.ensures.equal c.if-same-12.true))

pub returns-then-same-13 : goal.returns-then-same-13
unfolding verb_of same ascii
returns-then-same-13 c = ap verb_of (sym (c.same-13.ensures.equal c.if-same-13.true))

pub returns : goal.returns
unfolding ascii
returns c =
    no_verb _
    (unlike _ _ _ c.same.ensures.told c.if-same.false)
    (unlike _ _ _ c.same-2.ensures.told c.if-same-2.false)
    (unlike _ _ _ c.same-3.ensures.told c.if-same-3.false)
    (unlike _ _ _ c.same-4.ensures.told c.if-same-4.false)
    (unlike _ _ _ c.same-5.ensures.told c.if-same-5.false)
    (unlike _ _ _ c.same-6.ensures.told c.if-same-6.false)
    (unlike _ _ _ c.same-7.ensures.told c.if-same-7.false)
    (unlike _ _ _ c.same-8.ensures.told c.if-same-8.false)
    (unlike _ _ _ c.same-9.ensures.told c.if-same-9.false)
    (unlike _ _ _ c.same-10.ensures.told c.if-same-10.false)
    (unlike _ _ _ c.same-11.ensures.told c.if-same-11.false)
    (unlike _ _ _ c.same-12.ensures.told c.if-same-12.false)
    (unlike _ _ _ c.same-13.ensures.told c.if-same-13.false)
