use Rattle.std.proofs.Common.{take, sym, add-one}
use lib.Seq.{take-suc}
use Rattle.certificate.specs.Format.{each}
use Rattle.certificate.proofs.Encoding.{each_snoc}
use Rattle.text.specs.Text.{ascii}
use Rattle.text.proofs.Appending.{same_text, nothing, both}
use Rattle.report.specs.Screening.{set_figure}
use Rattle.report.proofs.screenings.figures.Goals as goal

pub loop-set-init : goal.loop-set-init
unfolding each
loop-set-init c = nothing _

pub loop-set-preserved : goal.loop-set-preserved
unfolding set_figure ascii
loop-set-preserved c =
    let sets = c.args.sets.now in
    let i = c.loop-set.set-index in
    same_text (sym (rw (add-one, take-suc sets i 0 c.loop-set-test.true) (each_snoc set_figure (take i sets) _)))
    (both c.loop-set.invariant (rw c.from.ensures at c.figure.ensures))
