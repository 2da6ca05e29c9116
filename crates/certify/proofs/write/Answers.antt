-- 5, then 9, then what is written.
use mathlib.Core.Path.{refl, sym, ◌∙◌}
use Rattle.prover.specs.declared.Held.TheVariants as held
use Rattle.certify.proofs.Whole.{refused_five, verdict_written}
use Rattle.certify.proofs.write.Goals as goal

pub returns-then-not-in_range : goal.returns-then-not-in_range
returns-then-not-in_range c = refused_five _ _ (sym c.in_range.ensures ∙ c.if-not-in_range.true)

pub returns-in-Nothing : goal.returns-in-Nothing
returns-in-Nothing c =
    verdict_written _ _ _ _ held.Nothing (sym c.in_range.ensures ∙ c.if-not-in_range.false) c.in-Nothing.is (record { answer = refl; buffer = refl })

pub returns-in-Valid : goal.returns-in-Valid
returns-in-Valid c =
    verdict_written _ _ _ _ (held.Valid _) (sym c.in_range.ensures ∙ c.if-not-in_range.false) c.in-Valid.is c.write.ensures

pub returns-in-Refuted : goal.returns-in-Refuted
returns-in-Refuted c =
    verdict_written _ _ _ _ (held.Refuted _) (sym c.in_range.ensures ∙ c.if-not-in_range.false) c.in-Refuted.is c.write-in-Refuted.ensures
