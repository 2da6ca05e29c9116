-- Each test of an entry that fails refuses it; what passes all is found.
use native.Mathlib.Omega.{arith}
use mathlib.Core.Path.{◌≡◌, sym, ap, ◌∙◌}
use Prim.Native.Nat.{ℕ, ◌-◌, ◌%◌}
use Rattle.certificate.proofs.OneEntry.{taken_told}
use Rattle.certificate.proofs.Entries.{entry_false, entry_short, entry_uneven, entry_found}
use Rattle.certificate.proofs.reader.Reader.rows.Goals as goal
use Rattle.certificate.proofs.reader.Reader.rows.Goals.{then-entry-byte-via-then-entry-byte, then-entry-byte-via-else-entry-byte+then-entry-start}
use Rattle.certificate.proofs.reader.Reader.rows.Goals.{then-entry-byte-via-else-entry-byte+else-entry-start+then-body-width-ne0}

pub returns-in_err-entry : goal.returns-in_err-entry
returns-in_err-entry c =
    let told = taken_told _ _ _ c.in_err-entry.ensures in
    rw c.from_residual.ensures (record { read = λ there. absurd (omega (arith, there, told.short)); same = c.take.ensures.same })

pub returns-in_err-body : goal.returns-in_err-body
returns-in_err-body c =
    let told = taken_told _ _ _ c.in_ok-entry.ensures in
    rw c.from_residual-in_err-body.ensures
    (record { read = λ there. entry_short _ _ _ _ _ _ _ told.size_is (omega (arith, c.in_err-body.ensures)); same = c.take.ensures.same })

pub returns-then-entry-byte : goal.returns-then-entry-byte
returns-then-entry-byte c =
    let told = taken_told _ _ _ c.in_ok-entry.ensures in
    record {
      read = λ there. elim c.then-entry-byte.branch [
        | then-entry-byte-via-then-entry-byte w ↦ entry_false _ _ _ _ _ _ (λ p. w.if-entry-byte.true (told.kind_is ∙ p.kind_is ∙ sym c.byte.ensures))
        | then-entry-byte-via-else-entry-byte+then-entry-start w ↦ entry_false _ _ _ _ _ _ (λ p. w.if-entry-start.true (told.start_is ∙ p.start_is))
        | then-entry-byte-via-else-entry-byte+else-entry-start+then-body-width-ne0 w ↦
            entry_uneven _ _ _ _ _ _ _ told.size_is (λ e. w.if-body-width-ne0.true (ap (λ (z : ℕ). z % c.args.width) c.in_ok-body.ensures.1 ∙ e))
      ];
      same = c.take.ensures.same;
    }

pub returns : goal.returns
returns c =
    let told = taken_told _ _ _ c.in_ok-entry.ensures in
    let body : c.in_ok-body.body ≡ c.in_ok-entry.entry.size - c.args.extra = c.in_ok-body.ensures.1 in
    let even : (c.in_ok-entry.entry.size - c.args.extra) % c.args.width ≡ 0 = ap (λ (z : ℕ). z % c.args.width) (sym body) ∙ c.if-body-width-ne0.false in
    record {
      read = rw body (entry_found _ _ _ _ _ _ _ told.size_is _ told.next_is (sym told.kind_is ∙ c.if-entry-byte.false ∙ c.byte.ensures)
          (sym told.start_is ∙ c.if-entry-start.false) c.in_ok-body.ensures.0 even);
      same = c.take.ensures.same;
    }
