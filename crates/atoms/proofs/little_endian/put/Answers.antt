-- The bytes fit, or nothing is written.
use native.Mathlib.Omega.{arith}
use mathlib.Core.Path.{◌∙◌, ap}
use Rattle.atoms.specs.Bytes.{digits, put_at}
use Rattle.atoms.proofs.Bytes.{put_fits, put_short}
use Rattle.atoms.proofs.little_endian.put.Goals as goal

pub returns-then-at-buffer : goal.returns-then-at-buffer
returns-then-at-buffer c =
    let s = c.args in
    c.put_digits.ensures ∙ (put_fits _ _ c.min-count.result s.x (omega arith) ∙ ap (λ n. put_at s.buffer.now s.at (digits n s.x)) c.min-count.ensures)

pub returns-else-count-buffer : goal.returns-else-count-buffer
returns-else-count-buffer c = put_short _ _ _ _ (omega arith)
