use native.Mathlib.Omega.{arith}
use mathlib.Core.Path.{◌≡◌, sym, ap, ◌∙◌, subst}
use native.Mathlib.Nat.{div-one}
use Prim.Native.Nat.{◌+◌, ◌%◌}
use lib.ListN.{length, set}
use Rattle.atoms.proofs.Bytes.{written, written_none, written_next, written_length, rest_next}
use Rattle.atoms.proofs.little_endian.put_digits.Goals as goal

-- The length stays.
long : (c : goal.In-loop-i) → length c.loop-i.buffer ≡ length c.args.buffer.now
long c = ap length c.loop-i.invariant.written ∙ written_length _ c.args.at c.args.x c.loop-i.i (omega arith)

pub loop-i-init : goal.loop-i-init
loop-i-init c = record { written = written_none c.args.buffer.now c.args.at c.args.x; rest = sym (div-one c.args.x) }

pub bounds-buffer-at : goal.bounds-buffer-at
bounds-buffer-at c = omega (arith, long c)

pub loop-i-preserved : goal.loop-i-preserved
loop-i-preserved c =
    let s = c.args in
    let l = c.loop-i in
    record {
      written = subst (λ b. set b (s.at + l.i) (l.rest % 256) ≡ written s.buffer.now s.at s.x (l.i + 1)) (sym l.invariant.written)
          (written_next _ s.at s.x l.i l.rest (omega arith) l.invariant.rest);
      rest = rest_next s.x l.i l.rest l.invariant.rest;
    }
