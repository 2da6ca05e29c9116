-- The bytes passed are written.
use mathlib.Core.Path.{◌≡◌}
use Prim.Native.Nat.{◌/◌, ◌^◌}
use Rattle.atoms.proofs.Bytes.{written}
use Rattle.atoms.proofs.little_endian.put_digits.Given as goal

abbrev pub invariant-loop-i : goal.invariant-loop-i
invariant-loop-i l =
    record {
      written : l.buffer ≡ written l.initial.buffer l.at l.x l.i;
      rest : l.rest ≡ l.x / 256 ^ l.i;
    }
