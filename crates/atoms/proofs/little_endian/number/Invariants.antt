-- What the bytes from i on stand for, downwards.
use mathlib.Core.Path.{◌≡◌}
use Prim.Native.Nat.{◌-◌, ◌^◌, ◌≤◌, ◌<◌, min}
use Rattle.atoms.proofs.Bytes.{upper}
use Rattle.atoms.proofs.little_endian.number.Given as goal

abbrev pub invariant-loop-i : goal.invariant-loop-i
invariant-loop-i l = (l.i ≤ min l.width 8) × (l.sum ≡ upper l.bytes l.at (min l.width 8) l.i) × (l.sum < 256 ^ (min l.width 8 - l.i))
