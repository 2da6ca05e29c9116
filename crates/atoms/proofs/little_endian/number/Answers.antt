use mathlib.Core.Path.{sym, ap, ◌∙◌, subst}
use native.Mathlib.Omega.{arith}
use native.Mathlib.Nat.{one-le-pow}
use Prim.Native.Nat.{ℕ, ◌-◌, ◌^◌, ◌<◌, min}
use Rattle.atoms.proofs.Bytes.{upper, upper_none, upper_next, upper_all, fits_next, fits_word}
use Rattle.atoms.proofs.little_endian.number.Goals as goal

pub loop-i-init : goal.loop-i-init
loop-i-init c =
    let s = c.args in (
      omega (arith, c.min-i.ensures),
      sym (ap (upper s.bytes.now s.at (min s.width 8)) c.min-i.ensures ∙ upper_none s.bytes.now s.at (min s.width 8)),
      one-le-pow (min s.width 8 - c.min-i.result) 256 (omega arith),
    )

pub overflow_mul-sum : goal.overflow_mul-sum
overflow_mul-sum c =
    let w = min c.args.width 8 in
    record { fits = omega (arith, fits_word w (c.loop-i.i - 1) _ (omega arith) (fits_next w c.loop-i.i c.loop-i.sum 0 (omega arith) c.loop-i.invariant.0 c.loop-i.invariant.2 (omega arith))) }

pub overflow_add-sum : goal.overflow_add-sum
overflow_add-sum c =
    let w = min c.args.width 8 in
    record { fits = fits_word w (c.loop-i.i - 1) _ (omega arith) (fits_next w c.loop-i.i c.loop-i.sum _ (omega arith) c.loop-i.invariant.0 c.loop-i.invariant.2 c.byte.ensures.1) }

pub loop-i-preserved : goal.loop-i-preserved
loop-i-preserved c =
    let s = c.args in (
      omega arith,
      upper_next s.bytes.now s.at (min s.width 8) c.loop-i.i _ _ (omega arith) c.loop-i.invariant.0 c.loop-i.invariant.1 c.byte.ensures.0,
      fits_next (min s.width 8) c.loop-i.i _ _ (omega arith) c.loop-i.invariant.0 c.loop-i.invariant.2 c.byte.ensures.1,
    )

pub returns : goal.returns
returns c =
    let s = c.args in
    record {
      is = c.loop-i.invariant.1 ∙ upper_all s.bytes.now s.at (min s.width 8) c.loop-i.i (omega arith);
      fits = subst (λ (k : ℕ). c.loop-i.sum < 256 ^ k) (omega arith) c.loop-i.invariant.2;
    }
