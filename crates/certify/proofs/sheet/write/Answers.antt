-- The counts, the length, and the two parts.
use native.Mathlib.Omega.{arith}
use Rattle.certify.proofs.Whole.{counted, too_long, whole_written}
use Rattle.certify.proofs.sheet.write.Goals as goal

pub returns-then-buffer-size : goal.returns-then-buffer-size
returns-then-buffer-size c =
    let given = c.args in
    too_long given.s.now given.goal given.refuting _ c.contents_of-k.ensures _ _ c.length-size.ensures c.if-buffer-size.true

pub put_bodies-requires : goal.put_bodies-requires
put_bodies-requires c =
    record {
      is_in_range = c.requires;
      counts_are = (counted c.args.s.now c.args.refuting _ c.contents_of-k.ensures).own;
      room = omega (arith, c.if-buffer-size.false, c.length-size.ensures);
    }

pub returns : goal.returns
returns c =
    let given = c.args in
    whole_written given.s.now given.goal given.refuting _ c.contents_of-k.ensures _ _ _ _ c.length-size.ensures c.if-buffer-size.false
    c.put_contents.ensures c.put_bodies.ensures
