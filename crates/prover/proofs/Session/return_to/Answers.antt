-- What the mark remembers.
use mathlib.Core.Path.{◌≡◌, sym, ap, ◌∙◌}
use Rattle.ipl.specs.Book.{returned, taken}
use Rattle.prover.specs.State.{book}
use Rattle.prover.specs.Calls.{return_number}
use Rattle.prover.proofs.Returns.{return_in_range, place_inside}
use Rattle.prover.proofs.Session.return_to.Goals as goal

pub cut_to-requires : goal.cut_to-requires
cut_to-requires c =
    let s = c.args.self.now in
    let e : return_number s c.args.mark ≡ 0 = sym c.in_ok-place.ensures.number in
    (return_in_range s c.args.mark e, place_inside s c.args.mark e _ c.in_ok-place.ensures.place)

pub returns-clause-returned : goal.returns-clause-returned
unfolding taken
returns-clause-returned c =
    let e : 0 ≡ return_number c.args.self.now c.args.mark = c.in_ok-place.ensures.number in
    record {
      refused = e;
      unchanged = λ d. absurd (d (sym e));
      holds = λ _. c.cut_to.ensures.0 ∙ ap (returned (book c.args.self.now)) c.in_ok-place.ensures.place;
      rest = λ _. c.cut_to.ensures.1;
    }
