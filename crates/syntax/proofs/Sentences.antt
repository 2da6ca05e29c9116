-- The sentences of changes 2 and 4 on given texts, computed.
use mathlib.Core.Path.{refl}
use Rattle.syntax.specs.Class.{class_of, tokens, after}
use Rattle.syntax.specs.Nodes.{same, index_of, with_entry, with_formula, nodes, named}
use Rattle.syntax.specs.Reading.{negated, shut, equate, finish, read_token, result, reading}
use Rattle.syntax.specs.Scan.{move, fitting}
use Rattle.syntax.specs.Judge.{deep_after, judge}
use Rattle.syntax.specs.Sentences.{EqualsBelowImplies, EqualPartsShare}

pub equals_below_implies : EqualsBelowImplies
unfolding
    judge deep_after reading result finish shut equate read_token negated after tokens class_of fitting move
    nodes named with_formula with_entry index_of same
equals_below_implies = record { weaker = refl; once = refl; to_the_right = refl }

pub equal_parts_share : EqualPartsShare
unfolding judge deep_after reading result finish shut read_token negated after tokens class_of fitting move nodes named with_formula with_entry index_of same
equal_parts_share = record { negation = refl; halves = refl; order = refl }
