-- The classes of the code.
use Rattle.syntax.specs.Class.{Class, foreign, closing, ampersand, bar, greater, equals, blank, tilde, opening, nought, lowercase}
use Rattle.syntax.specs.declared.bytes.Class as code
use Rattle.syntax.specs.declared.bytes.Class.TheVariants as class

abbrev pub decode : code.Class → Class
decode class.Foreign = foreign
decode class.Closing = closing
decode class.And = ampersand
decode class.Or = bar
decode class.Implies = greater
decode class.Equals = equals
decode class.Blank = blank
decode class.Not = tilde
decode class.Opening = opening
decode class.Falsum = nought
decode (class.Letter l) = lowercase l
